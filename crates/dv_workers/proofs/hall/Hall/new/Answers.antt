use Rattle.std.proofs.Common.{rules, ◌≡◌, ◌∷◌, [], Some}
use Rattle.dv_workers.specs.Seats.{names_of}
use Rattle.dv_workers.proofs.Moves.{starts}
use Rattle.dv_workers.proofs.hall.Hall.new.Goals as goal

pub new-requires-2 : goal.new-requires-2
new-requires-2 g c =
    let items : c.push.new.self.items ≡ Some c.in-Ok.held ∷ [] = grind rules in
    let named : names_of c.in-Ok.held.value.vm ≡ names_of c.of-key.result.value = grind rules in
    rw items (starts _ _ c.in-Ok.held named)
