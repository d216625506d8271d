use Rattle.std.proofs.Common.{List, length, subst, arith}
use Rattle.std.specs.Prelude.{IfSome, ◌<◌}
use Rattle.dv_static.specs.declared.tiles.Tile.{Tile}
use Rattle.dv_static.proofs.StartLemmas.{place_read, place_within}
use Rattle.dv_static.proofs.starts.Starts.place_at.Goals as goal

pub returns-then-at-len-clause-within : goal.returns-then-at-len-clause-within
returns-then-at-len-clause-within c =
    let P : List Tile → Type 0 = λ ts. IfSome c.index.result.now (λ k. k < length ts) in
    let read = place_read c.self.inside.tiles.now c.self.inside.places.items c.args.at c.index.result.now c.self.invariant (omega arith) c.index.ensures in
    subst P c.self.view_is (place_within c.index.result.now c.self.inside.tiles.now c.args.at read)
