use Rattle.std.proofs.Common.{◌≡◌, rules}
use Rattle.dv_heap.proofs.Kept.{class_added}
use Rattle.dv_heap.proofs.making.add_class.Goals as goal

pub returns-clause-class : goal.returns-clause-class
returns-clause-class c =
    let same : c.in_ok-key.key ≡ c.args.ty.now = search rules in
    class_added c.args.classes.now.entries c.reserve.new.self.entries c.insert.new.self.entries c.args.ty.now c.in_ok-key.key c.in_ok-number.number c.requires c.reserve.ensures.entries same c.in_ok-insert.ensures.entries
