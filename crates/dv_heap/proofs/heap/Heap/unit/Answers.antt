use Rattle.std.proofs.Common.{arith, ◌∙◌}
use Rattle.dv_heap.proofs.Kept.{kind_seen}
use Rattle.dv_heap.proofs.heap.Heap.unit.Goals as goal

pub overflow_cast-result : goal.overflow_cast-result
overflow_cast-result c =
    omega (arith, c.self.invariant.units c.args.object c.args.at (kind_seen c.self.inside.objects c.self.inside.statics c.self.inside.interned.entries c.self.inside.class_objects.entries c.self.inside.used c.self.inside.limit c.args.self.now c.args.object c.self.view_is ∙ c.requires.string), c.word.ensures)
