use Rattle.std.proofs.Common.{◌∙◌}
use Rattle.dv_heap.proofs.Kept.{text_looked_up}
use Rattle.dv_heap.proofs.heap.Heap.text_of.Goals as goal

pub returns : goal.returns
returns c = c.copied.ensures ∙ c.get.ensures.value ∙ text_looked_up c.self.inside.objects c.self.inside.statics c.self.inside.interned.entries c.self.inside.class_objects.entries c.self.inside.used c.self.inside.limit c.args.self.now c.args.units.now c.self.view_is c.self.invariant
