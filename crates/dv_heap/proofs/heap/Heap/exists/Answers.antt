use Rattle.std.proofs.Common.{is_some, ap, ◌∙◌}
use Rattle.dv_heap.proofs.Kept.{kind_seen}
use Rattle.dv_heap.proofs.heap.Heap.exists.Goals as goal

pub returns : goal.returns
returns c = c.exists.ensures ∙ ap is_some (kind_seen c.self.inside.objects c.self.inside.statics c.self.inside.interned.entries c.self.inside.class_objects.entries c.self.inside.used c.self.inside.limit c.args.self.now c.args.object c.self.view_is)
