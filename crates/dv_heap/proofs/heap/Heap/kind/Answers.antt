use Rattle.std.proofs.Common.{sym, ◌∙◌}
use Rattle.dv_heap.proofs.Kept.{kind_seen, is_there}
use Rattle.dv_heap.proofs.heap.Heap.kind.Goals as goal

pub kind-requires : goal.kind-requires
kind-requires c = is_there c.self.inside.objects c.self.inside.statics c.self.inside.interned.entries c.self.inside.class_objects.entries c.self.inside.used c.self.inside.limit c.args.self.now c.args.object c.self.view_is c.requires

pub returns : goal.returns
returns c = sym c.kind.ensures ∙ kind_seen c.self.inside.objects c.self.inside.statics c.self.inside.interned.entries c.self.inside.class_objects.entries c.self.inside.used c.self.inside.limit c.args.self.now c.args.object c.self.view_is
