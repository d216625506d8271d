use Rattle.std.proofs.Common.{◌∙◌, ap, Bool}
use Rattle.std.specs.Map.{lookup}
use Rattle.dv_defs.specs.declared.names.Ty.{Ty}
use Rattle.dv_defs.proofs.Keys.{type_keys}
use Rattle.dv_heap.proofs.Kept.{class_looked_up}
use Rattle.dv_heap.proofs.heap.Heap.class_object_of.Goals as goal

pub returns : goal.returns
returns c =
    c.copied.ensures ∙ c.get.ensures.value ∙ ap (λ (same : Ty → Ty → Bool). lookup (same c.args.ty.now) c.self.inside.class_objects.entries) type_keys
    ∙ class_looked_up c.self.inside.objects c.self.inside.statics c.self.inside.interned.entries c.self.inside.class_objects.entries c.self.inside.used c.self.inside.limit c.args.self.now c.args.ty.now c.self.view_is c.self.invariant
