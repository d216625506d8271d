use Rattle.std.proofs.Common.{◌∙◌}
use Rattle.dv_heap.proofs.Kept.{class_looked_up, kept_class}
use Rattle.dv_heap.proofs.heap.Heap.new_class_object.Goals as goal

pub add_class-requires : goal.add_class-requires
add_class-requires c = class_looked_up c.self.inside.objects c.self.inside.statics c.self.inside.interned.entries c.self.inside.class_objects.entries c.self.inside.used c.self.inside.limit c.args.self.now c.args.ty.now c.self.view_is c.self.invariant ∙ c.requires

pub invariant_of-self-2 : goal.invariant_of-self-2
invariant_of-self-2 c =
    kept_class c.self.inside.objects c.add_class.new.objects c.self.inside.interned.entries c.self.inside.class_objects.entries c.add_class.new.classes.entries c.args.ty.now c.in_ok-number.number c.self.invariant c.in_ok-number.ensures.object.0 c.in_ok-number.ensures.object.1 c.in_ok-number.ensures.class
