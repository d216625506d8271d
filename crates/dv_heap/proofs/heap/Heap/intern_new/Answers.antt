use Rattle.std.proofs.Common.{◌∙◌, ◌<◌, ◌^◌, ℕ, List, subst}
use Rattle.std.specs.Prelude.{slice_index}
use Rattle.dv_heap.proofs.Kept.{text_looked_up, kept_text}
use Rattle.dv_heap.proofs.heap.Heap.intern_new.Goals as goal

pub add_text-requires : goal.add_text-requires
add_text-requires c = text_looked_up c.self.inside.objects c.self.inside.statics c.self.inside.interned.entries c.self.inside.class_objects.entries c.self.inside.used c.self.inside.limit c.args.self.now c.args.units.now c.self.view_is c.self.invariant ∙ c.requires

pub invariant_of-self-2 : goal.invariant_of-self-2
invariant_of-self-2 c =
    kept_text c.self.inside.objects c.add_text.new.objects c.self.inside.interned.entries c.add_text.new.texts.entries c.self.inside.class_objects.entries c.args.units.now c.in_ok-number.number c.self.invariant (subst (λ (us : List ℕ). (j : ℕ) → slice_index us j < 2 ^ 16) c.units.ensures c.cost_of_text.ensures.whole) c.in_ok-number.ensures.object.0 c.in_ok-number.ensures.object.1 c.in_ok-number.ensures.text
