-- No string has a field that has a place in an object.
use Rattle.std.proofs.Common.{◌≡◌, ℕ, [], Bool, true, false, Some, refl}
use Rattle.dv_machine.specs.Kind as kind
use Rattle.dv_defs.specs.Images.{Image}
use Rattle.dv_defs.specs.Names.{string_name}
use Rattle.dv_defs.specs.Order.{fits}
use Rattle.dv_defs.specs.Pools.{Field, class_type, field_at, is_interface, is_static_field}
use Rattle.dv_defs.specs.Types.{of_class}
use Rattle.dv_machine.specs.Accepted.{Accepted}
use Rattle.dv_machine.specs.WellTyped.{Typings}
use Rattle.law_machine.proofs.lemmas.HeapSteps.Places.{object_field}
use Rattle.law_engine.specs.Laws.{AcceptedImagesFit}

not_so : (b : Bool) → (b ≡ true → ⊥) → b ≡ false
not_so true differs = absurd (differs refl)
not_so false differs = refl

no_strings : (image : Image) (T : Typings) → Accepted image T → (n : ℕ) (x : Field) → field_at image n ≡ Some x → is_static_field x ≡ false → is_interface image x.info.class.0 ≡ false → fits image (of_class string_name) (class_type image x.info.class.0) ≡ false
no_strings image T acc n x has placed concrete = not_so (fits image (of_class string_name) (class_type image x.info.class.0)) differs
  where
    differs : fits image (of_class string_name) (class_type image x.info.class.0) ≡ true → ⊥
    differs e =
        let h = object_field image T acc n x has placed concrete (kind.Str []) refl e in
        let same = h.is_object in
        absurd (cc)

pub accepted_images_fit : AcceptedImagesFit
accepted_images_fit image T acc = record { finds = acc.finds; bodies = acc.bodies; no_strings = no_strings image T acc }
