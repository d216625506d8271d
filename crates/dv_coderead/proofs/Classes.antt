-- Classes, and types that are none.
use Rattle.std.proofs.Common.{◌≡◌, ◌==◌, ◌&&◌, false, Ok, Err, refl, ap}
use Rattle.std.proofs.lemmas.Bool.{and_from, and_left, and_right, cond-false, cond-true, eq-eqb, ne_eqb}
use Rattle.dv_defs.specs.declared.faults.LineKind.TheVariants.{BadDescriptor}
use Rattle.dv_defs.specs.declared.names.Base.{Base}
use Rattle.dv_defs.specs.declared.names.Base.TheVariants as base
use Rattle.dv_defs.specs.declared.names.Text.{Text}
use Rattle.dv_defs.specs.declared.names.Ty.{Ty}
use Rattle.dv_coderead.specs.References.{is_class_type, only_class}

-- a class is taken
pub class_taken : (t : Ty) (name : Text) → t.dims ≡ 0 → t.base ≡ base.Class name → only_class t ≡ Ok t
class_taken t name none is = cond-true ((t.dims == 0) && is_class_type t.base) _ _ (and_from _ _ (eq-eqb t.dims 0 none) (ap is_class_type is))

-- an array is not
pub array_refused : (t : Ty) → (t.dims ≡ 0 → ⊥) → only_class t ≡ Err BadDescriptor
array_refused t some = cond-false ((t.dims == 0) && is_class_type t.base) _ _ (and_left _ _ (ne_eqb t.dims 0 some))

no_class : (b : Base) → ((name : Text) → b ≡ base.Class name → ⊥) → is_class_type b ≡ false
no_class (base.Class name) other = absurd (other name refl)
no_class base.Z other = refl
no_class base.B other = refl
no_class base.C other = refl
no_class base.S other = refl
no_class base.I other = refl
no_class base.J other = refl

-- nor is a primitive type
pub primitive_refused : (t : Ty) → ((name : Text) → t.base ≡ base.Class name → ⊥) → only_class t ≡ Err BadDescriptor
primitive_refused t other = cond-false ((t.dims == 0) && is_class_type t.base) _ _ (and_right (t.dims == 0) _ (no_class t.base other))
