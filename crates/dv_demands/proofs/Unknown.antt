-- Classes that an image doesn't have: of references, those to the class itself and, under Object's name, all are assignable.
use Rattle.std.proofs.Common.{◌≡◌, ℕ, zero, suc, ◌-◌, Bool, true, false, ◌&&◌, ◌||◌, List, Option, Some, None, refl, ap, ◌∙◌}
use Rattle.std.proofs.Math.Nat.{sub-zero}
use Rattle.std.proofs.Math.Dec.{eqb-suc-zero, leb-zero}
use Rattle.std.proofs.lemmas.Bool.{lt-ltb}
use Rattle.std.proofs.Common.{arith}
use Rattle.std.specs.Prelude.{bytes_eq, nat_eq, nat_le, nat_lt}
use Rattle.dv_defs.specs.declared.names.Base.{Base}
use Rattle.dv_defs.specs.declared.names.Base.TheVariants as base
use Rattle.dv_defs.specs.declared.names.Ty.{Ty}
use Rattle.dv_defs.specs.Images.{Image}
use Rattle.dv_defs.specs.Names.{object_name}
use Rattle.dv_defs.specs.Order.{ClassTest, assignable, sub, under_class, extends, both_found, is_interface_type}
use Rattle.dv_defs.specs.Pools.{class_named, is_interface}
use Rattle.dv_defs.specs.Types.{of_class, is_class, is_reference, is_class_base, base_eq, base_is_named}
use Rattle.dv_image.specs.Common.{type_of}

no_interface : (image : Image) (o : Option ℕ) → o ≡ None → elim o as (λ _. Bool) [ None ↦ false | Some c ↦ is_interface image c ] ≡ false
no_interface image None e = refl
no_interface image (Some c) e = absurd (cc)

by_sub : (v : Bool) (r s : Bool) → v ≡ false → elim v as (λ _. Bool) [ true ↦ r | false ↦ s ] ≡ s
by_sub true r s e = absurd (cc)
by_sub false r s e = refl

of_own : (b o : Bool) (test : ClassTest) (x y : Option ℕ) → y ≡ None → elim b as (λ _. Bool) [ true ↦ true | false ↦ elim o as (λ _. Bool) [ true ↦ true | false ↦ both_found test x y ] ] ≡ b || o
of_own true o test x y e = refl
of_own false true test x y e = refl
of_own false false test None y e = refl
of_own false false test (Some c) None e = refl
of_own false false test (Some c) (Some d) e = absurd (cc)

of_array : (z l p e i r u v : Bool) → z ≡ false → l ≡ true → p ≡ true → v ≡ u → elim (z && e) as (λ _. Bool) [ true ↦ true | false ↦ elim l as (λ _. Bool) [ true ↦ v | false ↦ false ] ] ≡ (z && i) || ((p || r) && u)
of_array true l p e i r u v none has more same = absurd (cc)
of_array false false p e i r u v none has more same = absurd (cc)
of_array false true false e i r u v none has more same = absurd (cc)
of_array false true true e i r u v none has more same = same

by_parts : (image : Image) (name : List ℕ) → class_named image name ≡ None → (dims : ℕ) (b : Base) → sub image (type_of dims b) (of_class name) ≡ is_class name (type_of dims b) || (is_reference (type_of dims b) && bytes_eq name object_name)
unfolding sub
by_parts image name e zero (base.Class own) = of_own (bytes_eq own name) (bytes_eq name object_name) (extends image) (class_named image own) (class_named image name) e
by_parts image name e zero base.Z = refl
by_parts image name e zero base.B = refl
by_parts image name e zero base.C = refl
by_parts image name e zero base.S = refl
by_parts image name e zero base.I = refl
by_parts image name e zero base.J = refl
by_parts image name e (suc n) b =
    of_array (nat_eq (suc n) 0) (nat_le 0 (suc n)) (nat_lt 0 (suc n)) (base_eq b (base.Class name)) (base_is_named name b) (is_class_base b) (bytes_eq name object_name) (under_class image (extends image) (suc n - 0) b name) (eqb-suc-zero n) (leb-zero (suc n)) (lt-ltb 0 (suc n) (omega arith)) (ap (λ (k : ℕ). under_class image (extends image) k b name) (sub-zero (suc n)))

pub unknown_class : (image : Image) (t : Ty) (name : List ℕ) → class_named image name ≡ None → assignable image t (of_class name) ≡ is_class name t || (is_reference t && bytes_eq name object_name)
unfolding assignable
unknown_class image t name e =
    by_sub (is_interface_type image (of_class name)) (is_reference t) (sub image t (of_class name)) (no_interface image (class_named image name) e) ∙
    by_parts image name e t.dims t.base
