-- Names and types that tests find equal are equal, and the other way round.
use Rattle.std.proofs.Common.{◌≡◌, ℕ, List, true, refl, ap, ◌∙◌, subst, sym, false}
use Rattle.std.specs.Prelude.{nat_eq, bytes_eq}
use Rattle.std.proofs.lemmas.Bool.{eqb-true, eq-eqb, and_parts, and_from}
use Rattle.std.proofs.lemmas.Slice.Eq.{bytes_eq-Decides}
use Rattle.dv_defs.specs.declared.names.Base.{Base}
use Rattle.dv_defs.specs.declared.names.Base.TheVariants as base
use Rattle.dv_defs.specs.declared.names.Ty.{Ty}
use Rattle.dv_typing.specs.declared.typing.RegType.{RegType}
use Rattle.dv_typing.specs.declared.typing.RegType.TheVariants as ty
use Rattle.dv_defs.specs.Types.{base_eq, ty_eq, of_class, is_class_base}
use Rattle.dv_typing.specs.Joins.{same_type}
use Rattle.law_types.proofs.Facts.{no}

pub base_is : (a b : Base) → base_eq a b ≡ true → a ≡ b
base_is base.Z base.Z e = refl
base_is base.B base.B e = refl
base_is base.C base.C e = refl
base_is base.S base.S e = refl
base_is base.I base.I e = refl
base_is base.J base.J e = refl
base_is (base.Class x) (base.Class y) e = ap base.Class ((bytes_eq-Decides x y).0 e)
base_is a b e = no e

pub base_same : (a : Base) → base_eq a a ≡ true
base_same base.Z = refl
base_same base.B = refl
base_same base.C = refl
base_same base.S = refl
base_same base.I = refl
base_same base.J = refl
base_same (base.Class x) = (bytes_eq-Decides x x).1 refl

pub base_plain : (a b : Base) → is_class_base b ≡ false → base_eq a b ≡ true → is_class_base a ≡ false
base_plain a b p e = subst (λ (z : Base). is_class_base z ≡ false) (sym (base_is a b e)) p

pub ty_from : (a b : Ty) → a.dims ≡ b.dims → a.base ≡ b.base → a ≡ b
ty_from a b p q =
    let made : ℕ → Base → Ty = λ n x. record { dims = n; base = x } in
    ap (λ n. made n a.base) p ∙ ap (made b.dims) q

pub ty_is : (a b : Ty) → ty_eq a b ≡ true → a ≡ b
ty_is a b e =
    let p = and_parts (nat_eq a.dims b.dims) (base_eq a.base b.base) e in
    ty_from a b (eqb-true a.dims b.dims p.0) (base_is a.base b.base p.1)

pub ty_same : (a : Ty) → ty_eq a a ≡ true
ty_same a = and_from (nat_eq a.dims a.dims) (base_eq a.base a.base) (eq-eqb a.dims a.dims refl) (base_same a.base)

pub ty_equal : (a b : Ty) → a ≡ b → ty_eq a b ≡ true
ty_equal a b e = subst (λ (x : Ty). ty_eq a x ≡ true) e (ty_same a)

pub of_one_name : (a b : List ℕ) → of_class a ≡ of_class b → a ≡ b
of_one_name a b e = (let q : base.Class a ≡ base.Class b = ap (λ (z : Ty). z.base) e in cc)

pub names_equal : (a b : List ℕ) → a ≡ b → bytes_eq a b ≡ true
names_equal a b = (bytes_eq-Decides a b).1

pub names_are : (a b : List ℕ) → bytes_eq a b ≡ true → a ≡ b
names_are a b = (bytes_eq-Decides a b).0

pub reg_type_is : (s t : RegType) → same_type s t ≡ true → s ≡ t
reg_type_is ty.Conflict ty.Conflict e = refl
reg_type_is ty.Zero ty.Zero e = refl
reg_type_is ty.Int ty.Int e = refl
reg_type_is ty.LongLo ty.LongLo e = refl
reg_type_is ty.LongHi ty.LongHi e = refl
reg_type_is (ty.Class a) (ty.Class b) e = ap ty.Class (ty_is a b e)
reg_type_is (ty.Uninit a) (ty.Uninit b) e = ap ty.Uninit (eqb-true a b e)
reg_type_is ty.UninitThis ty.UninitThis e = refl
reg_type_is s t e = no e

pub reg_type_same : (t : RegType) → same_type t t ≡ true
reg_type_same ty.Conflict = refl
reg_type_same ty.Zero = refl
reg_type_same ty.Int = refl
reg_type_same ty.LongLo = refl
reg_type_same ty.LongHi = refl
reg_type_same (ty.Class c) = ty_same c
reg_type_same (ty.Uninit a) = eq-eqb a a refl
reg_type_same ty.UninitThis = refl
