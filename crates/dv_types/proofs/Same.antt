-- Register types that `==` and the definition find the same are equal, and their join.
use Rattle.std.proofs.Common.{◌≡◌, ℕ, Bool, true, false, refl, sym, ap, subst, ◌∙◌}
use Rattle.std.specs.Prelude.{nat_eq}
use Rattle.std.proofs.lemmas.Bool.{eqb-true, eq-eqb, and_parts, and_from}
use Rattle.std.proofs.lemmas.Slice.Eq.{bytes_eq-Decides}
use Rattle.dv_defs.specs.declared.names.Base.{Base}
use Rattle.dv_defs.specs.declared.names.Base.TheVariants as base
use Rattle.dv_defs.specs.declared.names.Ty.{Ty}
use Rattle.dv_defs.specs.Images.{Image}
use Rattle.dv_typing.specs.declared.typing.RegType.{RegType}
use Rattle.dv_typing.specs.declared.typing.RegType.TheVariants as ty
use Rattle.dv_defs.specs.contracts.names.TyPartialEq.TheImpl as of_type
use Rattle.dv_typing.specs.contracts.typing.RegTypePartialEq.TheImpl as of_register
use Rattle.dv_defs.specs.Types.{base_eq, ty_eq}
use Rattle.dv_typing.specs.RegTypes.{under}
use Rattle.dv_defs.specs.Order.{sub, under_type}
use Rattle.dv_typing.specs.Joins.{same_type, join_type}
use Rattle.dv_defs.proofs.Keys.{type_keys}
use Rattle.law_types.specs.Hierarchy.{IsHierarchy, IsOrder}
use Rattle.law_types.proofs.Laws.{types_are_ordered}

-- ---- what `==` finds

types : (a b : Ty) → (of_type.ghosts).eq a b ≡ ty_eq a b
types a b = λ i. type_keys i a b

pub register_types : (s t : RegType) → (of_register.ghosts).eq s t ≡ same_type s t
register_types ty.Conflict ty.Conflict = refl
register_types ty.Zero ty.Zero = refl
register_types ty.Int ty.Int = refl
register_types ty.LongLo ty.LongLo = refl
register_types ty.LongHi ty.LongHi = refl
register_types (ty.Class a) (ty.Class b) = types a b
register_types (ty.Uninit a) (ty.Uninit b) = refl
register_types ty.UninitThis ty.UninitThis = refl
register_types s t = refl

of_equal : (image : Image) (a b : Ty) → ty_eq a b ≡ true → sub image a b ≡ true
unfolding sub
of_equal image a b same = rw (same, under_type) refl

pub same_under : (image : Image) (s t : RegType) → same_type s t ≡ true → under image s t ≡ true
same_under image ty.Conflict ty.Conflict e = refl
same_under image ty.Zero ty.Zero e = refl
same_under image ty.Int ty.Int e = refl
same_under image ty.LongLo ty.LongLo e = refl
same_under image ty.LongHi ty.LongHi e = refl
same_under image (ty.Class a) (ty.Class b) e = of_equal image a b e
same_under image (ty.Uninit a) (ty.Uninit b) e = e
same_under image ty.UninitThis ty.UninitThis e = refl
same_under image s t e = absurd (cc)

pub equal_join : (image : Image) (s t : RegType) → (of_register.ghosts).eq s t ≡ true → join_type image s t ≡ t
equal_join image s t e = rw (same_under image s t (sym (register_types s t) ∙ e), join_type) refl

-- ---- types that the test finds the same

base_is : (a b : Base) → base_eq a b ≡ true → a ≡ b
base_is base.Z base.Z e = refl
base_is base.B base.B e = refl
base_is base.C base.C e = refl
base_is base.S base.S e = refl
base_is base.I base.I e = refl
base_is base.J base.J e = refl
base_is (base.Class x) (base.Class y) e = ap base.Class ((bytes_eq-Decides x y).0 e)
base_is a b e = absurd (cc)

base_same : (a : Base) → base_eq a a ≡ true
base_same base.Z = refl
base_same base.B = refl
base_same base.C = refl
base_same base.S = refl
base_same base.I = refl
base_same base.J = refl
base_same (base.Class x) = (bytes_eq-Decides x x).1 refl

ty_is : (a b : Ty) → ty_eq a b ≡ true → a ≡ b
ty_is a b e =
    let p = and_parts (nat_eq a.dims b.dims) (base_eq a.base b.base) e in
    let made : ℕ → Base → Ty = λ n x. record { dims = n; base = x } in
    ap (λ n. made n a.base) (eqb-true a.dims b.dims p.0) ∙ ap (made b.dims) (base_is a.base b.base p.1)

ty_same : (a : Ty) → ty_eq a a ≡ true
ty_same a = and_from (nat_eq a.dims a.dims) (base_eq a.base a.base) (eq-eqb a.dims a.dims refl) (base_same a.base)

pub type_is : (s t : RegType) → same_type s t ≡ true → s ≡ t
type_is ty.Conflict ty.Conflict e = refl
type_is ty.Zero ty.Zero e = refl
type_is ty.Int ty.Int e = refl
type_is ty.LongLo ty.LongLo e = refl
type_is ty.LongHi ty.LongHi e = refl
type_is (ty.Class a) (ty.Class b) e = ap ty.Class (ty_is a b e)
type_is (ty.Uninit a) (ty.Uninit b) e = ap ty.Uninit (eqb-true a b e)
type_is ty.UninitThis ty.UninitThis e = refl
type_is s t e = absurd (cc)

pub type_same : (s : RegType) → same_type s s ≡ true
type_same ty.Conflict = refl
type_same ty.Zero = refl
type_same ty.Int = refl
type_same ty.LongLo = refl
type_same ty.LongHi = refl
type_same (ty.Class a) = ty_same a
type_same (ty.Uninit a) = eq-eqb a a refl
type_same ty.UninitThis = refl

pub under_equal : (image : Image) (s t : RegType) → s ≡ t → under image s t ≡ true
under_equal image s t e = same_under image s t (subst (λ (u : RegType). same_type s u ≡ true) e (type_same s))

-- ---- types under each other are one

module _ (image : Image) (h : IsHierarchy image) where
  ord : IsOrder image
  ord = types_are_ordered image h

  pub one_type : (s t : RegType) → under image s t ≡ true → under image t s ≡ true → s ≡ t
  one_type (ty.Class c) (ty.Class d) x y = ap ty.Class (ord.antisymmetric c d x y)
  one_type (ty.Uninit a) (ty.Uninit b) x y = ap ty.Uninit (eqb-true a b x)
  one_type ty.Conflict ty.Conflict x y = refl
  one_type ty.Zero ty.Zero x y = refl
  one_type ty.Int ty.Int x y = refl
  one_type ty.LongLo ty.LongLo x y = refl
  one_type ty.LongHi ty.LongHi x y = refl
  one_type ty.UninitThis ty.UninitThis x y = refl
  one_type s t x y = absurd (cc)

  pub same_both : (s t : RegType) → under image s t ≡ true → under image t s ≡ same_type s t
  same_both s t x = by (under image t s) (same_type s t) refl refl
    where
      by : (a b : Bool) → under image t s ≡ a → same_type s t ≡ b → a ≡ b
      by true true p q = refl
      by false false p q = refl
      by true false p q = sym (subst (λ (u : RegType). same_type s u ≡ true) (one_type s t x p) (type_same s)) ∙ q
      by false true p q = sym (sym (under_equal image t s (sym (type_is s t q))) ∙ p)

  pub same_neither : (s t : RegType) → under image s t ≡ false → same_type s t ≡ false
  same_neither s t x = by (same_type s t) refl
    where
      by : (b : Bool) → same_type s t ≡ b → b ≡ false
      by false q = refl
      by true q = sym (under_equal image s t (type_is s t q)) ∙ x
