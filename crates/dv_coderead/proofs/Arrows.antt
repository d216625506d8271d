-- No descriptor has an arrow.
use Rattle.std.proofs.Common.{◌≡◌, ℕ, zero, suc, Bool, true, false, eqb, List, [], ◌∷◌, ◌++◌, replicate, Some, inl, inr, refl, ap, ◌∙◌}
use Rattle.std.specs.Prelude.{not, ◌&&◌, bytes_eq, codes}
use Rattle.std.specs.List.{list_all, join_with_byte}
use Rattle.std.proofs.lemmas.Bool.{and_parts, and_from, or_cases, cond-false}
use Rattle.std.proofs.lemmas.Slice.Eq.{bytes_eq-Decides}
use Rattle.dv_defs.specs.declared.names.Base.{Base}
use Rattle.dv_defs.specs.declared.names.Base.TheVariants as base
use Rattle.dv_defs.specs.declared.names.Ty.{Ty}
use Rattle.dv_names.specs.Descriptors.{base_text, descriptor, is_name_byte, is_plain_name, is_special_name, is_name, IsBase, IsType}
use Rattle.dv_coderead.specs.Words.{begins_with}
use Rattle.dv_coderead.specs.References.{cut_at_arrow, with_byte}
use Rattle.dv_coderead.proofs.Cuts.{not_true}
use Rattle.dv_coderead.proofs.Lacking.{no_mark}

-- no `-` stands before a `>`
abbrev pub arrowless : List ℕ → Bool
arrowless [] = true
arrowless (b ∷ w) = not (eqb b 45 && begins_with 62 w) && arrowless w

-- ---- the cut

begins_same : (w rest : List ℕ) (b : ℕ) → eqb b 62 ≡ false → begins_with 62 (w ++ b ∷ rest) ≡ begins_with 62 w
begins_same [] rest b other = other
begins_same (c ∷ w) rest b other = refl

pub cut_arrowless : (w rest : List ℕ) → arrowless w ≡ true → cut_at_arrow (w ++ 45 ∷ 62 ∷ rest) ≡ Some (w, rest)
unfolding cut_at_arrow
cut_arrowless [] rest none = refl
cut_arrowless (b ∷ w) rest none =
    let p = and_parts _ _ none in
    cond-false (eqb b 45 && begins_with 62 (w ++ 45 ∷ 62 ∷ rest)) _ _
    (ap (λ t. eqb b 45 && t) (begins_same w (62 ∷ rest) 45 refl) ∙ not_true (eqb b 45 && begins_with 62 w) p.0)
    ∙ ap (with_byte b) (cut_arrowless w rest p.1)

-- ---- names

-- a text, and a byte that ends no arrow
arrowless_append : (u w : List ℕ) (b : ℕ) → eqb b 62 ≡ false → arrowless u ≡ true → arrowless (b ∷ w) ≡ true → arrowless (u ++ b ∷ w) ≡ true
arrowless_append [] w b other first second = second
arrowless_append (c ∷ u) w b other first second =
    let p = and_parts _ _ first in
    and_from _ _ (ap (λ t. not (eqb c 45 && t)) (begins_same u w b other) ∙ p.0) (arrowless_append u w b other p.1 second)

no_tip : (t u : Bool) → u ≡ false → not (t && u) ≡ true
no_tip true u e = ap not e
no_tip false u e = refl

no_end : (b : ℕ) → is_name_byte b ≡ true → eqb b 62 ≡ false
no_end b is = not_true (eqb b 62) (no_mark 62 b refl is)

plain_begins : (w : List ℕ) → list_all is_name_byte w ≡ true → begins_with 62 w ≡ false
plain_begins [] are = refl
plain_begins (b ∷ w) are = no_end b (and_parts _ _ are).0

plain_arrowless : (w : List ℕ) → list_all is_name_byte w ≡ true → arrowless w ≡ true
plain_arrowless [] are = refl
plain_arrowless (b ∷ w) are =
    let p = and_parts _ _ are in
    and_from _ _ (no_tip (eqb b 45) (begins_with 62 w) (plain_begins w p.1)) (plain_arrowless w p.1)

name_arrowless : (w : List ℕ) → is_name w ≡ true → arrowless w ≡ true
name_arrowless w is =
    elim (or_cases (is_plain_name w) (is_special_name w) is) [
      | inl plain ↦ plain_arrowless w (and_parts _ _ plain).1
      | inr special ↦ elim (or_cases (bytes_eq w (codes "<init>")) (bytes_eq w (codes "<clinit>")) special) [
        | inl e ↦ ap arrowless ((bytes_eq-Decides w (codes "<init>")).0 e)
        | inr e ↦ ap arrowless ((bytes_eq-Decides w (codes "<clinit>")).0 e)
      ]
    ]

names_arrowless : (names : List (List ℕ)) → list_all is_name names ≡ true → arrowless (join_with_byte 47 names) ≡ true
names_arrowless [] are = refl
names_arrowless (x ∷ []) are = name_arrowless x (and_parts _ _ are).0
names_arrowless (x ∷ y ∷ xs) are =
    let p = and_parts _ _ are in
    arrowless_append x (join_with_byte 47 (y ∷ xs)) 47 refl (name_arrowless x p.0) (names_arrowless (y ∷ xs) p.1)

-- ---- types

base_arrowless : (b : Base) → IsBase b → arrowless (base_text b) ≡ true
base_arrowless base.Z is = refl
base_arrowless base.B is = refl
base_arrowless base.C is = refl
base_arrowless base.S is = refl
base_arrowless base.I is = refl
base_arrowless base.J is = refl
base_arrowless (base.Class name) is =
    ap arrowless is.spelled ∙ arrowless_append (join_with_byte 47 (is.first ∷ is.others)) [] 59 refl (names_arrowless (is.first ∷ is.others) is.are_names) refl

dims_arrowless : (n : ℕ) (w : List ℕ) → arrowless w ≡ true → arrowless (replicate n 91 ++ w) ≡ true
dims_arrowless zero w is = is
dims_arrowless (suc n) w is = dims_arrowless n w is

pub type_arrowless : (t : Ty) → IsType t → arrowless (descriptor t) ≡ true
type_arrowless t is = dims_arrowless t.dims (base_text t.base) (base_arrowless t.base is.1)
