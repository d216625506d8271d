-- Bytes that no name and no descriptor has.
use Rattle.std.proofs.Common.{◌≡◌, ℕ, zero, suc, Bool, true, false, eqb, List, [], ◌∷◌, ◌++◌, replicate, inl, inr, refl, ap, ◌∙◌, sym}
use Rattle.std.specs.Prelude.{bytes_eq, codes, not}
use Rattle.std.specs.List.{All, list_all, flat_map, join_with_byte}
use Rattle.std.proofs.lemmas.Bool.{and_parts, and_from, or_cases, ne_eqb, cases_eq}
use Rattle.std.proofs.lemmas.List.Elements.{All-head, All-tail}
use Rattle.std.proofs.lemmas.List.Folds.{list_all-append}
use Rattle.std.proofs.lemmas.Slice.Eq.{bytes_eq-Decides}
use Rattle.dv_defs.specs.declared.names.Base.{Base}
use Rattle.dv_defs.specs.declared.names.Base.TheVariants as base
use Rattle.dv_defs.specs.declared.names.Ty.{Ty}
use Rattle.dv_names.specs.Descriptors.{base_text, descriptor, is_name_byte, is_plain_name, is_special_name, is_name, IsBase, IsType}

-- the byte c stands nowhere in the text
abbrev pub lacks : ℕ → List ℕ → Bool
lacks c w = list_all (λ b. not (eqb b c)) w

pub lacks_append : (c : ℕ) (u w : List ℕ) → lacks c u ≡ true → lacks c w ≡ true → lacks c (u ++ w) ≡ true
lacks_append c u w h k = list_all-append (λ b. not (eqb b c)) u w ∙ and_from _ _ h k

-- ---- names

-- a byte of a plain name is no mark
pub no_mark : (c b : ℕ) → is_name_byte c ≡ false → is_name_byte b ≡ true → not (eqb b c) ≡ true
no_mark c b mark is =
    elim (cases_eq b c) [
      | inl e ↦ absurd (let h : false ≡ true = sym mark ∙ ap is_name_byte (sym e) ∙ is in cc)
      | inr ne ↦ ap not (ne_eqb b c ne)
    ]

plain_lacks : (c : ℕ) → is_name_byte c ≡ false → (w : List ℕ) → list_all is_name_byte w ≡ true → lacks c w ≡ true
plain_lacks c mark [] are = refl
plain_lacks c mark (b ∷ w) are = let p = and_parts _ _ are in and_from _ _ (no_mark c b mark p.0) (plain_lacks c mark w p.1)

pub name_lacks : (c : ℕ) → is_name_byte c ≡ false → lacks c (codes "<init>") ≡ true → lacks c (codes "<clinit>") ≡ true
    → (w : List ℕ) → is_name w ≡ true → lacks c w ≡ true
name_lacks c mark init clinit w is =
    elim (or_cases (is_plain_name w) (is_special_name w) is) [
      | inl plain ↦ plain_lacks c mark w (and_parts _ _ plain).1
      | inr special ↦ elim (or_cases (bytes_eq w (codes "<init>")) (bytes_eq w (codes "<clinit>")) special) [
        | inl e ↦ ap (lacks c) ((bytes_eq-Decides w (codes "<init>")).0 e) ∙ init
        | inr e ↦ ap (lacks c) ((bytes_eq-Decides w (codes "<clinit>")).0 e) ∙ clinit
      ]
    ]

-- the names of a class, with slashes between
pub names_lack : (c : ℕ) → is_name_byte c ≡ false → lacks c (codes "<init>") ≡ true → lacks c (codes "<clinit>") ≡ true → lacks c (codes "/") ≡ true
    → (names : List (List ℕ)) → list_all is_name names ≡ true → lacks c (join_with_byte 47 names) ≡ true
names_lack c mark init clinit slash [] are = refl
names_lack c mark init clinit slash (x ∷ []) are = let p = and_parts _ _ are in name_lacks c mark init clinit x p.0
names_lack c mark init clinit slash (x ∷ y ∷ xs) are =
    let p = and_parts _ _ are in
    lacks_append c x (47 ∷ join_with_byte 47 (y ∷ xs)) (name_lacks c mark init clinit x p.0)
    (and_from _ _ (and_parts _ _ slash).0 (names_lack c mark init clinit slash (y ∷ xs) p.1))

-- ---- no descriptor has a closing parenthesis

brackets_lack : (n : ℕ) → lacks 41 (replicate n 91) ≡ true
brackets_lack zero = refl
brackets_lack (suc n) = brackets_lack n

base_lacks : (b : Base) → IsBase b → lacks 41 (base_text b) ≡ true
base_lacks base.Z is = refl
base_lacks base.B is = refl
base_lacks base.C is = refl
base_lacks base.S is = refl
base_lacks base.I is = refl
base_lacks base.J is = refl
base_lacks (base.Class name) is =
    ap (lacks 41) is.spelled ∙ lacks_append 41 (join_with_byte 47 (is.first ∷ is.others)) (59 ∷ []) (names_lack 41 refl refl refl refl (is.first ∷ is.others) is.are_names) refl

type_lacks : (t : Ty) → IsType t → lacks 41 (descriptor t) ≡ true
type_lacks t is = lacks_append 41 (replicate t.dims 91) (base_text t.base) (brackets_lack t.dims) (base_lacks t.base is.1)

pub types_lack : (ts : List Ty) → All IsType ts → lacks 41 (flat_map descriptor ts) ≡ true
types_lack [] are = refl
types_lack (t ∷ ts) are = lacks_append 41 (descriptor t) (flat_map descriptor ts) (type_lacks t (All-head IsType t ts are)) (types_lack ts (All-tail IsType t ts are))
