-- The cells of an array's elements, and what tests of elements say of their types.
use Rattle.std.proofs.Common.{◌≡◌, ◌⊎◌, inl, inr, ℕ, zero, suc, ◌+◌, ◌-◌, ◌*◌, ◌<◌, ◌≤◌, List, [], ◌∷◌, ◌++◌, length, Bool, true, false, ◌&&◌, ◌||◌, refl, sym, ap, ◌∙◌, subst, arith}
use Rattle.std.specs.Prelude.{ℤ, nat_eq, nat_lt, if◌then◌else◌}
use Rattle.std.proofs.lemmas.Bool.{and_parts, or_cases, cases_lt, eqb-true}
use Rattle.std.proofs.lemmas.List.{length-append, get_or_append_left, get_or-append-add}
use Rattle.dv_defs.specs.declared.names.Base.{Base}
use Rattle.dv_defs.specs.declared.names.Base.TheVariants as base
use Rattle.dv_defs.specs.declared.names.Ty.{Ty}
use Rattle.dv_defs.specs.Images.{Image}
use Rattle.dv_machine.specs.Value.{Value}
use Rattle.dv_machine.specs.Value as v
use Rattle.dv_typing.specs.declared.typing.RegType.{RegType}
use Rattle.dv_typing.specs.declared.typing.RegType.TheVariants as ty
use Rattle.dv_defs.specs.Types.{base_eq, is_array, is_base, is_class_base, is_long, is_reference, words_of}
use Rattle.dv_typing.specs.Demands.{is_fill_type}
use Rattle.dv_defs.specs.Numbers.{lo_of, hi_of}
use Rattle.dv_typing.specs.RegTypes.{Types, type_at, reg_types, single_type}
use Rattle.dv_machine.specs.Heap.{Heap}
use Rattle.dv_machine.specs.State.{reg_at}
use Rattle.dv_machine.specs.Mem.{narrowed, fill_words, filled}
use Rattle.dv_machine.specs.Conforming.{Conforms}
use Rattle.dv_machine.specs.WellTyped.{nobody, element_types}
use Rattle.law_types.proofs.Facts.{no}
use Rattle.law_machine.proofs.lemmas.Heap.Cells.{reg_count}
use Rattle.law_types.proofs.Equal.{base_plain}

-- ---- places

-- the cells of an element, one after another
pub element_at : (c : Ty) (n k j : ℕ) → k < n → j < words_of c → type_at (element_types n c) (k * words_of c + j) ≡ type_at (reg_types c) j
element_at c zero k j l i = absurd (omega (arith, l))
element_at c (suc n) zero j l i = ap (type_at (reg_types c ++ element_types n c)) (first (words_of c) j) ∙ get_or_append_left (reg_types c) (element_types n c) ty.Conflict j (omega (arith, i, reg_count c))
  where
    first : (w j : ℕ) → 0 * w + j ≡ j
    first w j = omega arith
element_at c (suc n) (suc k) j l i = ap (type_at (reg_types c ++ element_types n c)) (later (words_of c) k j (length (reg_types c)) (reg_count c)) ∙ get_or-append-add (reg_types c) (element_types n c) (k * words_of c + j) ty.Conflict ∙ element_at c n k j (omega (arith, l)) i
  where
    later : (w k j r : ℕ) → r ≡ w → suc k * w + j ≡ r + (k * w + j)
    later w k j r e = omega (arith, e)

-- ---- types

-- a primitive type is no reference, and no long unless its base is J
base_parts : (b : Base) (t : Ty) → is_base b t ≡ true → (nat_eq t.dims 0 ≡ true) × (base_eq t.base b ≡ true)
base_parts b t e = and_parts (nat_eq t.dims 0) (base_eq t.base b) e

flat : (t : Ty) → nat_eq t.dims 0 ≡ true → is_array t ≡ false
flat t e = subst (λ (k : ℕ). nat_lt 0 k ≡ false) (sym (eqb-true t.dims 0 e)) refl

pub primitive_plain : (b : Base) (t : Ty) → is_class_base b ≡ false → is_base b t ≡ true → is_reference t ≡ false
primitive_plain b t p e =
    let q = base_parts b t e in
    ap (λ (x : Bool). x || is_class_base t.base) (flat t q.0) ∙ base_plain t.base b p q.1

no_long : (a b : Base) → base_eq b base.J ≡ false → base_eq a b ≡ true → base_eq a base.J ≡ false
no_long base.J base.J p e = no (sym p)
no_long base.J b p e = no e
no_long a b p e = refl

pub primitive_short : (b : Base) (t : Ty) → base_eq b base.J ≡ false → is_base b t ≡ true → is_long t ≡ false
primitive_short b t p e =
    let q = base_parts b t e in
    ap (λ (x : Bool). x && base_eq t.base base.J) q.0 ∙ no_long t.base b p q.1

pub reference_short : (t : Ty) → is_reference t ≡ true → is_long t ≡ false
reference_short t e = go (is_long t) refl
  where
    go : (b : Bool) → is_long t ≡ b → b ≡ false
    go false l = refl
    go true l = no (sym (primitive_plain base.J t refl l) ∙ e)

-- a type that is neither a long nor a reference is an int in a register
pub short_types : (t : Ty) → is_long t ≡ false → reg_types t ≡ single_type t ∷ []
short_types t e = ap (λ (b : Bool). elim b as (λ z. Types) [ true ↦ ty.LongLo ∷ ty.LongHi ∷ [] | false ↦ single_type t ∷ [] ]) e

pub long_types : (t : Ty) → is_long t ≡ true → reg_types t ≡ ty.LongLo ∷ ty.LongHi ∷ []
long_types t e = ap (λ (b : Bool). elim b as (λ z. Types) [ true ↦ ty.LongLo ∷ ty.LongHi ∷ [] | false ↦ single_type t ∷ [] ]) e

pub int_type : (t : Ty) → is_reference t ≡ false → single_type t ≡ ty.Int
int_type t e = ap (λ (b : Bool). elim b as (λ z. RegType) [ true ↦ ty.Class t | false ↦ ty.Int ]) e

pub class_type : (t : Ty) → is_reference t ≡ true → single_type t ≡ ty.Class t
class_type t e = ap (λ (b : Bool). elim b as (λ z. RegType) [ true ↦ ty.Class t | false ↦ ty.Int ]) e

-- ---- the elements of a payload

-- what a payload fills are numbers
pub fill_plain : (n : ℕ) (t : Ty) → is_fill_type n t ≡ true → is_reference t ≡ false
fill_plain n t e = by_eight (or_cases _ _ e)
  where
    two : (a b : Base) (w : Bool) → is_class_base a ≡ false → is_class_base b ≡ false → (w && (is_base a t || is_base b t)) ≡ true → is_reference t ≡ false
    two a b w p q i = pick (or_cases (is_base a t) (is_base b t) (and_parts w _ i).1)
      where
        pick : (is_base a t ≡ true) ⊎ (is_base b t ≡ true) → is_reference t ≡ false
        pick (inl j) = primitive_plain a t p j
        pick (inr j) = primitive_plain b t q j

    by_two : ((nat_eq n 1 && (is_base base.Z t || is_base base.B t)) ≡ true) ⊎ ((nat_eq n 2 && (is_base base.C t || is_base base.S t)) ≡ true) → is_reference t ≡ false
    by_two (inl i) = two base.Z base.B (nat_eq n 1) refl refl i
    by_two (inr i) = two base.C base.S (nat_eq n 2) refl refl i

    by_four : (((nat_eq n 1 && (is_base base.Z t || is_base base.B t)) || (nat_eq n 2 && (is_base base.C t || is_base base.S t))) ≡ true) ⊎ ((nat_eq n 4 && is_base base.I t) ≡ true) → is_reference t ≡ false
    by_four (inl i) = by_two (or_cases _ _ i)
    by_four (inr i) = primitive_plain base.I t refl (and_parts (nat_eq n 4) _ i).1

    by_eight : (((nat_eq n 1 && (is_base base.Z t || is_base base.B t)) || (nat_eq n 2 && (is_base base.C t || is_base base.S t)) || (nat_eq n 4 && is_base base.I t)) ≡ true) ⊎ ((nat_eq n 8 && is_base base.J t) ≡ true) → is_reference t ≡ false
    by_eight (inl i) = by_four (or_cases _ _ i)
    by_eight (inr i) = primitive_plain base.J t refl (and_parts (nat_eq n 8) _ i).1

module _ (image : Image) (heap : Heap) (c : Ty) (plain : is_reference c ≡ false) where
  word_count : (n : ℤ) → length (fill_words c n) ≡ words_of c
  word_count n = go (is_long c)
    where
      go : (b : Bool) → length (if b then v.Lo (lo_of n) ∷ v.Hi (hi_of n) ∷ [] else narrowed c (v.Num n) ∷ []) ≡ elim b as (λ z. ℕ) [ true ↦ 2 | false ↦ 1 ]
      go true = refl
      go false = refl

  word_conforms : (n : ℤ) (j : ℕ) → Conforms image heap nobody (reg_at (fill_words c n) j) (type_at (reg_types c) j)
  word_conforms n j = go (is_long c) j
    where
      short : (j : ℕ) → Conforms image heap nobody (reg_at (narrowed c (v.Num n) ∷ []) j) (type_at (ty.Int ∷ []) j)
      short zero = tt
      short (suc j) = tt

      long : (j : ℕ) → Conforms image heap nobody (reg_at (v.Lo (lo_of n) ∷ v.Hi (hi_of n) ∷ []) j) (type_at (ty.LongLo ∷ ty.LongHi ∷ []) j)
      long zero = tt
      long (suc zero) = tt
      long (suc (suc j)) = tt

      go : (b : Bool) (j : ℕ) → Conforms image heap nobody (reg_at (if b then v.Lo (lo_of n) ∷ v.Hi (hi_of n) ∷ [] else narrowed c (v.Num n) ∷ []) j) (type_at (elim b as (λ z. Types) [ true ↦ ty.LongLo ∷ ty.LongHi ∷ [] | false ↦ single_type c ∷ [] ]) j)
      go true j = long j
      go false j = subst (λ (u : RegType). Conforms image heap nobody (reg_at (narrowed c (v.Num n) ∷ []) j) (type_at (u ∷ []) j)) (sym (int_type c plain)) (short j)

  pub filled_conforms : (ns : List ℤ) (k : ℕ) → length ns ≤ k → (i : ℕ) → i < length (filled c ns) → Conforms image heap nobody (reg_at (filled c ns) i) (type_at (element_types k c) i)
  filled_conforms [] k l i w = absurd (omega arith)
  filled_conforms (n ∷ ns) zero l i w = absurd (omega (arith, l))
  filled_conforms (n ∷ ns) (suc k) l i w = go (cases_lt i (words_of c)) (filled_conforms ns k (omega (arith, l)))
    where
      after : (j : ℕ) → i ≡ words_of c + j → j < length (filled c ns) → Conforms image heap nobody (reg_at (filled c ns) j) (type_at (element_types k c) j) → Conforms image heap nobody (reg_at (fill_words c n ++ filled c ns) i) (type_at (reg_types c ++ element_types k c) i)
      after j e m r =
          let first : reg_at (fill_words c n ++ filled c ns) i ≡ reg_at (filled c ns) j = ap (reg_at (fill_words c n ++ filled c ns)) (e ∙ ap (λ (z : ℕ). z + j) (sym (word_count n))) ∙ get_or-append-add (fill_words c n) (filled c ns) j v.Undef in
          let second : type_at (reg_types c ++ element_types k c) i ≡ type_at (element_types k c) j = ap (type_at (reg_types c ++ element_types k c)) (e ∙ ap (λ (z : ℕ). z + j) (sym (reg_count c))) ∙ get_or-append-add (reg_types c) (element_types k c) j ty.Conflict in
          subst (λ (y : Value). Conforms image heap nobody y (type_at (reg_types c ++ element_types k c) i)) (sym first) (subst (λ (u : RegType). Conforms image heap nobody (reg_at (filled c ns) j) u) (sym second) r)

      go : (i < words_of c) ⊎ (words_of c ≤ i) → ((i : ℕ) → i < length (filled c ns) → Conforms image heap nobody (reg_at (filled c ns) i) (type_at (element_types k c) i)) → Conforms image heap nobody (reg_at (fill_words c n ++ filled c ns) i) (type_at (reg_types c ++ element_types k c) i)
      go (inl a) r =
          let first = get_or_append_left (fill_words c n) (filled c ns) v.Undef i (omega (arith, a, word_count n)) in
          let second = get_or_append_left (reg_types c) (element_types k c) ty.Conflict i (omega (arith, a, reg_count c)) in
          subst (λ (y : Value). Conforms image heap nobody y (type_at (reg_types c ++ element_types k c) i)) (sym first) (subst (λ (u : RegType). Conforms image heap nobody (reg_at (fill_words c n) i) u) (sym second) (word_conforms n i))
      go (inr g) r = let m : i - words_of c < length (filled c ns) = omega (arith, w, g, length-append (fill_words c n) (filled c ns), word_count n) in after (i - words_of c) (omega (arith, g)) m (r (i - words_of c) m)
