-- No class stands twice in a chain of superclasses, so a chain's cells are no more than all fields are.
use Rattle.std.specs.Prelude.{ℕ, zero, suc, ◌≡◌, ◌≢◌, ◌<◌, ◌≤◌, ◌+◌, ◌-◌, ◌*◌, Bool, true, false, List, [], ◌∷◌, ◌++◌, length, map, sum_by, Option, Some, None, slice_get, nat_eq}
use Rattle.std.proofs.Common.{refl, arith, get_or, add-one}
use Rattle.std.proofs.lemmas.Bool.Decides.{nat_tests}
use Rattle.std.proofs.lemmas.List.Sums.{sum_by-cons}
use Rattle.std.proofs.lemmas.List.FromFn.{map-range_with_len_more}
use Rattle.dv_defs.specs.declared.names.FieldId.{FieldId}
use Rattle.dv_defs.specs.declared.class.ClassDef.{ClassDef}
use Rattle.dv_defs.specs.declared.class.FieldDef.{FieldDef}
use Rattle.dv_defs.specs.declared.image.ClassInfo.{ClassInfo}
use Rattle.dv_defs.specs.declared.image.FieldInfo.{FieldInfo}
use Rattle.dv_defs.specs.Types.{words_of, is_long}
use Rattle.dv_defs.specs.Pools.{parent_of}
use Rattle.dv_defs.specs.Order.{has_number}
use Rattle.dv_hier.specs.Slots.{has_cell, cells_from, cell_words, words_in, infos_from, first_field, walked, superclasses, words_of_class, chain_cells, chain_words, object_cells, infos_below, slots_below, IsAcyclic}
use Rattle.dv_hier.proofs.Cells.{neither}

abbrev pub IsDistinct : List ℕ → Type 0
IsDistinct [] = Unit {0}
IsDistinct (c ∷ cs) = (has_number c cs ≡ false) × IsDistinct cs

-- ---- chains

shorter : (cs : List ClassInfo) (d n m : ℕ) (o : Option ℕ) → n ≤ m → has_number d (walked cs m o) ≡ false → has_number d (walked cs n o) ≡ false
shorter cs d zero m o less none = refl
shorter cs d (suc n) zero o less none = absurd (omega arith)
shorter cs d (suc n) (suc m) None less none = refl
shorter cs d (suc n) (suc m) (Some c) less none =
    let parts = neither (nat_eq c d) (has_number d (walked cs m (parent_of (slice_get cs c)))) none in
    rw (parts.0, has_number) (shorter cs d n m (parent_of (slice_get cs c)) (omega arith) parts.1)

distinct_walk : (cs : List ClassInfo) → IsAcyclic cs → (n : ℕ) (o : Option ℕ) → n ≤ length cs → IsDistinct (walked cs n o)
distinct_walk cs acyclic zero o less = tt
distinct_walk cs acyclic (suc n) None less = tt
distinct_walk cs acyclic (suc n) (Some c) less =
    (shorter cs c n (length cs - 1) (parent_of (slice_get cs c)) (omega arith) (acyclic c), distinct_walk cs acyclic n (parent_of (slice_get cs c)) (omega arith))

pub distinct_chain : (cs : List ClassInfo) → IsAcyclic cs → (i : ℕ) → i < length cs → IsDistinct (i ∷ superclasses cs i)
distinct_chain cs acyclic i within = (acyclic i, distinct_walk cs acyclic (length cs - 1) (parent_of (slice_get cs i)) (omega arith))

-- ---- sums over distinct numbers

sum_at : List ℕ → List ℕ → ℕ
sum_at ws [] = 0
sum_at ws (c ∷ cs) = sum_at ws cs + get_or ws c 0

total : List ℕ → ℕ
total [] = 0
total (w ∷ ws) = w + total ws

cleared : List ℕ → ℕ → List ℕ
cleared [] c = []
cleared (w ∷ ws) zero = 0 ∷ ws
cleared (w ∷ ws) (suc c) = w ∷ cleared ws c

cleared_other : (ws : List ℕ) (c d : ℕ) → d ≢ c → get_or (cleared ws c) d 0 ≡ get_or ws d 0
unfolding cleared
cleared_other [] c d other = refl
cleared_other (w ∷ ws) zero zero other = absurd (other refl)
cleared_other (w ∷ ws) zero (suc d) other = refl
cleared_other (w ∷ ws) (suc c) zero other = refl
cleared_other (w ∷ ws) (suc c) (suc d) other = cleared_other ws c d (omega arith)

cleared_total : (ws : List ℕ) (c : ℕ) → total (cleared ws c) + get_or ws c 0 ≡ total ws
unfolding cleared total
cleared_total [] c = refl
cleared_total (w ∷ ws) zero = omega arith
cleared_total (w ∷ ws) (suc c) = let h : total (cleared ws c) + get_or ws c 0 ≡ total ws = cleared_total ws c in omega arith

cleared_sum : (ws : List ℕ) (c : ℕ) (ds : List ℕ) → has_number c ds ≡ false → sum_at (cleared ws c) ds ≡ sum_at ws ds
unfolding sum_at
cleared_sum ws c [] none = refl
cleared_sum ws c (d ∷ ds) none =
    let parts = neither (nat_eq d c) (has_number c ds) none in
    let failed : nat_eq d c ≡ false = parts.0 in
    let other : d ≢ c = grind (arith, nat_tests) in
    rw (cleared_sum ws c ds parts.1, cleared_other ws c d other) refl

distinct_sum : (ws ds : List ℕ) → IsDistinct ds → sum_at ws ds ≤ total ws
unfolding sum_at
distinct_sum ws [] distinct = omega arith
distinct_sum ws (d ∷ ds) distinct =
    let rest : sum_at (cleared ws d) ds ≤ total (cleared ws d) = distinct_sum (cleared ws d) ds distinct.1 in
    let same : sum_at (cleared ws d) ds ≡ sum_at ws ds = cleared_sum ws d ds distinct.0 in
    let whole : total (cleared ws d) + get_or ws d 0 ≡ total ws = cleared_total ws d in
    omega arith

-- ---- words

abbrev own_words : ClassInfo → ℕ
own_words c = words_in c.def c.def.fields

weight_at : (cs : List ClassInfo) (c : ℕ) → get_or (map own_words cs) c 0 ≡ words_of_class (slice_get cs c)
weight_at [] c = refl
weight_at (d ∷ cs) zero = refl
weight_at (d ∷ cs) (suc c) = weight_at cs c

chain_sum : (cs : List ClassInfo) (chain : List ℕ) → chain_words cs chain ≡ sum_at (map own_words cs) chain
unfolding sum_at
chain_sum cs [] = refl
chain_sum cs (c ∷ chain) = rw (chain_sum cs chain, weight_at cs c) refl

at_most_two : (b : Bool) → elim b [ true ↦ 2 | false ↦ 1 ] ≤ 2
at_most_two true = omega arith
at_most_two false = omega arith

cell_at_most : (b : Bool) (w : ℕ) → w ≤ 2 → elim b [ true ↦ w | false ↦ 0 ] ≤ 2
cell_at_most true w few = few
cell_at_most false w few = omega arith

words_at_most : (c : ClassDef) (fs : List FieldDef) → words_in c fs ≤ 2 * length fs
words_at_most c [] = omega arith
words_at_most c (f ∷ fs) =
    let one : cell_words c f ≤ 2 = cell_at_most (has_cell c f) (words_of f.ty) (at_most_two (is_long f.ty)) in
    let rest : words_in c fs ≤ 2 * length fs = words_at_most c fs in
    let grow : 2 * suc (length fs) ≡ 2 + 2 * length fs = omega arith in
    rw grow (sums (cell_words c f) (words_in c fs) (2 * length fs) one rest)
  where
    sums : (a b n : ℕ) → a ≤ 2 → b ≤ n → a + b ≤ 2 + n
    sums a b n small few = omega arith

total_at_most : (cs : List ClassInfo) → total (map own_words cs) ≤ 2 * sum_by (λ c. length c.def.fields) cs
unfolding total
total_at_most [] = omega arith
total_at_most (c ∷ cs) =
    let one : words_in c.def c.def.fields ≤ 2 * length c.def.fields = words_at_most c.def c.def.fields in
    let rest : total (map own_words cs) ≤ 2 * sum_by (λ d. length d.def.fields) cs = total_at_most cs in
    rw (sum_by-cons (λ d. length d.def.fields) c cs)
    (sums (words_in c.def c.def.fields) (length c.def.fields) (total (map own_words cs)) (sum_by (λ d. length d.def.fields) cs) one rest)
  where
    sums : (a n b m : ℕ) → a ≤ 2 * n → b ≤ 2 * m → a + b ≤ 2 * (n + m)
    sums a n b m small few = omega arith

-- a chain has no more words than twice the fields that there are
pub chain_at_most : (cs : List ClassInfo) → IsAcyclic cs → (i : ℕ) (c : ClassInfo) → i < length cs → slice_get cs i ≡ Some c
    → chain_words cs (superclasses cs i) + words_in c.def c.def.fields ≤ 2 * sum_by (λ d. length d.def.fields) cs
chain_at_most cs acyclic i c within there =
    let distinct = distinct_chain cs acyclic i within in
    let few = distinct_sum (map own_words cs) (i ∷ superclasses cs i) distinct in
    let whole : chain_words cs (i ∷ superclasses cs i) ≤ total (map own_words cs) = rw (chain_sum cs (i ∷ superclasses cs i)) few in
    let own : words_of_class (slice_get cs i) ≡ words_in c.def c.def.fields = rw there refl in
    let parts : chain_words cs (superclasses cs i) + words_in c.def c.def.fields ≤ total (map own_words cs) = rw own at whole in
    omega (arith, parts, total_at_most cs)

-- the same of words that are known
pub room_in_chain : (cs : List ClassInfo) → IsAcyclic cs → (i : ℕ) (c : ClassInfo) (chain : List ℕ) → i < length cs → slice_get cs i ≡ Some c
    → chain ≡ superclasses cs i → sum_by (λ d. length d.def.fields) cs < 2147483648
    → chain_words cs chain + words_in c.def c.def.fields < 4294967296
room_in_chain cs acyclic i c chain within there nearest few =
    let h : chain_words cs (superclasses cs i) + words_in c.def c.def.fields ≤ 2 * sum_by (λ d. length d.def.fields) cs = chain_at_most cs acyclic i c within there in
    rw nearest (omega (arith, h, few))

pub fewer : (a b n : ℕ) → a + b < n → a < n
fewer a b n less = omega arith

-- ---- what is laid out

pub laid_slots : (cs : List ClassInfo) (i : ℕ) (c : ClassInfo) (chain : List ℕ) (first : ℕ) (inherited all : List FieldId) (slots new : List (List FieldId))
    → slice_get cs i ≡ Some c → chain ≡ superclasses cs i → first ≡ first_field cs i → inherited ≡ chain_cells cs chain
    → all ≡ inherited ++ cells_from c.def first c.def.fields → slots ≡ slots_below cs i → new ≡ slots ++ all ∷ []
    → new ≡ slots_below cs (i + 1)
laid_slots cs i c chain first inherited all slots new there nearest at above own so_far pushed =
    let here : all ≡ object_cells cs i = rw (own, above, nearest, at, there) refl in
    rw (map-range_with_len_more (object_cells cs) 0 i i (omega arith), pushed, so_far, here) refl

pub laid_fields : (cs : List ClassInfo) (i : ℕ) (c : ClassInfo) (chain : List ℕ) (words : ℕ) (fields new : List FieldInfo)
    → slice_get cs i ≡ Some c → chain ≡ superclasses cs i → words ≡ chain_words cs chain
    → fields ≡ infos_below cs i → new ≡ fields ++ infos_from c.def i 0 words c.def.fields
    → new ≡ infos_below cs (i + 1)
laid_fields cs i c chain words fields new there nearest many so_far pushed =
    rw (add-one, pushed, so_far, many, nearest, there) refl
