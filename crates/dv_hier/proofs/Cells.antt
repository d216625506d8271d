-- The laws of cells, told of the classes alone.
use Rattle.std.specs.Prelude.{All, Bool, true, false, ℕ, zero, suc, ◌≡◌, ◌<◌, ◌≤◌, ◌+◌, List, [], ◌∷◌, ◌++◌, length, map, take, sum_by, Option, Some, None, slice_get}
use Rattle.std.specs.List.{range_with_len}
use Rattle.std.proofs.Common.{refl, ap, sym, ◌∙◌, arith, get_or, append_assoc, append-nil}
use Rattle.std.proofs.lemmas.List.Sums.{sum_by-cons, sum_by-take-le}
use Rattle.std.proofs.lemmas.List.{length-append, get_or_append_left}
use Rattle.std.proofs.Math.Seq.{get_or-append_seam}
use Rattle.std.proofs.lemmas.List.FromFn.{get_or-map-range_with_len, length-map-range_with_len, map-range_with_len_more}
use Rattle.dv_defs.specs.declared.names.ClassId.{ClassId}
use Rattle.dv_defs.specs.declared.names.FieldId.{FieldId}
use Rattle.dv_defs.specs.declared.image.ClassInfo.{ClassInfo}
use Rattle.dv_defs.specs.Pools.{class_number, parent_of}
use Rattle.dv_defs.specs.Order.{numbers}
use Rattle.dv_hier.specs.Slots.{cells_from, words_in, first_field, walked, own_cells, words_of_class, chain_cells, chain_words}

-- two alternatives, none of which holds
pub neither : (b h : Bool) → elim b [ true ↦ true | false ↦ h ] ≡ false → (b ≡ false) × (h ≡ false)
neither true h none = absurd (cc)
neither false h none = (refl, none)

-- ---- first fields

pub first_more : (cs : List ClassInfo) (i : ℕ) (c : ClassInfo) → slice_get cs i ≡ Some c
    → first_field cs (i + 1) ≡ first_field cs i + length c.def.fields
first_more [] i c there = absurd (cc)
first_more (d ∷ cs) zero c there =
    let same : d ≡ c = cc in rw same (rw (sum_by-cons (λ e. length e.def.fields) c []) (omega arith))
first_more (d ∷ cs) (suc i) c there =
    let e : suc i + 1 ≡ suc (i + 1) = omega arith in
    let h : first_field cs (i + 1) ≡ first_field cs i + length c.def.fields = first_more cs i c there in
    rw (e, sum_by-cons (λ x. length x.def.fields) d (take (i + 1) cs), sum_by-cons (λ x. length x.def.fields) d (take i cs), h) (omega arith)

pub first_within : (cs : List ClassInfo) (i : ℕ) (c : ClassInfo) → slice_get cs i ≡ Some c
    → first_field cs i + length c.def.fields ≤ sum_by (λ d. length d.def.fields) cs
first_within cs i c there =
    let h : first_field cs (i + 1) ≡ first_field cs i + length c.def.fields = first_more cs i c there in
    let k : first_field cs (i + 1) ≤ sum_by (λ d. length d.def.fields) cs = sum_by-take-le (λ d. length d.def.fields) cs (i + 1) in
    omega arith

-- ---- chains

pub walked_none : (cs : List ClassInfo) (n : ℕ) → walked cs n None ≡ []
walked_none cs zero = refl
walked_none cs (suc n) = refl

numbers_append : (xs ys : List ClassId) → numbers (xs ++ ys) ≡ numbers xs ++ numbers ys
numbers_append [] ys = refl
numbers_append (x ∷ xs) ys = ap (λ ns. x.0 ∷ ns) (numbers_append xs ys)

pub chain_ends : (cs : List ClassInfo) (xs : List ClassId) (n : ℕ) (o : Option ClassId) (whole : List ℕ) → o ≡ None
    → numbers xs ++ walked cs n (class_number o) ≡ whole → numbers xs ≡ whole
chain_ends cs xs n o whole none so_far = sym (append-nil (numbers xs)) ∙ (rw (none, walked_none cs n) at so_far)

pub chain_more : (cs : List ClassInfo) (xs : List ClassId) (n m : ℕ) (o : Option ClassId) (id : ClassId) (info : ClassInfo) (whole : List ℕ)
    → n ≡ suc m → o ≡ Some id → slice_get cs id.0 ≡ Some info
    → numbers xs ++ walked cs n (class_number o) ≡ whole
    → numbers (xs ++ id ∷ []) ++ walked cs m (class_number info.parent) ≡ whole
chain_more cs xs n m o id info whole fuel is there so_far =
    let before : numbers xs ++ (id.0 ∷ walked cs m (parent_of (slice_get cs id.0))) ≡ whole = rw (fuel, is) at so_far in
    let now : numbers xs ++ (id.0 ∷ walked cs m (class_number info.parent)) ≡ whole = rw there at before in
    rw (numbers_append xs (id ∷ []), append_assoc) now

-- ---- lists

all_before_end : {X : Type 0} (P : X → Type 0) (xs : List X) (y : X) → All P (xs ++ y ∷ []) → All P xs
all_before_end P xs y all k d within =
    let longer : k < length (xs ++ y ∷ []) = omega (arith, length-append xs (y ∷ [])) in
    rw (get_or_append_left xs (y ∷ []) d k within) at (all k d longer)

all_at_end : {X : Type 0} (P : X → Type 0) (xs : List X) (y : X) → All P (xs ++ y ∷ []) → P y
all_at_end P xs y all =
    let longer : length xs < length (xs ++ y ∷ []) = omega (arith, length-append xs (y ∷ [])) in
    rw (get_or-append_seam xs y [] y) at (all (length xs) y longer)

pub popped_before : {X : Type 0} (P : X → Type 0) (whole xs : List X) (y : X) → whole ≡ xs ++ y ∷ [] → All P whole → All P xs
popped_before P whole xs y is all = all_before_end P xs y (rw is at all)

pub popped_end : {X : Type 0} (P : X → Type 0) (whole xs : List X) (y : X) → whole ≡ xs ++ y ∷ [] → All P whole → P y
popped_end P whole xs y is all = all_at_end P xs y (rw is at all)

pub first_at : (cs : List ClassInfo) (firsts : List ℕ) (i d : ℕ) → firsts ≡ map (first_field cs) (range_with_len 0 (length cs)) → i < length cs
    → get_or firsts i d ≡ first_field cs i
first_at cs firsts i d are within = rw are (get_or-map-range_with_len (first_field cs) 0 (length cs) i i d within (omega arith))

pub as_many_firsts : (cs : List ClassInfo) (firsts : List ℕ) → firsts ≡ map (first_field cs) (range_with_len 0 (length cs)) → length firsts ≡ length cs
as_many_firsts cs firsts are = rw are (length-map-range_with_len (first_field cs) 0 (length cs))

pub firsts_more : (cs : List ClassInfo) (i : ℕ) (c : ClassInfo) (firsts new : List ℕ) (first len : ℕ)
    → slice_get cs i ≡ Some c
    → firsts ≡ map (first_field cs) (range_with_len 0 i) → first ≡ first_field cs i
    → new ≡ firsts ++ first ∷ [] → len ≡ length c.def.fields
    → (new ≡ map (first_field cs) (range_with_len 0 (i + 1))) × (first + len ≡ first_field cs (i + 1))
firsts_more cs i c firsts new first len there are is pushed many =
    (rw (map-range_with_len_more (first_field cs) 0 i i (omega arith), pushed, are, is) refl, rw (is, many) (sym (first_more cs i c there)))

-- ---- what the nearest classes leave

chain_cells_end : (cs : List ClassInfo) (xs : List ℕ) (c : ℕ) → chain_cells cs (xs ++ c ∷ []) ≡ own_cells cs c ++ chain_cells cs xs
chain_cells_end cs [] c = sym (append-nil (own_cells cs c))
chain_cells_end cs (x ∷ xs) c = rw (chain_cells_end cs xs c, append_assoc) refl

chain_words_end : (cs : List ClassInfo) (xs : List ℕ) (c : ℕ) → chain_words cs (xs ++ c ∷ []) ≡ words_of_class (slice_get cs c) + chain_words cs xs
chain_words_end cs [] c = omega arith
chain_words_end cs (x ∷ xs) c =
    let h : chain_words cs (xs ++ c ∷ []) ≡ words_of_class (slice_get cs c) + chain_words cs xs = chain_words_end cs xs c in
    rw h (omega arith)

pub popped_cells : (cs : List ClassInfo) (whole xs : List ClassId) (id : ClassId) (c : ClassInfo) (first : ℕ) (before now : List FieldId) (all : List FieldId)
    → whole ≡ xs ++ id ∷ [] → slice_get cs id.0 ≡ Some c → first ≡ first_field cs id.0
    → now ≡ before ++ cells_from c.def first c.def.fields
    → before ++ chain_cells cs (numbers whole) ≡ all
    → now ++ chain_cells cs (numbers xs) ≡ all
popped_cells cs whole xs id c first before now all is there at added so_far =
    let split : before ++ (own_cells cs id.0 ++ chain_cells cs (numbers xs)) ≡ all =
    rw (is, numbers_append xs (id ∷ []), chain_cells_end cs (numbers xs) id.0) at so_far in
    rw (added, at, append_assoc) (rw there at split)

pub popped_words : (cs : List ClassInfo) (whole xs : List ClassId) (id : ClassId) (c : ClassInfo)
    → whole ≡ xs ++ id ∷ [] → slice_get cs id.0 ≡ Some c
    → chain_words cs (numbers whole) ≡ words_in c.def c.def.fields + chain_words cs (numbers xs)
popped_words cs whole xs id c is there =
    let split : chain_words cs (numbers whole) ≡ words_of_class (slice_get cs id.0) + chain_words cs (numbers xs) =
    rw (is, numbers_append xs (id ∷ [])) (chain_words_end cs (numbers xs) id.0) in
    rw there at split

pub words_room : (now own rest whole all bound : ℕ) → whole ≡ own + rest → now + whole ≡ all → all < bound → now + own < bound
words_room now own rest whole all bound split so_far few = omega arith

pub words_more : (now own rest whole all next : ℕ) → whole ≡ own + rest → now + whole ≡ all → next ≡ now + own → next + rest ≡ all
words_more now own rest whole all next split so_far added = omega arith
