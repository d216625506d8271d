-- Pools have few entries: each entry is named by an instruction.
use Rattle.std.proofs.Common.{◌≡◌, ◌+◌, ◌≤◌, ◌<◌, ◌^◌, Bool, false, ℕ, zero, suc, List, [], ◌∷◌, ◌++◌, length, take, drop, sum_by, position, bytes_eq, Option, Some, None, IsSome, refl, ap, ◌∙◌, arith, length-append}
use Rattle.std.specs.Option.{unwrap_or}
use Rattle.std.proofs.lemmas.List.{take_more}
use Rattle.std.proofs.lemmas.List.Sums.{sum_by-cons, sum_by_push}
use Rattle.std.proofs.lemmas.List.Quantifiers.{position-Some}
use Rattle.std.proofs.Math.Seq.{take-length}
use Rattle.dv_defs.specs.Formats.{size_at}
use Rattle.dv_defs.specs.Spelling.{spelling}
use Rattle.dv_defs.specs.Types.{ty_eq}
use Rattle.dv_defs.proofs.TilingLaws.{insn_positive}
use Rattle.dv_draft.specs.declared.draft.Item.{Item}
use Rattle.dv_draft.specs.declared.draft.Draftop.{Draftop}
use Rattle.dv_draft.specs.declared.draft.What.{What}
use Rattle.dv_draft.specs.declared.draft.What.TheVariants as what
use Rattle.dv_draft.specs.declared.draft.PoolRef.{PoolRef}
use Rattle.dv_draft.specs.declared.draft.PoolRef.TheVariants as pool
use Rattle.dv_draft.specs.declared.pools.Pools.{Pools}
use Rattle.dv_draft.specs.Draft.{AreFormed, IsFormed, blank, is_entry}
use Rattle.dv_asm.specs.Items.{item_at, no_item, size_of}
use Rattle.dv_asm.specs.Places.{end_of}
use Rattle.dv_asm.specs.Refusals.{too_long}
use Rattle.dv_draft.specs.Pools.{with_entry_if_any, with_entries, pool_ref, chars_in, type_in, field_in, method_in, index_of}
use Rattle.dv_defs.specs.Entries.{with_entry}
use Rattle.dv_defs.specs.Types.{field_eq, method_eq}
use Rattle.dv_draft.specs.Pools.{pools_of}
use Rattle.dv_asm.proofs.PlaceLemmas.{aligned_above, ends_within}
use Rattle.dv_asm.proofs.UnitLemmas.{insn_size}

abbrev size : Item → ℕ
size item = size_of item.what

size_by_spelling : (op : Draftop) (o : Option (List ℕ)) → spelling (blank op.insn) ≡ o → IsSome o → 1 ≤ size_at op.insn.op
size_by_spelling op None e some = absurd (cc)
size_by_spelling op (Some us) e some = omega (arith, insn_size (blank op.insn) us e, insn_positive (blank op.insn) us e)

-- an item that names an entry has units
named_positive : {X : Type 0} (entry_in : PoolRef → Option X) → entry_in pool.None ≡ None → (w : What) → IsFormed w → (x : X) → entry_in (pool_ref w) ≡ Some x → 1 ≤ size_of w
named_positive entry_in none (what.Op op) formed x e = size_by_spelling op (spelling (blank op.insn)) refl formed.form
named_positive entry_in none (what.Label name) formed x e = absurd (cc)
named_positive entry_in none (what.Packed first names) formed x e = absurd (cc)
named_positive entry_in none (what.Sparse keys names) formed x e = absurd (cc)
named_positive entry_in none (what.Data width bytes) formed x e = absurd (cc)

one_more : {X : Type 0} (xs : List X) (x : X) (place : Option ℕ) → length {A = X} (elim place [ None ↦ xs ++ x ∷ [] | Some k ↦ xs ]) ≤ length xs + 1
one_more xs x None = omega (arith, length-append xs (x ∷ []))
one_more xs x (Some k) = omega arith

entries_within : {X : Type 0} (eq : X → X → Bool) (entry_in : PoolRef → Option X) → entry_in pool.None ≡ None → (xs : List X) (items : List Item) → AreFormed items → length (with_entries eq (λ (item : Item). entry_in (pool_ref item.what)) xs items) ≤ length xs + sum_by size items
entries_within eq entry_in none xs [] formed = omega arith
entries_within {X} eq entry_in none xs (item ∷ items) formed =
    at (entry_in (pool_ref item.what)) refl (λ ys. entries_within eq entry_in none ys items (λ k d below. formed (suc k) d (omega arith)))
  where
    at : (o : Option X) → entry_in (pool_ref item.what) ≡ o → ((ys : List X) → length (with_entries eq (λ (i : Item). entry_in (pool_ref i.what)) ys items) ≤ length ys + sum_by size items) → length (with_entries eq (λ (i : Item). entry_in (pool_ref i.what)) (with_entry_if_any eq xs o) items) ≤ length xs + sum_by size (item ∷ items)
    at None e later = omega (arith, later xs, sum_by-cons size item items)
    at (Some x) e later =
        omega (arith, later (with_entry eq xs x), one_more xs x (position (eq x) xs), sum_by-cons size item items, named_positive entry_in none item.what (formed 0 no_item (omega arith)) x e)

sizes_within : (items : List Item) (k : ℕ) → k ≤ length items → sum_by size (take k items) ≤ end_of items k
sizes_within items zero within = omega arith
sizes_within items (suc k) within =
    let next : take (suc k) items ≡ take k items ++ item_at items k ∷ [] = ap (λ (n : ℕ). take n items) (let n : suc k ≡ k + 1 = omega arith in n) ∙ take_more items k no_item (omega arith) in
    let sum : sum_by size (take (suc k) items) ≡ sum_by size (take k items) + size (item_at items k) = ap (sum_by size) next ∙ sum_by_push size (take k items) (item_at items k) in
    omega (arith, sum, sizes_within items k (omega arith), aligned_above (end_of items k) (drop k items))

-- a pool has no more entries than the body has units
pool_within : {X : Type 0} (eq : X → X → Bool) (entry_in : PoolRef → Option X) → entry_in pool.None ≡ None → (items : List Item) → AreFormed items → too_long items ≡ None → length (with_entries eq (λ (item : Item). entry_in (pool_ref item.what)) [] items) ≤ 16384
pool_within eq entry_in none items formed short =
    let all : sum_by size (take (length items) items) ≡ sum_by size items = ap (sum_by size) (take-length items) in
    omega (arith, entries_within eq entry_in none [] items formed, all, sizes_within items (length items) (omega arith), ends_within items short (length items) (omega arith))

place_small : {X : Type 0} (test : X → Bool) (xs : List X) (place : Option ℕ) → position test xs ≡ place → length xs ≤ 16384 → ((x : X) → unwrap_or place 0 < 2 ^ 16)
place_small test xs None e few x = omega arith
place_small test xs (Some k) e few x = omega (arith, (position-Some test xs k x e).0)

-- an index is a place in a pool
pub index_small : (items : List Item) (entry : PoolRef) → AreFormed items → too_long items ≡ None → index_of (pools_of items) entry < 2 ^ 16
unfolding pools_of
index_small items pool.None formed short = omega arith
index_small items (pool.Str chars) formed short = place_small _ _ _ refl (pool_within bytes_eq chars_in refl items formed short) chars
index_small items (pool.OfType ty) formed short = place_small _ _ _ refl (pool_within ty_eq type_in refl items formed short) ty
index_small items (pool.Field field) formed short = place_small _ _ _ refl (pool_within field_eq field_in refl items formed short) field
index_small items (pool.Method method) formed short = place_small _ _ _ refl (pool_within method_eq method_in refl items formed short) method

pub index_none : (pools : Pools) (entry : PoolRef) → is_entry entry ≡ false → index_of pools entry ≡ 0
index_none pools pool.None e = refl
index_none pools (pool.Str chars) e = absurd (cc)
index_none pools (pool.OfType ty) e = absurd (cc)
index_none pools (pool.Field field) e = absurd (cc)
index_none pools (pool.Method method) e = absurd (cc)
