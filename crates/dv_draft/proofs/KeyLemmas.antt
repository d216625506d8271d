-- The pools of a body with what its items name.
use Rattle.std.proofs.Common.{◌≡◌, ◌+◌, ◌<◌, ℕ, Bool, List, [], ◌∷◌, length, drop, get_or, Option, Some, None, refl, sym, ap, ◌∙◌}
use Rattle.std.specs.Prelude.{bytes_eq}
use Rattle.std.proofs.lemmas.List.{drop_more}
use Rattle.dv_draft.specs.declared.draft.Item.{Item}
use Rattle.dv_draft.specs.declared.pools.Pools.{Pools}
use Rattle.dv_defs.specs.Entries.{with_entry}
use Rattle.dv_defs.specs.Types.{ty_eq, field_eq, method_eq}
use Rattle.dv_draft.specs.Pools.{with_entry_if_any, with_entries, pool_ref, chars_of, type_of, field_of, method_of, with_ref}

-- a pool with the entry that one more item names
pub one_more : {X Y : Type 0} (own eq : X → X → Bool) → own ≡ eq → (entry_of : Y → Option X) (items : List Y) (k : ℕ) (item : Y) (pool new whole : List X) (entry : X) → k < length items → item ≡ get_or items k item → Some entry ≡ entry_of item → new ≡ with_entry own pool entry → with_entries eq entry_of pool (drop k items) ≡ whole → with_entries eq entry_of new (drop (k + 1) items) ≡ whole
one_more {X} {Y} own eq same entry_of items k item pool new whole entry within at names added before =
    let split : drop k items ≡ item ∷ drop (k + 1) items = drop_more items k item within ∙ ap (λ (i : Y). i ∷ drop (k + 1) items) (sym at) in
    let step : new ≡ with_entry_if_any eq pool (entry_of item) = added ∙ (λ i. with_entry_if_any (same i) pool (names i)) in
    ap (λ (xs : List X). with_entries eq entry_of xs (drop (k + 1) items)) step ∙ (sym (ap (with_entries eq entry_of pool) split) ∙ before)

-- the pools, and then what the items name
abbrev pub with_items : Pools → List Item → Pools
with_items pools items = record {
  strings = with_entries bytes_eq chars_of pools.strings items;
  types = with_entries ty_eq type_of pools.types items;
  fields = with_entries field_eq field_of pools.fields items;
  methods = with_entries method_eq method_of pools.methods items;
}

-- the pools with what one more item names
pub pools_more : (items : List Item) (k : ℕ) (item : Item) (pools new whole : Pools) → k < length items → item ≡ get_or items k item → new ≡ with_ref pools (pool_ref item.what) → with_items pools (drop k items) ≡ whole → with_items new (drop (k + 1) items) ≡ whole
pools_more items k item pools new whole within at added before =
    let split : drop k items ≡ item ∷ drop (k + 1) items = drop_more items k item within ∙ ap (λ (i : Item). i ∷ drop (k + 1) items) (sym at) in
    ap (λ (p : Pools). with_items p (drop (k + 1) items)) added ∙ (sym (ap (with_items pools) split) ∙ before)
