-- How many units items have.
use Rattle.std.proofs.Common.{◌≡◌, ◌+◌, ◌*◌, ◌/◌, ◌≤◌, ◌<◌, ℕ, zero, suc, ℤ, Bool, true, false, List, [], ◌∷◌, ◌++◌, length, map, drop, nat_lt, Option, Some, None, if◌then◌else◌, refl, ap, sym, ◌∙◌, arith, length-append, ◌&&◌}
use Rattle.std.proofs.lemmas.List.{length-map}
use Rattle.std.specs.Option.{unwrap_or}
use Rattle.std.proofs.lemmas.Bool.{eqb-true}
use Rattle.std.proofs.lemmas.Bool.Decides.{nat_tests}
use Rattle.dv_defs.specs.declared.code.Insn.{Insn}
use Rattle.dv_defs.specs.Formats.{size_at, size_by}
use Rattle.dv_defs.specs.Spelling.{spelling}
use Rattle.dv_defs.specs.Payloads.{packed_spelling, sparse_spelling, data_spelling, numbers_spelling}
use Rattle.dv_defs.proofs.SpellingFormats.{begins}
use Rattle.dv_defs.proofs.SpellingLaws.{spelled_in}
use Rattle.dv_defs.proofs.PayloadLaws.{where_fits_is}
use Rattle.dv_defs.proofs.PayloadNumbers.{length_numbers}
use Rattle.dv_defs.proofs.PayloadBytes.{length_bytes}
use Rattle.dv_draft.specs.declared.draft.Item.{Item}
use Rattle.dv_draft.specs.declared.draft.What.{What}
use Rattle.dv_draft.specs.declared.draft.What.TheVariants as what
use Rattle.dv_draft.specs.declared.pools.Pools.{Pools}
use Rattle.dv_asm.specs.Items.{item_at, size_of}
use Rattle.dv_asm.specs.Places.{end_of, address_of, distance}
use Rattle.dv_asm.specs.Layout.{spelling_of, units_of, padded, base_of, targets_of, insn_of}
use Rattle.dv_asm.proofs.PlaceLemmas.{aligned_above}

pub insn_size : (i : Insn) (us : List ℕ) → spelling i ≡ Some us → length us ≡ size_at i.op
insn_size i us e = let (f, s) = spelled_in i us e in (begins f i us s.units).0 ∙ sym (ap size_by s.format)

pub packed_size : (first : ℤ) (targets : List ℤ) (us : List ℕ) → packed_spelling first targets ≡ Some us → length us ≡ length targets * 2 + 4
packed_size first targets us e =
    sym (ap length (where_fits_is _ _ us e).1) ∙ (let n : suc (suc (suc (suc (length (numbers_spelling targets))))) ≡ length targets * 2 + 4 = omega (arith, length_numbers targets) in n)

pub sparse_size : (keys targets : List ℤ) (us : List ℕ) → length targets ≡ length keys → sparse_spelling keys targets ≡ Some us → length us ≡ length targets * 4 + 2
sparse_size keys targets us same e =
    sym (ap length (where_fits_is _ _ us e).1) ∙ (let n : suc (suc (length (numbers_spelling keys ++ numbers_spelling targets))) ≡ length targets * 4 + 2 = omega (arith, length-append (numbers_spelling keys) (numbers_spelling targets), length_numbers keys, length_numbers targets) in n)

pub data_size : (width : ℕ) (bytes us : List ℕ) → data_spelling width bytes ≡ Some us → length us ≡ (length bytes + 1) / 2 + 4
data_size width bytes us e = sym (ap length (where_fits_is _ _ us e).1) ∙ omega (arith, length_bytes bytes)

and_parts : (a b : Bool) → (a && b) ≡ true → (a ≡ true) × (b ≡ true)
and_parts true b e = (refl, e)
and_parts false b e = absurd (cc)

mapped_length : (f : List ℕ → ℤ) (names : List (List ℕ)) → length (map f names) ≡ length names
mapped_length f names = simp length-map

-- a spelling of an item has the item's size
pub spelled_size : (items : List Item) (pools : Pools) (k : ℕ) (w : What) (us : List ℕ) → spelling_of items pools k w ≡ Some us → length us ≡ size_of w
spelled_size items pools k (what.Label name) us e = let none : [] ≡ us = cc in sym (ap length none)
spelled_size items pools k (what.Op op) us e = insn_size (insn_of items pools k op) us e
spelled_size items pools k (what.Packed first names) us e =
    packed_size first (targets_of items (address_of items k) names) us e ∙ ap (λ n. n * 2 + 4) (mapped_length (distance items (base_of items (address_of items k))) names)
spelled_size items pools k (what.Sparse keys names) us e =
    let fitting = and_parts _ _ (where_fits_is _ _ us e).0 in
    let same = eqb-true _ _ (and_parts _ _ fitting.1).0 in
    sparse_size keys (targets_of items (address_of items k) names) us same e ∙ ap (λ n. n * 4 + 2) (mapped_length (distance items (base_of items (address_of items k))) names)
spelled_size items pools k (what.Data width bytes) us e = data_size width bytes us e

at_most : (o : Option (List ℕ)) (n : ℕ) → ((us : List ℕ) → o ≡ Some us → length us ≡ n) → length (unwrap_or o []) ≤ n
at_most None n size = omega arith
at_most (Some us) n size = omega (arith, size us refl)

padded_by : (b : Bool) (address : ℕ) (us : List ℕ) → nat_lt (length us) address ≡ b → length us ≤ address → length (if b then us ++ 0 ∷ [] else us) ≤ address
padded_by true address us e within = let less : length us < address = grind (arith, nat_tests) in omega (arith, length-append us (0 ∷ []))
padded_by false address us e within = within

-- the units of the first items end where these items end, or before
pub units_within : (items : List Item) (pools : Pools) (k : ℕ) → length (units_of items pools k) ≤ end_of items k
units_within items pools zero = omega arith
units_within items pools (suc k) =
    let address = address_of items k in
    let before = units_of items pools k in
    let reached : length before ≤ address = omega (arith, units_within items pools k, aligned_above (end_of items k) (drop k items)) in
    let w = (item_at items k).what in
    let here = at_most (spelling_of items pools k w) (size_of w) (spelled_size items pools k w) in
    omega (arith, length-append (padded address before) (unwrap_or (spelling_of items pools k w) []), padded_by (nat_lt (length before) address) address before refl reached, here)
