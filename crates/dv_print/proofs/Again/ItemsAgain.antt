-- The draft that is made of a laid-out body is as short as the body, and no two of its switches name one payload.
use Rattle.std.proofs.Common.{◌≡◌, ℕ, ◌+◌, ◌-◌, ◌<◌, ◌≤◌, zero, suc, Bool, true, false, not, ◌&&◌, ◌⊎◌, inl, inr, List, length, drop, get_or, nat_eq, nat_le, nat_lt, Option, Some, None, refl, ap, sym, ◌∙◌, arith}
use Rattle.std.proofs.lemmas.Bool.{eqb-true}
use Rattle.std.proofs.lemmas.Bool.Decides.{nat_tests}
use Rattle.std.proofs.lemmas.List.{length-map, get_or-map}
use Rattle.dv_defs.specs.declared.code.Payload.{Payload}
use Rattle.dv_defs.specs.Formats.{format_at, size_at}
use Rattle.dv_draft.specs.declared.draft.Item.{Item}
use Rattle.dv_draft.specs.declared.draft.What.{What}
use Rattle.dv_draft.specs.declared.draft.What.TheVariants as what
use Rattle.dv_draft.specs.Draft.{DraftValue}
use Rattle.dv_asm.specs.First.{when, any_below}
use Rattle.dv_asm.specs.Items.{item_at, no_item, is_label, is_payload, is_switch_opcode, size_of}
use Rattle.dv_asm.specs.Places.{address_of, end_of, size_of_all, address_named_by}
use Rattle.dv_asm.specs.Refusals.{is_place, is_address, addresses_named, switch_of, is_payload_at, stands_payload, is_repeated, repeated_at, repeated, too_long_at, too_long}
use Rattle.dv_draft.specs.Pools.{pools_of}
use Rattle.dv_asm.specs.Layout.{layout}
use Rattle.dv_asm.proofs.PlaceLemmas.{aligned_above}
use Rattle.dv_print.specs.Drafting.{labels_at}
use Rattle.dv_print.proofs.Truth.{both, either, itself, no_line}
use Rattle.dv_print.proofs.Places.Walk.{ends_below}
use Rattle.dv_print.proofs.Units.SwitchTiles.{SwitchTo, HasPayload, is_switch, own_switch, switch_found}
use Rattle.dv_print.proofs.Units.Rebased.{again, position_not}
use Rattle.dv_print.proofs.Again.LaidDraft.{IsLaidOut, after_of, pieces, all_named, known, drafts}
use Rattle.dv_print.proofs.Again.Origins.{HasContent, Origin, origin}

-- ---- length

-- an item ends no further than all items
ends_by : (items : List Item) (k : ℕ) → k < length items → address_of items k + size_of (item_at items k).what ≤ size_of_all items
ends_by items k within =
    let e : suc k + (length items - suc k) ≡ length items = omega arith in
    omega (arith, ends_below items (suc k) (length items - suc k), ap (end_of items) e)

not_passing : (address size : ℕ) → address + size ≤ 16384 → (nat_le address 16384 && nat_lt 16384 (address + size)) ≡ false
not_passing address size small = grind (arith, nat_tests)

-- no item of the draft ends past the limit
pub short_again : (d : DraftValue) → IsLaidOut d → too_long (after_of d) ≡ None
short_again d l = no_line (too_long_at (after_of d)) (length (after_of d)) at
  where
    at : (k : ℕ) → k < length (after_of d) → too_long_at (after_of d) k ≡ None
    at k within =
        let small : address_of (after_of d) k + size_of (item_at (after_of d) k).what ≤ 16384 = omega (arith, ends_by (after_of d) k within, (known d l).kept.size, (known d l).short) in
        ap (λ c. when c (item_at (after_of d) k).line) (not_passing (address_of (after_of d) k) (size_of (item_at (after_of d) k).what) small)

-- ---- payloads of the draft

any_found : (test : ℕ → Bool) (n : ℕ) → any_below test n ≡ true → (k : ℕ) × (k < n) × (test k ≡ true)
any_found test zero e = absurd (cc)
any_found test (suc n) e = at (either (any_below test n) (test n) e) (λ before. any_found test n before)
  where
    at : (any_below test n ≡ true) ⊎ (test n ≡ true) → (any_below test n ≡ true → (k : ℕ) × (k < n) × (test k ≡ true)) → (k : ℕ) × (k < suc n) × (test k ≡ true)
    at (inl before) later = let found = later before in let less : found.0 < n = found.1 in (found.0, omega (arith, less), found.2)
    at (inr here) later = (n, omega arith, here)

content_is : (d : DraftValue) (p : ℕ) (w : What) (x : Payload) → HasContent d p w x → is_payload w ≡ true
content_is d p (what.Label name) x h = absurd h
content_is d p (what.Op op) x h = absurd h
content_is d p (what.Packed first names) x h = refl
content_is d p (what.Sparse keys names) x h = refl
content_is d p (what.Data width bytes) x h = refl

no_label_payload : (w : What) → is_label w ≡ true → is_payload w ≡ true → ⊥
no_label_payload (what.Label name) label payload = cc
no_label_payload (what.Op op) label payload = cc
no_label_payload (what.Packed first names) label payload = cc
no_label_payload (what.Sparse keys names) label payload = cc
no_label_payload (what.Data width bytes) label payload = cc

-- a payload of the draft stands where one of the draft before stands
payload_before : (d : DraftValue) → IsLaidOut d → (q a : ℕ) → q < length (after_of d) → is_payload (item_at (after_of d) q).what ≡ true → address_of (after_of d) q ≡ a → HasPayload d.items a
payload_before d l q a within payload at = from (origin d l q within)
  where
    from : Origin d q → HasPayload d.items a
    from (inl label) = absurd (no_label_payload (item_at (after_of d) q).what label payload)
    from (inr (inl nop)) = let no : false ≡ true = sym (ap is_payload nop.is) ∙ payload in absurd (cc (no))
    from (inr (inr (inl op))) = let no : false ≡ true = sym (ap is_payload op.is) ∙ payload in absurd (cc (no))
    from (inr (inr (inr p))) =
        record { place = p.place; within = p.within; payload = content_is d p.place (item_at d.items p.place).what p.payload p.own; at = sym p.at ∙ at }

-- ---- switches of the draft

switch_size : (op : ℕ) → is_switch_opcode op ≡ true → size_at op ≡ 3
unfolding format_at
switch_size op e = at (either (nat_eq op 0x2b) (nat_eq op 0x2c) e)
  where
    at : (nat_eq op 0x2b ≡ true) ⊎ (nat_eq op 0x2c ≡ true) → size_at op ≡ 3
    at (inl h) = ap size_at (eqb-true op 0x2b h)
    at (inr h) = ap size_at (eqb-true op 0x2c h)

size_of_switch : (items : List Item) (w : What) (a : ℕ) → SwitchTo items w a → size_of w ≡ 3
size_of_switch items w a s = ap size_of s.is ∙ switch_size s.op.insn.op s.opcode

rises : (items : List Item) (j k : ℕ) → j < k → 1 ≤ size_of (item_at items j).what → address_of items j < address_of items k
rises items j k less big =
    let e : suc j + (k - suc j) ≡ k = omega arith in
    omega (arith, ends_below items (suc j) (k - suc j), ap (end_of items) e, aligned_above (end_of items k) (drop k items), big)

-- two items with units that stand at one address are one
one_there : (items : List Item) (j k : ℕ) → address_of items j ≡ address_of items k → 1 ≤ size_of (item_at items j).what → 1 ≤ size_of (item_at items k).what → j ≡ k
one_there items j k e p q = at (nat_lt j k) (nat_lt k j) refl refl
  where
    at : (b c : Bool) → nat_lt j k ≡ b → nat_lt k j ≡ c → j ≡ k
    at true c h m = let less : j < k = grind (arith, nat_tests) in absurd (omega (arith, e, rises items j k less p))
    at false true h m = let less : k < j = grind (arith, nat_tests) in absurd (omega (arith, e, rises items k j less q))
    at false false h m = grind (arith, nat_tests)

-- a switch of the draft that names a payload stands where the first switch of the draft before stands that names it
switch_before : (d : DraftValue) → IsLaidOut d → (j a : ℕ) → j < length (after_of d) → SwitchTo (after_of d) (item_at (after_of d) j).what a → HasPayload d.items a → (i : ℕ) × (switch_of d.items a ≡ Some i) × (address_of (after_of d) j ≡ address_of d.items i)
switch_before d l j a within s p =
    let g = drafts d l in
    let i = again d.items (after_of d) (pools_of d.items) (layout d) (pieces d) (all_named d) (labels_at (all_named d) (length (layout d).units)) j a g within s in
    (i.place, own_switch d.items i.place p.place a g.once i.within p.within p.payload p.at i.names, i.at)

one_switch : (d : DraftValue) → IsLaidOut d → (j k a : ℕ) → j < length (after_of d) → k < length (after_of d) → SwitchTo (after_of d) (item_at (after_of d) j).what a → SwitchTo (after_of d) (item_at (after_of d) k).what a → HasPayload d.items a → j ≡ k
one_switch d l j k a within inside s t p =
    let f = switch_before d l j a within s p in
    let g = switch_before d l k a inside t p in
    let first : Some f.0 ≡ Some g.0 = sym f.1 ∙ g.1 in
    let same : f.0 ≡ g.0 = cc in
    one_there (after_of d) j k (f.2 ∙ (ap (address_of d.items) same ∙ sym g.2))
    (omega (arith, size_of_switch (after_of d) (item_at (after_of d) j).what a s))
    (omega (arith, size_of_switch (after_of d) (item_at (after_of d) k).what a t))

-- a switch of the draft that names a payload is the first that names it
first_again : (d : DraftValue) → IsLaidOut d → (j a : ℕ) → j < length (after_of d) → address_named_by (after_of d) (item_at (after_of d) j) ≡ Some a → HasPayload d.items a → is_place j (switch_of (after_of d) a) ≡ true
first_again d l j a within names p = at (switch_of (after_of d) a) refl
  where
    at : (place : Option ℕ) → switch_of (after_of d) a ≡ place → is_place j place ≡ true
    at None e =
        let count : length (addresses_named (after_of d)) ≡ length (after_of d) = simp length-map in
        let named : get_or (addresses_named (after_of d)) j None ≡ Some a = get_or-map (address_named_by (after_of d)) (after_of d) j no_item None within ∙ names in
        absurd (position_not (is_address a) (addresses_named (after_of d)) j None (omega (arith, within, count)) (ap (is_address a) named ∙ itself a) e)
    at (Some k) e =
        let found = switch_found (after_of d) k a e in
        let same = one_switch d l j k a within found.0 (is_switch (after_of d) (item_at (after_of d) j).what a names) (is_switch (after_of d) (item_at (after_of d) k).what a found.1) p in
        ap (λ n. nat_eq n j) (sym same) ∙ itself j

payload_stands : (d : DraftValue) → IsLaidOut d → (a : ℕ) → stands_payload (after_of d) a ≡ true → HasPayload d.items a
payload_stands d l a stands =
    let found = any_found (is_payload_at (after_of d) a) (length (after_of d)) stands in
    let parts = both (is_payload (item_at (after_of d) found.0).what) (nat_eq (address_of (after_of d) found.0) a) found.2 in
    payload_before d l found.0 a found.1 parts.0 (eqb-true (address_of (after_of d) found.0) a parts.1)

not_repeated : (d : DraftValue) → IsLaidOut d → (j : ℕ) → j < length (after_of d) → (o : Option ℕ) → address_named_by (after_of d) (item_at (after_of d) j) ≡ o → is_repeated (after_of d) j o ≡ false
not_repeated d l j within None names = refl
not_repeated d l j within (Some a) names = at (stands_payload (after_of d) a) refl
  where
    at : (b : Bool) → stands_payload (after_of d) a ≡ b → is_repeated (after_of d) j (Some a) ≡ false
    at false h = ap (λ c. c && not (is_place j (switch_of (after_of d) a))) h
    at true h = ap (λ c. c && not (is_place j (switch_of (after_of d) a))) h ∙ ap not (first_again d l j a within names (payload_stands d l a h))

-- no payload of the draft is named by two switches
pub once_again : (d : DraftValue) → IsLaidOut d → repeated (after_of d) ≡ None
once_again d l =
    no_line (repeated_at (after_of d)) (length (after_of d))
    (λ j within. ap (λ c. when c (item_at (after_of d) j).line) (not_repeated d l j within (address_named_by (after_of d) (item_at (after_of d) j)) refl))
