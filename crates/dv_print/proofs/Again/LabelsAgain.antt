-- Each label of the draft that is made of a laid-out body stands there once, and each label that the draft names stands
-- there.
use Rattle.std.proofs.Common.{◌≡◌, ℕ, ◌+◌, ◌-◌, ◌<◌, ◌≤◌, ◌^◌, zero, suc, pos, Bool, true, false, not, ◌⊎◌, inl, inr, List, [], ◌∷◌, ◌++◌, length, map, take, drop, nat_lt, nat_eq, Option, Some, None, is_some, if◌then◌else◌, refl, ap, sym, ◌∙◌, subst, arith}
use Rattle.std.specs.Prelude.{option_map}
use Rattle.std.specs.List.{list_any, list_all}
use Rattle.std.proofs.lemmas.Bool.Decides.{nat_tests}
use Rattle.std.proofs.lemmas.List.{length-take-le}
use Rattle.std.proofs.lemmas.Option.{slice_get-get_or}
use Rattle.dv_defs.specs.declared.code.Payload.{Payload}
use Rattle.dv_defs.specs.Body.{BodyValue}
use Rattle.dv_defs.specs.Numbers.{jump}
use Rattle.dv_defs.specs.Spelling.{spelling}
use Rattle.dv_defs.specs.Tiling.{IsPayload, Tile}
use Rattle.dv_defs.specs.Layout.{AreTiles}
use Rattle.dv_defs.proofs.TilingLaws.{item_positive}
use Rattle.dv_draft.specs.declared.draft.Item.{Item}
use Rattle.dv_draft.specs.declared.draft.Catch.{Catch}
use Rattle.dv_draft.specs.declared.draft.Draftop.{Draftop}
use Rattle.dv_draft.specs.declared.draft.What.{What}
use Rattle.dv_draft.specs.declared.draft.What.TheVariants as what
use Rattle.dv_draft.specs.Draft.{DraftValue, IsFormed, IsOp, blank}
use Rattle.dv_asm.specs.First.{first_line, earlier}
use Rattle.dv_asm.specs.Items.{item_at, no_item, is_label, is_label_named, is_named, is_payload, size_of}
use Rattle.dv_draft.specs.Pools.{pools_of}
use Rattle.dv_asm.specs.Layout.{insn_of, base_of, targets_of, packed_of, sparse_of, layout}
use Rattle.dv_asm.specs.Places.{address_of, end_of, label_address, distance}
use Rattle.dv_asm.specs.Refusals.{is_place, is_second, label_twice, label_twice_at, no_label, no_label_at, no_label_of_catch_at, has_label, has_labels, has_label_if_any, catch_at, catch_has_labels}
use Rattle.dv_asm.proofs.PlaceLemmas.{aligned_above}
use Rattle.dv_print.specs.declared.pieces.Piece.{Piece}
use Rattle.dv_print.specs.Numbers.{label_name}
use Rattle.dv_defs.specs.Formats.{format_at, has_offset}
use Rattle.dv_print.specs.Pieces.{piece_of}
use Rattle.dv_print.specs.Named as named
use Rattle.dv_print.specs.Drafting.{drafted_op, labels_from, payload_item, piece_item, with_no_line, labels_at, draft_of}
use Rattle.dv_print.specs.Laws.{KeepsAddresses, IsNamedBy}
use Rattle.dv_print.proofs.Again.RangesAgain.{handler_from}
use Rattle.dv_print.proofs.Truth.{both, itself, no_line, when_not}
use Rattle.dv_print.proofs.Pools.Entries.{joined, bytes_itself}
use Rattle.dv_print.proofs.Places.ItemTiles.{tile, tiles_at, mem_to}
use Rattle.dv_print.proofs.Pools.KeptEntries.{small_opcode}
use Rattle.dv_print.proofs.Places.PieceItems.{tile_items, tile_size}
use Rattle.dv_print.proofs.Units.KeptAddresses.{tiles_are}
use Rattle.dv_print.proofs.Places.Resolved.{Stands, address_below, first_found, named_so}
use Rattle.dv_print.proofs.Places.Walk.{ends_below}
use Rattle.dv_print.proofs.Places.Branches.{label_size, leads_back}
use Rattle.dv_print.proofs.Units.KnownDraft.{stands_for, tile_listed}
use Rattle.dv_print.proofs.Units.Straight.{no_label_by, nop_offset}
use Rattle.dv_print.proofs.Units.SpelledAgain.{branch_to, AreListed, are_listed}
use Rattle.dv_print.proofs.Ranges.NamedHandlers.{handler_named}
use Rattle.dv_print.proofs.Again.LaidDraft.{IsLaidOut, after_of, pieces, all_named, tiles, known, items_labelled, catches_labelled, entry_listed, rebased}
use Rattle.dv_print.proofs.Again.Origins.{HasContent, Origin, origin}

-- ---- between two labels

-- the item that comes next has units
abbrev Behind : List Item → Type 0
Behind [] = Unit {0}
Behind (x ∷ xs) = 0 < size_of x.what

-- of two items one behind the other, one has units
abbrev Gaps : List Item → Type 0
Gaps [] = Unit {0}
Gaps (x ∷ xs) = ((0 < size_of x.what) ⊎ Behind xs) × Gaps xs

gaps_by : (d : Bool) (label x : Item) (from final : List Item) → 0 < size_of x.what → Gaps (from ++ final) → Gaps ((((if d then label ∷ [] else []) ++ x ∷ []) ++ from) ++ final)
gaps_by true label x from final positive g = (inr positive, (inl positive, g))
gaps_by false label x from final positive g = (inl positive, g)

last_gap : (c : Bool) (label : Item) → Gaps (if c then label ∷ [] else [])
last_gap true label = (inr tt, tt)
last_gap false label = tt

-- the items of tiles
gaps : (b : BodyValue) (all : List Piece) (names : List ℕ) (n : ℕ) (ts : List Tile) (us : List ℕ) (end : ℕ) → AreTiles end ts us → Gaps (tile_items b all names ts ++ labels_at names n)
gaps b all names n [] us end are = last_gap (named.is_label_address names n) (with_no_line (what.Label (label_name n)))
gaps b all names n (t ∷ ts) us end are =
    let units = item_positive t.item (take t.size us) are.2 in
    let positive : 0 < size_of (piece_item b all (piece_of t)).what = omega (arith, units, length-take-le t.size us are.1, tile_size b all t us are.1 are.2) in
    gaps_by (named.is_label_address names t.at) (with_no_line (what.Label (label_name t.at))) (piece_item b all (piece_of t)) (tile_items b all names ts) (labels_at names n) positive
    (gaps b all names n ts (drop t.size us) (end + t.size) are.3)

gap_at : (items : List Item) (m : ℕ) → Gaps items → suc m < length items → (0 < size_of (item_at items m).what) ⊎ (0 < size_of (item_at items (suc m)).what)
gap_at [] m g within = absurd (omega arith)
gap_at (x ∷ []) m g within = absurd (omega arith)
gap_at (x ∷ y ∷ xs) zero g within = g.0
gap_at (x ∷ y ∷ xs) (suc m) g within = gap_at (y ∷ xs) m g.1 (omega arith)

-- a label stands before those behind it
apart : (items : List Item) (j k : ℕ) → Gaps items → j < k → k < length items → is_label (item_at items j).what ≡ true → is_label (item_at items k).what ≡ true → address_of items j < address_of items k
apart items j k g less within left right = at (gap_at items j g (omega arith))
  where
    further : (c : Bool) → nat_lt (suc j) k ≡ c → 0 < size_of (item_at items (suc j)).what → address_of items j < address_of items k
    further true e units =
        let within_k : suc (suc j) ≤ k = grind (arith, nat_tests) in
        let all : suc (suc j) + (k - suc (suc j)) ≡ k = omega (arith, within_k) in
        omega (arith, units, ends_below items (suc (suc j)) (k - suc (suc j)), ap (end_of items) all, aligned_above (end_of items k) (drop k items), aligned_above (end_of items (suc j)) (drop (suc j) items))
    further false e units =
        let same : suc j ≡ k = grind (arith, nat_tests) in
        absurd (omega (arith, units, ap (λ n. size_of (item_at items n).what) same, label_size (item_at items k).what right))

    at : (0 < size_of (item_at items j).what) ⊎ (0 < size_of (item_at items (suc j)).what) → address_of items j < address_of items k
    at (inl units) = absurd (omega (arith, units, label_size (item_at items j).what left))
    at (inr units) = further (nat_lt (suc j) k) refl units

-- labels at one address are one
one_label : (items : List Item) (j k : ℕ) → Gaps items → j < length items → k < length items → is_label (item_at items j).what ≡ true → is_label (item_at items k).what ≡ true → address_of items j ≡ address_of items k → j ≡ k
one_label items j k g within inside left right level = at (nat_lt j k) (nat_lt k j) refl refl
  where
    at : (b c : Bool) → nat_lt j k ≡ b → nat_lt k j ≡ c → j ≡ k
    at true c e f = absurd (let less = apart items j k g (grind (arith, nat_tests)) inside left right in omega (arith, less, level))
    at false true e f = absurd (let less = apart items k j g (grind (arith, nat_tests)) within right left in omega (arith, less, level))
    at false false e f = grind (arith, nat_tests)

-- ---- labels once

named_label : (name : List ℕ) (w : What) → is_label_named name w ≡ true → is_label w ≡ true
named_label name (what.Label own) e = refl
named_label name (what.Op op) e = absurd (cc)
named_label name (what.Packed first names) e = absurd (cc)
named_label name (what.Sparse keys names) e = absurd (cc)
named_label name (what.Data width bytes) e = absurd (cc)

not_second : (items : List Item) (units : List ℕ) (k : ℕ) (w : What) → KeepsAddresses items units → length units ≤ 16384 → Gaps items → k < length items → (item_at items k).what ≡ w → is_second items k w ≡ false
not_second items units k (what.Label name) kept short g within e =
    let a = address_of items k in
    let P : What → Type 0 = λ w. IsNamedBy w a in
    let own : name ≡ label_name a = subst P e (kept.labels k within) in
    let found = first_found (is_named name) items k (item_at items k) (slice_get-get_or items k no_item within) (ap (is_label_named name) e ∙ bytes_itself name) in
    let m = found.0 in
    let left : a < 2 ^ 32 = omega (arith, address_below items k within, kept.size, short) in
    let right : address_of items m < 2 ^ 32 = omega (arith, address_below items m found.2, kept.size, short) in
    let level : address_of items m ≡ a = named_so (item_at items m).what a (address_of items m) (ap (λ n. is_label_named n (item_at items m).what) (sym own) ∙ found.3) (kept.labels m found.2) left right in
    let same : m ≡ k = one_label items m k g found.2 within (named_label name (item_at items m).what found.3) (ap is_label e) level in
    ap (λ o. not (is_place k o)) found.1 ∙ ap not (ap (λ n. nat_eq n k) same ∙ itself k)
not_second items units k (what.Op op) kept short g within e = refl
not_second items units k (what.Packed first names) kept short g within e = refl
not_second items units k (what.Sparse keys names) kept short g within e = refl
not_second items units k (what.Data width bytes) kept short g within e = refl

-- no label of the draft has the name of an earlier one
pub labels_once : (d : DraftValue) → IsLaidOut d → label_twice (after_of d) ≡ None
labels_once d l =
    let after = after_of d in
    let h = known d l in
    let g : Gaps after = subst Gaps (sym h.start) (gaps (layout d) (pieces d) (all_named d) (length (layout d).units) (tiles d) (layout d).units 0 (tiles_are d l.formed l.numbers l.none l.fit)) in
    no_line (label_twice_at after) (length after)
    (λ k within. when_not (is_second after k (item_at after k).what) (item_at after k).line (not_second after (layout d).units k (item_at after k).what h.kept h.short g within refl))

-- ---- labels there

-- the label of an address stands among items
abbrev HasLabelAt : List Item → ℕ → Type 0
HasLabelAt items a = has_label items (label_name a) ≡ true

stood : (items : List Item) (a : ℕ) → Stands a items → HasLabelAt items a
stood items a s = ap is_some (first_found (is_named (label_name a)) items s.0 _ s.1 (bytes_itself (label_name a))).1

-- the label of an address that is named and that a label of the draft before has
there : (d : DraftValue) (name : List ℕ) → IsLaidOut d → has_label d.items name ≡ true → named.is_label_address (all_named d) (label_address d.items name) ≡ true → HasLabelAt (after_of d) (label_address d.items name)
there d name l has listed = stood (after_of d) (label_address d.items name) (stands_for d.items (after_of d) (layout d) (pieces d) (all_named d) name (known d l) has listed)

label_has : (items : List Item) (w : What) → is_label w ≡ true → has_labels items w ≡ true
label_has items (what.Label name) e = refl
label_has items (what.Op op) e = absurd (cc)
label_has items (what.Packed first names) e = absurd (cc)
label_has items (what.Sparse keys names) e = absurd (cc)
label_has items (what.Data width bytes) e = absurd (cc)

of_op : (d : DraftValue) (k : ℕ) (op : Draftop) (label : Option (List ℕ)) → IsLaidOut d → k < length d.items → (item_at d.items k).what ≡ what.Op op → op.label ≡ label → has_label_if_any d.items label ≡ true → has_label_if_any (after_of d) (drafted_op (layout d) (address_of d.items k) (insn_of d.items (pools_of d.items) k op)).label ≡ true
of_op d k op None l within e labelled has =
    let formed : IsOp op = subst IsFormed e (l.formed k no_item within) in
    let small = small_opcode (blank op.insn) (spelling (blank op.insn)) refl formed.form in
    let none : has_offset (format_at op.insn.op) ≡ false = sym formed.label ∙ ap is_some labelled in
    ap (has_label_if_any (after_of d)) (no_label_by (has_offset (format_at op.insn.op)) (address_of d.items k) (insn_of d.items (pools_of d.items) k op).off none)
of_op d k op (Some name) l within e labelled has =
    let formed : IsOp op = subst IsFormed e (l.formed k no_item within) in
    let small = small_opcode (blank op.insn) (spelling (blank op.insn)) refl formed.form in
    let some : has_offset (format_at op.insn.op) ≡ true = sym formed.label ∙ ap is_some labelled in
    let to = branch_to d.items (after_of d) (layout d) (pieces d) (all_named d) k op name (known d l) within e labelled some in
    ap (λ o. has_label_if_any (after_of d) (option_map label_name o)) to.0 ∙ there d name l has to.1

-- the labels of the distances of labels stand
targets_there : (d : DraftValue) (base : ℕ) (names : List (List ℕ)) → IsLaidOut d → list_all (has_label d.items) names ≡ true → AreListed d.items (all_named d) names → list_all (has_label (after_of d)) (labels_from base (map (distance d.items base) names)) ≡ true
targets_there d base [] l has listed = refl
targets_there d base (name ∷ names) l has listed =
    let here = both (has_label d.items name) _ has in
    let back : jump base (distance d.items base name) ≡ label_address d.items name = leads_back base (label_address d.items name) in
    joined (has_label (after_of d) (label_name (jump base (distance d.items base name)))) _
    (ap (λ n. has_label (after_of d) (label_name n)) back ∙ there d name l here.0 listed.0)
    (targets_there d base names l here.1 listed.1)

-- the labels of a payload's targets
of_targets : (d : DraftValue) (k : ℕ) (w : What) (p : Payload) (names : List (List ℕ)) → IsLaidOut d → k < length d.items → (item_at d.items k).what ≡ w → is_payload w ≡ true → tiles_at d.items (pools_of d.items) k w ≡ tile (address_of d.items k) (size_of w) (IsPayload p) ∷ [] → named.named_by_payload (named.switch_address (pieces d) (address_of d.items k)) p ≡ map (jump (named.switch_address (pieces d) (address_of d.items k))) (targets_of d.items (address_of d.items k) names) → list_all (has_label d.items) names ≡ true → list_all (has_label (after_of d)) (labels_from (named.switch_address (pieces d) (address_of d.items k)) (targets_of d.items (address_of d.items k) names)) ≡ true
of_targets d k w p names l within e payload tiles by has =
    let address = address_of d.items k in
    let ds = targets_of d.items address names in
    let before = (rebased d l k within (ap is_payload e ∙ payload)).before in
    let t = tile address (size_of w) (IsPayload p) in
    let mem = mem_to d.items (pools_of d.items) k (length d.items) t within (ap (tiles_at d.items (pools_of d.items) k) e ∙ tiles) in
    let all : (a : ℕ) → list_any (λ n. nat_eq n a) (map (jump (named.switch_address (pieces d) address)) ds) ≡ true → named.is_label_address (all_named d) a ≡ true =
    λ a h. tile_listed d.items (after_of d) (layout d) (pieces d) (all_named d) a t (known d l) (ap (list_any (λ n. nat_eq n a)) by ∙ h) mem in
    let P : ℕ → Type 0 = λ n. (a : ℕ) → list_any (λ m. nat_eq m a) (map (jump n) ds) ≡ true → named.is_label_address (all_named d) a ≡ true in
    ap (λ n. list_all (has_label (after_of d)) (labels_from n ds)) before ∙
    targets_there d (base_of d.items address) names l has (are_listed d.items (all_named d) (base_of d.items address) names (subst P before all))

of_payload : (d : DraftValue) (k : ℕ) (w : What) (p : Payload) → IsLaidOut d → k < length d.items → (item_at d.items k).what ≡ w → HasContent d k w p → has_labels d.items w ≡ true → has_labels (after_of d) (payload_item (named.switch_address (pieces d) (address_of d.items k)) p) ≡ true
of_payload d k (what.Label name) p l within e own has = absurd own
of_payload d k (what.Op op) p l within e own has = absurd own
of_payload d k (what.Packed first names) p l within e own has =
    ap (λ x. has_labels (after_of d) (payload_item (named.switch_address (pieces d) (address_of d.items k)) x)) (sym own) ∙
    of_targets d k (what.Packed first names) (packed_of d.items (address_of d.items k) first names) names l within e refl refl refl has
of_payload d k (what.Sparse keys names) p l within e own has =
    ap (λ x. has_labels (after_of d) (payload_item (named.switch_address (pieces d) (address_of d.items k)) x)) (sym own) ∙
    of_targets d k (what.Sparse keys names) (sparse_of d.items (address_of d.items k) keys names) names l within e refl refl refl has
of_payload d k (what.Data width bytes) p l within e own has =
    ap (λ x. has_labels (after_of d) (payload_item (named.switch_address (pieces d) (address_of d.items k)) x)) (sym own)

-- each label that an item of the draft names is one of its items
item_has : (d : DraftValue) → IsLaidOut d → (k : ℕ) → k < length (after_of d) → has_labels (after_of d) (item_at (after_of d) k).what ≡ true
item_has d l k within = at (origin d l k within)
  where
    before : (j : ℕ) → j < length d.items → has_labels d.items (item_at d.items j).what ≡ true
    before j inside = items_labelled d.items d.catches l.labels j inside

    at : Origin d k → has_labels (after_of d) (item_at (after_of d) k).what ≡ true
    at (inl label) = label_has (after_of d) (item_at (after_of d) k).what label
    at (inr (inl n)) =
        ap (has_labels (after_of d)) n.is ∙
        ap (has_label_if_any (after_of d)) (no_label_by (has_offset (format_at 0)) (address_of (after_of d) k) (pos 0) nop_offset)
    at (inr (inr (inl o))) =
        ap (has_labels (after_of d)) o.is ∙
        of_op d o.place o.op o.op.label l o.within o.own refl (ap (has_labels d.items) (sym o.own) ∙ before o.place o.within)
    at (inr (inr (inr p))) =
        ap (has_labels (after_of d)) p.is ∙
        of_payload d p.place (item_at d.items p.place).what p.payload l p.within refl p.own (before p.place p.within)

pub items_there : (d : DraftValue) → IsLaidOut d → first_line (no_label_at (after_of d)) (length (after_of d)) ≡ None
items_there d l =
    no_line (no_label_at (after_of d)) (length (after_of d))
    (λ k within. when_not (not (has_labels (after_of d) (item_at (after_of d) k).what)) (item_at (after_of d) k).line (ap not (item_has d l k within)))

-- ---- handlers

-- the labels of the addresses that a handler of the draft before names stand
record AreThere (d : DraftValue) (c : Catch) : Type 0 where
  start : HasLabelAt (after_of d) (label_address d.items c.from)
  end : HasLabelAt (after_of d) (label_address d.items c.to)
  at : HasLabelAt (after_of d) (label_address d.items c.at)

handler_there : (d : DraftValue) → IsLaidOut d → (j : ℕ) → j < length d.catches → AreThere d (catch_at d.catches j)
handler_there d l j within =
    let c = catch_at d.catches j in
    let first = both (has_label d.items c.from) _ (catches_labelled d.items d.catches l.labels j within) in
    let rest = both (has_label d.items c.to) (has_label d.items c.at) first.1 in
    let names = handler_named d.items d.catches j within in
    record {
      start = there d c.from l first.0 (entry_listed d (label_address d.items c.from) names.start);
      end = there d c.to l rest.0 (entry_listed d (label_address d.items c.to) names.end);
      at = there d c.at l rest.1 (entry_listed d (label_address d.items c.at) names.at);
    }

catch_has : (d : DraftValue) → IsLaidOut d → (k : ℕ) → k < length (draft_of (layout d)).catches → catch_has_labels (after_of d) (catch_at (draft_of (layout d)).catches k) ≡ true
catch_has d l k within =
    let c = catch_at (draft_of (layout d)).catches k in
    let f = handler_from d k within in
    let stand = handler_there d l f.place f.within in
    joined (has_label (after_of d) c.from) _ (ap (has_label (after_of d)) f.from ∙ stand.start)
    (joined (has_label (after_of d) c.to) (has_label (after_of d) c.at) (ap (has_label (after_of d)) f.to ∙ stand.end) (ap (has_label (after_of d)) f.at ∙ stand.at))

handlers_there : (d : DraftValue) → IsLaidOut d → first_line (no_label_of_catch_at (after_of d) (draft_of (layout d)).catches) (length (draft_of (layout d)).catches) ≡ None
handlers_there d l =
    no_line (no_label_of_catch_at (after_of d) (draft_of (layout d)).catches) (length (draft_of (layout d)).catches)
    (λ k within. when_not (not (catch_has_labels (after_of d) (catch_at (draft_of (layout d)).catches k))) (catch_at (draft_of (layout d)).catches k).line (ap not (catch_has d l k within)))

-- each label that the draft names is one of its items
pub labels_there : (d : DraftValue) → IsLaidOut d → no_label (after_of d) (draft_of (layout d)).catches ≡ None
labels_there d l =
    ap (λ o. earlier o (first_line (no_label_of_catch_at (after_of d) (draft_of (layout d)).catches) (length (draft_of (layout d)).catches))) (items_there d l) ∙ handlers_there d l
