-- Labels of the draft that is made of a laid-out body lead where they led.
use Rattle.std.proofs.Common.{◌≡◌, ℕ, ◌+◌, ◌-◌, ◌<◌, ◌≤◌, ◌^◌, suc, Bool, true, ◌⊎◌, inl, inr, List, [], ◌∷◌, ◌++◌, length, get_or, position, cond, Some, None, if◌then◌else◌, ap, sym, ◌∙◌, arith}
use Rattle.std.specs.Option.{option_map_or}
use Rattle.std.specs.List.{slice_get, position_or_len}
use Rattle.std.proofs.lemmas.Bool.{lt-ltb}
use Rattle.std.proofs.lemmas.List.Sums.{passes_at_first}
use Rattle.std.proofs.lemmas.Option.{slice_get_within, get_or_from_slice_get}
use Rattle.dv_defs.specs.Body.{BodyValue}
use Rattle.dv_defs.specs.Tiling.{Tile}
use Rattle.dv_draft.specs.declared.draft.Item.{Item}
use Rattle.dv_draft.specs.declared.draft.What.{What}
use Rattle.dv_draft.specs.declared.draft.What.TheVariants as what
use Rattle.dv_asm.specs.Items.{item_at, no_item, is_named, is_label_named}
use Rattle.dv_asm.specs.Places.{address_of, end_of, size_of_all, label_address}
use Rattle.dv_print.specs.declared.pieces.Piece.{Piece}
use Rattle.dv_print.specs.Numbers.{label_name}
use Rattle.dv_print.specs.Pieces.{piece_of}
use Rattle.dv_print.specs.Named as named
use Rattle.dv_print.specs.Drafting.{labels_at, piece_item, with_no_line, items_at}
use Rattle.dv_print.specs.Laws.{KeepsAddresses, IsNamedBy}
use Rattle.dv_print.proofs.Pools.Entries.{not_before, bytes_same, bytes_itself}
use Rattle.dv_print.proofs.Places.Labels.{labels_are_distinct}
use Rattle.dv_print.proofs.Places.Walk.{ends_below}
use Rattle.dv_print.proofs.Places.PieceItems.{tile_items}

-- ---- the address of a label by its name

pub address_below : (items : List Item) (k : ℕ) → k < length items → address_of items k ≤ size_of_all items
address_below items k within =
    let e : suc k + (length items - suc k) ≡ length items = omega arith in
    omega (arith, ends_below items (suc k) (length items - suc k), ap (end_of items) e)

-- where an item passes a test, the first that does is found
pub first_found : (test : Item → Bool) (items : List Item) (j : ℕ) (item : Item) → slice_get items j ≡ Some item → test item ≡ true → (m : ℕ) × (position test items ≡ Some m) × (m < length items) × (test (item_at items m) ≡ true)
first_found test items j item e h =
    let first = position_or_len test items in
    let passes : test (get_or items j no_item) ≡ true = ap test (get_or_from_slice_get items j item no_item e) ∙ h in
    let less : first < length items = omega (arith, not_before test items j no_item passes, slice_get_within items j item e) in
    (first, ap (λ b. cond b (Some first) None) (lt-ltb first (length items) less), less, passes_at_first test items no_item less)

pub named_so : (w : What) (a b : ℕ) → is_label_named (label_name a) w ≡ true → IsNamedBy w b → a < 2 ^ 32 → b < 2 ^ 32 → b ≡ a
named_so (what.Label own) a b e h p q = labels_are_distinct b a q p (sym h ∙ bytes_same own (label_name a) e)
named_so (what.Op op) a b e h p q = absurd (cc)
named_so (what.Packed first names) a b e h p q = absurd (cc)
named_so (what.Sparse keys names) a b e h p q = absurd (cc)
named_so (what.Data width bytes) a b e h p q = absurd (cc)

-- a label that stands leads to the address of its name
pub leads_there : (items : List Item) (units : List ℕ) (a j : ℕ) → KeepsAddresses items units → length units ≤ 16384 → a ≤ 16384 → slice_get items j ≡ Some (with_no_line (what.Label (label_name a))) → label_address items (label_name a) ≡ a
leads_there items units a j kept short small e =
    let found = first_found (is_named (label_name a)) items j _ e (bytes_itself (label_name a)) in
    let bound : address_of items found.0 < 2 ^ 32 = omega (arith, address_below items found.0 found.2, kept.size) in
    ap (λ o. option_map_or (address_of items) o 0) found.1 ∙
    named_so (item_at items found.0).what a (address_of items found.0) found.3 (kept.labels found.0 found.2) (omega arith) bound

-- ---- where labels stand

-- a tile stands at an address
abbrev pub HasAt : ℕ → List Tile → Type 0
HasAt a [] = ⊥
HasAt a (t ∷ ts) = (t.at ≡ a) ⊎ HasAt a ts

pub later_in : {X : Type 0} (xs ys : List X) (j : ℕ) (y : X) → slice_get ys j ≡ Some y → slice_get (xs ++ ys) (length xs + j) ≡ Some y
later_in [] ys j y e = let n : 0 + j ≡ j = omega arith in ap (slice_get ys) n ∙ e
later_in (x ∷ xs) ys j y e =
    let n : suc (length xs) + j ≡ suc (length xs + j) = omega arith in
    ap (slice_get (x ∷ xs ++ ys)) n ∙ later_in xs ys j y e

pub label_here : (names : List ℕ) (a : ℕ) → named.is_label_address names a ≡ true → labels_at names a ≡ with_no_line (what.Label (label_name a)) ∷ []
label_here names a e = ap (λ c. if c then with_no_line (what.Label (label_name a)) ∷ [] else []) e

abbrev pub Stands : ℕ → List Item → Type 0
Stands a items = (j : ℕ) × (slice_get items j ≡ Some (with_no_line (what.Label (label_name a))))

pub stands_in : (b : BodyValue) (all : List Piece) (names : List ℕ) (a : ℕ) (ts : List Tile) → named.is_label_address names a ≡ true → HasAt a ts → Stands a (tile_items b all names ts)
stands_in b all names a [] e h = absurd h
stands_in b all names a (t ∷ ts) e (inl same) =
    let here : named.is_label_address names t.at ≡ true = ap (named.is_label_address names) same ∙ e in
    let first = ap (λ ls. slice_get ((ls ++ piece_item b all (piece_of t) ∷ []) ++ tile_items b all names ts) 0) (label_here names t.at here) in
    (0, first ∙ ap (λ n. Some (with_no_line (what.Label (label_name n)))) same)
stands_in b all names a (t ∷ ts) e (inr later) =
    let at = stands_in b all names a ts e later in
    (length (items_at b all names (piece_of t)) + at.0, later_in (items_at b all names (piece_of t)) (tile_items b all names ts) at.0 _ at.1)
