-- What is known of the draft that is made of a laid-out body: where its labels stand and where they lead.
use Rattle.std.proofs.Common.{◌≡◌, ℕ, ◌+◌, ◌-◌, ◌<◌, ◌≤◌, true, ◌⊎◌, inl, inr, List, [], ◌∷◌, ◌++◌, length, map, nat_eq, Option, Some, None, is_some, refl, ap, sym, ◌∙◌, subst, arith}
use Rattle.std.specs.Option.{option_map_or}
use Rattle.std.specs.List.{slice_get, flat_map, list_any}
use Rattle.std.proofs.lemmas.List.Folds.{list_any-append}
use Rattle.std.proofs.lemmas.List.Quantifiers.{position-Some}
use Rattle.dv_defs.specs.Body.{BodyValue}
use Rattle.dv_defs.specs.Tiling.{Tile}
use Rattle.dv_draft.specs.declared.draft.Item.{Item}
use Rattle.dv_draft.specs.declared.draft.What.TheVariants as what
use Rattle.dv_asm.specs.Items.{no_item, is_named}
use Rattle.dv_asm.specs.Places.{address_of, end_of, place_of, label_address}
use Rattle.dv_asm.specs.Refusals.{has_label, too_long}
use Rattle.dv_print.proofs.Truth.{any_left}
use Rattle.dv_print.proofs.Pools.Entries.{appended}
use Rattle.dv_draft.specs.Pools.{pools_of}
use Rattle.dv_asm.proofs.PlaceLemmas.{label_within}
use Rattle.dv_print.specs.declared.pieces.Piece.{Piece}
use Rattle.dv_print.specs.Numbers.{label_name}
use Rattle.dv_print.specs.Pieces.{piece_of}
use Rattle.dv_print.specs.Named as named
use Rattle.dv_print.specs.Named.{named_by_piece, named_by_try, label_addresses}
use Rattle.dv_print.specs.Drafting.{labels_at, with_no_line}
use Rattle.dv_asm.specs.Tiles.{tiles_of}
use Rattle.dv_print.specs.Laws.{KeepsAddresses}
use Rattle.dv_print.proofs.Pools.KeptEntries.{HasPools}
use Rattle.dv_print.proofs.Places.Resolved.{HasAt, Stands, stands_in, later_in, label_here, leads_there}
use Rattle.dv_print.proofs.Places.ItemTiles.{Mem}
use Rattle.dv_print.proofs.Places.PieceItems.{tile_items}
use Rattle.dv_print.proofs.Places.Branches.{placed, named_by_tile}

-- what is known of the draft that is made of a laid-out body
pub record Known (items after : List Item) (b : BodyValue) (all : List Piece) (names : List ℕ) : Type 0 where
  pub short : length b.units ≤ 16384
  pub ends : end_of items (length items) ≡ length b.units
  pub pieces : all ≡ map piece_of (tiles_of items (pools_of items) (length items))
  pub names_are : names ≡ label_addresses all b.tries
  pub start : after ≡ tile_items b all names (tiles_of items (pools_of items) (length items)) ++ labels_at names (length b.units)
  pub kept : KeepsAddresses after b.units
  pub pools : HasPools b items

-- an address that is named has its label
pub stands_after : (items after : List Item) (b : BodyValue) (all : List Piece) (names : List ℕ) (a : ℕ) → Known items after b all names → named.is_label_address names a ≡ true → HasAt a (tiles_of items (pools_of items) (length items)) ⊎ (a ≡ length b.units) → Stands a after
stands_after items after b all names a h e (inl at) =
    let found = stands_in b all names a (tiles_of items (pools_of items) (length items)) e at in
    (found.0, ap (λ xs. slice_get xs found.0) h.start ∙ appended _ _ found.0 _ found.1)
stands_after items after b all names a h e (inr at) =
    let front = tile_items b all names (tiles_of items (pools_of items) (length items)) in
    let here : labels_at names (length b.units) ≡ with_no_line (what.Label (label_name a)) ∷ [] =
    ap (labels_at names) (sym at) ∙ label_here names a e in
    (length front + 0, ap (λ xs. slice_get xs (length front + 0)) h.start ∙ later_in front (labels_at names (length b.units)) 0 _ (ap (λ xs. slice_get xs 0) here))

label_placed : (items : List Item) (name : List ℕ) (place : Option ℕ) → place_of items name ≡ place → is_some place ≡ true → (j : ℕ) × (j < length items) × (label_address items name ≡ address_of items j)
label_placed items name None e h = absurd (cc)
label_placed items name (Some j) e h = (j, (position-Some (is_named name) items j no_item e).0, ap (λ o. option_map_or (address_of items) o 0) e)

-- a label that an item names and that is among the addresses that are named stands
pub stands_for : (items after : List Item) (b : BodyValue) (all : List Piece) (names : List ℕ) (name : List ℕ) → Known items after b all names → has_label items name ≡ true → named.is_label_address names (label_address items name) ≡ true → Stands (label_address items name) after
stands_for items after b all names name h has listed =
    let place = label_placed items name (place_of items name) refl has in
    let spot = placed items (pools_of items) (length b.units) (length items - place.0) place.0 h.ends (omega (arith, place.1)) in
    let P : ℕ → Type 0 = λ n. HasAt n (tiles_of items (pools_of items) (length items)) ⊎ (n ≡ length b.units) in
    stands_after items after b all names (label_address items name) h listed (subst P (sym place.2) spot)

-- and leads to its address
pub leads_to : (items after : List Item) (b : BodyValue) (all : List Piece) (names : List ℕ) (name : List ℕ) → Known items after b all names → too_long items ≡ None → has_label items name ≡ true → named.is_label_address names (label_address items name) ≡ true → label_address after (label_name (label_address items name)) ≡ label_address items name
leads_to items after b all names name h short has listed =
    let to = label_address items name in
    let stands = stands_for items after b all names name h has listed in
    leads_there after b.units to stands.0 h.kept h.short (label_within items name short) stands.1

-- what a tile names is among the addresses that are named
pub tile_listed : (items after : List Item) (b : BodyValue) (all : List Piece) (names : List ℕ) (a : ℕ) (t : Tile) → Known items after b all names → list_any (λ n. nat_eq n a) (named_by_piece all (piece_of t)) ≡ true → Mem t (tiles_of items (pools_of items) (length items)) → named.is_label_address names a ≡ true
tile_listed items after b all names a t h e mem =
    ap (λ ns. named.is_label_address ns a) h.names_are ∙
    (list_any-append (λ n. nat_eq n a) (flat_map (named_by_piece all) all) (flat_map named_by_try b.tries) ∙
    any_left _ _ (ap (λ ps. list_any (λ n. nat_eq n a) (flat_map (named_by_piece all) ps)) h.pieces ∙ named_by_tile all a t (tiles_of items (pools_of items) (length items)) e mem))
