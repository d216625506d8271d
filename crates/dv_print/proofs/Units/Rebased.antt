-- A payload's targets count from the same address in the draft that is made of a laid-out body as in the draft before it.
use Rattle.std.proofs.Common.{◌≡◌, ℕ, ◌+◌, ◌<◌, Bool, true, false, ◌⊎◌, inl, inr, List, [], ◌∷◌, ◌++◌, length, get_or, position, nat_eq, cond, Option, Some, None, if◌then◌else◌, refl, ap, sym, ◌∙◌, arith}
use Rattle.std.specs.Prelude.{option_map}
use Rattle.std.specs.Option.{option_map_or}
use Rattle.std.specs.List.{slice_get, position_or_len}
use Rattle.std.proofs.lemmas.Bool.{eqb-true, lt-ltb}
use Rattle.std.proofs.lemmas.Bool.Decides.{nat_tests}
use Rattle.std.proofs.lemmas.List.{length-map, get_or-map}
use Rattle.std.proofs.lemmas.Option.{slice_get_within, get_or_from_slice_get}
use Rattle.dv_defs.specs.declared.code.Insn.{Insn}
use Rattle.dv_defs.specs.declared.code.Payload.TheVariants as payload
use Rattle.dv_defs.specs.Body.{BodyValue}
use Rattle.dv_defs.specs.Numbers.{jump}
use Rattle.dv_defs.specs.Tiling as tiling
use Rattle.dv_defs.specs.Tiling.{IsInsn, IsPayload, Tile}
use Rattle.dv_draft.specs.declared.draft.Item.{Item}
use Rattle.dv_draft.specs.declared.draft.Draftop.{Draftop}
use Rattle.dv_draft.specs.declared.draft.What.{What}
use Rattle.dv_draft.specs.declared.draft.What.TheVariants as what
use Rattle.dv_draft.specs.declared.pools.Pools.{Pools}
use Rattle.dv_draft.specs.Draft.{AreFormed}
use Rattle.dv_asm.specs.Items.{item_at, no_item, is_label, is_switch_opcode}
use Rattle.dv_asm.specs.Places.{address_of, label_address, address_named_by}
use Rattle.dv_asm.specs.Refusals.{repeated, is_address, addresses_named, switch_of}
use Rattle.dv_asm.specs.Layout.{base_of}
use Rattle.dv_print.specs.declared.pieces.Piece.{Piece}
use Rattle.dv_print.specs.Numbers.{label_name}
use Rattle.dv_defs.specs.Formats.{format_at, has_offset}
use Rattle.dv_print.specs.Pieces.{part_of, piece_of}
use Rattle.dv_print.specs.Named.{target_of}
use Rattle.dv_print.specs.Drafting.{drafted_op, part_item, piece_item, labels_at, items_at}
use Rattle.dv_asm.specs.Tiles.{tiles_of}
use Rattle.dv_print.proofs.Truth.{either}
use Rattle.dv_print.proofs.Pools.Entries.{appended, not_before}
use Rattle.dv_print.proofs.Places.Resolved.{later_in}
use Rattle.dv_print.proofs.Places.ItemTiles.{Mem}
use Rattle.dv_print.proofs.Places.PieceItems.{tile_items}
use Rattle.dv_print.proofs.Places.Placed.{HoldsOfLabels, HoldsOfTiles}
use Rattle.dv_print.proofs.Units.SwitchTiles.{SwitchTo, TileTo, HasPayload, is_switch, names_it, own_switch, switch_found, switch_item, switch_tile}

-- ---- what stands in the draft

-- an item is made of a tile, and stands at its address
pub record IsOfTile (b : BodyValue) (all : List Piece) (ts : List Tile) (w : What) (a : ℕ) : Type 0 where
  pub tile : Tile
  pub mem : Mem tile ts
  pub is : w ≡ part_item b all tile.at (part_of tile.item)
  pub at : tile.at ≡ a

-- an item is a label, or is made of a tile and stands at its address
abbrev pub IsPlaced : BodyValue → List Piece → List Tile → What → ℕ → Type 0
IsPlaced b all ts w a = (is_label w ≡ true) ⊎ IsOfTile b all ts w a

pub labels_placed : (b : BodyValue) (all : List Piece) (ts : List Tile) → HoldsOfLabels (IsPlaced b all ts)
labels_placed b all ts a = inl refl

pub tiles_placed : (b : BodyValue) (all : List Piece) (ts : List Tile) → HoldsOfTiles (IsPlaced b all ts) b all ts
tiles_placed b all ts t mem = inr (record { tile = t; mem = mem; is = refl; at = refl })

-- the item of a tile stands in the draft
pub item_in : (b : BodyValue) (all : List Piece) (names : List ℕ) (t : Tile) (ts : List Tile) → Mem t ts → (j : ℕ) × (slice_get (tile_items b all names ts) j ≡ Some (piece_item b all (piece_of t)))
item_in b all names t [] h = absurd h
item_in b all names t (s ∷ ts) (inl same) =
    let own = piece_item b all (piece_of s) ∷ [] in
    let j = length (labels_at names s.at) + 0 in
    let here = later_in (labels_at names s.at) own 0 _ refl in
    (j, appended (labels_at names s.at ++ own) (tile_items b all names ts) j _ here ∙ ap (λ x. Some (piece_item b all (piece_of x))) same)
item_in b all names t (s ∷ ts) (inr later) =
    let at = item_in b all names t ts later in
    (length (items_at b all names (piece_of s)) + at.0, later_in (items_at b all names (piece_of s)) (tile_items b all names ts) at.0 _ at.1)

-- ---- the switches of the draft

-- an instruction of the draft is made of a tile that is an instruction
record OfInsn (b : BodyValue) (t : Tile) (op : Draftop) : Type 0 where
  insn : Insn
  is : t.item ≡ IsInsn insn
  made : op ≡ drafted_op b t.at insn

op_same : (p q : Draftop) → what.Op p ≡ what.Op q → p ≡ q
op_same p q e = cc

of_insn : (b : BodyValue) (all : List Piece) (t : Tile) (op : Draftop) (x : tiling.Item) → t.item ≡ x → what.Op op ≡ part_item b all t.at (part_of x) → OfInsn b t op
of_insn b all t op (IsInsn i) e h = record { insn = i; is = e; made = op_same op (drafted_op b t.at i) h }
of_insn b all t op (IsPayload (payload.Packed first targets)) e h = absurd (cc)
of_insn b all t op (IsPayload (payload.Sparse keys targets)) e h = absurd (cc)
of_insn b all t op (IsPayload (payload.Data width bytes)) e h = absurd (cc)

-- its label is that of its target
label_of : (a : ℕ) (c : Bool) (name : List ℕ) → option_map label_name (if c then Some a else None) ≡ Some name → name ≡ label_name a
label_of a true name e = cc
label_of a false name e = absurd (cc)

-- a switch has an offset
pub switch_offset : (op : ℕ) → is_switch_opcode op ≡ true → has_offset (format_at op) ≡ true
unfolding format_at
switch_offset op e = at (either (nat_eq op 0x2b) (nat_eq op 0x2c) e)
  where
    at : (nat_eq op 0x2b ≡ true) ⊎ (nat_eq op 0x2c ≡ true) → has_offset (format_at op) ≡ true
    at (inl h) = ap (λ n. has_offset (format_at n)) (eqb-true op 0x2b h)
    at (inr h) = ap (λ n. has_offset (format_at n)) (eqb-true op 0x2c h)

-- what is known of the two drafts
pub record Drafts (items after : List Item) (pools : Pools) (b : BodyValue) (all : List Piece) (names : List ℕ) (final : List Item) : Type 0 where
  pub formed : AreFormed items
  pub once : repeated items ≡ None
  pub start : after ≡ tile_items b all names (tiles_of items pools (length items)) ++ final
  pub placed : (k : ℕ) → k < length after → IsPlaced b all (tiles_of items pools (length items)) (item_at after k).what (address_of after k)
  pub leads : (k a : ℕ) → k < length items → SwitchTo items (item_at items k).what a → label_address after (label_name a) ≡ a

-- a switch of the draft is made of a switch of the draft before it, and stands where that stands
pub record IsAgain (items after : List Item) (j a : ℕ) : Type 0 where
  pub place : ℕ
  pub within : place < length items
  pub names : address_named_by items (item_at items place) ≡ Some a
  pub at : address_of after j ≡ address_of items place

pub again : (items after : List Item) (pools : Pools) (b : BodyValue) (all : List Piece) (names : List ℕ) (final : List Item) (j a : ℕ) → Drafts items after pools b all names final → j < length after → SwitchTo after (item_at after j).what a → IsAgain items after j a
again items after pools b all names final j a d within s = at (d.placed j within)
  where
    made : IsOfTile b all (tiles_of items pools (length items)) (item_at after j).what (address_of after j) → IsAgain items after j a
    made f =
        let o = of_insn b all f.tile s.op f.tile.item refl (sym s.is ∙ f.is) in
        let to = jump f.tile.at o.insn.off in
        let name : s.name ≡ label_name to = label_of to (has_offset (format_at o.insn.op)) s.name (sym (ap (λ (p : Draftop). p.label) o.made) ∙ s.label) in
        let t : TileTo to f.tile = record { insn = o.insn; is = o.is; opcode = sym (ap (λ (p : Draftop). is_switch_opcode p.insn.op) o.made) ∙ s.opcode; leads = refl } in
        let i = switch_item items pools f.tile to d.formed f.mem t in
        let same : to ≡ a = sym (d.leads i.place to i.within i.switch) ∙ (sym (ap (label_address after) name) ∙ s.leads) in
        record {
          place = i.place;
          within = i.within;
          names = names_it items (item_at items i.place).what to i.switch ∙ ap Some same;
          at = sym f.at ∙ i.at;
        }

    at : IsPlaced b all (tiles_of items pools (length items)) (item_at after j).what (address_of after j) → IsAgain items after j a
    at (inl label) =
        let not_label : is_label (what.Op s.op) ≡ true = sym (ap is_label s.is) ∙ label in
        absurd (cc (not_label))
    at (inr f) = made f

pub position_not : {X : Type 0} (p : X → Bool) (xs : List X) (j : ℕ) (d : X) → j < length xs → p (get_or xs j d) ≡ true → position p xs ≡ None → ⊥
position_not p xs j d within passes none =
    let less : position_or_len p xs < length xs = omega (arith, not_before p xs j d passes) in
    let some : position p xs ≡ Some (position_or_len p xs) = ap (λ c. cond c (Some (position_or_len p xs)) None) (lt-ltb (position_or_len p xs) (length xs) less) in
    cc (some, none)

-- a switch of the draft before it is a switch of the draft
kept_switch : (items after : List Item) (pools : Pools) (b : BodyValue) (all : List Piece) (names : List ℕ) (final : List Item) (k a : ℕ) → Drafts items after pools b all names final → k < length items → SwitchTo items (item_at items k).what a → switch_of after a ≡ None → ⊥
kept_switch items after pools b all names final k a d within s none =
    let t = switch_tile items pools k a within s in
    let i = t.to.insn in
    let (j, found) = item_in b all names t.tile (tiles_of items pools (length items)) t.mem in
    let here : slice_get after j ≡ Some (piece_item b all (piece_of t.tile)) = ap (λ xs. slice_get xs j) d.start ∙ appended _ final j _ found in
    let is : (piece_item b all (piece_of t.tile)).what ≡ what.Op (drafted_op b t.tile.at i) = ap (λ x. part_item b all t.tile.at (part_of x)) t.to.is in
    let to : jump t.tile.at i.off ≡ a = t.to.leads in
    let label : option_map label_name (target_of t.tile.at i) ≡ Some (label_name a) = ap (λ c. option_map label_name (if c then Some (jump t.tile.at i.off) else None)) (switch_offset i.op t.to.opcode) ∙ ap (λ n. Some (label_name n)) to in
    let switch : SwitchTo after (piece_item b all (piece_of t.tile)).what a = record { op = drafted_op b t.tile.at i; name = label_name a; is = is; opcode = t.to.opcode; label = label; leads = d.leads k a within s } in
    let inside = slice_get_within after j (piece_item b all (piece_of t.tile)) here in
    let count : length (addresses_named after) ≡ length after = simp length-map in
    let named : get_or (addresses_named after) j None ≡ Some a =
    get_or-map (address_named_by after) after j no_item None inside ∙
    (ap (address_named_by after) (get_or_from_slice_get after j _ no_item here) ∙ names_it after _ a switch) in
    let same : nat_eq a a ≡ true = grind (arith, nat_tests) in
    position_not (is_address a) (addresses_named after) j None (omega (arith, inside, count)) (ap (is_address a) named ∙ same) none

-- the targets of a payload count from the same address
pub base_after : (items after : List Item) (pools : Pools) (b : BodyValue) (all : List Piece) (names : List ℕ) (final : List Item) (a : ℕ) → Drafts items after pools b all names final → HasPayload items a → base_of after a ≡ base_of items a
base_after items after pools b all names final a d p = at (switch_of after a) refl
  where
    without : (place : Option ℕ) → switch_of items a ≡ place → switch_of after a ≡ None → 0 ≡ option_map_or (address_of items) place 0
    without None e h = refl
    without (Some k) e h =
        let k_names = switch_found items k a e in
        absurd (kept_switch items after pools b all names final k a d k_names.0 (is_switch items (item_at items k).what a k_names.1) h)

    at : (place : Option ℕ) → switch_of after a ≡ place → option_map_or (address_of after) place 0 ≡ base_of items a
    at None e = without (switch_of items a) refl e
    at (Some j) e =
        let j_names = switch_found after j a e in
        let i = again items after pools b all names final j a d j_names.0 (is_switch after (item_at after j).what a j_names.1) in
        let own = own_switch items i.place p.place a d.once i.within p.within p.payload p.at i.names in
        i.at ∙ sym (ap (λ o. option_map_or (address_of items) o 0) own)
