-- In the draft that is made of a body, layout puts each piece where it was, and no nop anywhere: each nop is an item.
use Rattle.std.proofs.Common.{◌≡◌, ℕ, ◌+◌, ◌%◌, Bool, true, false, inl, inr, List, [], ◌∷◌, ◌++◌, length, drop, if◌then◌else◌, refl, ap, sym, ◌∙◌, subst, arith, length-drop, append_assoc, add-zero}
use Rattle.dv_defs.specs.Body.{BodyValue}
use Rattle.dv_defs.specs.Tiling.{Tile}
use Rattle.dv_defs.specs.Layout.{AreTiles}
use Rattle.dv_draft.specs.declared.draft.Item.{Item}
use Rattle.dv_draft.specs.declared.draft.What.{What}
use Rattle.dv_draft.specs.declared.draft.What.TheVariants as what
use Rattle.dv_asm.specs.Items.{size_of}
use Rattle.dv_asm.specs.Places.{leads_to_payload}
use Rattle.dv_print.specs.declared.pieces.Piece.{Piece}
use Rattle.dv_print.specs.Numbers.{label_name}
use Rattle.dv_print.specs.Pieces.{part_of, piece_of}
use Rattle.dv_print.specs.Named.{is_label_address}
use Rattle.dv_print.specs.Drafting.{part_item, piece_item, with_no_line, labels_at}
use Rattle.dv_print.proofs.Places.ItemTiles.{Mem}
use Rattle.dv_print.proofs.Places.Walk.{stays, StandFrom, ArePlaced, are_placed}
use Rattle.dv_print.proofs.Places.PieceItems.{tile_items, IsEven, leads, tile_size}

-- what is to hold of items where they stand holds of labels at the addresses of their names
abbrev pub HoldsOfLabels : (What → ℕ → Type 0) → Type 0
HoldsOfLabels IsAt = (a : ℕ) → IsAt (what.Label (label_name a)) a

-- and of the pieces of these tiles
abbrev pub HoldsOfTiles : (What → ℕ → Type 0) → BodyValue → List Piece → List Tile → Type 0
HoldsOfTiles IsAt b all ts = (t : Tile) → Mem t ts → IsAt (part_item b all t.at (part_of t.item)) t.at

regroup : (ls : List Item) (x : Item) (from final : List Item) → ((ls ++ x ∷ []) ++ from) ++ final ≡ ls ++ x ∷ (from ++ final)
regroup ls x from final = append_assoc (ls ++ x ∷ []) from final ∙ append_assoc ls (x ∷ []) (from ++ final)

label_stands : (IsAt : What → ℕ → Type 0) (to from : ℕ) (c : Bool) (more : List Item) → HoldsOfLabels IsAt → (leads_to_payload more ≡ true → from % 2 ≡ 0) → StandFrom IsAt to from more → StandFrom IsAt to from ((if c then with_no_line (what.Label (label_name from)) ∷ [] else []) ++ more)
label_stands IsAt to from false more labels even s = s
label_stands IsAt to from true more labels even s =
    let P : ℕ → Type 0 = λ n. StandFrom IsAt to n more in
    (stays from (with_no_line (what.Label (label_name from)) ∷ more) even, labels from, subst P (sym (add-zero from)) s)

tiles_stand : (IsAt : What → ℕ → Type 0) (b : BodyValue) (all : List Piece) (named : List ℕ) (final : List Item) (to : ℕ) (ts : List Tile) (us : List ℕ) (from : ℕ) → HoldsOfLabels IsAt → HoldsOfTiles IsAt b all ts → ((t : Tile) → Mem t ts → IsEven t) → AreTiles from ts us → StandFrom IsAt to (from + length us) final → StandFrom IsAt to from (tile_items b all named ts ++ final)
tiles_stand IsAt b all named final to [] us from labels holds even tiles s =
    let P : ℕ → Type 0 = λ n. StandFrom IsAt to n final in
    subst P (let e : from + length us ≡ from = omega (arith, ap length tiles) in e) s
tiles_stand IsAt b all named final to (t ∷ ts) us from labels holds even tiles s =
    let x = piece_item b all (piece_of t) in
    let rest = tile_items b all named ts in
    let P : ℕ → Type 0 = λ n. StandFrom IsAt to n final in
    let Q : ℕ → Type 0 = λ n. StandFrom IsAt to n (rest ++ final) in
    let later = tiles_stand IsAt b all named final to ts (drop t.size us) (from + t.size) labels (λ r m. holds r (inr m)) (λ r m. even r (inr m)) tiles.3
    (subst P (let e : from + length us ≡ from + t.size + length (drop t.size us) = omega (arith, tiles.1, length-drop t.size us) in e) s) in
    let is_even : leads_to_payload (x ∷ (rest ++ final)) ≡ true → t.at % 2 ≡ 0 = λ h. even t (inl refl) (sym (leads b all t.at t.item (rest ++ final)) ∙ h) in
    let behind : StandFrom IsAt to (t.at + size_of x.what) (rest ++ final) =
    subst Q (let e : from + t.size ≡ t.at + size_of x.what = omega (arith, tiles.0, tile_size b all t us tiles.1 tiles.2) in e) later in
    let here = label_stands IsAt to t.at (is_label_address named t.at) (x ∷ (rest ++ final)) labels is_even (stays t.at (x ∷ (rest ++ final)) is_even, holds t (inl refl), behind) in
    let R : List Item → Type 0 = λ xs. StandFrom IsAt to t.at xs in
    let S : ℕ → Type 0 = λ n. StandFrom IsAt to n (tile_items b all named (t ∷ ts) ++ final) in
    subst S tiles.0 (subst R (sym (regroup (labels_at named t.at) x rest final)) here)

-- the items of a draft that is made of these tiles, with the label of the end
pub items_placed : (IsAt : What → ℕ → Type 0) (b : BodyValue) (all : List Piece) (named : List ℕ) (items : List Item) (ts : List Tile) → HoldsOfLabels IsAt → HoldsOfTiles IsAt b all ts → items ≡ tile_items b all named ts ++ labels_at named (length b.units) → AreTiles 0 ts b.units → ((t : Tile) → Mem t ts → IsEven t) → ArePlaced IsAt items (length b.units)
items_placed IsAt b all named items ts labels holds start tiles even =
    let to = length b.units in
    let end : StandFrom IsAt to to (labels_at named to) =
    let P : List Item → Type 0 = λ xs. StandFrom IsAt to to xs in
    subst P (last (is_label_address named to)) (label_stands IsAt to to (is_label_address named to) [] labels (λ h. absurd (cc)) refl) in
    let Q : List Item → Type 0 = λ xs. StandFrom IsAt to 0 xs in
    let R : ℕ → Type 0 = λ n. StandFrom IsAt to n (labels_at named to) in
    are_placed IsAt items to (subst Q (sym start) (tiles_stand IsAt b all named (labels_at named to) to ts b.units 0 labels holds even tiles (subst R (let e : to ≡ 0 + to = omega arith in e) end)))
  where
    last : (c : Bool) → (if c then with_no_line (what.Label (label_name (length b.units))) ∷ [] else []) ++ [] ≡ (if c then with_no_line (what.Label (label_name (length b.units))) ∷ [] else [])
    last true = refl
    last false = refl
