-- Layout of the draft that is made of a laid-out body writes the body's units, where each piece is spelled as it was.
use Rattle.std.proofs.Common.{◌≡◌, ℕ, ◌+◌, ◌-◌, ◌<◌, ◌≤◌, zero, suc, Bool, true, false, inl, inr, List, [], ◌∷◌, ◌++◌, length, take, drop, nat_lt, Some, if◌then◌else◌, refl, ap, sym, ◌∙◌, subst, arith}
use Rattle.std.specs.Option.{unwrap_or}
use Rattle.std.proofs.lemmas.Bool.Decides.{nat_tests}
use Rattle.std.proofs.lemmas.List.{drop-drop, length-take-le}
use Rattle.std.proofs.Math.Seq.{take-length, take-add}
use Rattle.dv_defs.specs.Body.{BodyValue}
use Rattle.dv_defs.specs.Tiling.{Tile}
use Rattle.dv_defs.specs.Layout.{AreTiles, item_spelling}
use Rattle.dv_draft.specs.declared.draft.Item.{Item}
use Rattle.dv_draft.specs.declared.draft.What.{What}
use Rattle.dv_draft.specs.declared.pools.Pools.{Pools}
use Rattle.dv_asm.specs.Items.{item_at, size_of}
use Rattle.dv_asm.specs.Places.{address_of, end_of}
use Rattle.dv_asm.specs.Layout.{padded, spelling_of, units_of}
use Rattle.dv_print.specs.declared.pieces.Piece.{Piece}
use Rattle.dv_print.specs.Pieces.{part_of}
use Rattle.dv_print.specs.Drafting.{part_item, labels_at}
use Rattle.dv_print.proofs.Places.ItemTiles.{Mem}
use Rattle.dv_print.proofs.Places.Walk.{ArePlaced, ends_below}
use Rattle.dv_print.proofs.Places.PieceItems.{tile_items, IsEven, tile_size}
use Rattle.dv_print.proofs.Places.Placed.{HoldsOfTiles, items_placed}

-- a tile is spelled by its item as it was
abbrev pub IsSpelledAs : List Item → Pools → BodyValue → List Piece → Tile → Type 0
IsSpelledAs items pools b all t = (k : ℕ) → address_of items k ≡ t.at → spelling_of items pools k (part_item b all t.at (part_of t.item)) ≡ item_spelling t.item

-- an item that stands at an address is spelled as what stands there in the units
abbrev IsThere : List Item → Pools → List ℕ → What → ℕ → Type 0
IsThere items pools units w a = (k : ℕ) → address_of items k ≡ a → unwrap_or (spelling_of items pools k w) [] ≡ take (size_of w) (drop a units)

-- a tile's units are there
record HasUnits (t : Tile) (units : List ℕ) : Type 0 where
  room : t.size ≤ length (drop t.at units)
  spelled : item_spelling t.item ≡ Some (take t.size (drop t.at units))

has_units : (units : List ℕ) (ts : List Tile) (from : ℕ) (t : Tile) → AreTiles from ts (drop from units) → Mem t ts → HasUnits t units
has_units units [] from t tiles mem = absurd mem
has_units units (s ∷ ts) from t tiles (inl same) =
    let P : Tile → Type 0 = λ x. HasUnits x units in
    let Q : ℕ → Type 0 = λ n. (s.size ≤ length (drop n units)) × (item_spelling s.item ≡ Some (take s.size (drop n units))) in
    let here = subst Q (sym tiles.0) (tiles.1, tiles.2) in
    subst P same (record { room = here.0; spelled = here.1 })
has_units units (s ∷ ts) from t tiles (inr later) =
    let P : List ℕ → Type 0 = λ us. AreTiles (from + s.size) ts us in
    has_units units ts (from + s.size) t (subst P (drop-drop s.size from units) tiles.3) later

tiles_there : (b : BodyValue) (all : List Piece) (items : List Item) (pools : Pools) (ts : List Tile) → AreTiles 0 ts b.units → ((t : Tile) → Mem t ts → IsSpelledAs items pools b all t) → HoldsOfTiles (IsThere items pools b.units) b all ts
tiles_there b all items pools ts tiles spelled t mem k at =
    let h = has_units b.units ts 0 t tiles mem in
    ap (λ o. unwrap_or o []) (spelled t mem k at ∙ h.spelled) ∙ ap (λ n. take n (drop t.at b.units)) (sym (tile_size b all t (drop t.at b.units) h.room h.spelled))

pad_none : (n : ℕ) (units : List ℕ) → n ≤ length units → padded n (take n units) ≡ take n units
pad_none n units h = at (nat_lt (length (take n units)) n) refl
  where
    at : (b : Bool) → nat_lt (length (take n units)) n ≡ b → (if b then take n units ++ 0 ∷ [] else take n units) ≡ take n units
    at true e = let size = length-take-le n units h in absurd (let less : length (take n units) < n = grind (arith, nat_tests) in omega (arith, size, less))
    at false e = refl

-- the units of the first items are the first units
written : (items : List Item) (pools : Pools) (units : List ℕ) (k : ℕ) → ArePlaced (IsThere items pools units) items (length units) → k ≤ length items → units_of items pools k ≡ take (end_of items k) units
written items pools units zero p within = refl
written items pools units (suc k) p within =
    let end = end_of items k in
    let w = (item_at items k).what in
    let still : address_of items k ≡ end = p.stays k (omega arith) in
    let all : k + (length items - k) ≡ length items = omega (arith, within) in
    let room : end ≤ length units = omega (arith, ends_below items k (length items - k), ap (end_of items) all, p.size) in
    let front : padded (address_of items k) (units_of items pools k) ≡ take end units =
    ap (λ n. padded n (units_of items pools k)) still ∙ (ap (padded end) (written items pools units k p (omega arith)) ∙ pad_none end units room) in
    let own : unwrap_or (spelling_of items pools k w) [] ≡ take (size_of w) (drop end units) =
    p.placed k (omega arith) k refl ∙ ap (λ n. take (size_of w) (drop n units)) still in
    ap (λ us. us ++ unwrap_or (spelling_of items pools k w) []) front ∙
    (ap (λ us. take end units ++ us) own ∙ (sym (take-add end (size_of w) units) ∙ ap (λ n. take (n + size_of w) units) (sym still)))

-- where each piece is spelled as it was, the units are those of the body
pub units_kept : (b : BodyValue) (all : List Piece) (named : List ℕ) (items : List Item) (pools : Pools) (ts : List Tile) → items ≡ tile_items b all named ts ++ labels_at named (length b.units) → AreTiles 0 ts b.units → ((t : Tile) → Mem t ts → IsEven t) → ((t : Tile) → Mem t ts → IsSpelledAs items pools b all t) → units_of items pools (length items) ≡ b.units
units_kept b all named items pools ts start tiles even spelled =
    let p = items_placed (IsThere items pools b.units) b all named items ts (λ a k at. refl) (tiles_there b all items pools ts tiles spelled) start tiles even in
    written items pools b.units (length items) p (omega arith) ∙ (ap (λ n. take n b.units) p.size ∙ take-length b.units)
