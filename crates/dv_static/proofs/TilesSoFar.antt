-- A walk over units: the tiles that it has met, and those to come.
use Rattle.std.proofs.Common.{◌≡◌, ℕ, ◌+◌, ◌-◌, ◌<◌, ◌≤◌, zero, suc, List, [], ◌∷◌, ◌++◌, length, drop, Option, Some, None, Result, Ok, Err, refl, ap, sym, ◌∙◌, subst, arith, length-drop, append-nil, append_assoc}
use Rattle.std.specs.Prelude.{map, option_map}
use Rattle.std.proofs.lemmas.List.{drop-drop}
use Rattle.dv_defs.specs.Tiling as tiling
use Rattle.dv_defs.specs.Tiling.{IsInsn, IsPayload, piece_here, with_tile, tiled}
use Rattle.dv_static.specs.declared.tiles.Item.{Item}
use Rattle.dv_static.specs.declared.tiles.Tile.{Tile}
use Rattle.dv_static.specs.Tiles.{item_of, tile_of, code_item, item_sized}

abbrev with_done : List tiling.Tile → Result (List tiling.Tile) ℕ → Result (List tiling.Tile) ℕ
with_done done (Ok ts) = Ok (done ++ ts)
with_done done (Err at) = Err at

-- the tiles so far are those before an address
pub record AreSoFar (units : List ℕ) (done : List Tile) (at : ℕ) : Type 0 where
  pub within : at ≤ length units
  pub rest : with_done (map tile_of done) (tiled at 0 (drop at units)) ≡ tiling.tiling units

nothing_done : (r : Result (List tiling.Tile) ℕ) → with_done [] r ≡ r
nothing_done (Ok ts) = refl
nothing_done (Err at) = refl

pub at_start : (units : List ℕ) → AreSoFar units [] 0
at_start units = record { within = omega arith; rest = nothing_done (tiled 0 0 units) }

-- the units of an item are passed over
passed : (at k : ℕ) (us : List ℕ) → k ≤ length us → tiled at k us ≡ tiled (at + k) 0 (drop k us)
passed at zero us h = let e : at ≡ at + 0 = omega arith in ap (λ n. tiled n 0 us) e
passed at (suc k) [] h = absurd (omega arith)
passed at (suc k) (u ∷ us) h =
    let e : suc at + k ≡ at + suc k = omega arith in
    passed (suc at) k us (omega arith) ∙ ap (λ n. tiled n 0 (drop k us)) e

abbrev tile_first : ℕ → Option tiling.Piece → List ℕ → Result (List tiling.Tile) ℕ
tile_first at o us = elim o [ None ↦ Err at | Some p ↦ with_tile (record { at = at; size = p.size; item = p.item }) (tiled (suc at) (p.size - 1) us) ]

-- the tiling after an item
after : (at n : ℕ) (u : ℕ) (us : List ℕ) → 0 < n → n ≤ length (u ∷ us) → tiled (suc at) (n - 1) us ≡ tiled (at + n) 0 (drop n (u ∷ us))
after at zero u us p h = absurd (omega arith)
after at (suc k) u us p h =
    let e : suc k - 1 ≡ k = omega arith in
    let s : suc at + k ≡ at + suc k = omega arith in
    ap (λ n. tiled (suc at) n us) e ∙ (passed (suc at) k us (omega arith) ∙ ap (λ n. tiled n 0 (drop k us)) s)

abbrev tile : ℕ → tiling.Piece → tiling.Tile
tile at p = record { at = at; size = p.size; item = p.item }

next : (at : ℕ) (us : List ℕ) (p : tiling.Piece) → piece_here us ≡ Some p → 0 < p.size → p.size ≤ length us → tiled at 0 us ≡ with_tile (tile at p) (tiled (at + p.size) 0 (drop p.size us))
next at [] p e h k = absurd (cc)
next at (u ∷ us) p e h k = ap (λ o. tile_first at o us) e ∙ ap (with_tile (tile at p)) (after at p.size u us h k)

none_next : (at : ℕ) (us : List ℕ) → piece_here us ≡ None → 0 < length us → tiled at 0 us ≡ Err at
none_next at [] e h = absurd (omega arith)
none_next at (u ∷ us) e h = ap (λ o. tile_first at o us) e

one_done : (done : List tiling.Tile) (t : tiling.Tile) (r : Result (List tiling.Tile) ℕ) → with_done (done ++ t ∷ []) r ≡ with_done done (with_tile t r)
one_done done t (Ok ts) = ap Ok (append_assoc done (t ∷ []) ts)
one_done done t (Err at) = refl

same_item : (i : tiling.Item) → item_of (code_item i) ≡ i
same_item (IsInsn i) = refl
same_item (IsPayload p) = refl

map_push : (done : List Tile) (t : Tile) → map tile_of (done ++ t ∷ []) ≡ map tile_of done ++ tile_of t ∷ []
map_push [] t = refl
map_push (x ∷ done) t = ap (λ ts. tile_of x ∷ ts) (map_push done t)

-- one more tile
more : (units : List ℕ) (done : List Tile) (at : ℕ) (p : tiling.Piece) (t : Tile) → AreSoFar units done at → piece_here (drop at units) ≡ Some p → 0 < p.size → at + p.size ≤ length units → tile_of t ≡ tile at p → AreSoFar units (done ++ t ∷ []) (at + p.size)
more units done at p t s e h k same =
    let room : p.size ≤ length (drop at units) = omega (arith, length-drop at units) in
    let step = next at (drop at units) p e h room ∙ ap (λ us. with_tile (tile at p) (tiled (at + p.size) 0 us)) (drop-drop p.size at units) in
    let all = map_push done t ∙ ap (λ x. map tile_of done ++ x ∷ []) same in
    record {
      within = k;
      rest = ap (λ ts. with_done ts (tiled (at + p.size) 0 (drop (at + p.size) units))) all ∙
          (one_done (map tile_of done) (tile at p) (tiled (at + p.size) 0 (drop (at + p.size) units)) ∙ (ap (with_done (map tile_of done)) (sym step) ∙ s.rest));
    }

more_by : (o : Option tiling.Piece) (units : List ℕ) (done : List Tile) (at : ℕ) (i : Item) (size : ℕ) → AreSoFar units done at → piece_here (drop at units) ≡ o → (let r : Option (Item × ℕ) = Some (i, size) in r) ≡ option_map item_sized o → 0 < size → at + size ≤ length units → AreSoFar units (done ++ record { at = at; size = size; item = i } ∷ []) (at + size)
more_by None units done at i size s e r h k = absurd (cc)
more_by (Some p) units done at i size s e r h k =
    let parts : (let x : Item × ℕ = (i, size) in x) ≡ item_sized p = cc in
    let same_size : size ≡ p.size = ap (λ x. x.1) parts in
    let same : item_of i ≡ p.item = ap (λ x. item_of x.0) parts ∙ same_item p.item in
    let t : Tile = record { at = at; size = size; item = i } in
    let whole : tile_of t ≡ tile at p = cc in
    let Q : ℕ → Type 0 = λ n. AreSoFar units (done ++ t ∷ []) (at + n) in
    subst Q (sym same_size) (more units done at p t s e (omega arith) (omega arith) whole)

pub one_more : (units : List ℕ) (done : List Tile) (at : ℕ) (i : Item) (size : ℕ) → AreSoFar units done at → (let r : Option (Item × ℕ) = Some (i, size) in r) ≡ option_map item_sized (piece_here (drop at units)) → 0 < size → at + size ≤ length units → AreSoFar units (done ++ record { at = at; size = size; item = i } ∷ []) (at + size)
one_more units done at i size s r h k = more_by (piece_here (drop at units)) units done at i size s refl r h k

none_of : (o : Option tiling.Piece) → (let r : Option (Item × ℕ) = None in r) ≡ option_map item_sized o → o ≡ None
none_of None e = refl
none_of (Some p) e = absurd (cc)

-- where none begins at an address, it is the answer
pub none_more : (units : List ℕ) (done : List Tile) (at : ℕ) → AreSoFar units done at → at < length units → (let r : Option (Item × ℕ) = None in r) ≡ option_map item_sized (piece_here (drop at units)) → Err at ≡ tiling.tiling units
none_more units done at s h e =
    let room : 0 < length (drop at units) = omega (arith, length-drop at units) in
    let stops = none_next at (drop at units) (none_of (piece_here (drop at units)) e) room in
    ap (with_done (map tile_of done)) (sym stops) ∙ s.rest

no_units : (us : List ℕ) → length us ≤ 0 → us ≡ []
no_units [] h = refl
no_units (u ∷ us) h = absurd (omega arith)

-- at the end of the units these are all
pub at_end : (units : List ℕ) (done : List Tile) (at : ℕ) → AreSoFar units done at → length units ≤ at → Ok (map tile_of done) ≡ tiling.tiling units
at_end units done at s h =
    let none : drop at units ≡ [] = no_units (drop at units) (omega (arith, length-drop at units)) in
    let whole : with_done (map tile_of done) (tiled at 0 (drop at units)) ≡ Ok (map tile_of done ++ []) = ap (λ us. with_done (map tile_of done) (tiled at 0 us)) none in
    ap Ok (sym (append-nil (map tile_of done))) ∙ (sym whole ∙ s.rest)
