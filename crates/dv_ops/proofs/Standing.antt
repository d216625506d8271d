-- The instruction that stands at an address.
use Rattle.std.proofs.Common.{◌≡◌, ℕ, ◌+◌, ◌/◌, ◌≤◌, Bool, true, false, List, [], ◌∷◌, length, drop, Option, Some, None, Result, Ok, Err, refl, ap, sym, ◌∙◌, subst, arith, is_some, ◌⊎◌, inl, inr}
use Rattle.dv_defs.specs.declared.code.Insn.{Insn}
use Rattle.dv_defs.specs.declared.code.Payload.{Payload}
use Rattle.dv_defs.specs.Spelling.{all_fit}
use Rattle.dv_defs.specs.Decoding.{Sized, insn_here}
use Rattle.dv_defs.specs.Tiling.{Item, IsInsn, IsPayload, Piece, SizedPayload, Tile, begins_payload, payload_of, payload_piece, insn_piece, piece_here, tiling, tiles_in, tile_at, insn_in, begins_insn}
use Rattle.dv_ops.specs.Places.{IsEdge, begins_as_insn}
use Rattle.dv_ops.proofs.Pieces.{none_past}
use Rattle.dv_units.proofs.PiecesHere.{FitsThere}
use Rattle.dv_ops.proofs.Tiles.{IsMet, meets, one_or_end}
use Rattle.dv_ops.proofs.Passing.{begins_tile}

-- ---- units that have tiles

abbrev Tiles : Result (List Tile) ℕ → List ℕ → ℕ → Type 0
Tiles r units at = (t : Tile) → tile_at (tiles_in r) at ≡ Some t → IsMet units 0 (tiles_in r) at t

met_by : (r : Result (List Tile) ℕ) (units : List ℕ) (at : ℕ) → all_fit 16 units ≡ true → tiling units ≡ r → Tiles r units at
met_by (Ok ts) units at fit e t k = meets units fit ts 0 at t (record { within = omega arith; tiles = e }) k
met_by (Err b) units at fit e t k = absurd (cc (k))

-- a tile is met by a walk from the start
pub met : (units : List ℕ) (at : ℕ) (t : Tile) → all_fit 16 units ≡ true → tile_at (tiles_in (tiling units)) at ≡ Some t → IsMet units 0 (tiles_in (tiling units)) at t
met units at t fit k = met_by (tiling units) units at fit refl t k

-- the units behind an item begin with an item, or there are none
pub next_edge : (units : List ℕ) (at : ℕ) (t : Tile) → all_fit 16 units ≡ true → IsMet units 0 (tiles_in (tiling units)) at t → IsEdge units (at + t.size)
next_edge units at t fit m =
    let same = m.same (at + t.size) (omega (arith, m.fits.positive)) in
    let P : Option Tile → Type 0 = λ o. (is_some o ≡ true) ⊎ (at + t.size ≡ length units) in
    subst P (sym same) (one_or_end (piece_here (drop (at + t.size) units)) units (at + t.size) m.rest fit refl m.follow)

-- ---- the instruction there

abbrev piece_if : Bool → Option SizedPayload → Option Sized → Option Piece
piece_if b o i = elim b [ true ↦ payload_piece o | false ↦ insn_piece i ]

is_no_insn : (p : Payload) (i : Insn) → IsPayload p ≡ IsInsn i → ⊥
is_no_insn p i e = cc (e)

insn_by : (b : Bool) (o : Option SizedPayload) (x : Option Sized) (i : Insn) (n : ℕ) → piece_if b o x ≡ Some (record { item = IsInsn i; size = n }) → x ≡ Some (record { insn = i; size = n })
insn_by true None x i n e = absurd (cc (e))
insn_by true (Some y) x i n e = absurd (let k : (let p : Piece = record { item = IsPayload y.payload; size = y.size } in p) ≡ record { item = IsInsn i; size = n } = cc (e) in is_no_insn y.payload i (ap (λ p. p.item) k))
insn_by false o None i n e = absurd (cc (e))
insn_by false o (Some x) i n e = grind (arith, e)

insn_first : (us : List ℕ) (i : Insn) (n : ℕ) → piece_here us ≡ Some (record { item = IsInsn i; size = n }) → insn_here us ≡ Some (record { insn = i; size = n })
insn_first [] i n e = absurd (cc (e))
insn_first (u ∷ us) i n e = insn_by (begins_payload u) (payload_of (u / 256) us) (insn_here (u ∷ us)) i n e

-- an instruction that stands at an address, with its size
pub record Stands (units : List ℕ) (at : ℕ) (i : Insn) (n : ℕ) : Type 0 where
  pub tile : tile_at (tiles_in (tiling units)) at ≡ Some (record { at = at; size = n; item = IsInsn i })
  pub here : insn_here (drop at units) ≡ Some (record { insn = i; size = n })
  pub fits : FitsThere units at n
  pub next : IsEdge units (at + n)

abbrev begins : Option Tile → Bool
begins o = is_some (elim o [ None ↦ None | Some t ↦ insn_in t.item ])

stands_item : (x : Item) (units : List ℕ) (at : ℕ) (b n : ℕ) → all_fit 16 units ≡ true → is_some (insn_in x) ≡ true → tile_at (tiles_in (tiling units)) at ≡ Some (record { at = b; size = n; item = x }) → (i : Insn) × (m : ℕ) × Stands units at i m
stands_item (IsPayload p) units at b n fit h e = absurd (cc (h))
stands_item (IsInsn i) units at b n fit h e =
    let m = met units at (record { at = b; size = n; item = IsInsn i }) fit e in
    let P : ℕ → Type 0 = λ a. tile_at (tiles_in (tiling units)) at ≡ Some (record { at = a; size = n; item = IsInsn i }) in (
      i,
      n,
      record {
        tile = subst P m.own e;
        here = insn_first (drop at units) i n m.piece;
        fits = m.fits;
        next = next_edge units at (record { at = b; size = n; item = IsInsn i }) fit m;
      },
    )

stands_by : (o : Option Tile) (units : List ℕ) (at : ℕ) → all_fit 16 units ≡ true → begins o ≡ true → tile_at (tiles_in (tiling units)) at ≡ o → (i : Insn) × (m : ℕ) × Stands units at i m
stands_by None units at fit h e = absurd (cc (h))
stands_by (Some t) units at fit h e = stands_item t.item units at t.at t.size fit h e

-- where an instruction begins, one stands
pub stands : (units : List ℕ) (at : ℕ) → all_fit 16 units ≡ true → begins_insn (tiles_in (tiling units)) at ≡ true → (i : Insn) × (m : ℕ) × Stands units at i m
stands units at fit h = stands_by (tile_at (tiles_in (tiling units)) at) units at fit h refl

-- it is the one that is read there
pub read_stands : (units : List ℕ) (at : ℕ) (i : Insn) (n : ℕ) → all_fit 16 units ≡ true → begins_insn (tiles_in (tiling units)) at ≡ true → insn_here (drop at units) ≡ Some (record { insn = i; size = n }) → Stands units at i n
read_stands units at i n fit h e =
    let (j, m, s) = stands units at fit h in
    let x : Sized = record { insn = j; size = m } in
    let y : Sized = record { insn = i; size = n } in
    let same : (let o : Option Sized = Some x in o) ≡ Some y = sym s.here ∙ e in
    let both : x ≡ y = cc (same) in
    let P : Sized → Type 0 = λ z. Stands units at z.insn z.size in
    subst P both s

-- ---- whether an instruction begins

edge_tile : (o : Option Tile) (units : List ℕ) (at : ℕ) → all_fit 16 units ≡ true → tile_at (tiles_in (tiling units)) at ≡ o → is_some o ≡ true → begins_as_insn (drop at units) ≡ begins o
edge_tile None units at fit e h = absurd (cc (h))
edge_tile (Some t) units at fit e h =
    let m = met units at t fit e in
    begins_tile units 0 at (tiles_in (tiling units)) t m

no_tile_by : (o : Option Tile) (units : List ℕ) (at : ℕ) → all_fit 16 units ≡ true → tile_at (tiles_in (tiling units)) at ≡ o → length units ≤ at → o ≡ None
no_tile_by None units at fit e h = refl
no_tile_by (Some t) units at fit e h = let m = met units at t fit e in absurd (omega (arith, m.fits.positive, m.fits.within, h))

-- no tile stands past the units
pub no_tile : (units : List ℕ) (at : ℕ) → all_fit 16 units ≡ true → length units ≤ at → tile_at (tiles_in (tiling units)) at ≡ None
no_tile units at fit h = no_tile_by (tile_at (tiles_in (tiling units)) at) units at fit refl h

-- at an edge an instruction begins where the first unit begins no payload
pub begins_next : (units : List ℕ) (at : ℕ) → all_fit 16 units ≡ true → IsEdge units at → begins_as_insn (drop at units) ≡ begins_insn (tiles_in (tiling units)) at
begins_next units at fit (inl h) = edge_tile (tile_at (tiles_in (tiling units)) at) units at fit refl h
begins_next units at fit (inr h) = ap begins_as_insn (none_past units at (omega (arith, h))) ∙ sym (ap begins (no_tile units at fit (omega (arith, h))))
