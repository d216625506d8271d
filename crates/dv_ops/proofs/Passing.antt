-- A walk over the items of units from their start to an address.
use Rattle.std.proofs.Common.{◌≡◌, ℕ, ◌+◌, ◌/◌, ◌<◌, Bool, true, false, not, List, [], ◌∷◌, drop, Option, Some, None, Ok, refl, ap, sym, ◌∙◌, subst, arith, is_some}
use Rattle.std.specs.Prelude.{option_map}
use Rattle.dv_defs.specs.Spelling.{all_fit}
use Rattle.dv_defs.specs.Decoding.{Sized, insn_here}
use Rattle.dv_defs.specs.Tiling.{Piece, SizedPayload, Tile, IsInsn, IsPayload, begins_payload, payload_of, payload_piece, insn_piece, piece_here, tiling, tiles_in, tile_at, insn_in, begins_insn}
use Rattle.dv_ops.specs.Places.{begins_as_insn}
use Rattle.dv_ops.proofs.Pieces.{none_past}
use Rattle.dv_units.proofs.PiecesHere.{tile}
use Rattle.dv_ops.proofs.Tiles.{AreFrom, IsMet, step, end, none_before, met_first, met_later}

-- what stands at an address is to be found from here on
pub record IsWalk (units : List ℕ) (tiles : List Tile) (here at : ℕ) : Type 0 where
  pub rest : List Tile
  pub from : AreFrom units here rest
  pub same : tile_at tiles at ≡ tile_at rest at

pub at_start : (units : List ℕ) (at : ℕ) → tiling units ≡ Ok (tiles_in (tiling units)) → IsWalk units (tiles_in (tiling units)) 0 at
at_start units at e = record { rest = tiles_in (tiling units); from = record { within = omega arith; tiles = e }; same = refl }

one_more : (o : Option Piece) (units : List ℕ) (tiles : List Tile) (here at size : ℕ) → all_fit 16 units ≡ true → IsWalk units tiles here at → here < at → piece_here (drop here units) ≡ o → (let r : Option ℕ = Some size in r) ≡ option_map (λ p. p.size) o → IsWalk units tiles (here + size) at
one_more None units tiles here at size t w h e r = absurd (cc (r))
one_more (Some p) units tiles here at size t w h e r =
    let f = step units here p w.rest t w.from e in
    let same_size : p.size ≡ size = cc (r) in
    let P : ℕ → Type 0 = λ n. IsWalk units tiles (here + n) at in
    subst P same_size (record { rest = f.rest; from = f.follow; same = w.same ∙ (ap (λ xs. tile_at xs at) f.first ∙ met_later (tile here p) f.rest at h) })

-- an item is passed by
pub passed_by : (units : List ℕ) (tiles : List Tile) (here at size : ℕ) → all_fit 16 units ≡ true → IsWalk units tiles here at → here < at → (let r : Option ℕ = Some size in r) ≡ option_map (λ p. p.size) (piece_here (drop here units)) → IsWalk units tiles (here + size) at
passed_by units tiles here at size t w h r = one_more (piece_here (drop here units)) units tiles here at size t w h refl r

abbrev begins : Option Tile → Bool
begins o = is_some (elim o [ None ↦ None | Some t ↦ insn_in t.item ])

none_by : (o : Option Piece) (units : List ℕ) (tiles : List Tile) (here at : ℕ) → IsWalk units tiles here at → piece_here (drop here units) ≡ o → (let r : Option ℕ = None in r) ≡ option_map (λ p. p.size) o → false ≡ begins_insn tiles at
none_by None units tiles here at w e r =
    let none : tile_at tiles at ≡ None = w.same ∙ ap (λ xs. tile_at xs at) (end units here w.rest w.from e).0 in
    sym (ap begins none)
none_by (Some p) units tiles here at w e r = absurd (cc (r))

-- where no item begins, none is further on
pub none_further : (units : List ℕ) (tiles : List Tile) (here at : ℕ) → IsWalk units tiles here at → (let r : Option ℕ = None in r) ≡ option_map (λ p. p.size) (piece_here (drop here units)) → false ≡ begins_insn tiles at
none_further units tiles here at w r = none_by (piece_here (drop here units)) units tiles here at w refl r

-- what was passed without being met is no item
pub passed_over : (units : List ℕ) (tiles : List Tile) (here at : ℕ) → IsWalk units tiles here at → at < here → false ≡ begins_insn tiles at
passed_over units tiles here at w h =
    let none : tile_at tiles at ≡ None = w.same ∙ none_before units here at w.rest w.from h in
    sym (ap begins none)

-- ---- what begins at the address that the walk has come to

abbrev piece_if : Bool → Option SizedPayload → Option Sized → Option Piece
piece_if b o i = elim b [ true ↦ payload_piece o | false ↦ insn_piece i ]

abbrev is_insn : Piece → Bool
is_insn p = is_some (insn_in p.item)

insn_by : (b : Bool) (o : Option SizedPayload) (i : Option Sized) (p : Piece) → piece_if b o i ≡ Some p → not b ≡ is_insn p
insn_by true None i p e = absurd (cc (e))
insn_by true (Some x) i p e = let same : record { item = IsPayload x.payload; size = x.size } ≡ p = cc (e) in ap is_insn same
insn_by false o None p e = absurd (cc (e))
insn_by false o (Some x) p e = let same : record { item = IsInsn x.insn; size = x.size } ≡ p = cc (e) in ap is_insn same

begins_by : (us : List ℕ) (p : Piece) → piece_here us ≡ Some p → begins_as_insn us ≡ is_insn p
begins_by [] p e = absurd (cc (e))
begins_by (u ∷ us) p e = insn_by (begins_payload u) (payload_of (u / 256) us) (insn_here (u ∷ us)) p e

begins_at_by : (o : Option Piece) (units : List ℕ) (ts : List Tile) (at : ℕ) → all_fit 16 units ≡ true → AreFrom units at ts → piece_here (drop at units) ≡ o → begins_as_insn (drop at units) ≡ begins (tile_at ts at)
begins_at_by None units ts at t a e =
    let k = end units at ts a e in
    ap begins_as_insn (none_past units at (omega (arith, k.1))) ∙ sym (ap (λ xs. begins (tile_at xs at)) k.0)
begins_at_by (Some p) units ts at t a e =
    let f = step units at p ts t a e in
    begins_by (drop at units) p e ∙ sym (ap (λ xs. begins (tile_at xs at)) f.first ∙ ap begins (met_first (tile at p) f.rest at refl))

pub begins_at : (units : List ℕ) (ts : List Tile) (at : ℕ) → all_fit 16 units ≡ true → AreFrom units at ts → begins_as_insn (drop at units) ≡ begins_insn ts at
begins_at units ts at t a = begins_at_by (piece_here (drop at units)) units ts at t a refl

pub come_to : (units : List ℕ) (tiles : List Tile) (at : ℕ) → all_fit 16 units ≡ true → IsWalk units tiles at at → begins_as_insn (drop at units) ≡ begins_insn tiles at
come_to units tiles at t w = begins_at units w.rest at t w.from ∙ sym (ap begins w.same)

-- of a tile that was met
pub begins_tile : (units : List ℕ) (from at : ℕ) (ts : List Tile) (t : Tile) → IsMet units from ts at t → begins_as_insn (drop at units) ≡ is_some (insn_in t.item)
begins_tile units from at ts t m = begins_by (drop at units) (record { item = t.item; size = t.size }) m.piece
