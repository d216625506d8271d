-- The pieces that a walk over units has met, and what stands at an address.
use Rattle.std.proofs.Common.{◌≡◌, ℕ, ◌+◌, ◌-◌, ◌<◌, ◌≤◌, ◌/◌, true, false, List, [], ◌∷◌, ◌++◌, length, drop, get_or, Option, Some, None, Result, Ok, Err, refl, ap, sym, ◌∙◌, subst, arith, length-drop, append-nil, append_assoc}
use Rattle.std.specs.Prelude.{map, option_map, IfSome, IfOk}
use Rattle.std.proofs.lemmas.List.{drop-drop}
use Rattle.dv_defs.specs.Spelling.{all_fit}
use Rattle.dv_defs.specs.Decoding.{Sized, insn_here}
use Rattle.dv_defs.specs.Tiling as tiling
use Rattle.dv_defs.specs.Tiling.{SizedPayload, Tile, begins_payload, payload_piece, insn_piece, piece_here, with_tile, tiled, tiles_in}
use Rattle.dv_defs.specs.Payloads.{payload_here}
use Rattle.dv_units.proofs.PiecesHere as here
use Rattle.dv_units.proofs.PiecesHere.{fits_there, next, none_next, tile}
use Rattle.dv_print.specs.declared.pieces.Part.{Part}
use Rattle.dv_print.specs.declared.pieces.Piece.{Piece}
use Rattle.dv_print.specs.Pieces.{part_of, piece_of, part_sized, insn_sized, payload_sized, pieces_of}

sized_payload : (o : Option SizedPayload) → option_map part_sized (payload_piece o) ≡ option_map payload_sized o
sized_payload None = refl
sized_payload (Some x) = refl

sized_insn : (o : Option Sized) → option_map part_sized (insn_piece o) ≡ option_map insn_sized o
sized_insn None = refl
sized_insn (Some x) = refl

-- the part that begins at an address
pub payload_begins : (units : List ℕ) (at : ℕ) → at < length units → begins_payload (get_or units at 0) ≡ true → option_map part_sized (piece_here (drop at units)) ≡ option_map payload_sized (payload_here (drop at units))
payload_begins units at h b = ap (option_map part_sized) (here.payload_begins units at h b) ∙ sized_payload (payload_here (drop at units))

pub insn_begins : (units : List ℕ) (at : ℕ) → at < length units → begins_payload (get_or units at 0) ≡ false → option_map part_sized (piece_here (drop at units)) ≡ option_map insn_sized (insn_here (drop at units))
insn_begins units at h b = ap (option_map part_sized) (here.insn_begins units at h b) ∙ sized_insn (insn_here (drop at units))

part_by : (o : Option tiling.Piece) (units : List ℕ) (at : ℕ) → all_fit 16 units ≡ true → at < length units → piece_here (drop at units) ≡ o → IfSome (option_map part_sized o) (λ x. (0 < x.1) × (at + x.1 ≤ length units))
part_by None units at t h e = tt
part_by (Some p) units at t h e = let f = fits_there units at p t e in (f.positive, f.within)

pub part_fits : (r : Option (Part × ℕ)) (units : List ℕ) (at : ℕ) → all_fit 16 units ≡ true → at < length units → r ≡ option_map part_sized (piece_here (drop at units)) → IfSome r (λ x. (0 < x.1) × (at + x.1 ≤ length units))
part_fits r units at t h e =
    let P : Option (Part × ℕ) → Type 0 = λ o. IfSome o (λ x. (0 < x.1) × (at + x.1 ≤ length units)) in
    subst P (sym e) (part_by (piece_here (drop at units)) units at t h refl)

pub payload_fits : {E : Type 0} (r : Result (Option (Part × ℕ)) E) (units : List ℕ) (at : ℕ) → all_fit 16 units ≡ true → at < length units → begins_payload (get_or units at 0) ≡ true → IfOk r (λ x. x ≡ option_map payload_sized (payload_here (drop at units))) → IfOk r (λ x. IfSome x (λ y. (0 < y.1) × (at + y.1 ≤ length units)))
payload_fits (Ok x) units at t h b e = part_fits x units at t h (e ∙ sym (payload_begins units at h b))
payload_fits (Err x) units at t h b e = tt

-- ---- the walk

abbrev shown : Result (List Tile) ℕ → Option (List Piece)
shown (Ok ts) = Some (map piece_of ts)
shown (Err at) = None

abbrev with_done : List Piece → Option (List Piece) → Option (List Piece)
with_done done None = None
with_done done (Some ps) = Some (done ++ ps)

-- the pieces so far are those before an address
pub record AreSoFar (units : List ℕ) (done : List Piece) (at : ℕ) : Type 0 where
  pub within : at ≤ length units
  pub rest : with_done done (shown (tiled at 0 (drop at units))) ≡ shown (tiling.tiling units)

nothing_done : (o : Option (List Piece)) → with_done [] o ≡ o
nothing_done None = refl
nothing_done (Some ps) = refl

pub at_start : (units : List ℕ) → AreSoFar units [] 0
at_start units = record { within = omega arith; rest = nothing_done (shown (tiled 0 0 units)) }

one_done : (done : List Piece) (t : Tile) (r : Result (List Tile) ℕ) → with_done (done ++ piece_of t ∷ []) (shown r) ≡ with_done done (shown (with_tile t r))
one_done done t (Ok ts) = ap Some (append_assoc done (piece_of t ∷ []) (map piece_of ts))
one_done done t (Err at) = refl

-- one more piece
more : (units : List ℕ) (done : List Piece) (at : ℕ) (p : tiling.Piece) → AreSoFar units done at → piece_here (drop at units) ≡ Some p → 0 < p.size → at + p.size ≤ length units → AreSoFar units (done ++ piece_of (tile at p) ∷ []) (at + p.size)
more units done at p s e h k =
    let room : p.size ≤ length (drop at units) = omega (arith, length-drop at units) in
    let step = next at (drop at units) p e h room ∙ ap (λ us. with_tile (tile at p) (tiled (at + p.size) 0 us)) (drop-drop p.size at units) in
    record {
      within = k;
      rest = one_done done (tile at p) (tiled (at + p.size) 0 (drop (at + p.size) units)) ∙ (ap (λ r. with_done done (shown r)) (sym step) ∙ s.rest);
    }

more_by : (o : Option tiling.Piece) (units : List ℕ) (done : List Piece) (at : ℕ) (q : Part) (size : ℕ) → AreSoFar units done at → piece_here (drop at units) ≡ o → (let r : Option (Part × ℕ) = Some (q, size) in r) ≡ option_map part_sized o → 0 < size → at + size ≤ length units → AreSoFar units (done ++ record { at = at; part = q } ∷ []) (at + size)
more_by None units done at q size s e r h k = absurd (cc)
more_by (Some p) units done at q size s e r h k =
    let parts : (let x : Part × ℕ = (q, size) in x) ≡ part_sized p = cc in
    let same_part : part_of p.item ≡ q = sym (ap (λ x. x.0) parts) in
    let same_size : p.size ≡ size = sym (ap (λ x. x.1) parts) in
    let P : Part → Type 0 = λ x. AreSoFar units (done ++ record { at = at; part = x } ∷ []) (at + size) in
    let Q : ℕ → Type 0 = λ n. AreSoFar units (done ++ piece_of (tile at p) ∷ []) (at + n) in
    subst P same_part (subst Q same_size (more units done at p s e (omega arith) (omega arith)))

pub one_more : (units : List ℕ) (done : List Piece) (at : ℕ) (q : Part) (size : ℕ) → AreSoFar units done at → (let r : Option (Part × ℕ) = Some (q, size) in r) ≡ option_map part_sized (piece_here (drop at units)) → 0 < size → at + size ≤ length units → AreSoFar units (done ++ record { at = at; part = q } ∷ []) (at + size)
one_more units done at q size s r h k = more_by (piece_here (drop at units)) units done at q size s refl r h k

abbrev IsShown : Option (List Piece) → Result (List Tile) ℕ → Type 0
IsShown None r = map piece_of (tiles_in r) ≡ []
IsShown (Some ps) r = map piece_of (tiles_in r) ≡ ps

is_shown : (r : Result (List Tile) ℕ) → IsShown (shown r) r
is_shown (Ok ts) = refl
is_shown (Err at) = refl

shown_as : (o : Option (List Piece)) (r : Result (List Tile) ℕ) → o ≡ shown r → IsShown o r
shown_as o r e = let P : Option (List Piece) → Type 0 = λ x. IsShown x r in subst P (sym e) (is_shown r)

none_of : (o : Option tiling.Piece) → (let r : Option (Part × ℕ) = None in r) ≡ option_map part_sized o → o ≡ None
none_of None e = refl
none_of (Some p) e = absurd (cc)

-- where none begins at an address, there are none at all
pub none_more : (units : List ℕ) (done : List Piece) (at : ℕ) → AreSoFar units done at → at < length units → (let r : Option (Part × ℕ) = None in r) ≡ option_map part_sized (piece_here (drop at units)) → [] ≡ pieces_of units
none_more units done at s h e =
    let room : 0 < length (drop at units) = omega (arith, length-drop at units) in
    let stops = none_next at (drop at units) (none_of (piece_here (drop at units)) e) room in
    sym (shown_as None (tiling.tiling units) (sym (ap (λ r. with_done done (shown r)) stops) ∙ s.rest))

no_units : (us : List ℕ) → length us ≤ 0 → us ≡ []
no_units [] h = refl
no_units (u ∷ us) h = absurd (omega arith)

-- at the end of the units there are no further pieces
pub at_end : (units : List ℕ) (done : List Piece) (at : ℕ) → AreSoFar units done at → length units ≤ at → done ≡ pieces_of units
at_end units done at s h =
    let none : drop at units ≡ [] = no_units (drop at units) (omega (arith, length-drop at units)) in
    let whole : with_done done (shown (tiled at 0 (drop at units))) ≡ Some (done ++ []) = ap (λ us. with_done done (shown (tiled at 0 us))) none in
    sym (shown_as (Some done) (tiling.tiling units) (ap Some (sym (append-nil done)) ∙ (sym whole ∙ s.rest)))
