-- What stands at an address of units, and the tiling from there on.
use Rattle.std.proofs.Common.{◌≡◌, ℕ, ◌+◌, ◌-◌, ◌<◌, ◌≤◌, ◌/◌, zero, suc, Bool, true, false, List, [], ◌∷◌, length, drop, get_or, Option, Some, None, Result, Err, IsSomeAnd, refl, ap, sym, ◌∙◌, arith, length-drop, add-zero}
use Rattle.std.proofs.lemmas.List.{get_or-drop, length-take-le}
use Rattle.dv_defs.specs.declared.code.Payload.{Payload}
use Rattle.dv_defs.specs.Spelling.{all_fit}
use Rattle.dv_defs.specs.Decoding.{Sized, insn_here}
use Rattle.dv_defs.specs.Tiling.{Piece, SizedPayload, Tile, begins_payload, payload_of, payload_piece, insn_piece, piece_here, with_tile, tiled}
use Rattle.dv_defs.specs.Payloads.{payload_spelling, payload_here}
use Rattle.dv_defs.proofs.PayloadLaws.{payload_here_spelled}
use Rattle.dv_defs.proofs.TilingLaws.{item_positive, piece_here_spelled}
use Rattle.dv_units.specs.Reading.{StandAt}
use Rattle.dv_units.specs.Payloads.{PayloadStandsAt, NoPayloadStandsAt}
use Rattle.dv_units.proofs.Decoding.{fit_from}
use Rattle.dv_units.proofs.PayloadsHere.{stands_here, taken_stands}

-- ---- a payload

-- a payload that stands at an address, with its units
pub record Stands (p : Payload) (units : List ℕ) (at : ℕ) : Type 0 where
  pub spelling : List ℕ
  pub spells : payload_spelling p ≡ Some spelling
  pub stands : StandAt spelling units at
  pub here : payload_here (drop at units) ≡ Some (record { payload = p; size = length spelling })

stands_by : (o : Option (List ℕ)) (p : Payload) (units : List ℕ) (at : ℕ) → payload_spelling p ≡ o → IsSomeAnd o (λ us. StandAt us units at) → Stands p units at
stands_by None p units at e h = absurd h
stands_by (Some us) p units at e h = record { spelling = us; spells = e; stands = h; here = stands_here p us (drop at units) e h }

pub stands : (p : Payload) (units : List ℕ) (at : ℕ) → PayloadStandsAt p units at → Stands p units at
stands p units at h = stands_by (payload_spelling p) p units at refl h

none_by : (o : Option SizedPayload) (units : List ℕ) (at : ℕ) → all_fit 16 units ≡ true → payload_here (drop at units) ≡ o → NoPayloadStandsAt units at → o ≡ None
none_by None units at t e none = refl
none_by (Some x) units at t e none =
    let k = payload_here_spelled (drop at units) x.payload x.size (fit_from at units t) e in
    absurd (none x.payload _ k.1 (taken_stands x.size (drop at units) k.0))

-- where no payload stands, none is computed
pub no_payload_here : (units : List ℕ) (at : ℕ) → all_fit 16 units ≡ true → NoPayloadStandsAt units at → payload_here (drop at units) ≡ None
no_payload_here units at t none = none_by (payload_here (drop at units)) units at t refl none

-- ---- what begins at an address

abbrev payload_if : Bool → Option SizedPayload → Option SizedPayload
payload_if b o = elim b [ true ↦ o | false ↦ None ]

abbrev piece_if : Bool → Option SizedPayload → Option Sized → Option Piece
piece_if b o i = elim b [ true ↦ payload_piece o | false ↦ insn_piece i ]

payload_first : (us : List ℕ) → 0 < length us → begins_payload (get_or us 0 0) ≡ true → piece_here us ≡ payload_piece (payload_here us)
payload_first [] h b = absurd (omega arith)
payload_first (u ∷ us) h b =
    ap (λ c. piece_if c (payload_of (u / 256) us) (insn_here (u ∷ us))) b ∙ ap (λ c. payload_piece (payload_if c (payload_of (u / 256) us))) (sym b)

insn_first : (us : List ℕ) → 0 < length us → begins_payload (get_or us 0 0) ≡ false → piece_here us ≡ insn_piece (insn_here us)
insn_first [] h b = absurd (omega arith)
insn_first (u ∷ us) h b = ap (λ c. piece_if c (payload_of (u / 256) us) (insn_here (u ∷ us))) b

first_there : (units : List ℕ) (at : ℕ) → get_or (drop at units) 0 0 ≡ get_or units at 0
first_there units at = get_or-drop at units 0 0 ∙ ap (λ k. get_or units k 0) (add-zero at)

pub payload_begins : (units : List ℕ) (at : ℕ) → at < length units → begins_payload (get_or units at 0) ≡ true → piece_here (drop at units) ≡ payload_piece (payload_here (drop at units))
payload_begins units at h b = payload_first (drop at units) (omega (arith, length-drop at units)) (ap begins_payload (first_there units at) ∙ b)

pub insn_begins : (units : List ℕ) (at : ℕ) → at < length units → begins_payload (get_or units at 0) ≡ false → piece_here (drop at units) ≡ insn_piece (insn_here (drop at units))
insn_begins units at h b = insn_first (drop at units) (omega (arith, length-drop at units)) (ap begins_payload (first_there units at) ∙ b)

-- an item has units, and they are there
pub record FitsThere (units : List ℕ) (at size : ℕ) : Type 0 where
  pub positive : 0 < size
  pub within : at + size ≤ length units

inside : (us : List ℕ) (p : Piece) → piece_here us ≡ Some p → 0 < length us
inside [] p e = absurd (cc)
inside (u ∷ us) p e = omega arith

pub fits_there : (units : List ℕ) (at : ℕ) (p : Piece) → all_fit 16 units ≡ true → piece_here (drop at units) ≡ Some p → FitsThere units at p.size
fits_there units at p t e =
    let some = inside (drop at units) p e in
    let s = piece_here_spelled (drop at units) p.item p.size (fit_from at units t) e in
    record {
      positive = omega (arith, item_positive p.item _ s.1, length-take-le p.size (drop at units) s.0);
      within = omega (arith, s.0, some, length-drop at units);
    }

-- ---- the tiling from an address on

abbrev pub tile : ℕ → Piece → Tile
tile at p = record { at = at; size = p.size; item = p.item }

-- the units of an item are passed over
passed : (at k : ℕ) (us : List ℕ) → k ≤ length us → tiled at k us ≡ tiled (at + k) 0 (drop k us)
passed at zero us h = let e : at ≡ at + 0 = omega arith in ap (λ n. tiled n 0 us) e
passed at (suc k) [] h = absurd (omega arith)
passed at (suc k) (u ∷ us) h =
    let e : suc at + k ≡ at + suc k = omega arith in
    passed (suc at) k us (omega arith) ∙ ap (λ n. tiled n 0 (drop k us)) e

abbrev pub tile_first : ℕ → Option Piece → List ℕ → Result (List Tile) ℕ
tile_first at o us = elim o [ None ↦ Err at | Some p ↦ with_tile (record { at = at; size = p.size; item = p.item }) (tiled (suc at) (p.size - 1) us) ]

-- the tiling after an item
after : (at n : ℕ) (u : ℕ) (us : List ℕ) → 0 < n → n ≤ length (u ∷ us) → tiled (suc at) (n - 1) us ≡ tiled (at + n) 0 (drop n (u ∷ us))
after at zero u us p h = absurd (omega arith)
after at (suc k) u us p h =
    let e : suc k - 1 ≡ k = omega arith in
    let s : suc at + k ≡ at + suc k = omega arith in
    ap (λ n. tiled (suc at) n us) e ∙ (passed (suc at) k us (omega arith) ∙ ap (λ n. tiled n 0 (drop k us)) s)

pub next : (at : ℕ) (us : List ℕ) (p : Piece) → piece_here us ≡ Some p → 0 < p.size → p.size ≤ length us → tiled at 0 us ≡ with_tile (tile at p) (tiled (at + p.size) 0 (drop p.size us))
next at [] p e h k = absurd (cc)
next at (u ∷ us) p e h k = ap (λ o. tile_first at o us) e ∙ ap (with_tile (tile at p)) (after at p.size u us h k)

-- where nothing begins
pub none_next : (at : ℕ) (us : List ℕ) → piece_here us ≡ None → 0 < length us → tiled at 0 us ≡ Err at
none_next at [] e h = absurd (omega arith)
none_next at (u ∷ us) e h = ap (λ o. tile_first at o us) e
