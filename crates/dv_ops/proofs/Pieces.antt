-- What stands where units begin, and how many units it has.
use Rattle.std.proofs.Common.{◌≡◌, ℕ, ◌<◌, ◌≤◌, ◌/◌, zero, suc, Bool, true, false, List, [], ◌∷◌, length, take, drop, get_or, Option, Some, None, refl, ap, sym, ◌∙◌, arith, length-drop, add-zero}
use Rattle.std.specs.Prelude.{option_map, IfSome}
use Rattle.std.proofs.lemmas.List.{get_or-drop, length-take-le}
use Rattle.dv_defs.specs.declared.code.Payload.{Payload}
use Rattle.dv_defs.specs.Spelling.{all_fit}
use Rattle.dv_defs.specs.Decoding.{Sized, insn_here}
use Rattle.dv_defs.specs.Tiling.{SizedPayload, Piece, begins_payload, payload_of, payload_piece, insn_piece, piece_here}
use Rattle.dv_defs.specs.Payloads.{payload_spelling, payload_here}
use Rattle.dv_defs.proofs.PayloadLaws.{payload_here_spelled}
use Rattle.dv_units.specs.Reading.{StandAt}
use Rattle.dv_units.proofs.Decoding.{fit_from}
use Rattle.dv_units.proofs.PayloadsHere.{none_stands, taken_stands}

abbrev payload_if : Bool → Option SizedPayload → Option SizedPayload
payload_if b o = elim b [ true ↦ o | false ↦ None ]

abbrev piece_if : Bool → Option SizedPayload → Option Sized → Option Piece
piece_if b o i = elim b [ true ↦ payload_piece o | false ↦ insn_piece i ]

payload_first : (us : List ℕ) → 0 < length us → begins_payload (get_or us 0 0) ≡ true → piece_here us ≡ payload_piece (payload_here us)
payload_first [] h b = absurd (omega arith)
payload_first (u ∷ us) h b =
    ap (λ c. piece_if c (payload_of (u / 256) us) (insn_here (u ∷ us))) b ∙
    ap (λ c. payload_piece (payload_if c (payload_of (u / 256) us))) (sym b)

insn_first : (us : List ℕ) → 0 < length us → begins_payload (get_or us 0 0) ≡ false → piece_here us ≡ insn_piece (insn_here us)
insn_first [] h b = absurd (omega arith)
insn_first (u ∷ us) h b = ap (λ c. piece_if c (payload_of (u / 256) us) (insn_here (u ∷ us))) b

first_there : (units : List ℕ) (at : ℕ) → get_or (drop at units) 0 0 ≡ get_or units at 0
first_there units at = get_or-drop at units 0 0 ∙ ap (λ k. get_or units k 0) (add-zero at)

-- what begins at an address
pub payload_begins : (units : List ℕ) (at : ℕ) → at < length units → begins_payload (get_or units at 0) ≡ true → piece_here (drop at units) ≡ payload_piece (payload_here (drop at units))
payload_begins units at h b = payload_first (drop at units) (omega (arith, length-drop at units)) (ap begins_payload (first_there units at) ∙ b)

pub insn_begins : (units : List ℕ) (at : ℕ) → at < length units → begins_payload (get_or units at 0) ≡ false → piece_here (drop at units) ≡ insn_piece (insn_here (drop at units))
insn_begins units at h b = insn_first (drop at units) (omega (arith, length-drop at units)) (ap begins_payload (first_there units at) ∙ b)

pub payload_piece_size : (o : Option SizedPayload) → option_map (λ p. p.size) (payload_piece o) ≡ option_map (λ x. x.size) o
payload_piece_size None = refl
payload_piece_size (Some x) = refl

pub insn_piece_size : (o : Option Sized) → option_map (λ p. p.size) (insn_piece o) ≡ option_map (λ x. x.size) o
insn_piece_size None = refl
insn_piece_size (Some x) = refl

no_units : (us : List ℕ) → length us ≤ 0 → us ≡ []
no_units [] h = refl
no_units (u ∷ us) h = absurd (omega arith)

pub none_past : (units : List ℕ) (at : ℕ) → length units ≤ at → drop at units ≡ []
none_past units at h = no_units (drop at units) (omega (arith, length-drop at units))

-- ---- the size of a payload, as it is found and as it is computed

abbrev Found : Option ℕ → List ℕ → ℕ → Type 0
Found r units at = IfSome r (λ n. (p : Payload) × (payload_spelling p ≡ Some (take n (drop at units))))

abbrev Every : Option ℕ → List ℕ → ℕ → Type 0
Every r units at = (p : Payload) (us : List ℕ) → payload_spelling p ≡ Some us → StandAt us units at → r ≡ Some (length us)

-- what is taken of units stands where they begin
begins_them : (n : ℕ) (us : List ℕ) → take n us ≡ take (length (take n us)) us
begins_them zero us = refl
begins_them (suc n) [] = refl
begins_them (suc n) (u ∷ us) = ap (λ xs. u ∷ xs) (begins_them n us)

found_there : (n : ℕ) (p : Payload) (us : List ℕ) → payload_spelling p ≡ Some (take n us) → payload_here us ≡ None → ⊥
found_there n p us e none = none_stands us p (take n us) none e (begins_them n us)

pub size_by : (o : Option SizedPayload) (r : Option ℕ) (units : List ℕ) (at : ℕ) → all_fit 16 units ≡ true → payload_here (drop at units) ≡ o → Found r units at → Every r units at → r ≡ option_map (λ x. x.size) o
size_by None None units at t e f v = refl
size_by None (Some n) units at t e f v = absurd (found_there n f.0 (drop at units) f.1 e)
size_by (Some x) r units at t e f v =
    let k = payload_here_spelled (drop at units) x.payload x.size (fit_from at units t) e in
    v x.payload (take x.size (drop at units)) k.1 (taken_stands x.size (drop at units) k.0) ∙ ap Some (length-take-le x.size (drop at units) k.0)
