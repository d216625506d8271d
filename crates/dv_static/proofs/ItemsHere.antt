-- What stands at an address of units.
use Rattle.std.proofs.Common.{◌≡◌, ℕ, ◌+◌, ◌<◌, ◌≤◌, ◌/◌, true, false, List, ◌∷◌, length, drop, get_or, Option, Some, None, Result, Ok, Err, refl, ap, sym, ◌∙◌, subst}
use Rattle.std.specs.Prelude.{option_map, IfSome, IfOk}
use Rattle.dv_defs.specs.Spelling.{all_fit}
use Rattle.dv_defs.specs.Decoding.{Sized, insn_here}
use Rattle.dv_defs.specs.Tiling as tiling
use Rattle.dv_defs.specs.Tiling.{SizedPayload, begins_payload, payload_piece, insn_piece, piece_here}
use Rattle.dv_defs.specs.Payloads.{payload_here}
use Rattle.dv_units.proofs.PiecesHere as here
use Rattle.dv_units.proofs.PiecesHere.{fits_there}
use Rattle.dv_static.specs.declared.tiles.Item.{Item}
use Rattle.dv_static.specs.Tiles.{item_sized, insn_sized, payload_sized}

sized_payload : (o : Option SizedPayload) → option_map item_sized (payload_piece o) ≡ option_map payload_sized o
sized_payload None = refl
sized_payload (Some x) = refl

sized_insn : (o : Option Sized) → option_map item_sized (insn_piece o) ≡ option_map insn_sized o
sized_insn None = refl
sized_insn (Some x) = refl

-- the item that begins at an address
pub payload_begins : (units : List ℕ) (at : ℕ) → at < length units → begins_payload (get_or units at 0) ≡ true → option_map item_sized (piece_here (drop at units)) ≡ option_map payload_sized (payload_here (drop at units))
payload_begins units at h b = ap (option_map item_sized) (here.payload_begins units at h b) ∙ sized_payload (payload_here (drop at units))

pub insn_begins : (units : List ℕ) (at : ℕ) → at < length units → begins_payload (get_or units at 0) ≡ false → option_map item_sized (piece_here (drop at units)) ≡ option_map insn_sized (insn_here (drop at units))
insn_begins units at h b = ap (option_map item_sized) (here.insn_begins units at h b) ∙ sized_insn (insn_here (drop at units))

item_by : (o : Option tiling.Piece) (units : List ℕ) (at : ℕ) → all_fit 16 units ≡ true → at < length units → piece_here (drop at units) ≡ o → IfSome (option_map item_sized o) (λ x. (0 < x.1) × (at + x.1 ≤ length units))
item_by None units at t h e = tt
item_by (Some p) units at t h e = let f = fits_there units at p t e in (f.positive, f.within)

pub item_fits : (r : Option (Item × ℕ)) (units : List ℕ) (at : ℕ) → all_fit 16 units ≡ true → at < length units → r ≡ option_map item_sized (piece_here (drop at units)) → IfSome r (λ x. (0 < x.1) × (at + x.1 ≤ length units))
item_fits r units at t h e =
    let P : Option (Item × ℕ) → Type 0 = λ o. IfSome o (λ x. (0 < x.1) × (at + x.1 ≤ length units)) in
    subst P (sym e) (item_by (piece_here (drop at units)) units at t h refl)

pub payload_fits : {E : Type 0} (r : Result (Option (Item × ℕ)) E) (units : List ℕ) (at : ℕ) → all_fit 16 units ≡ true → at < length units → begins_payload (get_or units at 0) ≡ true → IfOk r (λ x. x ≡ option_map payload_sized (payload_here (drop at units))) → IfOk r (λ x. IfSome x (λ y. (0 < y.1) × (at + y.1 ≤ length units)))
payload_fits (Ok x) units at t h b e = item_fits x units at t h (e ∙ sym (payload_begins units at h b))
payload_fits (Err x) units at t h b e = tt
