-- A payload that a method's items have is spelled where it stands.
use Rattle.std.proofs.Common.{◌≡◌, ℕ, List, drop, Option, Some, None, Result, Ok, Err, refl, sym, ap, ◌∙◌, subst, arith}
use Rattle.std.proofs.lemmas.Option.{same_Some}
use Rattle.dv_defs.specs.declared.code.Payload.{Payload}
use Rattle.dv_defs.specs.Tiling.{Item, IsInsn, IsPayload, Piece, Tile, payload_in, piece_here, tile_at, tiles_in, tiling}
use Rattle.dv_words.specs.Fetching.{IsSpelled, PayloadsAreThere}
use Rattle.law_words.proofs.Fetching.{tile_found}

payload_item : (y : Item) (p : Payload) → payload_in y ≡ Some p → y ≡ IsPayload p
payload_item (IsInsn i) p e = absurd (cc)
payload_item (IsPayload q) p e = ap IsPayload (same_Some q p e)

abbrev payload_of_tile : Option Tile → Option Payload
payload_of_tile o = elim o [ None ↦ None | Some t ↦ payload_in t.item ]

spelled_in : (units : List ℕ) (at : ℕ) (p : Payload) (r : Result (List Tile) ℕ) (o : Option Tile) → tiling units ≡ r → tile_at (tiles_in r) at ≡ o → payload_of_tile o ≡ Some p → IsSpelled units at p
spelled_in units at p (Err n) o is found e = absurd (let d : None ≡ o = found in let f : payload_of_tile None ≡ Some p = ap payload_of_tile d ∙ e in cc f)
spelled_in units at p (Ok ts) None is found e = absurd (cc e)
spelled_in units at p (Ok ts) (Some t) is found e =
    let h = tile_found units 0 0 at ts t is found in
    let on : h.on ≡ at = sym (omega (arith, h.place)) in
    let piece = subst (λ (k : ℕ). piece_here (drop k units) ≡ Some (record { item = t.item; size = t.size })) on h.here.piece in
    record { size = t.size; read = piece ∙ ap (λ (y : Item). (let q : Option Piece = Some (record { item = y; size = t.size }) in q)) (payload_item t.item p e) }

pub payloads_are_there : PayloadsAreThere
payloads_are_there units at p e = spelled_in units at p (tiling units) (tile_at (tiles_in (tiling units)) at) refl refl e
