use Rattle.std.proofs.Common.{◌≡◌, ℕ, length, Option, Some, Err, rules, ap, sym, ◌∙◌, subst}
use Rattle.std.specs.Prelude.{option_map, IsSome}
use Rattle.dv_units.specs.declared.error.UnitError.TheVariants.{BadPayload}
use Rattle.dv_units.proofs.Decoding.{units_fit}
use Rattle.dv_print.specs.declared.pieces.Part.TheVariants as part
use Rattle.dv_print.specs.Pieces.{payload_sized}
use Rattle.dv_units.proofs.PiecesHere.{stands, no_payload_here}
use Rattle.dv_print.proofs.pieces.payload_at.Goals as goal

pub unwrap-size-requires : goal.unwrap-size-requires
unwrap-size-requires c =
    let s = stands c.in-Ok.payload c.args.units.now c.args.at c.in-Ok.ensures.read in
    let found = c.payload_size.ensures.every c.in-Ok.payload s.spelling s.spells s.stands in
    let P : Option ℕ → Type 0 = λ o. IsSome o in
    subst P (sym found) (search rules)

pub returns-in-Ok : goal.returns-in-Ok
returns-in-Ok c =
    let s = stands c.in-Ok.payload c.args.units.now c.args.at c.in-Ok.ensures.read in
    let found = c.payload_size.ensures.every c.in-Ok.payload s.spelling s.spells s.stands in
    let size : c.unwrap-size.result ≡ length s.spelling = cc (found, c.unwrap-size.ensures) in
    ap (λ n. Some (part.Payload c.in-Ok.payload, n)) size ∙ ap (option_map payload_sized) (sym s.here)

pub returns-in-Err-BadPayload : goal.returns-in-Err-BadPayload
returns-in-Err-BadPayload c =
    let e : c.decode_payload.result ≡ Err BadPayload = cc in
    let none = no_payload_here c.args.units.now c.args.at (units_fit c.args.units.now c.type_inv.units) (c.decode_payload.ensures.bad_payload.0 e) in
    ap (option_map payload_sized) (sym none)
