use Rattle.std.proofs.Common.{◌≡◌, ◌+◌, ◌-◌, ◌*◌, ap, take, drop, ◌∙◌, arith, true}
use Rattle.std.proofs.lemmas.Int.{to_z-of_z}
use mir.Syntax.{w32}
use mir.Val.{to_z, of_z}
use Rattle.dv_defs.specs.Spelling.{two_units}
use Rattle.dv_defs.specs.Payloads.{numbers_spelling, all_fit_signed, packed_spelling}
use Rattle.dv_units.proofs.PayloadParts.{packed_parts}
use Rattle.dv_units.proofs.payload_readers.read_packed.Goals as goal

pub returns : goal.returns
returns c =
    let same : to_z w32 (of_z w32 c.signed_offset-first.result) ≡ c.signed_offset-first.result = grind (arith, to_z-of_z) in
    let size : 4 + c.from.result * 2 - 4 ≡ c.args.size * 2 = omega arith in
    let targets : numbers_spelling c.of.result ≡ take (c.args.size * 2) (drop 4 c.args.units.now) =
    ap numbers_spelling c.of.ensures ∙ (c.in_ok-targets.ensures.spelled ∙ ap (λ n. take n (drop 4 c.args.units.now)) size) in
    let fit : all_fit_signed c.of.result ≡ true = ap all_fit_signed c.of.ensures ∙ c.in_ok-targets.ensures.fit in
    ap (λ x. packed_spelling x c.of.result) same ∙
    packed_parts c.args.size c.args.units.now c.signed_offset-first.result c.of.result c.ranges.size.fits c.requires (ap two_units c.signed_offset-first.ensures.value ∙ c.of_two_units.ensures) c.signed_offset-first.ensures.fits targets fit
