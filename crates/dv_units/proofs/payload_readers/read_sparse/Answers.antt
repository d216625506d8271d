use Rattle.std.proofs.Common.{◌≡◌, ◌+◌, ◌-◌, ◌*◌, ap, take, drop, ◌∙◌, arith}
use Rattle.dv_defs.specs.Payloads.{numbers_spelling, all_fit_signed}
use Rattle.dv_units.proofs.PayloadParts.{sparse_parts}
use Rattle.dv_units.proofs.payload_readers.read_sparse.Goals as goal

pub returns : goal.returns
returns c =
    let first : 2 + c.from.result * 2 - 2 ≡ c.args.size * 2 = omega arith in
    let middle : 2 + c.from.result * 2 ≡ 2 + c.args.size * 2 = omega arith in
    let second : 2 + c.from.result * 2 + c.from-2.result * 2 - (2 + c.from.result * 2) ≡ c.args.size * 2 = omega arith in
    let keys : numbers_spelling c.of.result ≡ take (c.args.size * 2) (drop 2 c.args.units.now) =
    ap numbers_spelling c.of.ensures ∙ (c.in_ok-keys.ensures.spelled ∙ ap (λ n. take n (drop 2 c.args.units.now)) first) in
    let targets : numbers_spelling c.of-2.result ≡ take (c.args.size * 2) (drop (2 + c.args.size * 2) c.args.units.now) =
    ap numbers_spelling c.of-2.ensures ∙ (c.in_ok-targets.ensures.spelled ∙ (ap (λ n. take n (drop (2 + c.from.result * 2) c.args.units.now)) second ∙ ap (λ n. take (c.args.size * 2) (drop n c.args.units.now)) middle)) in
    sparse_parts c.args.size c.args.units.now c.of.result c.of-2.result c.ranges.size.fits c.requires keys (ap all_fit_signed c.of.ensures ∙ c.in_ok-keys.ensures.fit) targets (ap all_fit_signed c.of-2.ensures ∙ c.in_ok-targets.ensures.fit)
