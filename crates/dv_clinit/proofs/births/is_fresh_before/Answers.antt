use Rattle.std.proofs.Common.{None, sym, ◌∙◌, arith}
use Rattle.dv_clinit.specs.Births.{DeclaresNone}
use Rattle.dv_clinit.proofs.BirthLaws.{fresh_before}
use Rattle.dv_clinit.proofs.Noting.{each_has, each_inside, fresh_if_known, known_by_test, none_at_last, none_more, none_unless_known, unknown_by_test}
use Rattle.dv_clinit.proofs.births.is_fresh_before.Goals as goal

pub bounds-known-prior : goal.bounds-known-prior
bounds-known-prior c =
    let inside = each_inside c.args.image.now c.requires.known.linked c.args.class c.prior_to-prior-items.result.now c.loop-prior.invariant.told c.loop-prior.prior-index (record { 0 = 0 }) c.loop-prior-test.true in
    omega (arith, inside, c.requires.known.count)

pub returns-then-eq : goal.returns-then-eq
returns-then-eq c =
    let told = c.loop-prior.invariant.told in
    let inside = each_inside c.args.image.now c.requires.known.linked c.args.class c.prior_to-prior-items.result.now told c.loop-prior.prior-index (record { 0 = 0 }) c.loop-prior-test.true in
    let has = each_has c.args.image.now c.args.class c.prior_to-prior-items.result.now told c.loop-prior.prior-index (record { 0 = 0 }) c.loop-prior-test.true in
    fresh_before c.args.image.now c.requires.known.linked c.args.class _ (omega (arith, c.requires.within, c.requires.known.count)) has
    (fresh_if_known c.args.image.now (DeclaresNone c.args.image.now) c.args.known.now c.requires.known _ None (omega (arith, inside, c.requires.known.count)) (known_by_test _ (sym c.eq.ensures ∙ c.if-eq.true)))

pub loop-prior-preserved : goal.loop-prior-preserved
loop-prior-preserved c =
    let told = c.loop-prior.invariant.told in
    let inside = each_inside c.args.image.now c.requires.known.linked c.args.class c.prior_to-prior-items.result.now told c.loop-prior.prior-index (record { 0 = 0 }) c.loop-prior-test.true in
    record {
      told = told;
      none =
          none_more c.args.image.now c.prior_to-prior-items.result.now c.loop-prior.prior-index (record { 0 = 0 }) c.loop-prior-test.true c.loop-prior.invariant.none
          (none_unless_known c.args.image.now c.args.known.now c.requires.known _ None (omega (arith, inside, c.requires.known.count)) (unknown_by_test _ (sym c.eq.ensures ∙ c.if-eq.false)));
    }

pub returns : goal.returns
returns c =
    none_at_last c.args.image.now c.args.class c.prior_to-prior-items.result.now c.loop-prior.invariant.told c.loop-prior.prior-index (omega arith) c.loop-prior.invariant.none
