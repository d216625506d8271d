use Rattle.std.proofs.Common.{List, length, ap, sym, ◌∙◌, subst}
use Rattle.dv_defs.specs.declared.faults.Fault.{Fault}
use Rattle.dv_rules.specs.declared.verified.Map.{Map}
use Rattle.dv_pverify.specs.Judging.{AreJudged}
use Rattle.dv_pverify.proofs.Judged.{is_verified, is_accepted, no_items}
use Rattle.dv_pverify.proofs.verify.verdict.Goals as goal

pub invariant_of-result : goal.invariant_of-result
invariant_of-result c =
    let judged : AreJudged c.args.image 0 c.of-maps.result c.of-faults.result =
    subst (λ (ms : List Map). AreJudged c.args.image 0 ms c.of-faults.result) (sym c.of-maps.ensures)
    (subst (λ (fs : List Fault). AreJudged c.args.image 0 c.args.judged.maps.items fs) (sym c.of-faults.ensures) c.requires.judged) in
    is_verified c.args.image c.of-maps.result c.of-faults.result (ap length c.of-maps.ensures ∙ c.requires.count)
    (no_items c.of-faults.result (c.is_empty.ensures.0 c.if-is_empty.true)) judged

pub returns-then-is_empty-clause-accepted : goal.returns-then-is_empty-clause-accepted
returns-then-is_empty-clause-accepted c =
    let judged : AreJudged c.args.image 0 c.of-maps.result c.of-faults.result =
    subst (λ (ms : List Map). AreJudged c.args.image 0 ms c.of-faults.result) (sym c.of-maps.ensures)
    (subst (λ (fs : List Fault). AreJudged c.args.image 0 c.args.judged.maps.items fs) (sym c.of-faults.ensures) c.requires.judged) in
    is_accepted c.args.image c.of-maps.result
    (is_verified c.args.image c.of-maps.result c.of-faults.result (ap length c.of-maps.ensures ∙ c.requires.count)
    (no_items c.of-faults.result (c.is_empty.ensures.0 c.if-is_empty.true)) judged)
