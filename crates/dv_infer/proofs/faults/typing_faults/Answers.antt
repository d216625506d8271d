use Rattle.std.proofs.Common.{◌≡◌, ◌<◌, ◌≤◌, length, sym, ◌∙◌, ap, arith}
use Rattle.dv_typing.specs.Statics.{fetch}
use Rattle.dv_typing.specs.Accepting.{demand_at}
use Rattle.dv_worklist.specs.Beside.{alone}
use Rattle.dv_worklist.specs.Flow.{assigned}
use Rattle.law_infer.specs.Flowing.{fits_at}
use Rattle.law_infer.specs.Laws.{faults_from}
use Rattle.dv_ops.specs.Meaning.{code_of}
use Rattle.dv_infer.proofs.Faulting.{fit_read, read_is, faults_on, faults_end}
use Rattle.dv_infer.proofs.faults.typing_faults.Goals as goal

pub rule_at-rule-requires-clause-fits : goal.rule_at-rule-requires-clause-fits
rule_at-rule-requires-clause-fits c =
    let same : length c.units_of-at-end.result.now ≡ length c.args.code.now.body.now.units = ap length c.units_of-at-end.ensures.units in
    let within : c.loop-at.at < length c.args.rows.now = omega (arith, same, c.loop-at-test.true, c.requires.count) in
    fit_read (fits_at c.args.image.now (code_of c.args.code.now)) c.args.rows.now c.loop-at.at c.index-rows-at.result c.in_ok-state.state within c.index-rows-at.is c.in_ok-state.ensures c.requires.fit

pub loop-at-preserved : goal.loop-at-preserved
loop-at-preserved c =
    let n = length c.args.code.now.body.now.units in
    let same : length c.units_of-at-end.result.now ≡ n = ap length c.units_of-at-end.ensures.units in
    let within : c.loop-at.at < n = omega (arith, same, c.loop-at-test.true) in
    let inside : c.loop-at.at < length c.args.rows.now = omega (arith, within, c.requires.count) in
    faults_on c.args.image.now (code_of c.args.code.now) (assigned (alone c.args.rows.now)) n c.loop-at.at c.loop-at.faults.items c.push_fault.new.faults.items
    (faults_from c.args.image.now (code_of c.args.code.now) (assigned (alone c.args.rows.now)) 0 n) c.rule_at-rule.result within
    (c.rule_at-rule.ensures ∙
    ap (demand_at c.args.image.now (code_of c.args.code.now) (fetch c.args.image.now c.args.code.now.method.id.0 c.loop-at.at))
    (sym (read_is c.args.rows.now c.loop-at.at c.index-rows-at.result c.in_ok-state.state inside c.index-rows-at.is c.in_ok-state.ensures)))
    c.in_ok-push_fault.ensures c.loop-at.invariant

pub returns : goal.returns
returns c =
    let n = length c.args.code.now.body.now.units in
    let same : length c.units_of-at-end.result.now ≡ n = ap length c.units_of-at-end.ensures.units in
    let past : n ≤ c.loop-at.at = omega (arith, same, c.loop-at-test.false) in
    faults_end c.args.image.now (code_of c.args.code.now) (assigned (alone c.args.rows.now)) n c.loop-at.at c.loop-at.faults.items
    (faults_from c.args.image.now (code_of c.args.code.now) (assigned (alone c.args.rows.now)) 0 n) past c.loop-at.invariant
