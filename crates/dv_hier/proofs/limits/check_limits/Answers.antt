use Rattle.std.proofs.Common.{◌+◌, ℕ, length, ap, ◌∙◌, arith}
use Rattle.dv_defs.specs.declared.class.ClassDef.{ClassDef}
use Rattle.dv_hier.specs.declared.limits.Totals.{Totals}
use Rattle.dv_defs.specs.LinkFaults.{cells}
use Rattle.dv_hier.proofs.LimitLemmas.{limits_by_sums, limit_found, limit_none, limit_more, sum_more}
use Rattle.dv_hier.proofs.limits.check_limits.Goals as goal

-- src/limits.rt:117:26
pub returns-in-Err : goal.returns-in-Err
returns-in-Err c =
    let past = c.in-Err.ensures.fault _
    (limits_by_sums c.program_of-program.result.now c.loop-i.i c.index-program-i.result c.loop-i.totals.classes c.loop-i.totals.methods c.loop-i.totals.fields c.loop-i.totals.cells
    c.loop-i-test.true c.index-program-i.is c.loop-i.invariant.classes c.loop-i.invariant.methods c.loop-i.invariant.fields c.loop-i.invariant.cells) in
    c.error_of.ensures _
    (limit_found c.args.classes.now c.args.boot c.program_of-program.result.now c.loop-i.i c.index-program-i.result c.in-Err.kind
    c.program_of-program.ensures c.loop-i.invariant.faultless c.loop-i-test.true c.index-program-i.is past)

-- src/limits.rt:113:5
pub loop-i-preserved : goal.loop-i-preserved
loop-i-preserved c =
    let past = c.in-Ok.ensures.fault _
    (limits_by_sums c.program_of-program.result.now c.loop-i.i c.index-program-i.result c.loop-i.totals.classes c.loop-i.totals.methods c.loop-i.totals.fields c.loop-i.totals.cells
    c.loop-i-test.true c.index-program-i.is c.loop-i.invariant.classes c.loop-i.invariant.methods c.loop-i.invariant.fields c.loop-i.invariant.cells) in
    record {
      faultless = limit_more c.program_of-program.result.now c.loop-i.i c.index-program-i.result c.loop-i.invariant.faultless c.loop-i-test.true c.index-program-i.is past;
      classes = ap (λ (t : Totals). t.classes) c.in-Ok.ensures.sums ∙ ap (λ (n : ℕ). n + 1) c.loop-i.invariant.classes;
      methods = ap (λ (t : Totals). t.methods) c.in-Ok.ensures.sums ∙ sum_more (λ (c : ClassDef). length c.methods) _ _ _ _ c.loop-i-test.true c.index-program-i.is c.loop-i.invariant.methods;
      fields = ap (λ (t : Totals). t.fields) c.in-Ok.ensures.sums ∙ sum_more (λ (c : ClassDef). length c.fields) _ _ _ _ c.loop-i-test.true c.index-program-i.is c.loop-i.invariant.fields;
      cells = ap (λ (t : Totals). t.cells) c.in-Ok.ensures.sums ∙ sum_more cells _ _ _ _ c.loop-i-test.true c.index-program-i.is c.loop-i.invariant.cells;
    }

-- src/limits.rt:103:1
pub returns : goal.returns
returns c = limit_none c.args.classes.now c.args.boot c.program_of-program.result.now c.loop-i.i c.program_of-program.ensures c.loop-i.invariant.faultless (omega arith)
