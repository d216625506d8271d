use Rattle.std.proofs.Common.{◌≡◌, ◌<◌, ◌≤◌, ℕ, length, ap, ◌∙◌, subst, arith}
use Rattle.law_gather.specs.Gathered.{addresses}
use Rattle.dv_ops.specs.Meaning.{code_of}
use Rattle.dv_plan.specs.Marks.{before_by}
use Rattle.dv_infer.specs.Filling.{AreFilledTo}
use Rattle.dv_infer.proofs.Planned.{leads_inside}
use Rattle.dv_infer.proofs.RowsFilled.{filled_length, one_more, are_filled}
use Rattle.dv_infer.proofs.filling.fill.Goals as goal

pub loop-at-preserved : goal.loop-at-preserved
loop-at-preserved c =
    let names = c.args.bases.now in
    let code = code_of c.args.code.now in
    let marks = c.args.plan.now.marks.items in
    let same : length c.units_of-at-end.result.now ≡ addresses code = ap length c.units_of-at-end.ensures.units in
    let within : c.loop-at.at < addresses code = omega (arith, same, c.loop-at-test.true) in
    let count : length c.loop-at.rows.items ≡ length c.args.rows.now.items = c.loop-at.invariant.count in
    let long : addresses code ≤ length c.loop-at.rows.items = omega (arith, count, c.requires.long) in
    let more =
    one_more names code c.requires.ready marks c.requires.plan.before c.args.rows.now.items c.loop-at.rows.items c.loop-at.at within long
    c.loop-at.invariant.fit c.loop-at.invariant.part c.fill_at.new.rows.items c.in_ok-fill_at.ensures in
    record {
      count = filled_length names code c.loop-at.at (before_by marks c.loop-at.at) c.loop-at.rows.items c.fill_at.new.rows.items c.in_ok-fill_at.ensures ∙ count;
      fit = more.1;
      part = more.0;
    }

pub fill_at-requires-clause-long : goal.fill_at-requires-clause-long
fill_at-requires-clause-long c =
    let count : length c.loop-at.rows.items ≡ length c.args.rows.now.items = c.loop-at.invariant.count in
    omega (arith, count, c.requires.long)

pub returns-clause-filled : goal.returns-clause-filled
returns-clause-filled c =
    let names = c.args.bases.now in
    let code = code_of c.args.code.now in
    let marks = c.args.plan.now.marks.items in
    let same : length c.units_of-at-end.result.now ≡ addresses code = ap length c.units_of-at-end.ensures.units in
    let at_end : c.loop-at.at ≡ addresses code = omega (arith, same, c.loop-at-test.false, c.loop-at.auto.at-end) in
    are_filled names code c.requires.ready marks c.requires.plan.before c.args.rows.now.items c.loop-at.rows.items
    (subst (λ (k : ℕ). AreFilledTo names code (before_by marks) k c.args.rows.now.items c.loop-at.rows.items) at_end c.loop-at.invariant.part)
    (leads_inside names code c.requires.ready c.args.plan.now c.requires.plan)
