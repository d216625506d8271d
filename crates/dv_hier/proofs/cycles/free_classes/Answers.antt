-- Answers that search takes long to find.
use Rattle.std.proofs.lemmas.Grind.{common_steps}
use Rattle.std.proofs.Common.{◌≡◌, ◌++◌, length, take, drop, subst, sym, arith, rules}
use Rattle.dv_hier.specs.Upwards.{HasEachReady}
use Rattle.dv_hier.proofs.cycles.free_classes.Goals as goal

pub returns-then-not-mark_ready-clause-free : goal.returns-then-not-mark_ready-clause-free
returns-then-not-mark_ready-clause-free c = grind (arith, common_steps)

pub loop-round-init : goal.loop-round-init
loop-round-init c = grind (arith, common_steps)

pub loop-round-preserved : goal.loop-round-preserved
loop-round-preserved c = grind (arith, common_steps)

pub returns-in_err-done-clause-ready : goal.returns-in_err-done-clause-ready
returns-in_err-done-clause-ready c = grind (arith, common_steps)

pub returns-clause-ready : goal.returns-clause-ready
returns-clause-ready c = grind (arith, common_steps)

pub returns-then-not-mark_ready-clause-ready : goal.returns-then-not-mark_ready-clause-ready
returns-then-not-mark_ready-clause-ready c =
    let marks = c.mark_ready.new.done in
    let whole : take c.loop-round.done.len (marks ++ drop (length marks) c.loop-round.done.items) ≡ marks = grind (arith, common_steps) in
    let each : HasEachReady c.args.infos.now marks (length c.args.infos.now) = search rules in
    subst (λ ms. HasEachReady c.args.infos.now ms (length c.args.infos.now)) (sym whole) each
