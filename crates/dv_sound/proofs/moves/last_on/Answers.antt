use Rattle.std.proofs.Common.{◌∙◌, ap, refl, sym, subst, Ok}
use Rattle.std.specs.Prelude.{◌&&◌}
use Rattle.std.specs.declared.alloc.AllocError.{AllocError}
use Rattle.dv_words.specs.Running as words
use Rattle.dv_core.specs.declared.vm.Step.{Step}
use Rattle.dv_core.specs.Machines.{machine_of}
use Rattle.dv_sound.specs.Moves.{Steps}
use Rattle.dv_sound.proofs.Going.{may_is}
use Rattle.dv_sound.proofs.Turning.{err_last, last_none, last_some}
use Rattle.dv_sound.proofs.moves.last_on.Goals as goal

pub returns-then-not-goes_on-clause-last : goal.returns-then-not-goes_on-clause-last
returns-then-not-goes_on-clause-last c T m good at =
    let i = c.args.image.now in
    let v = c.args.vm.now in
    let t = c.args.thread in
    let may = sym (may_is i T v m good at t) ∙ ap (λ b. b && words.runnable i (machine_of v) t) (sym c.goes_on.ensures ∙ c.if-not-goes_on.true) in
    record { after = m; last = last_none i m t may; stands = at; limits = refl }

pub returns-in_err-stepped-clause-last : goal.returns-in_err-stepped-clause-last
returns-in_err-stepped-clause-last c T m good at =
    err_last c.args.image.now T m c.args.thread c.args.vm.now c.step_on.new.vm c.from_residual.result c.from_residual.ensures.0 (c.in_err-stepped.ensures.steps T m good at (sym c.goes_on.ensures ∙ c.if-not-goes_on.false))

pub returns-in-Done-clause-last : goal.returns-in-Done-clause-last
returns-in-Done-clause-last c T m good at =
    let i = c.args.image.now in
    let s = subst (λ (x : Step). Steps {E = AllocError} (Ok x) i T m c.args.thread c.args.vm.now c.step_on.new.vm) c.in-Done.is (c.in_ok-stepped.ensures.steps T m good at (sym c.goes_on.ensures ∙ c.if-not-goes_on.false)) in
    record { after = s.1.after; last = last_some i m s.1.after c.args.thread s.0 s.1.steps; stands = s.1.stands; limits = s.1.limits }

pub returns-in-Held-clause-last : goal.returns-in-Held-clause-last
returns-in-Held-clause-last c T m good at =
    let i = c.args.image.now in
    let s = subst (λ (x : Step). Steps {E = AllocError} (Ok x) i T m c.args.thread c.args.vm.now c.step_on.new.vm) c.in-Held.is (c.in_ok-stepped.ensures.steps T m good at (sym c.goes_on.ensures ∙ c.if-not-goes_on.false)) in
    record { after = m; last = last_none i m c.args.thread s.0; stands = s.1.stands; limits = refl }
