use Rattle.std.proofs.Common.{Option, Result, Some, Ok, sym, subst}
use Rattle.std.specs.declared.alloc.AllocError.{AllocError}
use Rattle.dv_defs.specs.declared.run.Next.{Next}
use Rattle.dv_defs.specs.Op as ops
use Rattle.dv_words.specs.Step.{settled, with_ready}
use Rattle.dv_core.specs.declared.vm.Step.{Step}
use Rattle.dv_core.specs.Machines.{machine_of}
use Rattle.dv_core.specs.Trying.{IsTried, Tries, is_free}
use Rattle.dv_core.proofs.Stepped.{err_tried, tried}
use Rattle.dv_core.proofs.Trying.{machine_after}
use Rattle.dv_core.proofs.vm.Vm.step_at_code.Goals as goal

pub returns : goal.returns
returns c own h x seen at fits are few =
    let old = c.args.self.now in
    let k = c.step_code.new.guest in
    let d = with_ready h x.op (ops.needs x.op) in
    let b = is_free (machine_of old) h x.op in
    let m = settled c.args.image.now (machine_of old) c.args.thread own (Some x) d in
    let tries = subst (λ (o : Option Next). Tries (Ok o) b d old.limits old.guest k own h) c.in-Some.is
    (subst (λ (r : Result (Option Next) AllocError). Tries r b d old.limits old.guest k own h) c.in_ok-tried.was (c.step_code.ensures old.steps old.stop old.preallocated are own h x seen at fits)) in
    subst (λ (r : Result Step AllocError). IsTried r b old c.settle.new.self m) (sym c.done.ensures)
    (tried c.settle.result old c.settle.new.self m b tries.0
    (c.settle.ensures.ok old.guest d own h (Some x) seen at few tries.1)
    (c.settle.ensures.memory old.guest d own h (Some x) seen at few tries.1)
    (c.settle.ensures.ordered old.guest d own h (Some x) seen at tries.1))

pub returns-in_default : goal.returns-in_default
returns-in_default c own h x seen at fits are few =
    let old = c.args.self.now in
    let k = c.step_code.new.guest in
    let d = with_ready h x.op (ops.needs x.op) in
    let b = is_free (machine_of old) h x.op in
    let tries = subst (λ (o : Option Next). Tries (Ok o) b d old.limits old.guest k own h) c.in_default.is
    (subst (λ (r : Result (Option Next) AllocError). Tries r b d old.limits old.guest k own h) c.in_ok-tried.was (c.step_code.ensures old.steps old.stop old.preallocated are own h x seen at fits)) in
    (tries.0, machine_after old.limits old.guest k tries.1 old.steps old.stop old.preallocated, tries.1.ordered)

pub returns-in_err-tried : goal.returns-in_err-tried
returns-in_err-tried c own h x seen at fits are few =
    let old = c.args.self.now in
    let k = c.step_code.new.guest in
    let d = with_ready h x.op (ops.needs x.op) in
    let stays = subst (λ (r : Result (Option Next) AllocError). Tries r (is_free (machine_of old) h x.op) d old.limits old.guest k own h) c.in_err-tried.was (c.step_code.ensures old.steps old.stop old.preallocated are own h x seen at fits) in
    err_tried c.from_residual.result (is_free (machine_of old) h x.op) old (record old { guest = k }) (settled c.args.image.now (machine_of old) c.args.thread own (Some x) d) c.from_residual.ensures.0
    (machine_after old.limits old.guest k stays old.steps old.stop old.preallocated) stays.ordered
