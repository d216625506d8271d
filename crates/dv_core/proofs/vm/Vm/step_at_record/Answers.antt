use Rattle.std.proofs.Common.{◌≡◌, ◌∙◌, Bool, List, None, Ok, Result, true, refl, sym, ap, subst}
use Rattle.std.specs.Prelude.{is_none, not}
use Rattle.std.specs.declared.alloc.AllocError.{AllocError}
use Rattle.dv_words.specs.declared.state.Level.{Level}
use Rattle.dv_words.specs.Running.{blocked_levels}
use Rattle.dv_words.specs.Step.{record_step, settled}
use Rattle.dv_core.specs.declared.vm.Step.{Step}
use Rattle.dv_core.specs.Guests.{Leaves, IsAtLevel, Stays}
use Rattle.dv_core.specs.Machines.{machine_of}
use Rattle.dv_core.specs.Trying.{IsTried}
use Rattle.dv_core.proofs.Seen.{led}
use Rattle.dv_core.proofs.Stepped.{seen_by, stays_by, tried}
use Rattle.dv_core.proofs.vm.Vm.step_at_record.Goals as goal

pub returns-then-is_held_at : goal.returns-then-is_held_at
returns-then-is_held_at c own h seen levels fits few =
    let old = c.args.self.now in
    let free : List Level → Bool = λ ls. is_none (blocked_levels c.args.image.now (machine_of old) c.args.thread ls) in
    (ap free levels ∙ (c.is_held_at.ensures old.guest old.steps old.stop old.limits old.preallocated h.rest refl ∙ ap not c.if-is_held_at.true), refl, seen.ordered)

pub returns : goal.returns
returns c own h seen levels fits few =
    let old = c.args.self.now in
    let k = c.step_record-answer.new.guest in
    let free : List Level → Bool = λ ls. is_none (blocked_levels c.args.image.now (machine_of old) c.args.thread ls) in
    let is : free own.levels ≡ true = ap free levels ∙ (c.is_held_at.ensures old.guest old.steps old.stop old.limits old.preallocated h.rest refl ∙ ap not c.if-is_held_at.false) in
    let d = record_step h c.args.class.0 c.args.running in
    let m = settled c.args.image.now (machine_of old) c.args.thread own None d in
    let did = led {E = AllocError} (Ok c.step_record-answer.result) d (Leaves old.guest k own h) (Leaves old.guest k own h) (Stays h.limits old.guest k) (Stays old.limits old.guest k) (λ l x. x)
    (stays_by h.limits old.limits old.guest k seen.limits) (c.step_record-answer.ensures own h (seen_by c.args.image.now old.limits old.guest c.args.thread own h seen) levels fits) in
    let at : IsAtLevel own h None = (c.args.class, c.args.running, levels) in
    subst (λ (r : Result Step AllocError). IsTried r (free own.levels) old c.settle.new.self m) (sym c.done.ensures)
    (tried c.settle.result old c.settle.new.self m (free own.levels) is
    (c.settle.ensures.ok old.guest d own h None seen at few did)
    (c.settle.ensures.memory old.guest d own h None seen at few did)
    (c.settle.ensures.ordered old.guest d own h None seen at did))
