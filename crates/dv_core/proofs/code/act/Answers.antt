use Rattle.std.proofs.Common.{◌≡◌, ◌∙◌, true, false, Ok, Some, Option, Result, refl, sym, ap, subst}
use Rattle.std.specs.Prelude.{is_none}
use Rattle.std.specs.declared.alloc.AllocError.{AllocError}
use Rattle.dv_defs.specs.declared.run.Next.{Next}
use Rattle.dv_defs.specs.Op.{Op, is_local}
use Rattle.dv_machine.specs.Mem.{on_object}
use Rattle.dv_ops.specs.Meaning.{meant}
use Rattle.dv_words.specs.Local.{reg_word}
use Rattle.dv_words.specs.Running.{blocked_enter, blocked_op}
use Rattle.dv_words.specs.State.{WordShared}
use Rattle.dv_words.specs.Step.{act}
use Rattle.dv_words.specs.Steps.{mem_left}
use Rattle.dv_words.specs.Threads as threads
use Rattle.dv_mem.specs.Stepping.{is_mem}
use Rattle.dv_core.specs.Fitting.{StepFits}
use Rattle.dv_core.specs.Guests.{Leaves, Stays}
use Rattle.dv_core.specs.Machines.{machine_with}
use Rattle.dv_core.specs.Trying.{Tries}
use Rattle.dv_core.proofs.Acts.{led_by, mem_acts, mem_else}
use Rattle.dv_core.proofs.Trying.{mem_free, tries_by, tries_free}
use Rattle.dv_core.proofs.code.act.Goals as goal

pub returns-in-Invoke : goal.returns-in-Invoke
returns-in-Invoke c s e p are own h x seen at fits local here =
    let l = c.args.limits.now in
    let old = c.args.guest.now in
    let m = machine_with old s e l p in
    let P : Op → Type 0 = λ o. StepFits h o → Tries c.invoke.result (is_none (blocked_op h.image m h.thread h.own h.frame o)) (act h o) l old c.invoke.new.guest own h in
    subst P (ap (meant here.code here.at) (sym c.in-Invoke.is) ∙ here.means) (λ fits. c.invoke.ensures s e p are own h x seen at fits (sym here.next)) fits

pub returns-in-ReturnVoid : goal.returns-in-ReturnVoid
returns-in-ReturnVoid c s e p are own h x seen at fits local here =
    let l = c.args.limits.now in
    let old = c.args.guest.now in
    let m = machine_with old s e l p in
    let P : Op → Type 0 = λ o. StepFits h o → Tries (Ok (Some c.leave.result)) (is_none (blocked_op h.image m h.thread h.own h.frame o)) (act h o) l old c.leave.new.guest own h in
    subst P (ap (meant here.code here.at) (sym c.in-ReturnVoid.is) ∙ here.means) (λ fits. (refl, c.leave.ensures l own h x seen at fits.caller)) fits

pub returns-in-Return : goal.returns-in-Return
returns-in-Return c s e p are own h x seen at fits local here =
    let l = c.args.limits.now in
    let old = c.args.guest.now in
    let m = machine_with old s e l p in
    let P : Op → Type 0 = λ o. StepFits h o → Tries (Ok (Some c.leave_with.result)) (is_none (blocked_op h.image m h.thread h.own h.frame o)) (act h o) l old c.leave_with.new.guest own h in
    subst P (ap (meant here.code here.at) (sym c.in-Return.is) ∙ here.means) (λ fits. (refl, c.leave_with.ensures l own h x seen at fits.caller)) fits

pub returns-in-Enter : goal.returns-in-Enter
returns-in-Enter c s e p are own h x seen at fits local here =
    let l = c.args.limits.now in
    let old = c.args.guest.now in
    let m = machine_with old s e l p in
    let w = reg_word h.frame c.in-Enter.reg in
    let d = on_object (threads.monitor_enter h) w in
    let same = ap (λ (k : WordShared). is_none (blocked_enter k.monitors h.thread w)) seen.shared in
    let P : Op → Type 0 = λ o. StepFits h o → Tries c.enter_monitor.result (is_none (blocked_op h.image m h.thread h.own h.frame o)) (act h o) l old c.enter_monitor.new.guest own h in
    subst P (ap (meant here.code here.at) (sym c.in-Enter.is) ∙ here.means)
    (λ fits.
    tries_by c.enter_monitor.result (is_none (blocked_enter m.shared.monitors h.thread w)) (is_none (blocked_enter h.shared.monitors h.thread w)) d d l old c.enter_monitor.new.guest own h (sym same) refl
    (c.enter_monitor.ensures c.args.image.now l own h x seen at (sym here.next) (fits.countable w))) fits

pub returns-in-Exit : goal.returns-in-Exit
returns-in-Exit c s e p are own h x seen at fits local here =
    let l = c.args.limits.now in
    let old = c.args.guest.now in
    let m = machine_with old s e l p in
    let P : Op → Type 0 = λ o. StepFits h o → Tries c.free.result (is_none (blocked_op h.image m h.thread h.own h.frame o)) (act h o) l old c.leave_monitor.new.guest own h in
    subst P (ap (meant here.code here.at) (sym c.in-Exit.is) ∙ here.means)
    (λ fits.
    subst (λ (r : Result (Option Next) AllocError). Tries r true (on_object (threads.monitor_exit h) (reg_word h.frame c.in-Exit.reg)) l old c.leave_monitor.new.guest own h) (sym c.free.ensures)
    (tries_free c.leave_monitor.result true (on_object (threads.monitor_exit h) (reg_word h.frame c.in-Exit.reg)) l old c.leave_monitor.new.guest own h refl
    (c.leave_monitor.ensures c.args.image.now l own h x seen at (sym here.next)))) fits

pub returns-in_default : goal.returns-in_default
returns-in_default c s e p are own h x seen at fits local here =
    let l = c.args.limits.now in
    let old = c.args.guest.now in
    let m = machine_with old s e l p in
    let n = c.in_default in
    let P : Op → Type 0 = λ o. is_local o ≡ false → is_mem o ≡ true in
    let mem = subst P here.means (mem_else here.code here.at c.args.here.now.op n.not-Invoke n.not-ReturnVoid n.not-Return n.not-Enter n.not-Exit) local in
    let free = ap is_none (mem_free h.image m h.thread h.own h.frame x.op mem) in
    let does = led_by c.touch.result (act h x.op) (mem_left h x.op) (Leaves old c.touch.new.guest own h) (Stays l old c.touch.new.guest) (mem_acts h x.op mem)
    (c.touch.ensures l own h x seen at here mem fits.operands) in
    subst (λ (r : Result (Option Next) AllocError). Tries r (is_none (blocked_op h.image m h.thread h.own h.frame x.op)) (act h x.op) l old c.touch.new.guest own h) (sym c.free-in_default.ensures)
    (tries_free c.touch.result (is_none (blocked_op h.image m h.thread h.own h.frame x.op)) (act h x.op) l old c.touch.new.guest own h free does)
