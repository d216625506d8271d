use Rattle.std.proofs.Common.{◌≡◌, ℕ, List, Ok, map, sym, ap, ◌∙◌}
use Rattle.dv_defs.specs.Op.{named_registers}
use Rattle.dv_words.specs.Local.{reg_word}
use Rattle.dv_words.specs.Natives.{arg, native_step}
use Rattle.dv_words.specs.Threads.{join_on, notify_all_on, notify_on, start_on, wait_on}
use Rattle.dv_threads.specs.Kept.{AreAsBefore, LeavesThreads}
use Rattle.dv_threads.proofs.Leaving.{led}
use Rattle.dv_threads.proofs.Operands.{object_is}
use Rattle.dv_threads.proofs.natives.native_step.Goals as goal

pub returns-in-Wait-clause-does : goal.returns-in-Wait-clause-does
returns-in-Wait-clause-does c own h is sees room ours =
    let old = c.args.threads.now in
    let new = c.wait.new.threads in
    let regs = c.args.regs.now in
    let ws : List ℕ = map (reg_word h.frame) (named_registers regs) in
    let object : c.first_word-object.result ≡ arg ws 0 =
    object_is old c.args.thread c.args.next own h is regs c.first_word-object.result c.deref.result.now c.deref.ensures.value c.first_word-object.ensures in
    led c.wait.result (native_step h c.args.native ws) (wait_on h c.first_word-object.result) (LeavesThreads old new own h) (AreAsBefore old new)
    ((λ j. native_step h (c.in-Wait.is j) ws) ∙ ap (wait_on h) (sym object))
    (c.wait.ensures own h is)

pub returns-in-Notify-clause-does : goal.returns-in-Notify-clause-does
returns-in-Notify-clause-does c own h is sees room ours =
    let old = c.args.threads.now in
    let new = c.notify.new.threads in
    let regs = c.args.regs.now in
    let ws : List ℕ = map (reg_word h.frame) (named_registers regs) in
    let object : c.first_word-object.result ≡ arg ws 0 =
    object_is old c.args.thread c.args.next own h is regs c.first_word-object.result c.deref.result.now c.deref.ensures.value c.first_word-object.ensures in
    led (Ok c.notify.result) (native_step h c.args.native ws) (notify_on h c.first_word-object.result) (LeavesThreads old new own h) (AreAsBefore old new)
    ((λ j. native_step h (c.in-Notify.is j) ws) ∙ ap (notify_on h) (sym object))
    (c.notify.ensures own h is)

pub returns-in-NotifyAll-clause-does : goal.returns-in-NotifyAll-clause-does
returns-in-NotifyAll-clause-does c own h is sees room ours =
    let old = c.args.threads.now in
    let new = c.notify_all.new.threads in
    let regs = c.args.regs.now in
    let ws : List ℕ = map (reg_word h.frame) (named_registers regs) in
    let object : c.first_word-object.result ≡ arg ws 0 =
    object_is old c.args.thread c.args.next own h is regs c.first_word-object.result c.deref.result.now c.deref.ensures.value c.first_word-object.ensures in
    led (Ok c.notify_all.result) (native_step h c.args.native ws) (notify_all_on h c.first_word-object.result) (LeavesThreads old new own h) (AreAsBefore old new)
    ((λ j. native_step h (c.in-NotifyAll.is j) ws) ∙ ap (notify_all_on h) (sym object))
    (c.notify_all.ensures own h is)

pub returns-in-Start-clause-does : goal.returns-in-Start-clause-does
returns-in-Start-clause-does c own h is sees room ours =
    let old = c.args.threads.now in
    let new = c.start.new.threads in
    let regs = c.args.regs.now in
    let ws : List ℕ = map (reg_word h.frame) (named_registers regs) in
    let object : c.first_word-object.result ≡ arg ws 0 =
    object_is old c.args.thread c.args.next own h is regs c.first_word-object.result c.deref.result.now c.deref.ensures.value c.first_word-object.ensures in
    led c.start.result (native_step h c.args.native ws) (start_on h c.first_word-object.result) (LeavesThreads old new own h) (AreAsBefore old new)
    ((λ j. native_step h (c.in-Start.is j) ws) ∙ ap (start_on h) (sym object))
    (c.start.ensures own h is sees room)

pub returns-in-Join-clause-does : goal.returns-in-Join-clause-does
returns-in-Join-clause-does c own h is sees room ours =
    let old = c.args.threads.now in
    let new = c.join.new.threads in
    let regs = c.args.regs.now in
    let ws : List ℕ = map (reg_word h.frame) (named_registers regs) in
    let object : c.first_word-object.result ≡ arg ws 0 =
    object_is old c.args.thread c.args.next own h is regs c.first_word-object.result c.deref.result.now c.deref.ensures.value c.first_word-object.ensures in
    led (Ok c.join.result) (native_step h c.args.native ws) (join_on h c.first_word-object.result) (LeavesThreads old new own h) (AreAsBefore old new)
    ((λ j. native_step h (c.in-Join.is j) ws) ∙ ap (join_on h) (sym object))
    (c.join.ensures own h is)
