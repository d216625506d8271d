use Rattle.std.proofs.Common.{◌≡◌, ℕ, ◌-◌, ◌<◌, ◌^◌, true, false, ap, sym, ◌∙◌, subst}
use Rattle.std.specs.Prelude.{slice_get}
use Rattle.dv_defs.specs.Op.{reg}
use Rattle.dv_machine.specs.Mem.{on_object}
use Rattle.dv_monitor.specs.State.{count_of}
use Rattle.dv_words.specs.Stacks.{top_regs}
use Rattle.dv_words.specs.Words.{word_at}
use Rattle.dv_words.specs.Local.{reg_word}
use Rattle.dv_words.specs.Threads.{monitor_enter, monitor_exit}
use Rattle.dv_threads.specs.Kept.{AreAsBefore, LeavesThreads}
use Rattle.dv_threads.proofs.Families.{enter_is, exit_is}
use Rattle.dv_threads.proofs.Leaving.{led}
use Rattle.dv_threads.proofs.step.monitor_step.Goals as goal

pub returns-then-is_enter-clause-enters : goal.returns-then-is_enter-clause-enters
returns-then-is_enter-clause-enters c own h image code at a is means few =
    let old = c.args.threads.now in
    let new = c.monitor_enter.new.threads in
    let insn = c.args.insn.now in
    let e = enter_is image code at insn a means in
    let object : c.word-object.result ≡ reg_word h.frame a =
    c.word-object.ensures is.stack (ap (λ xs. slice_get xs c.args.thread) c.deref.ensures.value ∙ is.has_stack) ∙
    (ap (λ ls. word_at (top_regs ls) (reg insn 0)) is.is_stack.levels ∙ ap (reg_word h.frame) (sym e.register)) in
    let P : ℕ → Type 0 = λ n. n < 2 ^ 64 - 1 in
    let fewer : count_of old.monitors.monitors c.word-object.result < 2 ^ 64 - 1 = subst P (λ j. count_of (is.monitors j) (sym object j)) few in
    led c.monitor_enter.result (on_object (monitor_enter h) (reg_word h.frame a)) (on_object (monitor_enter h) c.word-object.result) (LeavesThreads old new own h) (AreAsBefore old new)
    (ap (on_object (monitor_enter h)) (sym object))
    (c.monitor_enter.ensures.does own h is fewer)

pub returns-then-is_enter-clause-exits : goal.returns-then-is_enter-clause-exits
returns-then-is_enter-clause-exits c own h image code at a is means =
    let e = exit_is image code at c.args.insn.now a means in
    absurd (let never : true ≡ false = sym c.if-is_enter.true ∙ (c.is_enter.ensures ∙ e.enter) in cc)

pub returns-then-is_exit-clause-enters : goal.returns-then-is_exit-clause-enters
returns-then-is_exit-clause-enters c own h image code at a is means few =
    let e = enter_is image code at c.args.insn.now a means in
    absurd (let never : false ≡ true = sym c.if-is_enter.false ∙ (c.is_enter.ensures ∙ e.enter) in cc)

pub returns-then-is_exit-clause-exits : goal.returns-then-is_exit-clause-exits
returns-then-is_exit-clause-exits c own h image code at a is means =
    let old = c.args.threads.now in
    let new = c.monitor_exit.new.threads in
    let insn = c.args.insn.now in
    let e = exit_is image code at insn a means in
    let object : c.word-object.result ≡ reg_word h.frame a =
    c.word-object.ensures is.stack (ap (λ xs. slice_get xs c.args.thread) c.deref.ensures.value ∙ is.has_stack) ∙
    (ap (λ ls. word_at (top_regs ls) (reg insn 0)) is.is_stack.levels ∙ ap (reg_word h.frame) (sym e.register)) in
    led c.monitor_exit.result (on_object (monitor_exit h) (reg_word h.frame a)) (on_object (monitor_exit h) c.word-object.result) (LeavesThreads old new own h) (AreAsBefore old new)
    (ap (on_object (monitor_exit h)) (sym object))
    (c.monitor_exit.ensures.does own h is)

pub returns-clause-enters : goal.returns-clause-enters
returns-clause-enters c own h image code at a is means few =
    let e = enter_is image code at c.args.insn.now a means in
    absurd (let never : false ≡ true = sym c.if-is_enter.false ∙ (c.is_enter.ensures ∙ e.enter) in cc)

pub returns-clause-exits : goal.returns-clause-exits
returns-clause-exits c own h image code at a is means =
    let e = exit_is image code at c.args.insn.now a means in
    absurd (let never : false ≡ true = sym c.if-is_exit.false ∙ (c.is_exit.ensures ∙ e.exit) in cc)
