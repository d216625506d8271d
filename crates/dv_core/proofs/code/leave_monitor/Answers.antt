use Rattle.std.proofs.Common.{◌≡◌, ◌∙◌, List, refl, sym, ap}
use Rattle.dv_machine.specs.Mem.{on_object}
use Rattle.dv_words.specs.declared.state.Level.{Level}
use Rattle.dv_words.specs.Stacks.{top_regs}
use Rattle.dv_words.specs.Words.{word_at}
use Rattle.dv_words.specs.Local.{reg_word}
use Rattle.dv_words.specs.Threads as threads
use Rattle.dv_core.proofs.Acts.{led_by}
use Rattle.dv_core.proofs.Outcomes.{is_thread, led_threads}
use Rattle.dv_core.proofs.code.leave_monitor.Goals as goal

pub returns : goal.returns
returns c i l own h x seen at next =
    let old = c.args.guest.now in
    let is = is_thread i l old c.args.thread own h seen x c.args.next at next in
    let o = c.word-object.result in
    let same : o ≡ reg_word h.frame c.args.reg = c.word-object.ensures is.stack is.has_stack ∙ ap (λ (ls : List Level). word_at (top_regs ls) c.args.reg) is.is_stack.levels in
    led_by c.monitor_exit.result (on_object (threads.monitor_exit h) (reg_word h.frame c.args.reg)) (on_object (threads.monitor_exit h) o) _ _ (ap (on_object (threads.monitor_exit h)) (sym same))
    (led_threads i l old _ c.args.thread own h seen c.monitor_exit.result (on_object (threads.monitor_exit h) o) refl (c.monitor_exit.ensures.does own h is))
