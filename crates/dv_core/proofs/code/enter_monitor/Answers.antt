use Rattle.std.proofs.Common.{◌≡◌, ◌∙◌, ◌<◌, ◌^◌, ◌-◌, ℕ, Bool, List, refl, sym, ap, subst}
use Rattle.std.specs.Prelude.{is_none}
use Rattle.dv_machine.specs.Monitors.{Monitors}
use Rattle.dv_machine.specs.Mem.{on_object}
use Rattle.dv_machine.specs.State.{Did}
use Rattle.dv_monitor.specs.State.{count_of}
use Rattle.dv_words.specs.declared.state.Level.{Level}
use Rattle.dv_words.specs.Running.{blocked_enter}
use Rattle.dv_words.specs.Stacks.{top_regs}
use Rattle.dv_words.specs.Words.{word_at}
use Rattle.dv_words.specs.Local.{reg_word}
use Rattle.dv_words.specs.Steps.{Left}
use Rattle.dv_words.specs.Threads as threads
use Rattle.dv_core.specs.declared.guest.Guest.{Guest}
use Rattle.dv_core.specs.Trying.{Tries}
use Rattle.dv_core.proofs.Outcomes.{is_thread, tries_threads}
use Rattle.dv_core.proofs.code.enter_monitor.Goals as goal

pub returns : goal.returns
returns c i l own h x seen at next few =
    let old = c.args.guest.now in
    let is = is_thread i l old c.args.thread own h seen x c.args.next at next in
    let o = c.word-object.result in
    let w = reg_word h.frame c.args.reg in
    let same : o ≡ w = c.word-object.ensures is.stack is.has_stack ∙ ap (λ (ls : List Level). word_at (top_regs ls) c.args.reg) is.is_stack.levels in
    let P : Monitors → Type 0 = λ m. count_of m o < 2 ^ 64 - 1 in
    let Q : ℕ → Type 0 = λ k. count_of h.shared.monitors k < 2 ^ 64 - 1 in
    let countable = subst P is.monitors (subst Q (sym same) few) in
    let d : ℕ → Did Left = λ k. on_object (threads.monitor_enter h) k in
    let free : ℕ → Bool = λ k. is_none (blocked_enter h.shared.monitors h.thread k) in
    let new : Guest = record { threads = c.try_monitor_enter.new.threads; heap = old.heap; classes = old.classes; output = old.output } in
    let R : ℕ → Type 0 = λ k. Tries c.try_monitor_enter.result (free k) (d k) l old new own h in
    subst R same (tries_threads i l old new c.args.thread own h seen c.try_monitor_enter.result (free o) (d o) refl (c.try_monitor_enter.ensures.does own h is countable))
