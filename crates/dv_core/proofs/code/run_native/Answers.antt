use Rattle.std.proofs.Common.{◌∙◌, ℕ, List, map, refl, sym, ap, subst}
use Rattle.dv_defs.specs.Op.{named_registers}
use Rattle.dv_words.specs.State.{WordHeap, WordShared}
use Rattle.dv_words.specs.Stacks.{arg_words}
use Rattle.dv_words.specs.Local.{reg_word}
use Rattle.dv_words.specs.Natives as natives
use Rattle.dv_builtin.specs.Natives.{TextsFit}
use Rattle.dv_defs.specs.declared.run.Limits.{Limits}
use Rattle.dv_core.proofs.Acts.{led_by, texts_else}
use Rattle.dv_core.proofs.Outcomes.{args_are, is_thread, led_text, led_threads}
use Rattle.dv_core.proofs.Seen.{is_stack, past, read_there}
use Rattle.dv_core.proofs.code.run_native.Goals as goal

pub returns-then-is_of_threads : goal.returns-then-is_of_threads
returns-then-is_of_threads c own h x seen at room texts next =
    let i = c.args.image.now in
    let l = c.args.limits.now in
    let old = c.args.guest.now in
    let is = is_thread i l old c.args.thread own h seen x c.args.next at next in
    led_threads i l old _ c.args.thread own h seen c.native_step.result (natives.native_step h c.args.native (map (reg_word h.frame) (named_registers c.args.regs.now))) refl
    (c.native_step.ensures.does own h is (record { image = seen.image; heap = ap (λ (k : WordShared). k.heap) seen.shared; limits = seen.limits }) room (sym c.is_of_threads.ensures ∙ c.if-is_of_threads.true))

pub returns-then-place-len : goal.returns-then-place-len
returns-then-place-len c own h x seen at room texts next = past c.args.image.now c.args.limits.now c.args.guest.now c.args.thread own h seen c.len.result c.len.ensures c.if-place-len.true

pub returns : goal.returns
returns c own h x seen at room texts next =
    let l = c.args.limits.now in
    let i = c.args.image.now in
    let old = c.args.guest.now in
    let stack = c.index_mut-stack.result.now in
    let there = read_there i l old c.args.thread own h seen stack stack c.index_mut-stack.ensures.value in
    let n = c.args.native in
    let is = is_stack i l old c.args.thread own h seen at.levels stack there in
    let same = args_are stack h c.args.regs.now is in
    let ws : List ℕ = arg_words stack c.args.regs.now in
    let P : WordHeap → Type 0 = λ w. TextsFit w n ws in
    let Q : List ℕ → Type 0 = λ k. TextsFit h.shared.heap n k in
    let heap = ap (λ (k : WordShared). k.heap) seen.shared in
    let fit = subst P heap (subst Q (sym same) texts) in
    let other = texts_else n (sym c.is_of_threads.ensures ∙ c.if-is_of_threads.false) in
    let done = c.native_step-2.ensures.does h heap (ap (λ (k : WordShared). k.output) seen.shared) (ap (λ (k : Limits). k.output) seen.limits) next is other fit in
    led_by c.native_step-2.result (natives.native_step h n (map (reg_word h.frame) (named_registers c.args.regs.now))) (natives.native_step h n ws) _ _ (ap (natives.native_step h n) (sym same))
    (led_text i l old _ c.args.thread own h seen stack c.native_step-2.new.stack c.native_step-2.new.heap c.native_step-2.new.output.items c.native_step-2.result (natives.native_step h n ws) refl refl there refl refl done)
