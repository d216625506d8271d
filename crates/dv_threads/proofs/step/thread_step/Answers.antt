use Rattle.std.proofs.Common.{◌≡◌, ℕ, List, Some, map, refl, ap, sym, ◌∙◌, subst}
use Rattle.std.specs.Prelude.{slice_get}
use Rattle.std.proofs.lemmas.Option.{same_Some}
use Rattle.dv_defs.specs.Op.{Enter, Exit, named_registers}
use Rattle.dv_words.specs.Local.{reg_word}
use Rattle.dv_words.specs.Natives.{native_step}
use Rattle.dv_threads.specs.Kept.{AreAsBefore, IsThreadOf, LeavesThreads}
use Rattle.dv_threads.specs.Stepping.{is_of_threads}
use Rattle.dv_threads.proofs.Addresses.{fetched}
use Rattle.dv_threads.proofs.Leaving.{led}
use Rattle.dv_threads.proofs.step.thread_step.Goals as goal

pub returns-in_default-clause-enters : goal.returns-in_default-clause-enters
returns-in_default-clause-enters c own h a is same at none few =
    let next : c.next_of.result ≡ Some h.next =
    c.next_of.ensures is.stack h c.args.insn.now (Enter a) (ap (λ xs. slice_get xs c.args.thread) c.deref.ensures.value ∙ is.has_stack) is.is_stack same refl at in
    absurd (c.in_default.not-Some h.next next)

pub returns-in_default-clause-exits : goal.returns-in_default-clause-exits
returns-in_default-clause-exits c own h a is same at none =
    let next : c.next_of.result ≡ Some h.next =
    c.next_of.ensures is.stack h c.args.insn.now (Exit a) (ap (λ xs. slice_get xs c.args.thread) c.deref.ensures.value ∙ is.has_stack) is.is_stack same refl at in
    absurd (c.in_default.not-Some h.next next)

pub returns-in_default-clause-calls : goal.returns-in_default-clause-calls
returns-in_default-clause-calls c own h op n is sees room at some ours =
    let next : c.next_of.result ≡ Some h.next =
    c.next_of.ensures is.stack h c.args.insn.now op (ap (λ xs. slice_get xs c.args.thread) c.deref.ensures.value ∙ is.has_stack) is.is_stack sees.image refl at in
    absurd (c.in_default.not-Some h.next next)

pub returns-in-Some-native-clause-calls : goal.returns-in-Some-native-clause-calls
returns-in-Some-native-clause-calls c own h op n is sees room at some ours =
    let old = c.args.threads.now in
    let new = c.native_step.new.threads in
    let ws : List ℕ = map (reg_word h.frame) (named_registers c.args.insn.now.regs) in
    let next : c.next_of.result ≡ Some h.next =
    c.next_of.ensures is.stack h c.args.insn.now op (ap (λ xs. slice_get xs c.args.thread) c.deref.ensures.value ∙ is.has_stack) is.is_stack sees.image refl at in
    let same_next : c.in-Some.next ≡ h.next = same_Some c.in-Some.next h.next (sym c.in-Some.is ∙ next) in
    let P : ℕ → Type 0 = λ k. IsThreadOf c.args.threads.now c.args.thread k own h in
    let own_is = subst P (sym same_next) is in
    let native : c.in-Some-native.native ≡ n = same_Some c.in-Some-native.native n (sym c.in-Some-native.is ∙ some) in
    led c.native_step.result (native_step h n ws) (native_step h c.in-Some-native.native ws) (LeavesThreads old new own h) (AreAsBefore old new)
    (ap (λ k. native_step h k ws) (sym native))
    (c.native_step.ensures.does own h own_is sees room (ap is_of_threads native ∙ ours))

pub returns-in-None-clause-enters : goal.returns-in-None-clause-enters
returns-in-None-clause-enters c own h a is same at none few =
    let next : c.next_of.result ≡ Some h.next =
    c.next_of.ensures is.stack h c.args.insn.now (Enter a) (ap (λ xs. slice_get xs c.args.thread) c.deref.ensures.value ∙ is.has_stack) is.is_stack same refl at in
    let same_next : c.in-Some.next ≡ h.next = same_Some c.in-Some.next h.next (sym c.in-Some.is ∙ next) in
    let P : ℕ → Type 0 = λ k. IsThreadOf c.args.threads.now c.args.thread k own h in
    let own_is = subst P (sym same_next) is in
    c.monitor_step.ensures.enters own h h.image at.code h.frame.at a own_is (fetched h c.args.insn.now (Enter a) at).op few

pub returns-in-None-clause-exits : goal.returns-in-None-clause-exits
returns-in-None-clause-exits c own h a is same at none =
    let next : c.next_of.result ≡ Some h.next =
    c.next_of.ensures is.stack h c.args.insn.now (Exit a) (ap (λ xs. slice_get xs c.args.thread) c.deref.ensures.value ∙ is.has_stack) is.is_stack same refl at in
    let same_next : c.in-Some.next ≡ h.next = same_Some c.in-Some.next h.next (sym c.in-Some.is ∙ next) in
    let P : ℕ → Type 0 = λ k. IsThreadOf c.args.threads.now c.args.thread k own h in
    let own_is = subst P (sym same_next) is in
    c.monitor_step.ensures.exits own h h.image at.code h.frame.at a own_is (fetched h c.args.insn.now (Exit a) at).op
