use Rattle.std.proofs.Common.{◌≡◌, ◌∙◌, ℕ, List, Some, None, sym, subst}
use Rattle.std.proofs.lemmas.Option.{same_Some}
use Rattle.dv_defs.specs.Op.{Invoke}
use Rattle.dv_words.specs.Natives.{native_step}
use Rattle.dv_builtin.specs.Natives.{TextsFit}
use Rattle.dv_builtin.specs.Seeing.{Does}
use Rattle.dv_builtin.proofs.Following.{args_are}
use Rattle.dv_builtin.proofs.step.builtin_step.Goals as goal

pub returns-in_default-clause-does : goal.returns-in_default-clause-does
returns-in_default-clause-does c h call args m image heap output limit stack at texts fit =
    absurd (let some = c.next_address.ensures h (Invoke call args m) image stack at in let both : None ≡ Some h.next = sym c.in_default.is ∙ some in cc both)

pub returns-clause-does : goal.returns-clause-does
returns-clause-does c h call args m image heap output limit stack at texts fit =
    let some = c.next_address.ensures h (Invoke call args m) image stack at in
    let next : c.in-Some.next ≡ h.next = same_Some c.in-Some.next h.next (sym c.in-Some.is ∙ some) in
    let are = args_are h c.args.stack.now c.args.insn.now call args m stack at in
    let P : List ℕ → Type 0 = λ ws. TextsFit c.args.heap.now c.args.native ws →
    Does c.native_step.result (native_step h c.args.native ws) h.shared c.args.stack.now c.args.heap.now c.args.output.now.items c.native_step.new.stack c.native_step.new.heap c.native_step.new.output.items in
    subst P (sym are) (c.native_step.ensures.does h heap output limit (sym next) stack texts) fit
