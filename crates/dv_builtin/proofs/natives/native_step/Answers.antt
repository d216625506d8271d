use Rattle.std.proofs.Common.{sym, subst}
use Rattle.dv_defs.specs.declared.run.Native.{Native}
use Rattle.dv_words.specs.Stacks.{arg_words}
use Rattle.dv_words.specs.Natives.{native_step}
use Rattle.dv_builtin.specs.Natives.{TextsFit}
use Rattle.dv_builtin.specs.Seeing.{Does}
use Rattle.dv_builtin.proofs.natives.native_step.Goals as goal

pub returns-in-OfChars-clause-does : goal.returns-in-OfChars-clause-does
returns-in-OfChars-clause-does c h heap output limit next stack texts fit =
    let ws = arg_words c.args.stack.now c.args.regs.now in
    let P : Native → Type 0 = λ n. TextsFit c.args.heap.now n ws → Does c.of_chars.result (native_step h n ws) h.shared c.args.stack.now c.args.heap.now c.args.output.now.items c.of_chars.new.stack c.of_chars.new.heap c.args.output.now.items in
    subst P (sym c.in-OfChars.is)
    (λ chars. c.of_chars.ensures h c.args.output.now.items c.args.limit (record { is_stack = stack; is_heap = heap; is_output = output; is_limit = limit; is_next = next }) chars)
    fit
