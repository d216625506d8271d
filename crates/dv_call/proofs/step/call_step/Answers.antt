use Rattle.std.proofs.Common.{◌≡◌, Ok, true, false, subst}
use Rattle.std.specs.declared.alloc.AllocError.{AllocError}
use Rattle.dv_defs.specs.Op.{Op}
use Rattle.dv_ops.specs.Meaning.{code_of}
use Rattle.dv_words.specs.Answering.{Leads, LeavesStack}
use Rattle.dv_words.specs.Step.{act}
use Rattle.law_words.specs.StepLaws.{CallFits}
use Rattle.dv_call.specs.Returns.{CallerStands}
use Rattle.dv_call.specs.Stepping.{is_call}
use Rattle.dv_call.proofs.AtInsn.{meant_is, no_rule}
use Rattle.dv_call.proofs.step.call_step.Goals as goal

pub returns-in-Ok-clause-does : goal.returns-in-Ok-clause-does
returns-in-Ok-clause-does c h op seen there fits stands call =
    let own = code_of c.in-Some-coded_at.code in
    let at = c.in-Some.head.at in
    let is = meant_is c.args.image.now c.args.heap.now c.args.stack.now h c.args.insn.now op c.in-Some.head own seen there c.in-Some.ensures c.in-Some-coded_at.ensures c.resolve.result c.resolve.ensures c.in-Ok.op c.in-Ok.is in
    let P : Op → Type 0 = λ o.
    CallFits c.args.image.now o → CallerStands h → is_call h o ≡ true →
    Leads {E = AllocError} (Ok c.operate.result) (act h o) (LeavesStack h.shared c.args.stack.now c.operate.new.stack) (c.operate.new.stack ≡ c.args.stack.now) in
    subst P is (c.operate.ensures.does own at h seen there.own) fits stands call

pub returns-in-Ok-clause-other : goal.returns-in-Ok-clause-other
returns-in-Ok-clause-other c h op seen there fits call =
    let own = code_of c.in-Some-coded_at.code in
    let at = c.in-Some.head.at in
    let is = meant_is c.args.image.now c.args.heap.now c.args.stack.now h c.args.insn.now op c.in-Some.head own seen there c.in-Some.ensures c.in-Some-coded_at.ensures c.resolve.result c.resolve.ensures c.in-Ok.op c.in-Ok.is in
    let P : Op → Type 0 = λ o. CallFits c.args.image.now o → is_call h o ≡ false → c.operate.new.stack ≡ c.args.stack.now in
    subst P is (c.operate.ensures.other own at h seen there.own) fits call

pub returns-in-Err-clause-does : goal.returns-in-Err-clause-does
returns-in-Err-clause-does c h op seen there fits stands call =
    let own = code_of c.in-Some-coded_at.code in
    absurd
    (no_rule c.args.image.now c.args.heap.now c.args.stack.now h c.args.insn.now op c.in-Some.head own seen there c.in-Some.ensures c.in-Some-coded_at.ensures c.resolve.result c.resolve.ensures (c.in-Err).field-0 (c.in-Err).is)
