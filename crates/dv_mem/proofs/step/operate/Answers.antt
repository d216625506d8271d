use Rattle.std.proofs.Common.{Result, Ok, sym, subst}
use Rattle.std.specs.declared.alloc.AllocError.{AllocError}
use Rattle.dv_defs.specs.declared.run.Next.{Next}
use Rattle.dv_ops.specs.declared.op.Op.{Op}
use Rattle.dv_ops.specs.Meaning.{meant}
use Rattle.dv_words.specs.Mem.{word_mem}
use Rattle.dv_words.specs.Stepping.{Answered}
use Rattle.dv_mem.specs.Operands.{AreOperands}
use Rattle.dv_mem.specs.Tops.{seen}
use Rattle.dv_mem.proofs.step.operate.Goals as goal

pub returns-in-IntDivide-clause-does : goal.returns-in-IntDivide-clause-does
returns-in-IntDivide-clause-does c code at tiles mem operands =
    let here = seen c.args.image.now c.args.stack.now c.args.heap.now c.args.next in
    let result : Result Next AllocError = Ok c.divide_ints.result in
    let P : Op → Type 0 = λ o. AreOperands here (meant code at o) → Answered result (word_mem here (meant code at o)) c.args.stack.now c.args.heap.now c.divide_ints.new.stack c.args.heap.now in
    subst P (sym c.in-IntDivide.is) (λ are. c.divide_ints.ensures c.args.image.now c.args.heap.now are.0 are.1) operands

pub returns-in-LongDivide-clause-does : goal.returns-in-LongDivide-clause-does
returns-in-LongDivide-clause-does c code at tiles mem operands =
    let here = seen c.args.image.now c.args.stack.now c.args.heap.now c.args.next in
    let result : Result Next AllocError = Ok c.divide_longs.result in
    let P : Op → Type 0 = λ o. AreOperands here (meant code at o) → Answered result (word_mem here (meant code at o)) c.args.stack.now c.args.heap.now c.divide_longs.new.stack c.args.heap.now in
    subst P (sym c.in-LongDivide.is) (λ are. c.divide_longs.ensures c.args.image.now c.args.heap.now are) operands

pub returns-in-Throw-clause-does : goal.returns-in-Throw-clause-does
returns-in-Throw-clause-does c code at tiles mem operands =
    let here = seen c.args.image.now c.args.stack.now c.args.heap.now c.args.next in
    let result : Result Next AllocError = Ok c.throw.result in
    let P : Op → Type 0 = λ o. AreOperands here (meant code at o) → Answered result (word_mem here (meant code at o)) c.args.stack.now c.args.heap.now c.args.stack.now c.args.heap.now in
    subst P (sym c.in-Throw.is) (λ are. c.throw.ensures c.args.image.now c.args.heap.now c.args.next) operands
