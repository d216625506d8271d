use Rattle.std.proofs.Common.{List, Result, Ok, sym, subst}
use Rattle.std.specs.declared.alloc.AllocError.{AllocError}
use Rattle.dv_defs.specs.declared.run.Next.{Next}
use Rattle.dv_typing.specs.Demands.{is_fill_type}
use Rattle.dv_defs.specs.Op.{Fill}
use Rattle.dv_defs.specs.Tiling.{Tile, payload_at}
use Rattle.dv_ops.specs.declared.op.Op.{Op}
use Rattle.dv_ops.specs.Meaning.{elements_in, meant, width_in}
use Rattle.dv_units.specs.Tables.{standard_suffix}
use Rattle.dv_words.specs.Local.{reg_word}
use Rattle.dv_words.specs.Mem.{word_mem}
use Rattle.dv_words.specs.Stepping.{Answered}
use Rattle.dv_mem.specs.Operands.{AreOperands, IsNullOrArray}
use Rattle.dv_mem.specs.Tops.{seen, top_frame}
use Rattle.dv_mem.proofs.step.access.Goals as goal

pub returns-in-ArrayLength-clause-does : goal.returns-in-ArrayLength-clause-does
returns-in-ArrayLength-clause-does c code at tiles mem operands =
    let here = seen c.args.image.now c.args.stack.now c.args.heap.now c.args.next in
    let result : Result Next AllocError = Ok c.array_length.result in
    let P : Op → Type 0 = λ o. AreOperands here (meant code at o) → Answered result (word_mem here (meant code at o)) c.args.stack.now c.args.heap.now c.array_length.new.stack c.args.heap.now in
    subst P (sym c.in-ArrayLength.is) (λ are. c.array_length.ensures c.args.image.now are) operands

pub returns-in-ArrayGet-clause-does : goal.returns-in-ArrayGet-clause-does
returns-in-ArrayGet-clause-does c code at tiles mem operands =
    let here = seen c.args.image.now c.args.stack.now c.args.heap.now c.args.next in
    let result : Result Next AllocError = Ok c.array_get.result in
    let P : Op → Type 0 = λ o. AreOperands here (meant code at o) → Answered result (word_mem here (meant code at o)) c.args.stack.now c.args.heap.now c.array_get.new.stack c.args.heap.now in
    subst P (sym c.in-ArrayGet.is) (λ are. c.array_get.ensures c.args.image.now are) operands

pub returns-in-ArrayPut-clause-does : goal.returns-in-ArrayPut-clause-does
returns-in-ArrayPut-clause-does c code at tiles mem operands =
    let here = seen c.args.image.now c.args.stack.now c.args.heap.now c.args.next in
    let result : Result Next AllocError = Ok c.array_put.result in
    let P : Op → Type 0 = λ o. AreOperands here (meant code at o) → Answered result (word_mem here (meant code at o)) c.args.stack.now c.args.heap.now c.array_put.new.stack c.array_put.new.heap in
    subst P (sym c.in-ArrayPut.is) (λ are. c.array_put.ensures are) operands

pub returns-in-FieldGet-clause-does : goal.returns-in-FieldGet-clause-does
returns-in-FieldGet-clause-does c code at tiles mem operands =
    let here = seen c.args.image.now c.args.stack.now c.args.heap.now c.args.next in
    let result : Result Next AllocError = Ok c.field_get.result in
    let P : Op → Type 0 = λ o. AreOperands here (meant code at o) → Answered result (word_mem here (meant code at o)) c.args.stack.now c.args.heap.now c.field_get.new.stack c.args.heap.now in
    subst P (sym c.in-FieldGet.is) (λ are. c.field_get.ensures c.args.image.now (standard_suffix (c.in-FieldGet).field-0) are) operands

pub returns-in-FieldPut-clause-does : goal.returns-in-FieldPut-clause-does
returns-in-FieldPut-clause-does c code at tiles mem operands =
    let here = seen c.args.image.now c.args.stack.now c.args.heap.now c.args.next in
    let result : Result Next AllocError = Ok c.field_put.result in
    let P : Op → Type 0 = λ o. AreOperands here (meant code at o) → Answered result (word_mem here (meant code at o)) c.args.stack.now c.args.heap.now c.field_put.new.stack c.field_put.new.heap in
    subst P (sym c.in-FieldPut.is) (λ are. c.field_put.ensures c.args.image.now (standard_suffix (c.in-FieldPut).field-0) are) operands

pub returns-in-StaticGet-clause-does : goal.returns-in-StaticGet-clause-does
returns-in-StaticGet-clause-does c code at tiles mem operands =
    let here = seen c.args.image.now c.args.stack.now c.args.heap.now c.args.next in
    let result : Result Next AllocError = Ok c.static_get.result in
    let P : Op → Type 0 = λ o. AreOperands here (meant code at o) → Answered result (word_mem here (meant code at o)) c.args.stack.now c.args.heap.now c.static_get.new.stack c.args.heap.now in
    subst P (sym c.in-StaticGet.is) (λ are. c.static_get.ensures c.args.image.now (standard_suffix (c.in-StaticGet).field-0) are) operands

pub returns-in-StaticPut-clause-does : goal.returns-in-StaticPut-clause-does
returns-in-StaticPut-clause-does c code at tiles mem operands =
    let here = seen c.args.image.now c.args.stack.now c.args.heap.now c.args.next in
    let result : Result Next AllocError = Ok c.static_put.result in
    let P : Op → Type 0 = λ o. AreOperands here (meant code at o) → Answered result (word_mem here (meant code at o)) c.args.stack.now c.args.heap.now c.static_put.new.stack c.static_put.new.heap in
    subst P (sym c.in-StaticPut.is) (λ are. c.static_put.ensures c.args.image.now (standard_suffix (c.in-StaticPut).field-0) are) operands

pub returns-in-Fill-clause-does : goal.returns-in-Fill-clause-does
returns-in-Fill-clause-does c code at tiles mem operands =
    let here = seen c.args.image.now c.args.stack.now c.args.heap.now c.args.next in
    let result : Result Next AllocError = Ok c.fill.result in
    let Q : List Tile → Type 0 = λ ts.
    IsNullOrArray (is_fill_type (width_in (payload_at ts c.in-Fill.to))) c.args.heap.now (reg_word (top_frame c.args.stack.now) c.in-Fill.a) →
    Answered result (word_mem here (Fill c.in-Fill.a (width_in (payload_at ts c.in-Fill.to)) (elements_in (payload_at ts c.in-Fill.to)))) c.args.stack.now c.args.heap.now c.fill.new.stack c.fill.new.heap in
    let P : Op → Type 0 = λ o. AreOperands here (meant code at o) → Answered result (word_mem here (meant code at o)) c.args.stack.now c.args.heap.now c.fill.new.stack c.fill.new.heap in
    subst P (sym c.in-Fill.is) (subst Q (sym tiles) (c.fill.ensures c.args.image.now)) operands
