use Rattle.std.proofs.Common.{ℕ, refl, sym, subst}
use Rattle.dv_defs.specs.declared.run.Next.TheVariants as next
use Rattle.dv_typing.specs.Statics.{is_of_suffix}
use Rattle.dv_machine.specs.State.{Did}
use Rattle.dv_units.specs.Tables.{standard_suffix}
use Rattle.dv_words.specs.Local.{reg_word}
use Rattle.dv_words.specs.Mem.{WordLeft, array_put}
use Rattle.dv_mem.specs.Operands.{IsNullOrArray}
use Rattle.dv_mem.specs.Tops.{Answers, seen, top_frame}
use Rattle.dv_mem.proofs.Arrays.{located}
use Rattle.dv_mem.proofs.elements.array_put.Goals as goal

pub returns-in-Err : goal.returns-in-Err
returns-in-Err c is =
    let here = seen c.args.image.now c.args.stack.now c.args.heap.now c.args.next in
    let suffix = standard_suffix c.args.suffix in
    let go : ℕ → ℕ → Did WordLeft = λ o. array_put here o suffix c.args.a in
    let array : IsNullOrArray (is_of_suffix suffix) c.args.heap.now c.word-array.result = subst (IsNullOrArray (is_of_suffix suffix) c.args.heap.now) (sym c.word-array.ensures) is in
    let found = located here go c.word-array.result (reg_word (top_frame c.args.stack.now) c.args.b) c.word-index.result (reg_word (top_frame c.args.stack.now) c.args.c) _ c.word-array.ensures c.word-index.ensures
    (c.in-Err.ensures.found here suffix go refl (sym c.is_wide.ensures) array) in
    let P : Did WordLeft → Type 0 = λ d. Answers (next.Throw c.in-Err.named) d c.args.stack.now c.args.heap.now c.args.stack.now c.args.heap.now in
    subst P (sym found) (refl, refl, refl)

pub returns-in-Ok : goal.returns-in-Ok
returns-in-Ok c is =
    let here = seen c.args.image.now c.args.stack.now c.args.heap.now c.args.next in
    let suffix = standard_suffix c.args.suffix in
    let go : ℕ → ℕ → Did WordLeft = λ o. array_put here o suffix c.args.a in
    let array : IsNullOrArray (is_of_suffix suffix) c.args.heap.now c.word-array.result = subst (IsNullOrArray (is_of_suffix suffix) c.args.heap.now) (sym c.word-array.ensures) is in
    let there = subst (IsNullOrArray (is_of_suffix suffix) c.args.heap.now) (sym c.in-Ok.ensures.same) array c.in-Ok.ensures.there.positive in
    let found = located here go c.word-array.result (reg_word (top_frame c.args.stack.now) c.args.b) c.word-index.result (reg_word (top_frame c.args.stack.now) c.args.c) _ c.word-array.ensures c.word-index.ensures
    (c.in-Ok.ensures.found here suffix go refl (sym c.is_wide.ensures) array) in
    let P : Did WordLeft → Type 0 = λ d. Answers c.put_found.result d c.args.stack.now c.args.heap.now c.put_found.new.stack c.put_found.new.heap in
    subst P (sym found) (c.put_found.ensures there)
