use Rattle.std.proofs.Common.{◌∙◌, ℕ, List, refl, sym, ap, subst}
use Rattle.dv_defs.specs.declared.run.Next.TheVariants as next
use Rattle.dv_typing.specs.Statics.{is_of_suffix}
use Rattle.dv_machine.specs.State.{Did}
use Rattle.dv_units.specs.Tables.{standard_suffix}
use Rattle.dv_words.specs.Stacks.{changed}
use Rattle.dv_words.specs.Local.{reg_word}
use Rattle.dv_words.specs.Mem.{WordLeft, get_element, put_words}
use Rattle.dv_mem.specs.Operands.{IsNullOrArray}
use Rattle.dv_mem.specs.Tops.{Answers, seen, top_frame}
use Rattle.dv_mem.specs.Values.{words_from}
use Rattle.dv_mem.proofs.Arrays.{element_words, located}
use Rattle.dv_mem.proofs.elements.array_get.Goals as goal

pub returns-in-Err : goal.returns-in-Err
returns-in-Err c image is =
    let here = seen image c.args.stack.now c.args.heap.now c.args.next in
    let suffix = standard_suffix c.args.suffix in
    let array : IsNullOrArray (is_of_suffix suffix) c.args.heap.now c.word-array.result = subst (IsNullOrArray (is_of_suffix suffix) c.args.heap.now) (sym c.word-array.ensures) is in
    let found = located here (get_element here c.args.a) c.word-array.result (reg_word (top_frame c.args.stack.now) c.args.b) c.word-index.result (reg_word (top_frame c.args.stack.now) c.args.c) _ c.word-array.ensures c.word-index.ensures
    (c.in-Err.ensures.found here suffix (get_element here c.args.a) refl (sym c.is_wide-wide.ensures) array) in
    let P : Did WordLeft → Type 0 = λ d. Answers (next.Throw c.in-Err.named) d c.args.stack.now c.args.heap.now c.args.stack.now c.args.heap.now in
    subst P (sym found) (refl, refl, refl)

pub returns-in-Ok : goal.returns-in-Ok
returns-in-Ok c image is =
    let here = seen image c.args.stack.now c.args.heap.now c.args.next in
    let suffix = standard_suffix c.args.suffix in
    let array : IsNullOrArray (is_of_suffix suffix) c.args.heap.now c.word-array.result = subst (IsNullOrArray (is_of_suffix suffix) c.args.heap.now) (sym c.word-array.ensures) is in
    let there = subst (IsNullOrArray (is_of_suffix suffix) c.args.heap.now) (sym c.in-Ok.ensures.same) array c.in-Ok.ensures.there.positive in
    let found = located here (get_element here c.args.a) c.word-array.result (reg_word (top_frame c.args.stack.now) c.args.b) c.word-index.result (reg_word (top_frame c.args.stack.now) c.args.c) _ c.word-array.ensures c.word-index.ensures
    (c.in-Ok.ensures.found here suffix (get_element here c.args.a) refl (sym c.is_wide-wide.ensures) array) in
    let words = c.load.ensures ∙ ap (words_from c.args.heap.now c.in-Ok.found.array c.in-Ok.found.slot) c.is_wide-wide.ensures ∙ sym (element_words here suffix c.in-Ok.found.array c.in-Ok.found.slot there) in
    let P : Did WordLeft → Type 0 = λ d. Answers next.On d c.args.stack.now c.args.heap.now c.put.new.stack c.args.heap.now in
    subst P (sym found) (c.put.ensures ∙ ap (λ (ws : List ℕ). changed (λ f. put_words (top_frame c.args.stack.now) c.args.next c.args.a ws) c.args.stack.now) words, refl)
