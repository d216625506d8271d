use Rattle.std.proofs.Common.{◌≡◌, ◌<◌, ◌∙◌, ℕ, List, Some, sym, ap, subst, arith}
use Rattle.std.specs.Prelude.{option_map}
use Rattle.dv_machine.specs.State.{Did}
use Rattle.dv_words.specs.Heaps.{words_of_object}
use Rattle.dv_words.specs.Stacks.{arg_words}
use Rattle.dv_words.specs.State.{WordHeap}
use Rattle.dv_words.specs.Words.{int_of}
use Rattle.dv_words.specs.Natives.{arg, new_text, units_in}
use Rattle.dv_words.specs.Steps.{Left}
use Rattle.dv_builtin.specs.Natives.{IsChars}
use Rattle.dv_builtin.specs.Parts.{chars_in}
use Rattle.dv_builtin.specs.Seeing.{Does}
use Rattle.dv_builtin.proofs.ArrayChars.{chars_made}
use Rattle.dv_builtin.proofs.making.of_chars.Goals as goal

pub returns : goal.returns
returns c h output limit sees are =
    let ws = arg_words c.args.stack.now c.args.regs.now in
    let array = c.argument-array.result in
    let positive : 0 < array = omega arith in
    let some : 0 < arg ws 0 = omega (arith, positive, c.argument-array.ensures) in
    let is : IsChars c.args.heap.now array = subst (IsChars c.args.heap.now) (sym c.argument-array.ensures) (are some) in
    let here : IsChars h.shared.heap array = subst (λ (x : WordHeap). IsChars x array) (sym sees.is_heap) is in
    let start : int_of c.argument-start.result ≡ int_of (arg ws 1) = ap int_of c.argument-start.ensures in
    let count : int_of c.argument-count.result ≡ int_of (arg ws 2) = ap int_of c.argument-count.ensures in
    let words : c.chars_of.result.now ≡ words_of_object h.shared.heap array = c.chars_of.ensures is ∙ ap (λ x. words_of_object x array) (sym sees.is_heap) in
    let chars : Some c.in-Some.chars.now ≡ chars_in (words_of_object h.shared.heap array) (int_of c.argument-start.result) (int_of c.argument-count.result) =
    sym (ap (option_map (λ s. s.now)) c.in-Some.is) ∙ c.some_chars.ensures ∙ ap (λ (x : List ℕ). chars_in x (int_of c.argument-start.result) (int_of c.argument-count.result)) words in
    let made = chars_made h ws array (int_of c.argument-start.result) (int_of c.argument-count.result) c.in-Some.chars.now positive c.argument-array.ensures start count here chars in
    let units : c.as_slice.result.now ≡ units_in c.in-Some.chars.now = c.as_slice.ensures.value ∙ c.in_ok-units.ensures in
    let P : Did Left → Type 0 = λ d. Does c.new_text.result d h.shared c.args.stack.now c.args.heap.now output c.new_text.new.stack c.new_text.new.heap output in
    subst P (ap (new_text h) units ∙ sym made) (c.new_text.ensures h output limit sees)
