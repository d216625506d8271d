use Rattle.std.proofs.Common.{◌∙◌, ◌<◌, ℕ, List, ℤ, Some, sym, ap, subst, arith}
use Rattle.dv_typing.specs.Demands.{is_fill_type}
use Rattle.dv_defs.specs.Tiling.{payload_at, tiles_in, tiling}
use Rattle.dv_defs.specs.Types.{component}
use Rattle.dv_machine.specs.State.{Did}
use Rattle.dv_ops.specs.Meaning.{elements_in, width_in}
use Rattle.dv_words.specs.Mem as steps
use Rattle.dv_words.specs.Mem.{WordLeft}
use Rattle.dv_machine.specs.Mem.{on_object}
use Rattle.dv_mem.specs.Operands.{IsArray, IsNullOrArray}
use Rattle.dv_mem.specs.Tops.{Answers, seen}
use Rattle.dv_mem.proofs.Arrays.{component_is, object_goes}
use Rattle.dv_mem.proofs.Data.{typed_is_data}
use Rattle.dv_mem.proofs.filling.fill.Goals as goal

pub returns : goal.returns
returns c image is =
    let here = seen image c.args.stack.now c.args.heap.now c.args.next in
    let p = payload_at (tiles_in (tiling c.args.units.now)) c.args.to in
    let some : 0 < c.word-array.result = omega arith in
    let array = subst (IsNullOrArray (is_fill_type (width_in p)) c.args.heap.now) (sym c.word-array.ensures) is some in
    let are = c.in-Some.ensures.found (typed_is_data p (component array.ty) array.passes) in
    let W : ℕ → Type 0 = λ n. IsArray (is_fill_type n) c.args.heap.now c.word-array.result in
    let kind = sym c.kind.ensures ∙ ap Some c.in-Array.is in
    let filled = c.fill_array.ensures image (subst W (sym are.width) array) (component_is here c.word-array.result c.in-Array.ty kind ∙ sym c.in-Some-component.ensures) in
    let F : ℕ → List ℤ → Did WordLeft = λ n ns. on_object (steps.fill here ns) n in
    let P : Did WordLeft → Type 0 = λ d. Answers c.fill_array.result d c.args.stack.now c.args.heap.now c.fill_array.new.stack c.fill_array.new.heap in
    subst P
    (sym (object_goes (steps.fill here _) c.word-array.result some) ∙ ap (F c.word-array.result) are.values ∙ ap (λ (n : ℕ). F n (elements_in p)) c.word-array.ensures)
    filled
