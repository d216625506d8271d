use Rattle.std.proofs.Common.{◌∙◌, ◌≤◌, refl, sym, ap, subst, arith}
use Rattle.dv_defs.specs.declared.run.Named.TheVariants as named
use Rattle.dv_defs.specs.declared.run.Next.TheVariants as next
use Rattle.dv_defs.specs.Numbers.{elements}
use Rattle.dv_defs.specs.Tiling.{bytes_in}
use Rattle.dv_machine.specs.State.{Did}
use Rattle.dv_words.specs.Mem.{WordLeft, filled, stored}
use Rattle.dv_mem.specs.Tops.{Answers, seen}
use Rattle.dv_mem.proofs.Arrays.{short_fill, whole_fill}
use Rattle.dv_mem.proofs.Writing.{element_count}
use Rattle.dv_mem.proofs.filling.fill_array.Goals as goal

pub returns-then-length-data : goal.returns-then-length-data
returns-then-length-data c image array same =
    let here = seen image c.args.stack.now c.args.heap.now c.args.next in
    let bytes = bytes_in c.args.data.units.now in
    let P : Did WordLeft → Type 0 = λ d. Answers (next.Throw named.ArrayIndex) d c.args.stack.now c.args.heap.now c.args.stack.now c.args.heap.now in
    subst P
    (sym (short_fill here (elements c.args.data.count c.args.data.width bytes) c.args.array c.length.result c.args.data.count (element_count c.args.data.count c.args.data.width bytes) c.length.ensures c.if-length-data.true))
    (refl, refl, refl)

pub returns-then-has_elements : goal.returns-then-has_elements
returns-then-has_elements c image array same =
    let here = seen image c.args.stack.now c.args.heap.now c.args.next in
    let bytes = bytes_in c.args.data.units.now in
    let values = elements c.args.data.count c.args.data.width bytes in
    let enough : c.args.data.count ≤ c.length.result = omega (arith, c.if-length-data.false) in
    let P : Did WordLeft → Type 0 = λ d. Answers next.On d c.args.stack.now c.args.heap.now c.go_on.new.stack c.fill_elements.new.heap in
    subst P
    (sym (whole_fill here values c.args.array c.length.result c.args.data.count (element_count c.args.data.count c.args.data.width bytes) c.length.ensures enough))
    (c.go_on.ensures, c.fill_elements.ensures ∙ ap (λ t. stored c.args.heap.now c.args.array 0 (filled t values)) (sym same))
