use Rattle.std.proofs.Common.{◌≡◌, None, ap, ◌∙◌}
use Rattle.dv_defs.specs.Images.{Image}
use Rattle.dv_words.specs.Heaps.{counting, newest}
use Rattle.dv_words.specs.State.{WordHeap}
use Rattle.dv_words.specs.Opening.{with_out_of_memory, with_stack_overflow}
use Rattle.dv_core.proofs.opening.preallocate.Goals as goal

-- the heap with one of them, and with both
both : (image : Image) (heap one two : WordHeap) → heap.limit ≡ None → (heap.limit ≡ None → one ≡ with_out_of_memory image heap) → (one.limit ≡ None → two ≡ with_stack_overflow image one) →
    (one ≡ with_out_of_memory image heap) × (two ≡ with_stack_overflow image (with_out_of_memory image heap))
both image heap one two uncounted first second =
    let made = first uncounted in (made, second (ap (λ (h : WordHeap). h.limit) made ∙ uncounted) ∙ ap (with_stack_overflow image) made)

pub returns-clause-heap : goal.returns-clause-heap
returns-clause-heap c uncounted =
    let made = both c.args.image.now c.args.heap.now c.make_object.new.heap c.make_object-2.new.heap uncounted c.in_ok-out_of_memory.ensures.heap c.in_ok-stack_overflow.ensures.heap in
    c.count.ensures ∙ ap (λ (h : WordHeap). counting h c.args.limit) made.1

pub returns-clause-numbers : goal.returns-clause-numbers
returns-clause-numbers c uncounted =
    let made = both c.args.image.now c.args.heap.now c.make_object.new.heap c.make_object-2.new.heap uncounted c.in_ok-out_of_memory.ensures.heap c.in_ok-stack_overflow.ensures.heap in
    let memory = c.in_ok-out_of_memory.ensures.number ∙ ap newest made.0 in
    let stack = c.in_ok-stack_overflow.ensures.number ∙ ap newest made.1 in
    λ j. record { out_of_memory = memory j; stack_overflow = stack j }
