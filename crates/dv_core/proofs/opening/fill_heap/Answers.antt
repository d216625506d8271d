use Rattle.std.proofs.Common.{◌≡◌, None, ap, ◌∙◌}
use Rattle.std.proofs.lemmas.Result.{on_ok_weaker}
use Rattle.dv_defs.specs.Images.{Image}
use Rattle.dv_defs.specs.Names.{stream_name, thread_name}
use Rattle.dv_defs.specs.Pools.{Method}
use Rattle.dv_ops.specs.Meaning.{method_of}
use Rattle.dv_words.specs.Heaps.{uncounted}
use Rattle.dv_words.specs.State.{WordHeap}
use Rattle.dv_words.specs.Opening.{array_made, main_heap, object_made, with_out, with_strings}
use Rattle.dv_core.proofs.Uncounted.{statics_uncounted, with_statics}
use Rattle.dv_core.proofs.opening.fill_heap.Goals as goal

abbrev with_objects : Image → WordHeap → WordHeap
with_objects image h = object_made image (object_made image h stream_name) thread_name

-- what comes of the parts, one after another
filled : (image : Image) (m : Method) (fresh objects out strings full : WordHeap) → fresh ≡ uncounted image → (fresh.limit ≡ None → objects ≡ with_objects image fresh) →
    out ≡ with_out image image.fields 0 objects → strings ≡ with_strings image image.fields 0 out → (strings.limit ≡ None → full ≡ array_made m strings) → full ≡ main_heap image m
filled image m fresh objects out strings full is made outs stringed arrayed =
    let first : objects ≡ with_objects image (uncounted image) = made (ap (λ (h : WordHeap). h.limit) is) ∙ ap (with_objects image) is in
    let static : strings ≡ with_statics image = stringed ∙ ap (with_strings image image.fields 0) (outs ∙ ap (with_out image image.fields 0) first) in
    arrayed (ap (λ (h : WordHeap). h.limit) static ∙ statics_uncounted image) ∙ ap (array_made m) static

pub returns-clause-heap : goal.returns-clause-heap
returns-clause-heap c =
    on_ok_weaker c.make_array.result (λ made fresh takes.
    filled c.args.image.now (method_of c.args.main.now) c.args.heap.now c.make_first_objects.new.heap c.set_out.new.heap c.set_strings.new.heap c.make_array.new.heap fresh
    c.in_ok-make_first_objects.ensures c.set_out.ensures c.in_ok-set_strings.ensures (λ none. made none takes)) c.make_array.ensures.heap
