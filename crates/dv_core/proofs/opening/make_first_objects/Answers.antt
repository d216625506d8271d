use Rattle.std.proofs.Common.{ap, ◌∙◌}
use Rattle.dv_defs.specs.Names.{thread_name}
use Rattle.dv_words.specs.State.{WordHeap}
use Rattle.dv_words.specs.Opening.{object_made}
use Rattle.dv_core.proofs.opening.make_first_objects.Goals as goal

pub returns : goal.returns
returns c uncounted =
    let first = c.in_ok-make_object.ensures.heap uncounted in
    c.in_ok-make_object-2.ensures.heap (ap (λ (h : WordHeap). h.limit) first ∙ uncounted) ∙ ap (λ h. object_made c.args.image.now h thread_name) first
