use Rattle.std.proofs.Common.{List, ap, ◌∙◌}
use Rattle.std.specs.Prelude.{slice_get}
use Rattle.dv_words.specs.declared.state.Kind.{Kind}
use Rattle.dv_heap.proofs.Noting.{noted_more}
use Rattle.dv_heap.proofs.kinds.Kinds.of_class.Goals as goal

pub invariant_of-self : goal.invariant_of-self
invariant_of-self c =
    noted_more c.self-2.inside.kinds.keys c.self-2.inside.by_class.items c.note.new.table.items c.args.class.0 c.in_ok-place.place c.self-2.invariant
    (ap (λ (ks : List Kind). slice_get ks c.in_ok-place.place) c.self-2.view_is ∙ c.in_ok-place.ensures.place) c.note.ensures
