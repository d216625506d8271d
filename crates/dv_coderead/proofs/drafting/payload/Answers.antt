use Rattle.std.proofs.Common.{[], ◌++◌, ap, sym, ◌∙◌, SFits, w32, append-nil, rules}
use Rattle.std.proofs.lemmas.Int.{to_z-of_z}
use Rattle.dv_draft.specs.declared.draft.What.TheVariants.{Packed, Sparse, Data}
use Rattle.dv_coderead.specs.Bodies.{targets, keys, case_labels, data_bytes}
use Rattle.dv_coderead.proofs.drafting.payload.Goals as goal

pub returns-in-Packed : goal.returns-in-Packed
unfolding targets
returns-in-Packed c =
    let fits : SFits w32 c.in-Packed.first = search rules in
    let labels = c.args.so_far.labels.items in
    rw c.in-Packed.is (ap (λ first. Packed first c.of.result) (to_z-of_z w32 c.in-Packed.first fits) ∙ ap (Packed c.in-Packed.first) (c.of.ensures ∙ sym (append-nil labels)))

pub returns-in-Sparse : goal.returns-in-Sparse
unfolding keys case_labels
returns-in-Sparse c =
    let q = c.args.so_far in
    rw c.in-Sparse.is
    (ap (λ k. Sparse k c.of-in-Sparse-2.result) (c.of-in-Sparse.ensures ∙ sym (append-nil q.keys.items)) ∙ ap (Sparse (q.keys.items ++ [])) (c.of-in-Sparse-2.ensures ∙ sym (append-nil q.labels.items)))

pub returns-in-Data : goal.returns-in-Data
unfolding data_bytes
returns-in-Data c =
    let bytes = c.args.so_far.bytes.items in
    rw c.in-Data.is (ap (Data c.in-Data.width) (c.of-in-Data.ensures ∙ sym (append-nil bytes)))
