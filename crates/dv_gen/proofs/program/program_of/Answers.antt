use Rattle.std.proofs.Common.{[], ◌++◌, ◌∙◌, ap}
use Rattle.std.proofs.lemmas.Result.{IfOk-weaker}
use Rattle.dv_gen.specs.Demo.{classes_text, main_head, main_tail, worker_head, worker_tail}
use Rattle.dv_gen.proofs.Joined.{joined}
use Rattle.dv_gen.proofs.program.program_of.Goals as goal

pub returns : goal.returns
unfolding worker_head worker_tail main_head main_tail
returns c =
    IfOk-weaker c.of.result _ _ (λ text is. is ∙
    joined [] _ _ _ _ _ _ _ _ _ _ _ _ _ _ (c.in_ok-add_classes.ensures ∙ ap (λ t. t ++ classes_text c.args.number c.args.classes) c.new-text.ensures.items) c.in_ok-extend_from_slice.ensures.items c.in_ok-add_calls.ensures
    c.in_ok-extend_from_slice-2.ensures.items c.in_ok-extend_from_slice-3.ensures.items c.in_ok-add_number.ensures c.in_ok-extend_from_slice-4.ensures.items)
    c.of.ensures
