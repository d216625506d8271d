use Rattle.std.proofs.Common.{◌≡◌, List, ℕ, subst, ◌∙◌}
use Rattle.std.proofs.lemmas.Result.{IfOk-weaker}
use Rattle.dv_gen.specs.Demo.{program_text}
use Rattle.dv_top.specs.Answering.{IsReadOf}
use Rattle.dv_top.specs.Preparing.{IsPrepared}
use Rattle.dv_top.specs.Programs.{program_to_run}
use Rattle.dv_top.specs.Words.{demo_class}
use Rattle.dv_top.proofs.AnsweringLemmas.{read_of_itself}
use Rattle.dv_top.proofs.Demos.{demos_are_small}
use Rattle.dv_top.proofs.demo.prepare_demo.Goals as goal

pub returns-clause-prepared : goal.returns-clause-prepared
returns-clause-prepared g c =
    let demo = c.args.demo.now in
    let text = program_text demo.number demo.classes demo.threads in
    let small = demos_are_small demo.number demo.classes demo.threads c.requires.0 c.requires.1 in
    let made : c.bytes.result.now ≡ text = c.bytes.ensures ∙ c.in_ok-text.ensures in
    let read : IsReadOf text c.bytes.result.now = made ∙ read_of_itself text small in
    let class : c.in_ok-class.class ≡ demo_class = c.in_ok-class.ensures ∙ c.in_ok-from_slice.ensures.items in
    IfOk-weaker c.prepare_text.result _ _ (λ p is. subst (λ (name : List ℕ). IsPrepared text (program_to_run name text) p) class is) (c.prepare_text.ensures.prepared text read)
