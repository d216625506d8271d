use Rattle.std.proofs.Common.{rules, sym, ◌∙◌}
use Rattle.dv_resolve.proofs.MainLaws.{answers_found, answers_missing}
use Rattle.dv_resolve.proofs.main_method.main_named.Goals as goal

pub returns-in-Some : goal.returns-in-Some
returns-in-Some c =
    answers_found c.args.image.now c.args.name.now c.in-Some.class c.main_of_class.result (sym c.in-Some.is ∙ c.class_of.ensures) c.main_of_class.ensures

pub returns-in_ok-clone-in-None : goal.returns-in_ok-clone-in-None
returns-in_ok-clone-in-None c =
    answers_missing c.args.image.now c.args.name.now c.in_ok-clone-in-None.field-0 c.error_of.result (sym c.in-None.is ∙ c.class_of.ensures) (search rules) c.error_of.ensures
