use mir.Val.{SFits}
use Rattle.std.proofs.Common.{sym, ◌∙◌, ap, rules, w64}
use Rattle.std.proofs.lemmas.Int.{to_z-of_z}
use Rattle.std.proofs.lemmas.Result.{err_from_is_err_and}
use Rattle.dv_coderead.specs.Words.{literal_in}
use Rattle.dv_classread.proofs.Values.{number_refused, number_within}
use Rattle.dv_classread.proofs.class_line.number_value.Goals as goal

pub returns-in_err-number-clause-exact : goal.returns-in_err-number-clause-exact
returns-in_err-number-clause-exact c =
    let w = c.args.word.now in
    let p = err_from_is_err_and c.from_residual.result c.from_residual.ensures.1 in
    let read = sym (ap (λ bits. literal_in bits w) c.bits_of.ensures.exact) ∙ sym c.in_err-number.ensures in
    rw (p.1, p.2) (number_refused c.args.ty.now w c.in_err-number.field-0.0 read)

pub returns-clause-exact : goal.returns-clause-exact
returns-clause-exact c =
    let w = c.args.word.now in
    let z = c.in_ok-number.number in
    let fits : SFits w64 z = search rules in
    let read = sym (ap (λ bits. literal_in bits w) c.bits_of.ensures.exact) ∙ sym c.in_ok-number.ensures in
    rw (number_within c.args.ty.now w z read) (rw (to_z-of_z w64 z fits) at c.fitting_value.ensures.exact)
