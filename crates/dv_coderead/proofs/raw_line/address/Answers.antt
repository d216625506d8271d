use mir.Val.{SFits}
use Rattle.std.proofs.Common.{sym, ap, ◌∙◌, rules, w64}
use Rattle.std.proofs.lemmas.Int.{to_z-of_z}
use Rattle.std.proofs.lemmas.Result.{err_from_is_err_and}
use Rattle.dv_coderead.specs.RawLines.{address_from}
use Rattle.dv_coderead.proofs.Addresses.{address_refused, address_within}
use Rattle.dv_coderead.proofs.raw_line.address.Goals as goal

pub returns-in_err-literal : goal.returns-in_err-literal
returns-in_err-literal c =
    let p = err_from_is_err_and c.from_residual.result c.from_residual.ensures.1 in
    rw (p.1, p.2) (sym (address_refused c.args.word.now c.in_err-literal.field-0.0 (sym c.in_err-literal.ensures)))

pub returns : goal.returns
returns c =
    let z = c.in_ok-literal.field-0 in
    let fits : SFits w64 z = search rules in
    c.address_from.ensures ∙ ap address_from (to_z-of_z w64 z fits) ∙ sym (address_within c.args.word.now z (sym c.in_ok-literal.ensures))
