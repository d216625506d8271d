use mir.Val.{SFits}
use Rattle.std.proofs.Common.{[], ◌∷◌, Some, None, ap, sym, ◌∙◌, rules, w64}
use Rattle.std.proofs.lemmas.Bool.Decides.{Decides-eqb}
use Rattle.std.proofs.lemmas.Int.{to_z-of_z}
use Rattle.std.proofs.lemmas.Result.{err_from_is_err_and}
use Rattle.std.proofs.lemmas.Slice.Eq.{strip_prefix_is}
use Rattle.dv_coderead.specs.Words.{decimal_in}
use Rattle.dv_coderead.specs.WordParts.{register_at}
use Rattle.dv_coderead.proofs.Numbers.{argument_word, other_word, plain_word, register_read, register_refused}
use Rattle.dv_coderead.proofs.words.register.Goals as goal

pub returns-in_err-decimal : goal.returns-in_err-decimal
returns-in_err-decimal c =
    let w = c.args.word.now in
    let o = decimal_in c.in-Some.digits.now in
    let whole = strip_prefix_is Decides-eqb w (118 ∷ []) (Some c.in-Some.digits) c.in-Some.ensures.cases in
    let p = err_from_is_err_and c.from_residual.result c.from_residual.ensures.1 in
    let refused = plain_word c.args.frame w c.in-Some.digits.now whole ∙ register_refused o c.in_err-decimal.field-0.0 (sym c.in_err-decimal.ensures) in
    rw (p.1, p.2) (sym refused)

pub returns-in-Some : goal.returns-in-Some
returns-in-Some c =
    let w = c.args.word.now in
    let z = c.in_ok-decimal.field-0 in
    let whole = strip_prefix_is Decides-eqb w (118 ∷ []) (Some c.in-Some.digits) c.in-Some.ensures.cases in
    let fits : SFits w64 z = search rules in
    c.register_at.ensures ∙ ap register_at (to_z-of_z w64 z fits) ∙ register_read (decimal_in c.in-Some.digits.now) z (sym c.in_ok-decimal.ensures)
    ∙ sym (plain_word c.args.frame w c.in-Some.digits.now whole)

pub returns-in-Some-strip_prefix : goal.returns-in-Some-strip_prefix
returns-in-Some-strip_prefix c =
    let w = c.args.word.now in
    let digits = c.in-Some-strip_prefix.digits in
    let whole = strip_prefix_is Decides-eqb w (112 ∷ []) (Some digits) c.in-Some-strip_prefix.ensures.cases in
    c.argument.ensures ∙ sym (argument_word c.args.frame w digits.now whole)

pub returns : goal.returns
returns c =
    let w = c.args.word.now in
    let no_v = strip_prefix_is Decides-eqb w (118 ∷ []) None c.in_default.ensures.cases in
    let no_p = strip_prefix_is Decides-eqb w (112 ∷ []) None c.in_default-strip_prefix.ensures.cases in
    sym (other_word c.args.frame w no_v no_p)
