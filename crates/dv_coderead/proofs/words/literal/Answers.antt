use mir.Val.{SFits}
use Rattle.std.proofs.Common.{Ok, ◌∙◌, ap, sym, rules, w64}
use Rattle.std.proofs.lemmas.Bool.{true≢false}
use Rattle.std.proofs.lemmas.Int.{to_z-of_z}
use Rattle.dv_coderead.specs.Words.{fitting}
use Rattle.dv_coderead.proofs.Spelling.{literal_not_read, literal_read}
use Rattle.dv_coderead.proofs.words.literal.Goals as goal

pub returns-then-not-is_number : goal.returns-then-not-is_number
returns-then-not-is_number c =
    sym (literal_not_read c.args.bits c.args.word.now (λ is. true≢false (sym (c.is_number.ensures.1 is) ∙ c.if-not-is_number.true)))

pub returns-in-Ok : goal.returns-in-Ok
returns-in-Ok c =
    let is = c.is_number.ensures.0 c.if-not-is_number.false in
    let fits : SFits w64 c.in-Ok.value = search rules in
    ap Ok (to_z-of_z w64 c.in-Ok.value fits) ∙ sym (literal_read c.args.bits c.args.word.now is.0 is.1 ∙ ap fitting (c.in-Ok.ensures is.0 is.1))

pub returns-in-Err : goal.returns-in-Err
returns-in-Err c =
    let is = c.is_number.ensures.0 c.if-not-is_number.false in
    sym (literal_read c.args.bits c.args.word.now is.0 is.1 ∙ ap fitting (c.in-Err.ensures is.0 is.1).1)
