use Rattle.std.proofs.lemmas.Grind.{common_steps}
use Rattle.std.proofs.Common.{sym, ◌∙◌, arith}
use Rattle.dv_coderead.proofs.Values.{begins_with_word, number_found}
use Rattle.dv_coderead.proofs.body_line.begins_with_number.Goals as goal

pub returns-in-Word : goal.returns-in-Word
returns-in-Word c =
    number_found c.in-Word.word.now c.is_number.result c.is_number.ensures.0 c.is_number.ensures.1
    ∙ sym (begins_with_word c.args.pieces.now c.first-item.result c.in-Word.word c.in-len1-up.len_at_least c.first-item.is c.in-Word.is)

pub returns-in_default : goal.returns-in_default
returns-in_default c = grind (arith, common_steps)
