use Rattle.dv_lex.proofs.Spelled.Texts.{digits_found}
use Rattle.dv_lex.proofs.numbers.cut.Goals as goal

pub returns-clause-digits : goal.returns-clause-digits
returns-clause-digits c =
    digits_found c.args.token.now c.strip-negative.result.1.now c.strip-hexadecimal.result.1.now c.before_suffix-digits.result.now
    c.strip-negative.result.0 c.strip-hexadecimal.result.0
    c.strip-negative.ensures.whole c.strip-negative.ensures.there c.strip-hexadecimal.ensures.whole c.strip-hexadecimal.ensures.there
    c.before_suffix-digits.ensures.digits
