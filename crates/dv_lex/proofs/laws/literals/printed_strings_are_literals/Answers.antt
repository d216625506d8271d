use Rattle.dv_lex.proofs.Literals.Printed.{printed}
use Rattle.dv_lex.proofs.laws.literals.printed_strings_are_literals.Goals as goal

pub returns : goal.returns
returns c = printed
