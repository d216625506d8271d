use Rattle.std.proofs.Common.{ap, ◌∙◌}
use Rattle.dv_lex.specs.Bytes.{is_hexadecimal}
use Rattle.dv_lex.proofs.Literals.Next.{digit_next}
use Rattle.dv_lex.proofs.literal.next_digit.Goals as goal

pub digit_value-requires : goal.digit_value-requires
digit_value-requires c = ap is_hexadecimal (digit_next _ _ c.in-Some.digit c.in-Some.ensures.steps.0 c.requires).same ∙ c.requires
