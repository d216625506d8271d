use Rattle.dv_lex.proofs.Spelled.Printed.{signed_read, unsigned_read}
use Rattle.dv_lex.proofs.laws.numbers.printed_numbers_are_read.Goals as goal

pub returns : goal.returns
returns c = record { signed = signed_read; unsigned = unsigned_read }
