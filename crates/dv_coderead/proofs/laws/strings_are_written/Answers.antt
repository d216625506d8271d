use Rattle.dv_coderead.proofs.Strings.{string_written}
use Rattle.dv_coderead.proofs.laws.strings_are_written.Goals as goal

pub returns : goal.returns
returns c = string_written
