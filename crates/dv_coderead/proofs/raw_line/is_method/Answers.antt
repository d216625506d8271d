use Rattle.std.proofs.Common.{◌∙◌}
use Rattle.dv_coderead.proofs.RawEntries.{has_byte}
use Rattle.dv_coderead.proofs.raw_line.is_method.Goals as goal

pub returns : goal.returns
returns c = c.contains.ensures.value ∙ has_byte 40 c.args.behind.now
