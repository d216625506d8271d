use Rattle.std.proofs.Common.{sym}
use Rattle.std.proofs.Math.Seq.{take-length}
use Rattle.dv_defs.proofs.SpellingLaws.{unique_where_both_stand}
use Rattle.dv_units.proofs.laws.spellings_are_apart.Goals as goal

pub returns : goal.returns
returns c i j us vs p q e = unique_where_both_stand i j us vs vs p e q (sym (take-length vs))
