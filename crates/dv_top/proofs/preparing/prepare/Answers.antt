use Rattle.std.proofs.Common.{◌∙◌}
use Rattle.dv_top.proofs.preparing.prepare.Goals as goal

pub returns-clause-prepared : goal.returns-clause-prepared
returns-clause-prepared g c bytes left = c.in_ok-prepare_text.ensures.prepared bytes (c.deref.ensures.value ∙ c.in_ok-text.ensures.all bytes left)
