use Rattle.std.proofs.Common.{sym, ap, ◌∙◌}
use Rattle.std.specs.Prelude.{Some}
use Rattle.dv_frames.specs.declared.levels.Level.{Level}
use Rattle.dv_frames.proofs.Cutting.{head_set}
use Rattle.dv_frames.proofs.levels.set_last.Goals as goal

pub returns-in-Some-Code : goal.returns-in-Some-Code
returns-in-Some-Code c = head_set c.args.levels.now c.in-Some-Code.field-0-0 c.args.head c.in-Some-Code.base (sym c.in-Some-Code.ensures ∙ ap (λ (l : Level). Some l) c.in-Some-Code.field-0-is)
