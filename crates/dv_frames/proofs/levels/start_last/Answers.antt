use Rattle.std.proofs.Common.{sym, ap, ◌∙◌}
use Rattle.std.specs.Prelude.{Some}
use Rattle.dv_frames.specs.declared.levels.Level.{Level}
use Rattle.dv_frames.proofs.Cutting.{running_set}
use Rattle.dv_frames.proofs.levels.start_last.Goals as goal

pub returns-in-Some-Init : goal.returns-in-Some-Init
returns-in-Some-Init c = running_set c.args.levels.now c.in-Some-Init.class c.in-Some-Init.field-0-1 (sym c.in-Some-Init.ensures ∙ ap (λ (l : Level). Some l) c.in-Some-Init.field-0-is)
