use Rattle.std.proofs.Common.{ap, ◌∙◌}
use Rattle.dv_typing.specs.Statics.{is_branch}
use Rattle.dv_static.proofs.branches.is_branch_at.Goals as goal

pub returns : goal.returns
returns c = c.is_branch.ensures ∙ ap is_branch c.family_of.ensures
