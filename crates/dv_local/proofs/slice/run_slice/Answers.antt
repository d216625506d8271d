use Rattle.std.proofs.Common.{◌≡◌}
use Rattle.dv_local.proofs.Slices.{ran_on}
use Rattle.dv_local.proofs.slice.run_slice.Goals as goal

pub returns-clause-made : goal.returns-clause-made
returns-clause-made c made = ran_on c.args.image.now c.args.slice.now.steps _ c.run_frame-done.result c.args.slice.now.start c.args.slice.now.end _ made c.run_frame-done.ensures
