use Rattle.std.proofs.Common.{sym, subst}
use Rattle.dv_worklist.specs.Beside.{fits_beside}
use Rattle.law_blocks.specs.Blocks.{fits_blocks}
use Rattle.dv_plan.specs.Marks.{before_by}
use Rattle.dv_infer.specs.Owned.{NamedCode}
use Rattle.dv_infer.proofs.flow.MethodFlowFlow.onward.Goals as goal

pub onward-requires-clause-fits : goal.onward-requires-clause-fits
onward-requires-clause-fits c =
    let fits = subst (λ (m : NamedCode). fits_beside m.names (fits_blocks m.names.image m.code (before_by m.marks)) c.args.place c.args.row.now) (sym c.self.view_is) c.requires.fits in
    (fits.0, fits.1.0)
