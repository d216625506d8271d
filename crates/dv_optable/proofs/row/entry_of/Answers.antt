use Rattle.std.proofs.Common.{option_map, ap, ◌∙◌}
use Rattle.dv_optable.specs.Table.{row}
use Rattle.dv_optable.proofs.Rows.{no_row, row_known}
use Rattle.dv_optable.proofs.row.entry_of.Goals as goal

pub returns-in_err-place : goal.returns-in_err-place
returns-in_err-place c = ap (option_map (λ r. row r.0 r.1.now r.2 r.3)) c.from_residual.ensures ∙ no_row c.args.op c.ranges.op.fits c.in_err-place.ensures.place

pub returns : goal.returns
returns c = row_known _ c.args.op c.in_ok-place.place _ c.rows.ensures.entries c.ranges.op.fits c.in_ok-place.ensures.place c.row_at.ensures
