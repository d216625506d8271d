use Rattle.std.proofs.Common.{◌∙◌, ap, arith, length}
use Rattle.dv_top.proofs.FaultParts.{has_seven}
use Rattle.dv_top.proofs.printed.tail_of.Goals as goal

pub slice_bounds-from_slice-count : goal.slice_bounds-from_slice-count
slice_bounds-from_slice-count c = omega (arith, ap length (c.bytes.ensures ∙ c.in_ok-line.ensures), has_seven c.args.fault.now)

pub slice_bounds-from_slice-start : goal.slice_bounds-from_slice-start
slice_bounds-from_slice-start c = omega (arith, ap length (c.bytes.ensures ∙ c.in_ok-line.ensures), has_seven c.args.fault.now)
