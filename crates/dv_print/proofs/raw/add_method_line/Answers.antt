use Rattle.std.proofs.Common.{append_assoc}
use Rattle.dv_print.proofs.raw.add_method_line.Goals as goal

pub returns : goal.returns
returns c = simp (c.in_ok-extend_from_slice-2.ensures.items, c.in_ok-add_method.ensures, c.in_ok-extend_from_slice.ensures.items, append_assoc)
