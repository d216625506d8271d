use Rattle.std.proofs.Common.{append_assoc}
use Rattle.dv_print.proofs.class.add_interface.Goals as goal

pub returns : goal.returns
returns c = simp (c.in_ok-extend_from_slice-3.ensures.items, c.bytes.ensures, c.in_ok-extend_from_slice-2.ensures.items, c.in_ok-extend_from_slice.ensures.items, append_assoc)
