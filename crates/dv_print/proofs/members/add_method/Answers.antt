use Rattle.std.proofs.Common.{append_assoc}
use Rattle.dv_print.proofs.members.add_method.Goals as goal

pub returns : goal.returns
returns c = simp (c.in_ok-extend_from_slice.ensures.items, c.in_ok-add_body_if_any.ensures, c.in_ok-add_method_line.ensures, append_assoc)
