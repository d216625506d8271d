use Rattle.std.proofs.Common.{append_assoc, rules}
use Rattle.dv_print.proofs.items.add_packed.Goals as goal

pub returns : goal.returns
returns c = simp (c.in_ok-extend_from_slice-3.ensures.items, c.in_ok-add_label_lines.ensures, c.in_ok-extend_from_slice-2.ensures.items, c.in_ok-add_key.ensures, c.in_ok-extend_from_slice.ensures.items, append_assoc) (search rules)
