use Rattle.std.proofs.Common.{append_assoc}
use Rattle.dv_print.proofs.items.add_data.Goals as goal

pub returns : goal.returns
returns c = simp (c.in_ok-extend_from_slice-3.ensures.items, c.in_ok-add_all_elements.ensures, c.in_ok-extend_from_slice-2.ensures.items, c.in_ok-add_decimal.ensures, c.from.ensures, c.in_ok-extend_from_slice.ensures.items, append_assoc)
