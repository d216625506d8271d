use Rattle.std.proofs.Common.{append_assoc}
use Rattle.dv_print.specs.Drafting.{draft_of}
use Rattle.dv_print.proofs.members.add_draft.Goals as goal

pub returns : goal.returns
unfolding draft_of
returns c =
    simp (c.in_ok-add_catches.ensures, c.deref-2.ensures.value, c.in_ok-catches_of.ensures, c.in_ok-add_items.ensures, c.deref.ensures.value, c.in_ok-items_of.ensures, c.in_ok-add_body_registers.ensures, append_assoc)
