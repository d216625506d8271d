-- The images of the examples of what the verifier accepts and refuses are what linking gives.
use Rattle.std.specs.Prelude.{refl}
use Rattle.dv_defs.specs.Linked.{IsImage}
use Rattle.test_machine.specs.Verifying.{boot_alone, unwritten, written, half_written, null_and_zero, computed_zero, two_of_one, one_a_turn, inner, inner_call}
use Rattle.test_machine.proofs.Linked.Linking.{computed, linked_by}

pub boot_alone_is_linked : IsImage boot_alone
unfolding computed
boot_alone_is_linked = linked_by boot_alone refl refl refl

pub unwritten_is_linked : IsImage unwritten
unfolding computed
unwritten_is_linked = linked_by unwritten refl refl refl

pub written_is_linked : IsImage written
unfolding computed
written_is_linked = linked_by written refl refl refl

pub half_written_is_linked : IsImage half_written
unfolding computed
half_written_is_linked = linked_by half_written refl refl refl

pub null_and_zero_is_linked : IsImage null_and_zero
unfolding computed
null_and_zero_is_linked = linked_by null_and_zero refl refl refl

pub computed_zero_is_linked : IsImage computed_zero
unfolding computed
computed_zero_is_linked = linked_by computed_zero refl refl refl

pub two_of_one_is_linked : IsImage two_of_one
unfolding computed
two_of_one_is_linked = linked_by two_of_one refl refl refl

pub one_a_turn_is_linked : IsImage one_a_turn
unfolding computed
one_a_turn_is_linked = linked_by one_a_turn refl refl refl

pub inner_is_linked : IsImage inner
unfolding computed
inner_is_linked = linked_by inner refl refl refl

pub inner_call_is_linked : IsImage inner_call
unfolding computed
inner_call_is_linked = linked_by inner_call refl refl refl
