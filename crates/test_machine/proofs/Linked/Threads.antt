-- The images of the examples of threads and monitors are what linking gives.
use Rattle.std.specs.Prelude.{refl}
use Rattle.dv_defs.specs.Linked.{IsImage}
use Rattle.test_machine.specs.Threads.{waiting_program, boxing, summing}
use Rattle.test_machine.proofs.Linked.Linking.{computed, linked_by}

pub waiting_program_is_linked : IsImage waiting_program
unfolding computed
waiting_program_is_linked = linked_by waiting_program refl refl refl

pub boxing_is_linked : IsImage boxing
unfolding computed
boxing_is_linked = linked_by boxing refl refl refl

pub summing_is_linked : IsImage summing
unfolding computed
summing_is_linked = linked_by summing refl refl refl
