-- The images of the examples of turns and seeded runs are what linking gives.
use Rattle.std.specs.Prelude.{refl}
use Rattle.dv_defs.specs.Linked.{IsImage}
use Rattle.test_machine.specs.Seeded.{four_steps, two_threads}
use Rattle.test_machine.proofs.Linked.Linking.{computed, linked_by}

pub four_steps_is_linked : IsImage four_steps
unfolding computed
four_steps_is_linked = linked_by four_steps refl refl refl

pub two_threads_is_linked : IsImage two_threads
unfolding computed
two_threads_is_linked = linked_by two_threads refl refl refl
