-- The images of the examples of exceptions are what linking gives.
use Rattle.std.specs.Prelude.{refl}
use Rattle.dv_defs.specs.Linked.{IsImage}
use Rattle.test_machine.specs.Exceptions.{exiting, throwing}
use Rattle.test_machine.proofs.Linked.Linking.{computed, linked_by}

pub exiting_is_linked : IsImage exiting
unfolding computed
exiting_is_linked = linked_by exiting refl refl refl

pub throwing_is_linked : IsImage throwing
unfolding computed
throwing_is_linked = linked_by throwing refl refl refl
