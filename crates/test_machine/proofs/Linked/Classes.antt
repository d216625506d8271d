-- The images of the examples of class initialisation are what linking gives.
use Rattle.std.specs.Prelude.{refl}
use Rattle.dv_defs.specs.Linked.{IsImage}
use Rattle.test_machine.specs.Classes.{crossing, failing, ordering, failing_main}
use Rattle.test_machine.proofs.Linked.Linking.{computed, linked_by}

pub crossing_is_linked : IsImage crossing
unfolding computed
crossing_is_linked = linked_by crossing refl refl refl

pub failing_is_linked : IsImage failing
unfolding computed
failing_is_linked = linked_by failing refl refl refl

pub ordering_is_linked : IsImage ordering
unfolding computed
ordering_is_linked = linked_by ordering refl refl refl

pub failing_main_is_linked : IsImage failing_main
unfolding computed
failing_main_is_linked = linked_by failing_main refl refl refl
