-- The images of the examples of stops at limits are what linking gives.
use Rattle.std.specs.Prelude.{refl}
use Rattle.dv_defs.specs.Linked.{IsImage}
use Rattle.test_machine.specs.Limits.{fitting, filling, deep, deeper, wide, wider, looping, printing, starting}
use Rattle.test_machine.proofs.Linked.Linking.{computed, linked_by}

pub fitting_is_linked : IsImage fitting
unfolding computed
fitting_is_linked = linked_by fitting refl refl refl

pub filling_is_linked : IsImage filling
unfolding computed
filling_is_linked = linked_by filling refl refl refl

pub deep_is_linked : IsImage deep
unfolding computed
deep_is_linked = linked_by deep refl refl refl

pub deeper_is_linked : IsImage deeper
unfolding computed
deeper_is_linked = linked_by deeper refl refl refl

pub wide_is_linked : IsImage wide
unfolding computed
wide_is_linked = linked_by wide refl refl refl

pub wider_is_linked : IsImage wider
unfolding computed
wider_is_linked = linked_by wider refl refl refl

pub looping_is_linked : IsImage looping
unfolding computed
looping_is_linked = linked_by looping refl refl refl

pub printing_is_linked : IsImage printing
unfolding computed
printing_is_linked = linked_by printing refl refl refl

pub starting_is_linked : IsImage starting
unfolding computed
starting_is_linked = linked_by starting refl refl refl
