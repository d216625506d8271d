-- The images of the examples of numbers and branches are what linking gives.
use Rattle.std.specs.Prelude.{refl}
use Rattle.dv_defs.specs.Linked.{IsImage}
use Rattle.test_machine.specs.Numbers.{adding, dividing, long_kept, longs, shifting, narrowing, switching, choosing}
use Rattle.test_machine.proofs.Linked.Linking.{computed, linked_by}

pub adding_is_linked : IsImage adding
unfolding computed
adding_is_linked = linked_by adding refl refl refl

pub dividing_is_linked : IsImage dividing
unfolding computed
dividing_is_linked = linked_by dividing refl refl refl

pub long_kept_is_linked : IsImage long_kept
unfolding computed
long_kept_is_linked = linked_by long_kept refl refl refl

pub longs_is_linked : IsImage longs
unfolding computed
longs_is_linked = linked_by longs refl refl refl

pub shifting_is_linked : IsImage shifting
unfolding computed
shifting_is_linked = linked_by shifting refl refl refl

pub narrowing_is_linked : IsImage narrowing
unfolding computed
narrowing_is_linked = linked_by narrowing refl refl refl

pub switching_is_linked : IsImage switching
unfolding computed
switching_is_linked = linked_by switching refl refl refl

pub choosing_is_linked : IsImage choosing
unfolding computed
choosing_is_linked = linked_by choosing refl refl refl
