-- The images of the examples of the typing rules are what linking gives.
use Rattle.std.specs.Prelude.{refl}
use Rattle.dv_defs.specs.Linked.{IsImage}
use Rattle.test_machine.specs.Typing.{falling, wrong_class, moved_int, no_result_left, nothing_caught, mixed, no_array, constructed_twice, early, wrong_form, puts_upper}
use Rattle.test_machine.proofs.Linked.Linking.{computed, linked_by}

pub falling_is_linked : IsImage falling
unfolding computed
falling_is_linked = linked_by falling refl refl refl

pub wrong_class_is_linked : IsImage wrong_class
unfolding computed
wrong_class_is_linked = linked_by wrong_class refl refl refl

pub moved_int_is_linked : IsImage moved_int
unfolding computed
moved_int_is_linked = linked_by moved_int refl refl refl

pub no_result_left_is_linked : IsImage no_result_left
unfolding computed
no_result_left_is_linked = linked_by no_result_left refl refl refl

pub nothing_caught_is_linked : IsImage nothing_caught
unfolding computed
nothing_caught_is_linked = linked_by nothing_caught refl refl refl

pub mixed_is_linked : IsImage mixed
unfolding computed
mixed_is_linked = linked_by mixed refl refl refl

pub no_array_is_linked : IsImage no_array
unfolding computed
no_array_is_linked = linked_by no_array refl refl refl

pub constructed_twice_is_linked : IsImage constructed_twice
unfolding computed
constructed_twice_is_linked = linked_by constructed_twice refl refl refl

pub early_is_linked : IsImage early
unfolding computed
early_is_linked = linked_by early refl refl refl

pub wrong_form_is_linked : IsImage wrong_form
unfolding computed
wrong_form_is_linked = linked_by wrong_form refl refl refl

pub puts_upper_is_linked : IsImage puts_upper
unfolding computed
puts_upper_is_linked = linked_by puts_upper refl refl refl
