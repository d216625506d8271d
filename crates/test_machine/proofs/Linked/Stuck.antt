-- The images of the examples of where the machine is stuck are what linking gives.
use Rattle.std.specs.Prelude.{refl}
use Rattle.dv_defs.specs.Linked.{IsImage}
use Rattle.test_machine.specs.Stuck.{undefined, broken, half, uninitialised, reference, number, mixing, resultless, uncaught_program, falls_off, twice}
use Rattle.test_machine.proofs.Linked.Linking.{computed, linked_by}

pub undefined_is_linked : IsImage undefined
unfolding computed
undefined_is_linked = linked_by undefined refl refl refl

pub broken_is_linked : IsImage broken
unfolding computed
broken_is_linked = linked_by broken refl refl refl

pub half_is_linked : IsImage half
unfolding computed
half_is_linked = linked_by half refl refl refl

pub uninitialised_is_linked : IsImage uninitialised
unfolding computed
uninitialised_is_linked = linked_by uninitialised refl refl refl

pub reference_is_linked : IsImage reference
unfolding computed
reference_is_linked = linked_by reference refl refl refl

pub number_is_linked : IsImage number
unfolding computed
number_is_linked = linked_by number refl refl refl

pub mixing_is_linked : IsImage mixing
unfolding computed
mixing_is_linked = linked_by mixing refl refl refl

pub resultless_is_linked : IsImage resultless
unfolding computed
resultless_is_linked = linked_by resultless refl refl refl

pub uncaught_program_is_linked : IsImage uncaught_program
unfolding computed
uncaught_program_is_linked = linked_by uncaught_program refl refl refl

pub falls_off_is_linked : IsImage falls_off
unfolding computed
falls_off_is_linked = linked_by falls_off refl refl refl

pub twice_is_linked : IsImage twice
unfolding computed
twice_is_linked = linked_by twice refl refl refl
