-- The image of the examples of selection is what linking gives.
use Rattle.std.specs.Prelude.{refl}
use Rattle.dv_defs.specs.Linked.{IsImage}
use Rattle.test_machine.specs.Selecting.{defaults}
use Rattle.test_machine.proofs.Linked.Linking.{computed, linked_by}

pub defaults_is_linked : IsImage defaults
unfolding computed
defaults_is_linked = linked_by defaults refl refl refl
