-- The images of the examples of the static rules are what linking gives.
use Rattle.std.specs.Prelude.{refl}
use Rattle.dv_defs.specs.Linked.{IsImage}
use Rattle.test_machine.specs.Statics.{raw_bodies}
use Rattle.test_machine.proofs.Linked.Linking.{computed, linked_by}

pub raw_bodies_is_linked : IsImage raw_bodies
unfolding computed
raw_bodies_is_linked = linked_by raw_bodies refl refl refl
