-- The images of the examples of objects, calls and strings are what linking gives.
use Rattle.std.specs.Prelude.{refl}
use Rattle.dv_defs.specs.Linked.{IsImage}
use Rattle.test_machine.specs.Objects.{calling, arrays, texts}
use Rattle.test_machine.proofs.Linked.Linking.{computed, linked_by}

pub calling_is_linked : IsImage calling
unfolding computed
calling_is_linked = linked_by calling refl refl refl

pub arrays_is_linked : IsImage arrays
unfolding computed
arrays_is_linked = linked_by arrays refl refl refl

pub texts_is_linked : IsImage texts
unfolding computed
texts_is_linked = linked_by texts refl refl refl
