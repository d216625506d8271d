use Rattle.std.proofs.Common.{◌≡◌, map, take}
use Rattle.dv_machine.specs.Opening.{field_cells}
use Rattle.dv_words.specs.Erasure.{erased_values}
use Rattle.dv_heap.specs.Objects.{words_by}
use Rattle.dv_heap.proofs.statics.first_statics.Given as goal

abbrev pub invariant-loop-info : goal.invariant-loop-info
invariant-loop-info l = map words_by l.statics ≡ map erased_values (field_cells l.image (take l.info-index l.fn.image.fields) 0)
