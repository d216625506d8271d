use Rattle.std.proofs.Common.{◌≡◌, length, take}
use Rattle.dv_machine.specs.Heap.{slot_types}
use Rattle.dv_heap.proofs.fields.words_of_slots.Given as goal

abbrev pub invariant-loop-field : goal.invariant-loop-field
invariant-loop-field l = l.words ≡ length (slot_types l.image (take l.field-index l.slots))
