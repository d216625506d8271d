use Rattle.std.proofs.Common.{refl}
use Rattle.dv_heap.proofs.FieldWords.{slots_more}
use Rattle.dv_heap.proofs.fields.words_of_slots.Goals as goal

pub loop-field-preserved : goal.loop-field-preserved
loop-field-preserved c =
    slots_more c.args.image.now c.args.slots.now c.loop-field.field-index _ (record { 0 = 0 }) c.loop-field.words c.in_ok-words.words c.loop-field-test.true refl c.loop-field.invariant c.in_ok-words.ensures
