use Rattle.std.proofs.Common.{◌≡◌, length}
use Rattle.std.specs.Vec.Iter.{into_iter_items, into_iter_len}
use Rattle.dv_classread.specs.Assembling.{and_then, classes_of}
use Rattle.dv_classread.proofs.assembling.assembled_classes.Given as goal

abbrev pub invariant-loop-class : goal.invariant-loop-class
invariant-loop-class l = record {
  read : classes_of l.fn.classes.items ≡ and_then l.done.items (classes_of (into_iter_items l.class-iterator));
  counted : into_iter_len l.class-iterator ≡ length (into_iter_items l.class-iterator);
}
