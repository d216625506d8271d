use Rattle.std.proofs.Common.{◌≡◌, length}
use Rattle.std.specs.Vec.Iter.{into_iter_items, into_iter_len}
use Rattle.dv_classread.specs.Assembling.{and_then, methods_of}
use Rattle.dv_classread.proofs.assembling.assembled_methods.Given as goal

abbrev pub invariant-loop-method : goal.invariant-loop-method
invariant-loop-method l = record {
  read : methods_of l.fn.methods ≡ and_then l.done.items (methods_of (into_iter_items l.method-iterator));
  counted : into_iter_len l.method-iterator ≡ length (into_iter_items l.method-iterator);
}
