use Rattle.std.proofs.Common.{◌≡◌, ◌+◌, List, length}
use Rattle.dv_defs.specs.declared.class.MethodDef.{MethodDef}
use Rattle.dv_vtable.specs.Firsts.{AreNumbered, StandAt}
use Rattle.dv_vtable.proofs.key_numbers.add_keys.Given as goal

abbrev pub invariant-loop-method : goal.invariant-loop-method
invariant-loop-method l = record {
  count : length l.keys.items ≡ length l.initial.keys.items + l.method-index;
  numbered : (all : List MethodDef) → StandAt all (length l.initial.keys.items) l.methods → AreNumbered all l.initial.known l.initial.numbers.items l.initial.keys.items
      → AreNumbered all l.known l.numbers.items l.keys.items;
}
