use Rattle.std.proofs.Common.{◌≡◌, ◌<◌, length, take}
use Rattle.std.specs.Prelude.{All}
use Rattle.dv_defs.specs.Order.{numbers}
use Rattle.dv_hier.specs.Interfaces.{added}
use Rattle.dv_vtable.specs.Choosing.{AreMarked}
use Rattle.dv_vtable.proofs.marks.add_unmarked.Given as goal

abbrev pub invariant-loop-class : goal.invariant-loop-class
invariant-loop-class l = record {
  range : All (λ c. c.0 < length l.initial.marks) l.found.items;
  marked : AreMarked l.marks (numbers l.found.items);
  found : numbers l.found.items ≡ added (numbers l.initial.found.items) (numbers (take l.class-index l.classes));
}
