use Rattle.std.proofs.Common.{◌≡◌, ◌<◌, [], length, take}
use Rattle.std.specs.Prelude.{All, flat_map, slice_index_or}
use Rattle.dv_defs.specs.Order.{numbers}
use Rattle.dv_vtable.specs.Choosing.{AreMarked}
use Rattle.dv_hier.specs.Interfaces.{added}
use Rattle.dv_vtable.proofs.offering.superinterfaces_of.Given as goal

abbrev pub invariant-loop-class : goal.invariant-loop-class
invariant-loop-class l = record {
  range : All (λ c. c.0 < length l.sources.infos.now) l.found.items;
  marked : AreMarked l.marks (numbers l.found.items);
  found : numbers l.found.items ≡ added [] (flat_map (λ c. numbers (slice_index_or l.sources.interfaces.now c [])) (numbers (take l.class-index l.chain)));
}
