use Rattle.std.proofs.Common.{◌≡◌, drop}
use Rattle.dv_defs.specs.Pools.{class_named, find_from}
use Rattle.dv_demands.proofs.assigning.class_of.Given as goal

-- no class before has the descriptor
abbrev pub invariant-loop-class : goal.invariant-loop-class
invariant-loop-class l = class_named l.image l.name ≡ find_from (drop l.class-index l.image.classes) l.class-index l.name
