use Rattle.std.proofs.Common.{◌≡◌, drop}
use Rattle.dv_defs.specs.Pools.{class_named, find_from}
use Rattle.dv_image.proofs.named.boot_class.Given as goal

-- no class before has the descriptor
abbrev pub invariant-loop-place : goal.invariant-loop-place
invariant-loop-place l = class_named l.image l.name ≡ find_from (drop l.place l.image.classes) l.place l.name
