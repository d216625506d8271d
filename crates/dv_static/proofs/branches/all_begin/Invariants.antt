use Rattle.std.proofs.Common.{◌≡◌, drop, map}
use Rattle.dv_static.specs.Jumps.{offsets_lead}
use Rattle.dv_static.specs.Tiles.{tile_of}
use Rattle.dv_static.proofs.branches.all_begin.Given as goal

abbrev pub invariant-loop-target : goal.invariant-loop-target
invariant-loop-target l = offsets_lead (map tile_of l.starts) l.at l.targets ≡ offsets_lead (map tile_of l.starts) l.at (drop l.target-index l.targets)
