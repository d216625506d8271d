use Rattle.std.proofs.Common.{length, arith}
use Rattle.dv_defs.proofs.TilingLaws.{tiles_found}
use Rattle.dv_asm.specs.Layout.{units_of}
use Rattle.dv_asm.specs.Tiles.{tiles_of}
use Rattle.dv_asm.proofs.TileLemmas.{are_tiled}
use Rattle.dv_asm.proofs.laws.units_are_items.Goals as goal

pub returns-clause-tiled : goal.returns-clause-tiled
returns-clause-tiled c items pools spelled = (are_tiled items pools spelled (length items) (omega arith)).tiled

pub returns-clause-tiling : goal.returns-clause-tiling
returns-clause-tiling c items pools spelled units =
    tiles_found (tiles_of items pools (length items)) 0 (units_of items pools (length items)) units (are_tiled items pools spelled (length items) (omega arith)).tiled
