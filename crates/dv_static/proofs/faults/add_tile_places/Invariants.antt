use Rattle.std.proofs.Common.{◌≡◌, ◌++◌, drop, map}
use Rattle.dv_typing.specs.Accepting.{tile_places}
use Rattle.dv_ops.specs.Meaning.{code_of}
use Rattle.dv_static.specs.Placed.{places_of}
use Rattle.dv_static.specs.Tiles.{tile_of}
use Rattle.dv_static.proofs.faults.add_tile_places.Given as goal

-- with those of the items from here on, the places are all
abbrev pub invariant-loop-i : goal.invariant-loop-i
invariant-loop-i l =
    places_of l.places.items ++ tile_places l.image (code_of l.code) (map tile_of (drop l.i l.tiles)) ≡
    places_of l.fn.places.items ++ tile_places l.image (code_of l.code) (map tile_of l.tiles)
