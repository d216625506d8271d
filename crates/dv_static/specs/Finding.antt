-- What a body breaks, as it is found.
use Rattle.std.specs.Prelude.{List, ◌++◌}
use Rattle.dv_defs.specs.Images.{Image}
use Rattle.dv_defs.specs.Tiling.{Tile}
use Rattle.dv_defs.specs.Op.{Code}
use Rattle.dv_typing.specs.Accepting.{Place, first_places, tile_places, try_places}

-- at its beginning, item by item, and try entry by try entry
abbrev pub places_found : Image → Code → List Tile → List Place
places_found image code ts = first_places image code ++ tile_places image code ts ++ try_places image code 0 code.body.tries
