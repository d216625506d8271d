use Rattle.std.proofs.Common.{List, ◌++◌, ap, ◌∙◌, map}
use Rattle.dv_typing.specs.Accepting.{first_places, tile_places, try_places}
use Rattle.dv_ops.specs.Meaning.{code_of}
use Rattle.dv_static.specs.declared.places.Place.{Place}
use Rattle.dv_static.specs.Placed.{places_of}
use Rattle.dv_static.specs.Tiles.{tile_of}
use Rattle.dv_static.proofs.faults.found_places.Goals as goal

pub returns-in-Ok : goal.returns-in-Ok
returns-in-Ok c =
    let image = c.args.image.now in
    let code = code_of c.args.code.now in
    c.in-Ok.ensures ∙
    ap (λ (ps : List Place). ((places_of ps ++ first_places image code) ++ tile_places image code (map tile_of c.args.tiles.now)) ++ try_places image code 0 code.body.tries) c.new-places.ensures.items
