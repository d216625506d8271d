use Rattle.std.proofs.Common.{List, ◌++◌, ap, ◌∙◌, map}
use Rattle.std.proofs.lemmas.Result.{on_ok_weaker}
use Rattle.dv_typing.specs.Accepting as accepting
use Rattle.dv_typing.specs.Accepting.{first_places, tile_places, try_places}
use Rattle.dv_ops.specs.Meaning.{code_of}
use Rattle.dv_static.specs.Tiles.{tile_of}
use Rattle.dv_static.proofs.faults.add_found_places.Goals as goal

pub returns : goal.returns
returns c =
    let image = c.args.image.now in
    let code = code_of c.args.code.now in
    on_ok_weaker c.add_try_places.result (λ found.
    found ∙
    ap (λ (qs : List accepting.Place). qs ++ try_places image code 0 code.body.tries)
    (c.in_ok-add_tile_places.ensures ∙
    ap (λ (qs : List accepting.Place). qs ++ tile_places image code (map tile_of c.args.tiles.now))
    (c.in_ok-add_first_places.ensures image))) c.add_try_places.ensures
