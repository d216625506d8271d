use Rattle.std.proofs.Common.{◌≡◌, map, Some, sym, ap, ◌∙◌}
use Rattle.dv_defs.specs.Tiling.{tile_at}
use Rattle.dv_static.specs.Tiles.{tile_of}
use Rattle.dv_static.specs.Starting.{place_from}
use Rattle.dv_static.proofs.StartLemmas.{tile_found, tile_missing}
use Rattle.dv_static.proofs.starts.Starts.tile_at.Goals as goal

pub returns-in-Some : goal.returns-in-Some
returns-in-Some c =
    let ts = c.self.inside.tiles.now in
    let place : Some c.in-Some.k ≡ place_from 0 ts c.args.at = sym c.in-Some.is ∙ (c.place_at.ensures.place ∙ ap (λ us. place_from 0 us c.args.at) (sym c.self.view_is)) in
    tile_found ts c.args.at c.in-Some.k c.index-self-k.result place ∙ ap (λ us. tile_at (map tile_of us) c.args.at) c.self.view_is

pub returns-in-None : goal.returns-in-None
returns-in-None c = tile_missing c.args.self.now c.args.at (sym c.in-None.is ∙ c.place_at.ensures.place)
