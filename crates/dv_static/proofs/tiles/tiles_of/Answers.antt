use Rattle.std.proofs.Common.{◌≡◌, ℕ, ◌+◌, ◌<◌, ◌≤◌, List, length, drop, Option, sym, subst}
use Rattle.std.specs.Prelude.{option_map, IfSome}
use Rattle.dv_defs.specs.Tiling.{piece_here}
use Rattle.dv_static.specs.declared.tiles.Item.{Item}
use Rattle.dv_static.specs.declared.tiles.Tile.{Tile}
use Rattle.dv_static.specs.Tiles.{item_sized}
use Rattle.dv_static.proofs.TilesSoFar.{AreSoFar, one_more, none_more}
use Rattle.dv_static.proofs.tiles.tiles_of.Goals as goal

pub loop-at-preserved : goal.loop-at-preserved
loop-at-preserved c =
    let P : Option (Item × ℕ) → Type 0 = λ r. r ≡ option_map item_sized (piece_here (drop c.loop-at.at c.args.units.now)) in
    let Q : Option (Item × ℕ) → Type 0 = λ r. IfSome r (λ x. (0 < x.1) × (c.loop-at.at + x.1 ≤ length c.args.units.now)) in
    let R : List Tile → Type 0 = λ ps. AreSoFar c.args.units.now ps (c.loop-at.at + c.in-Some.size) in
    let fits = subst Q c.in-Some.is c.in_ok-item.ensures.within in
    subst R (sym c.in_default.ensures.items)
    (one_more c.args.units.now c.loop-at.tiles.items c.loop-at.at c.in-Some.item c.in-Some.size c.loop-at.invariant (subst P c.in-Some.is c.in_ok-item.ensures.item) fits.0 fits.1)

pub returns-in-None : goal.returns-in-None
returns-in-None c =
    let P : Option (Item × ℕ) → Type 0 = λ r. r ≡ option_map item_sized (piece_here (drop c.loop-at.at c.args.units.now)) in
    none_more c.args.units.now c.loop-at.tiles.items c.loop-at.at c.loop-at.invariant c.loop-at-test.true (subst P c.in-None.is c.in_ok-item.ensures.item)
