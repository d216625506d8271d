use Rattle.std.proofs.Common.{◌≡◌, ℕ, List, Result, Ok, Err, IsOk, true, refl, sym, subst}
use Rattle.dv_defs.specs.Spelling.{all_fit}
use Rattle.dv_defs.specs.Tiling.{Tile, tiling}
use Rattle.dv_defs.specs.Layout.{AreTiles}
use Rattle.dv_defs.proofs.TilingLaws.{tiles_found, found_tiles}
use Rattle.dv_units.proofs.laws.tiling_is_unique.Goals as goal

found_by : (us : List ℕ) (r : Result (List Tile) ℕ) → all_fit 16 us ≡ true → tiling us ≡ r → IsOk r → (ts : List Tile) × AreTiles 0 ts us
found_by us (Ok ts) t e h = (ts, found_tiles ts 0 us t e)
found_by us (Err at) t e h = absurd (cc)

is_found : (us : List ℕ) (ts : List Tile) → tiling us ≡ Ok ts → IsOk (tiling us)
is_found us ts e = (let P : Result (List Tile) ℕ → Type 0 = λ r. IsOk r in subst P (sym e) refl)

pub returns-clause-unique : goal.returns-clause-unique
returns-clause-unique c us ts t = (λ e. found_tiles ts 0 us t e, λ a. tiles_found ts 0 us t a)

pub returns-clause-found : goal.returns-clause-found
returns-clause-found c us t = (λ h. found_by us (tiling us) t refl h, λ (ts, a). is_found us ts (tiles_found ts 0 us t a))
