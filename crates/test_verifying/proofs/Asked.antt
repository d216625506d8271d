-- What is asked of the body that a method has.
use Rattle.std.proofs.Common.{◌≡◌, ℕ, Option, Some, Ok, sym, ◌∙◌, subst}
use Rattle.dv_defs.specs.Images.{Image}
use Rattle.dv_defs.specs.Op.{Code, code_at}
use Rattle.dv_defs.specs.Tiling.{tiling}
use Rattle.law_flow.proofs.CleanLaw.{clean_bodies}
use Rattle.dv_rules.specs.Asking.{HasCode}

some_code : (a b : Code) → (let o : Option Code = Some a in o) ≡ Some b → a ≡ b
some_code a b e = cc

-- a method has one body
has_found : (image : Image) (n : ℕ) (asked code : Code) → HasCode image n asked → code_at image n ≡ Some code → HasCode image n code
has_found image n asked code h e = let P : Code → Type 0 = λ k. HasCode image n k in subst P (some_code asked code (sym h.code_is ∙ e)) h

-- its units are items one after another
pub is_tiled : (image : Image) (n : ℕ) (asked code : Code) → HasCode image n asked → code_at image n ≡ Some code → tiling code.body.units ≡ Ok code.tiles
is_tiled image n asked code h e = (clean_bodies image n code e (has_found image n asked code h e).static).1.tiled
