-- The body of a method that is asked of is clean.
use Rattle.std.proofs.Common.{◌≡◌, ℕ, Option, Some, sym, ◌∙◌, subst}
use Rattle.dv_defs.specs.Images.{Image}
use Rattle.dv_defs.specs.Op.{Code, code_at}
use Rattle.law_flow.specs.Clean.{IsClean}
use Rattle.law_flow.proofs.CleanLaw.{clean_bodies}
use Rattle.dv_rules.specs.Asking.{HasCode}

some_code : (a b : Code) → (let o : Option Code = Some a in o) ≡ Some b → a ≡ b
some_code a b e = cc

one_code : (image : Image) (n : ℕ) (a b : Code) → code_at image n ≡ Some a → code_at image n ≡ Some b → a ≡ b
one_code image n a b e h = some_code a b (sym e ∙ h)

-- where it is asked that it breaks no static rule, it is clean
pub clean_code : (image : Image) (n : ℕ) (asked code : Code) → HasCode image n asked → code_at image n ≡ Some code → (code.method.id ≡ n) × IsClean image code
clean_code image n asked code h e =
    let P : Code → Type 0 = λ k. (k.method.id ≡ n) × IsClean image k in
    subst P (one_code image n asked code h.code_is e) (clean_bodies image n asked h.code_is h.static)
