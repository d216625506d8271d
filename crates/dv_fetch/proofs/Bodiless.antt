-- What is fetched of a method without a body.
use Rattle.std.proofs.Common.{◌≡◌, ◌∙◌, ℕ, Some, None, sym, ap}
use Rattle.dv_defs.specs.Images.{Image}
use Rattle.dv_defs.specs.Op.{code_at}
use Rattle.dv_typing.specs.Statics.{At, fetch, fetch_in}

-- nothing is fetched of a method without a body
pub no_code : (image : Image) (n at : ℕ) (x : At) → code_at image n ≡ None → fetch image n at ≡ Some x → ⊥
unfolding fetch
no_code image n at x none e = absurd (let no : None ≡ Some x = ap (fetch_in image at) (sym none) ∙ e in cc no)
