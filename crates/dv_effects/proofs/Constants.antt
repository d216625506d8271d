-- The types of constants.
use Rattle.std.proofs.Common.{◌≡◌, zero, suc, refl}
use Rattle.std.specs.Prelude.{ℤ, pos, negsuc}
use mathlib.Core.Logic.{◌≢◌}
use Rattle.dv_typing.specs.declared.typing.RegType.TheVariants as ty
use Rattle.dv_typing.specs.Transfer.{const_type}

pub zero_const : (n : ℤ) → n ≡ pos 0 → const_type n ≡ ty.Zero
zero_const n h = rw h refl

pub other_const : (n : ℤ) → n ≢ pos 0 → const_type n ≡ ty.Int
other_const (pos zero) h = absurd (h refl)
other_const (pos (suc k)) h = refl
other_const (negsuc k) h = refl
