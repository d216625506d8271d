-- The last of printed bytes tells whether they end well.
use Rattle.std.proofs.Common.{◌≡◌, ◌-◌, ◌∙◌, ℕ, List, [], ◌∷◌, Some, length, ap, arith, sym}
use Rattle.std.specs.Prelude.{nat_eq, slice_get}
use Rattle.dv_machine.specs.Final.{ends_well}

by_last : (b : ℕ) (bs : List ℕ) (last : ℕ) → slice_get (b ∷ bs) (length bs) ≡ Some last → nat_eq last 10 ≡ ends_well (b ∷ bs)
by_last b [] last is = let same : b ≡ last = cc in ap (λ n. nat_eq n 10) (sym same)
by_last b (c ∷ cs) last is = by_last c cs last is

pub last_tells : (bs : List ℕ) (last : ℕ) → slice_get bs (length bs - 1) ≡ Some last → nat_eq last 10 ≡ ends_well bs
last_tells [] last is = absurd (cc)
last_tells (b ∷ bs) last is = let same : length bs ≡ length (b ∷ bs) - 1 = omega arith in by_last b bs last (ap (slice_get (b ∷ bs)) same ∙ is)
