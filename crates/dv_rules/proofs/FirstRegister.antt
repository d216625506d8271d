-- The first of the registers that an instruction names.
use Rattle.std.proofs.Common.{◌≡◌, ◌≢◌, ℕ, zero, suc, Bool, true, false, List, [], ◌∷◌, take, get_or, refl}
use Rattle.dv_defs.specs.declared.code.Regs.{Regs}
use Rattle.dv_defs.specs.Op.{count_up, named_registers}
use Rattle.dv_typing.specs.Transfer.{first_of}

taken : (n : ℕ) (xs : List ℕ) → n ≢ 0 → get_or xs 0 0 ≡ first_of (take n xs)
taken zero xs some = absurd (some refl)
taken (suc n) [] some = refl
taken (suc n) (x ∷ xs) some = refl

counted : (n from : ℕ) → n ≢ 0 → from ≡ first_of (count_up from n)
counted zero from some = absurd (some refl)
counted (suc n) from some = refl

by_range : (b : Bool) (n : ℕ) (xs : List ℕ) → n ≢ 0 → get_or xs 0 0 ≡ first_of (elim b [ true ↦ count_up (get_or xs 0 0) n | false ↦ take n xs ])
by_range true n xs some = counted n (get_or xs 0 0) some
by_range false n xs some = taken n xs some

pub first_named : (r : Regs) → r.count ≢ 0 → get_or r.first 0 0 ≡ first_of (named_registers r)
first_named r some = by_range r.range r.count r.first some
