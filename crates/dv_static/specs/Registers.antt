-- The registers that an instruction names, and those that are the second of a pair.
use Rattle.std.specs.Prelude.{ℕ, suc, Bool, List, nat_lt}
use Rattle.std.specs.List.{list_all}

-- each is below the number of registers
abbrev pub all_below : ℕ → List ℕ → Bool
all_below n rs = list_all (λ r. nat_lt r n) rs

-- each register with the one after it is
abbrev pub pairs_below : ℕ → List ℕ → Bool
pairs_below n rs = list_all (λ r. nat_lt (suc r) n) rs
