-- Words that are units are their own low bits.
use Rattle.std.proofs.Common.{◌≡◌, ◌<◌, ◌%◌, ◌^◌, ℕ, suc, List, [], ◌∷◌, get_or, refl, arith}
use Rattle.dv_words.specs.Natives.{units_in}

one_same : (u : ℕ) → u < 65536 → u % 65536 ≡ u
one_same u lt = omega arith

pub units_same : (s : List ℕ) → ((k : ℕ) → get_or s k 0 < 2 ^ 16) → units_in s ≡ s
units_same [] are = refl
units_same (u ∷ us) are =
    let first : u % 65536 ≡ u = one_same u (are 0) in
    let rest : units_in us ≡ us = units_same us (λ k. are (suc k)) in
    cc
