use Rattle.std.proofs.Common.{◌≡◌, ◌≢◌, ◌≤◌, ◌<◌, ◌+◌, ◌⊎◌, ◌&&◌, inl, inr, ℕ, zero, suc, Bool, true, false, refl, sym, subst, arith}
use Rattle.std.proofs.lemmas.Grind.{common_steps}
use Rattle.std.proofs.lemmas.Bool.{cases_lt, true≢false}
use Rattle.dv_defs.specs.Families.{family_at}
use Rattle.dv_core.specs.Opcodes.{may_hold_up}
use Rattle.dv_core.proofs.waiting.may_hold_up.Goals as goal

abbrev same : Bool → Bool → Bool
same true b = b
same false true = false
same false false = true

same_is : (a b : Bool) → same a b ≡ true → b ≡ a
same_is true b e = e
same_is false true e = absurd (true≢false (sym e))
same_is false false e = refl

-- so many opcodes from one on are told apart alike
abbrev all_alike : Bool → ℕ → ℕ → Bool
all_alike b from zero = true
all_alike b from (suc n) = same (may_hold_up (family_at from)) b && all_alike b (suc from) n

first_true : (a b : Bool) → (a && b) ≡ true → a ≡ true
first_true true b e = refl
first_true false b e = absurd (true≢false (sym e))

rest_true : (a b : Bool) → (a && b) ≡ true → b ≡ true
rest_true true b e = e
rest_true false b e = absurd (true≢false (sym e))

alike : (b : Bool) (from n k : ℕ) → all_alike b from n ≡ true → from ≤ k → k < from + n → b ≡ may_hold_up (family_at k)
alike b from zero k all low high = absurd (omega (arith, low, high))
alike b from (suc n) k all low high =
    let head : Bool = same (may_hold_up (family_at from)) b in
    let rest : Bool = all_alike b (suc from) n in
    let first = same_is (may_hold_up (family_at from)) b (first_true head rest all) in
    let others : from < k → b ≡ may_hold_up (family_at k) = λ above. alike b (suc from) n k (rest_true head rest all) above (omega (arith, high)) in
    by first others (cases_lt from k)
  where
    by : b ≡ may_hold_up (family_at from) → (from < k → b ≡ may_hold_up (family_at k)) → (from < k) ⊎ (k ≤ from) → b ≡ may_hold_up (family_at k)
    by first others (inl above) = others above
    by first others (inr below) = let here : from ≡ k = omega (arith, low, below) in subst (λ (j : ℕ). b ≡ may_hold_up (family_at j)) here first

free_low : (k : ℕ) → k < 96 → k ≢ 29 → k ≢ 34 → false ≡ may_hold_up (family_at k)
free_low k high enter create = by (cases_lt k 29) (cases_lt k 34)
  where
    by : (k < 29) ⊎ (29 ≤ k) → (k < 34) ⊎ (34 ≤ k) → false ≡ may_hold_up (family_at k)
    by (inl less) other = alike false 0 29 k refl (omega arith) (omega (arith, less))
    by (inr more) (inl less) = alike false 30 4 k refl (omega (arith, more, enter)) (omega (arith, less))
    by (inr more) (inr above) = alike false 35 61 k refl (omega (arith, above, create)) (omega (arith, high))

free_between : (k : ℕ) → 114 < k → k < 116 → false ≡ may_hold_up (family_at k)
free_between k low high = alike false 115 1 k refl (omega (arith, low)) (omega (arith, high))

free_high : (k : ℕ) → 120 < k → k < 256 → false ≡ may_hold_up (family_at k)
free_high k low high = alike false 121 135 k refl (omega (arith, low)) (omega (arith, high))

held_low : (k : ℕ) → 96 ≤ k → k ≤ 114 → true ≡ may_hold_up (family_at k)
held_low k low high = alike true 96 19 k refl low (omega (arith, high))

held_high : (k : ℕ) → 116 ≤ k → k ≤ 120 → true ≡ may_hold_up (family_at k)
held_high k low high = alike true 116 5 k refl low (omega (arith, high))

pub returns-in_default : goal.returns-in_default
returns-in_default c =
    let low : c.args.opcode < 96 = grind (arith, common_steps) in
    let enter : c.args.opcode ≢ 29 = grind (arith, common_steps) in
    let create : c.args.opcode ≢ 34 = grind (arith, common_steps) in
    free_low c.args.opcode low enter create

pub returns-in_default-2 : goal.returns-in_default-2
returns-in_default-2 c = grind (arith, free_between)

pub returns-in_default-3 : goal.returns-in_default-3
returns-in_default-3 c = grind (arith, free_high)

pub returns-in-29-2 : goal.returns-in-29-2
returns-in-29-2 c = grind (arith, held_low)

pub returns-in-29-3 : goal.returns-in-29-3
returns-in-29-3 c = grind (arith, held_high)
