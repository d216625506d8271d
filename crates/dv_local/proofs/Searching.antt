-- A search among keys that rise, between two ends.
use Rattle.std.proofs.Common.{◌≡◌, ◌≢◌, ◌⊎◌, inl, inr, ◌<◌, ◌≤◌, ◌<ℤ◌, ◌≤ℤ◌, ℕ, ℤ, ◌+◌, ◌*◌, List, sym, subst, arith}
use Rattle.std.proofs.lemmas.Int.{ints}
use Rattle.dv_local.specs.Switching.{DoRise, int_at}

up_to : (j m : ℕ) → j ≤ m → (j < m) ⊎ (j ≡ m)
up_to j m l = grind arith

below_two : (x y key : ℤ) → x <ℤ y → y <ℤ key → x <ℤ key
below_two x y key a b = omega (arith, ints, a, b)

above_two : (x y key : ℤ) → y <ℤ x → key <ℤ y → key <ℤ x
above_two x y key a b = omega (arith, ints, a, b)

neither : (y key : ℤ) → key ≤ℤ y → y ≢ key → key <ℤ y
neither y key a n = grind (arith, ints)

-- where a number is below the key, so are those before it
pub below_on : (units : List ℕ) (place count middle : ℕ) (number key : ℤ) → number ≡ int_at units (place + 2 * middle) → number <ℤ key → middle < count → DoRise units place count → (k : ℕ) → k < middle + 1 → int_at units (place + 2 * k) <ℤ key
below_on units place count middle number key is less within rise k l = by (up_to k middle (omega (arith, l)))
  where
    there : int_at units (place + 2 * middle) <ℤ key
    there = subst (λ (n : ℤ). n <ℤ key) is less

    by : (k < middle) ⊎ (k ≡ middle) → int_at units (place + 2 * k) <ℤ key
    by (inl before) = below_two (int_at units (place + 2 * k)) (int_at units (place + 2 * middle)) key (rise k middle before within) there
    by (inr same) = subst (λ (j : ℕ). int_at units (place + 2 * j) <ℤ key) (sym same) there

-- where it is above the key, so are those behind it
pub above_on : (units : List ℕ) (place count middle : ℕ) (number key : ℤ) → number ≡ int_at units (place + 2 * middle) → key ≤ℤ number → number ≢ key → DoRise units place count → (k : ℕ) → middle ≤ k → k < count → key <ℤ int_at units (place + 2 * k)
above_on units place count middle number key is least other rise k l within = by (up_to middle k l)
  where
    there : key <ℤ int_at units (place + 2 * middle)
    there = subst (λ (n : ℤ). key <ℤ n) is (neither number key least other)

    by : (middle < k) ⊎ (middle ≡ k) → key <ℤ int_at units (place + 2 * k)
    by (inl behind) = above_two (int_at units (place + 2 * k)) (int_at units (place + 2 * middle)) key (rise middle k behind within) there
    by (inr same) = subst (λ (j : ℕ). key <ℤ int_at units (place + 2 * j)) same there
