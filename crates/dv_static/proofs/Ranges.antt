-- Registers that follow one another.
use Rattle.std.proofs.Common.{◌≡◌, ℕ, zero, suc, ◌+◌, ◌<◌, ◌≤◌, Bool, true, false, ◌&&◌, refl, ap, arith}
use Rattle.std.specs.Prelude.{nat_lt, length}
use Rattle.dv_defs.specs.Op.{count_up}
use Rattle.dv_static.specs.Registers.{all_below}

is_less : (a b : ℕ) → a < b → nat_lt a b ≡ true
is_less a b less = grind arith

is_no_less : (a b : ℕ) → b ≤ a → nat_lt a b ≡ false
is_no_less a b more = grind arith

pub range_is_below : (n from count : ℕ) → from + count ≤ n → all_below n (count_up from count) ≡ true
range_is_below n from zero within = refl
range_is_below n from (suc k) within = rw (is_less from n (omega arith)) (range_is_below n (suc from) k (omega arith))

pub range_is_above : (n from count : ℕ) → 0 < count → n < from + count → all_below n (count_up from count) ≡ false
range_is_above n from zero some past = absurd (omega arith)
range_is_above n from (suc zero) some past = rw (is_no_less from n (omega arith)) refl
range_is_above n from (suc (suc k)) some past = and_false (nat_lt from n) _ (range_is_above n (suc from) (suc k) (omega arith) (omega arith))
  where
    and_false : (b c : Bool) → c ≡ false → (b && c) ≡ false
    and_false true c e = e
    and_false false c e = refl

pub counted_up : (from count : ℕ) → length (count_up from count) ≡ count
counted_up from zero = refl
counted_up from (suc k) = ap suc (counted_up (suc from) k)
