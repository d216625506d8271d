-- The first line of what a function gives, and the first place at which something stands.
use Rattle.std.specs.Prelude.{ℕ, zero, suc, min, Bool, false, ◌||◌, Option, Some, None, if◌then◌else◌}

-- the earlier of two lines, where there are some
abbrev pub earlier : Option ℕ → Option ℕ → Option ℕ
earlier None b = b
earlier (Some a) None = Some a
earlier (Some a) (Some b) = Some (min a b)

-- the first line that a function gives of the numbers below a bound
abbrev pub first_line : (ℕ → Option ℕ) → ℕ → Option ℕ
first_line f zero = None
first_line f (suc n) = earlier (first_line f n) (f n)

-- this, where a test passes
abbrev pub when : {Y : Type 0} → Bool → Y → Option Y
when b y = if b then Some y else None

-- whether a test passes at one of the numbers below a bound
abbrev pub any_below : (ℕ → Bool) → ℕ → Bool
any_below test zero = false
any_below test (suc n) = any_below test n || test n
