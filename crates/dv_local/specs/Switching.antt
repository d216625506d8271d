-- The numbers of switch payloads in units.
use Rattle.std.specs.Prelude.{◌≡◌, ◌≢◌, ◌≤◌, ◌<◌, ◌<ℤ◌, ℕ, ◌+◌, ◌*◌, ◌^◌, ℤ, pos, ◌+ℤ◌, List, slice_index}
use Rattle.dv_defs.specs.Numbers.{signed_at}

-- the number of 32 bits at a place, the low unit first
abbrev pub double_at : List ℕ → ℕ → ℕ
double_at units place = slice_index units place + slice_index units (place + 1) * 2 ^ 16

-- ... as a signed one
abbrev pub int_at : List ℕ → ℕ → ℤ
int_at units place = signed_at 32 (double_at units place)

-- a number is the one at a place of so many that follow one another from the first one on
pub record IsCase (first : ℤ) (count : ℕ) (number : ℤ) (place : ℕ) : Type 0 where
  pub within : place < count
  pub there : first +ℤ pos place ≡ number

-- it is none of them
abbrev pub IsNoCase : ℤ → ℕ → ℤ → Type 0
IsNoCase first count number = (k : ℕ) → k < count → first +ℤ pos k ≢ number

-- of so many numbers from a place on, each is below those behind it
abbrev pub DoRise : List ℕ → ℕ → ℕ → Type 0
DoRise units place count = (j k : ℕ) → j < k → k < count → int_at units (place + 2 * j) <ℤ int_at units (place + 2 * k)

-- a key stands at this place among so many numbers, and at none before; where it is none of them, this is how many there are
pub record IsKeyPlace (units : List ℕ) (place count : ℕ) (key : ℤ) (found : ℕ) : Type 0 where
  pub within : found ≤ count
  pub before : (k : ℕ) → k < found → int_at units (place + 2 * k) ≢ key
  pub there : found < count → int_at units (place + 2 * found) ≡ key
