-- What a read and a write do to the bytes, where these are told, and to the counts.
use Rattle.std.specs.Prelude.{◌≡◌, ℕ, ◌+◌, ◌-◌, ◌^◌, ◌<◌, ◌≤◌, List, ◌++◌, Option, Some, None, length, take, drop, min}

-- A count of faults has risen, or stands at the last value of its type.
abbrev pub HasRisen : ℕ → ℕ → Type 0
HasRisen before now = now + 1 < 2 ^ 64 → before < now

-- a count raised by one, which stays at the last value of its type
abbrev pub next_count : ℕ → ℕ
next_count count = min (count + 1) (2 ^ 64 - 1)

-- what is left after n bytes were taken
abbrev pub after_taking : ℕ → Option (List ℕ) → Option (List ℕ)
after_taking n None = None
after_taking n (Some bytes) = Some (drop n bytes)

-- the first n of the bytes, of which there are as many, stand at the start of room
abbrev pub Copies : ℕ → Option (List ℕ) → List ℕ → Type 0
Copies n None room = Unit {0}
Copies n (Some bytes) room = (n ≤ length bytes) × (take n room ≡ take n bytes)

-- what a sink has taken after it took these bytes too
abbrev pub after_write : List ℕ → Option (List ℕ) → Option (List ℕ)
after_write bytes None = None
after_write bytes (Some old) = Some (old ++ bytes)

-- a sink has taken a front of these bytes besides
abbrev pub TookPart : Option (List ℕ) → Option (List ℕ) → List ℕ → Type 0
TookPart old new bytes = (n : ℕ) × (new ≡ after_write (take n bytes) old)
