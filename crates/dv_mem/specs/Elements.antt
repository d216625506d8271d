-- Where the elements of an array lie among its words.
use Rattle.std.specs.Prelude.{ℕ, ◌*◌, ◌/◌, Bool, true, false, ℤ, pos, negsuc, Option, Some, None, Result, Ok, Err, nat_lt, if◌then◌else◌}
use Rattle.dv_defs.specs.declared.run.Named.{Named}
use Rattle.dv_machine.specs.State.{Did, Throws}

-- how many words a value has
abbrev pub width_of : Bool → ℕ
width_of true = 2
width_of false = 1

-- the place of the first word of an element among so many words, by its index
abbrev pub slot_in : ℕ → Bool → ℤ → Option ℕ
slot_in size wide (negsuc n) = None
slot_in size wide (pos k) = if nat_lt k (size / width_of wide) then Some (k * width_of wide) else None

-- a number of elements
abbrev pub count_of : ℤ → Option ℕ
count_of (pos n) = Some n
count_of (negsuc n) = None

-- on with what was found, or the exception
abbrev pub by_found : {A E : Type 0} → (A → Did E) → Result A Named → Did E
by_found go (Ok x) = go x
by_found go (Err n) = Throws n
