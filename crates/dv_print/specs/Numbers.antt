-- Labels as they are printed.
use Rattle.std.specs.Prelude.{ℕ, ◌/◌, ◌%◌, nat_lt, List, ◌∷◌, ◌++◌, if◌then◌else◌}
use Rattle.dv_names.specs.Written.{hexadecimal}

-- an address: four hexadecimal digits, and eight of one that no body has
abbrev pub address_text : ℕ → List ℕ
address_text address = if nat_lt address 65536 then hexadecimal address else hexadecimal (address / 65536) ++ hexadecimal (address % 65536)

-- the name of the label at an address
abbrev pub label_name : ℕ → List ℕ
label_name address = 76 ∷ address_text address
