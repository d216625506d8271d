-- The words that arguments take.
use Rattle.std.specs.Prelude.{ℕ, ◌-◌, true, false, Option, Some, None, nat_le}

-- what is left of some words beside others, none where there are too few
abbrev pub left_beside : ℕ → ℕ → Option ℕ
left_beside room words = elim (nat_le words room) [ true ↦ Some (room - words) | false ↦ None ]
