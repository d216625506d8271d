-- What is true of all lines is true of a part of them.
use Rattle.std.proofs.Common.{ℕ, ◌-◌, List, drop, slice_range}
use Rattle.std.specs.List.{All}
use Rattle.std.proofs.lemmas.List.Elements.{All-drop, All-take}

pub all_part : {A : Type 0} (P : A → Type 0) (xs : List A) (from to : ℕ) → All P xs → All P (slice_range xs from to)
all_part P xs from to are = All-take P (to - from) (drop from xs) (All-drop P from xs are)
