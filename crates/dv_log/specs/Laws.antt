-- The laws of schedules as text.
use Rattle.std.specs.Prelude.{◌≡◌, ℕ, List, Result, Ok}
use Rattle.std.specs.List.{All}
use Rattle.std.specs.Str.Lines.{lines}
use Rattle.dv_defs.specs.declared.run.Entry.{Entry}
use Rattle.dv_log.specs.Reading.{Reads}
use Rattle.dv_log.specs.Writing.{log_text, IsEntry}

-- the lines of a printed schedule are read as that schedule
abbrev pub LogsAreReadAgain : Type 0
LogsAreReadAgain = (log : List Entry) → All IsEntry log → (n : ℕ) → Reads n (lines (log_text log)) (Ok log)

-- lines are read in one way
abbrev pub ReadingsAreDetermined : Type 0
ReadingsAreDetermined = (n : ℕ) (ls : List (List ℕ)) (r s : Result (List Entry) ℕ) → Reads n ls r → Reads n ls s → r ≡ s
