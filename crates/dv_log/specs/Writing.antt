-- A schedule as lines of text.
use Rattle.std.specs.Prelude.{ℕ, ◌≤◌, List, [], ◌∷◌, ◌++◌, decimal}
use Rattle.std.specs.List.{flat_map}
use Rattle.dv_defs.specs.declared.run.Entry.{Entry}

-- the worker, the thread and the number of steps in decimal, with a blank between
abbrev pub entry_text : Entry → List ℕ
entry_text e = decimal e.worker ++ 32 ∷ (decimal e.thread ++ 32 ∷ decimal e.steps)

abbrev pub entry_line : Entry → List ℕ
entry_line e = entry_text e ++ 10 ∷ []

-- a line for each entry
abbrev pub log_text : List Entry → List ℕ
log_text log = flat_map entry_line log

-- an entry that a schedule may have: eight workers, 64 threads, slices of 1 to 256 steps
abbrev pub IsEntry : Entry → Type 0
IsEntry e = (e.worker ≤ 7) × (e.thread ≤ 63) × (1 ≤ e.steps) × (e.steps ≤ 256)
