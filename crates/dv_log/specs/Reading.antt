-- What the lines of a schedule say.
use Rattle.std.specs.Prelude.{◌≡◌, ℕ, ◌+◌, ◌≤◌, ℤ, pos, List, [], ◌∷◌, Option, Some, Result, Ok, Err}
use Rattle.dv_defs.specs.declared.run.Entry.{Entry}
use Rattle.dv_lex.specs.Lexemes.{Lexeme}
use Rattle.dv_lex.specs.Lines.{line_lexemes}
use Rattle.dv_lex.specs.Numbers.{Number, Spells, signed}
use Rattle.dv_log.specs.declared.error.LogError.{LogError}
use Rattle.dv_log.specs.declared.error.LogError.TheVariants as error
use Rattle.dv_log.specs.declared.read.Said.{Said}
use Rattle.dv_log.specs.declared.read.Said.TheVariants as said

-- the whole number is this one, which is in this range
abbrev pub IsIn : ℕ → ℕ → ℤ → ℕ → Type 0
IsIn low high z value = (z ≡ pos value) × (low ≤ value) × (value ≤ high)

abbrev pub IsSomeIn : ℕ → ℕ → Option ℤ → ℕ → Type 0
IsSomeIn low high found value = (z : ℤ) × (found ≡ Some z) × IsIn low high z value

-- the token spells this number, which is in this range
pub record IsField (low high : ℕ) (token : Lexeme) (value : ℕ) : Type 0 where
  pub number : Number
  pub spells : Spells token.text number
  pub means : IsIn low high (signed number) value

-- nothing, or a comment
abbrev pub IsBlankLine : List ℕ → Type 0
IsBlankLine line = line_lexemes 0 line ≡ Ok []

-- the tokens are three numbers: the worker, the thread and the steps
pub record AreEntry (tokens : List Lexeme) (entry : Entry) : Type 0 where
  pub first : Lexeme
  pub second : Lexeme
  pub third : Lexeme
  pub three : tokens ≡ first ∷ second ∷ third ∷ []
  pub worker : IsField 0 7 first entry.worker
  pub thread : IsField 0 63 second entry.thread
  pub steps : IsField 1 256 third entry.steps

abbrev pub IsEntryLine : List ℕ → Entry → Type 0
IsEntryLine line entry = (tokens : List Lexeme) × (line_lexemes 0 line ≡ Ok tokens) × AreEntry tokens entry

-- anything else
abbrev pub IsBadLine : List ℕ → Type 0
IsBadLine line = ¬ (IsBlankLine line) × ((entry : Entry) → ¬ (IsEntryLine line entry))

abbrev pub Says : List ℕ → Said → Type 0
Says line said.Nothing = IsBlankLine line
Says line (said.One entry) = IsEntryLine line entry
Says line said.Other = IsBadLine line

abbrev pub with_entry : Entry → Result (List Entry) ℕ → Result (List Entry) ℕ
with_entry e (Ok es) = Ok (e ∷ es)
with_entry e (Err line) = Err line

-- The lines, the first with this number, are read as these entries, or the first bad one is told by its number.
pub data Reads : ℕ → List (List ℕ) → Result (List Entry) ℕ → Type 0 where
  End : (n : ℕ) → Reads n [] (Ok [])
  Blank : (n : ℕ) (line : List ℕ) (lines : List (List ℕ)) (read : Result (List Entry) ℕ) → IsBlankLine line
      → Reads (n + 1) lines read → Reads n (line ∷ lines) read
  One : (n : ℕ) (line : List ℕ) (lines : List (List ℕ)) (read : Result (List Entry) ℕ) (entry : Entry) → IsEntryLine line entry
      → Reads (n + 1) lines read → Reads n (line ∷ lines) (with_entry entry read)
  Bad : (n : ℕ) (line : List ℕ) (lines : List (List ℕ)) → IsBadLine line → Reads n (line ∷ lines) (Err n)

-- An answer is what the lines are read as, unless memory ran out.
abbrev pub Refuses : LogError → ℕ → List (List ℕ) → Type 0
Refuses error.Memory first lines = Unit {0}
Refuses (error.BadLogLine n) first lines = Reads first lines (Err n)
