-- What a call answers, against what the text is read as.
use Rattle.std.specs.Prelude.{◌≡◌, ℕ, Result, Ok, Err}
use Rattle.dv_defs.specs.declared.faults.LineKind.{LineKind}
use Rattle.dv_defs.specs.declared.faults.LineError.{LineError}
use Rattle.dv_defs.specs.declared.faults.LineError.TheVariants as error
use Rattle.dv_lex.specs.declared.line.Stop.{Stop}
use Rattle.dv_coderead.specs.declared.refusal.Refusal.{Refusal}
use Rattle.dv_coderead.specs.declared.refusal.Refusal.TheVariants as refusal

infixl 10 ◌>>=◌
-- one reading, and another that goes by what it gave; the first fault counts
abbrev pub ◌>>=◌ : {A B : Type 0} → Result A LineKind → (A → Result B LineKind) → Result B LineKind
(Ok x) >>= f = f x
(Err k) >>= f = Err k

-- The answer, seen by view, is what was read, or its fault, unless memory ran out.
abbrev pub Fails : {Y : Type 0} → Refusal → Result Y LineKind → Type 0
Fails refusal.Memory read = Unit {0}
Fails (refusal.Fault k) read = read ≡ Err k

abbrev pub Gives : {X Y : Type 0} → (X → Y) → Result X Refusal → Result Y LineKind → Type 0
Gives view (Ok x) read = read ≡ Ok (view x)
Gives view (Err e) read = Fails e read

-- The answer of a call that takes no memory, seen by view, is what was read, or its fault.
abbrev pub Reads : {X Y : Type 0} → (X → Y) → Result X LineKind → Result Y LineKind → Type 0
Reads view (Ok x) read = read ≡ Ok (view x)
Reads view (Err k) read = read ≡ Err k

-- ---- on numbered lines

-- what is read of the line of this number, or its fault
abbrev pub on_line : {A : Type 0} → ℕ → Result A LineKind → Result A Stop
on_line n (Ok x) = Ok x
on_line n (Err k) = Err (record { line = n; kind = k })

infixl 10 ◌>>>◌
-- one line, and lines behind it; the first bad line counts
abbrev pub ◌>>>◌ : {A B : Type 0} → Result A Stop → (A → Result B Stop) → Result B Stop
(Ok x) >>> f = f x
(Err e) >>> f = Err e

-- The answer, seen by view, is what was read of lines, or the first bad one, unless memory ran out.
abbrev pub Stops : {Y : Type 0} → LineError → Result Y Stop → Type 0
Stops error.Memory read = Unit {0}
Stops (error.At line kind) read = read ≡ Err (record { line = line; kind = kind })

abbrev pub GivesLines : {X Y : Type 0} → (X → Y) → Result X LineError → Result Y Stop → Type 0
GivesLines view (Ok x) read = read ≡ Ok (view x)
GivesLines view (Err e) read = Stops e read
