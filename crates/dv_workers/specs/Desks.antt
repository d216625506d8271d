-- What a desk keeps, and what becomes of it.
use Rattle.std.specs.Prelude.{◌≡◌, ◌≢◌, ◌<◌, ◌≤◌, ◌+◌, ◌++◌, ◌⊎◌, ℕ, Bool, true, false, List, [], ◌∷◌, All, length, sum, take, Option, None}
use Rattle.dv_defs.specs.declared.run.Entry.{Entry}
use Rattle.dv_io.specs.Io.{HasRisen, TookPart, after_write}
use Rattle.dv_machine.specs.Running.{ending_of}
use Rattle.dv_sound.specs.Runs.{AtItsState, HasStopped, MayTurn, Run}
use Rattle.dv_workers.specs.Entries.{IsOfWorker}
use Rattle.dv_workers.specs.Seats.{names_of}

-- what was printed so far
abbrev pub printed : Run → List ℕ
printed r = r.machine.shared.output

-- a sink that had taken some bytes took the first ones of these besides
pub record IsWritten (old now : Option (List ℕ)) (bytes : List ℕ) (written : ℕ) : Type 0 where
  pub taken : now ≡ after_write (take written bytes) old
  pub within : written ≤ length bytes

-- less than 4,096 bytes wait, unless a write has failed
abbrev pub FewWait : Bool → List ℕ → ℕ → Type 0
FewWait fault bytes written = fault ≡ false → length bytes < written + 4096

-- the run has ended
abbrev pub HasEnded : Run → Type 0
HasEnded r = AtItsState r (λ main m. ending_of r.verified.image m ≢ None)

-- the run goes on
abbrev pub GoesOn : Run → Type 0
GoesOn r = AtItsState r (λ main m. ending_of r.verified.image m ≡ None)

-- a turn of this thread may be done
abbrev pub MayGo : Run → ℕ → Type 0
MayGo r thread = AtItsState r (λ main m. MayTurn r m thread)

-- why no thread has a turn: the workers are to stop, or no thread at home can go on
abbrev pub NoneIsNext : Bool → Bool → Run → Type 0
NoneIsNext memory fault r = (memory ≡ true) ⊎ ((fault ≡ true) ⊎ AtItsState r (λ main m. HasStopped r m))

-- one entry more, of a worker
pub record IsLonger (old new : List Entry) : Type 0 where
  pub entry : Entry
  pub of : IsOfWorker entry
  pub longer : new ≡ old ++ entry ∷ []

-- one entry more, or none
abbrev pub IsLongerBy : ℕ → List Entry → List Entry → Type 0
IsLongerBy n old new = ((n ≡ 1) × IsLonger old new) ⊎ ((n ≡ 0) × (new ≡ old))

-- why workers stop
abbrev pub IsOver : Bool → Bool → Run → Type 0
IsOver memory fault r = (memory ≡ true) ⊎ ((fault ≡ true) ⊎ HasEnded r)

-- why a call may return: memory is wanting, or a write failed or the run has ended, and no thread is lent
abbrev pub IsDone : Bool → Bool → Run → Type 0
IsDone memory fault r = (memory ≡ true) ⊎ (((fault ≡ true) ⊎ HasEnded r) × (r.lent ≡ []))

-- ---- at the end

-- what a sink took of these bytes, and how often it failed
pub record IsLeft (began now : Option (List ℕ)) (before after : ℕ) (fault memory : Bool) (bytes : List ℕ) : Type 0 where
  pub part : TookPart began now bytes
  pub all : fault ≡ false → memory ≡ false → now ≡ after_write bytes began
  pub count : before ≤ after
  pub risen : fault ≡ true → HasRisen before after

-- what so many workers made of a machine, and by worker how many entries of its log are its own
pub record IsRunBy (workers : ℕ) (old new : Run) (shares : List ℕ) (fault memory : Bool) : Type 0 where
  pub same : names_of new ≡ names_of old
  pub turns : sum shares ≡ length new.log
  pub each : (length shares ≡ workers) ⊎ ((shares ≡ []) × (memory ≡ true))
  pub entries : All IsOfWorker new.log
  pub over : IsDone memory fault new
