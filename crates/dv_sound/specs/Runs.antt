-- What contracts see of a machine that keeps its log.
use Rattle.std.specs.Prelude.{◌≡◌, ◌≢◌, ◌<◌, ◌⊎◌, ℕ, true, false, ◌++◌, List, [], ◌∷◌, All, Some, None, Ok}
use Rattle.dv_defs.specs.declared.names.MethodId.{MethodId}
use Rattle.dv_defs.specs.declared.run.Entry.{Entry}
use Rattle.dv_defs.specs.declared.run.Limits.{Limits}
use Rattle.dv_defs.specs.Images.{Image}
use Rattle.dv_defs.specs.Pools.{Method, method_at}
use Rattle.dv_machine.specs.Accepted.{Accepted}
use Rattle.dv_machine.specs.Opening.{opening}
use Rattle.dv_machine.specs.Replaying.{Stands, next_is_local, replay, turn}
use Rattle.dv_machine.specs.Running.{ending_of, runnable}
use Rattle.dv_machine.specs.State.{Machine}
use Rattle.dv_machine.specs.Mains.{HasMain, IsMain}
use Rattle.dv_machine.specs.WellTyped.{Typings, WellTyped}
use Rattle.dv_rules.specs.Verified.{VerifiedValue}
use Rattle.dv_words.specs.State.{WordMachine}
use Rattle.dv_core.specs.declared.vm.Vm.{Vm}
use Rattle.dv_sound.specs.Moves.{IsGood, StandsFor, may_step}

-- the program, the number of its main method, the state on words, what was logged, and which threads are lent
pub record Run : Type 0 where
  pub verified : VerifiedValue
  pub main : MethodId
  pub machine : WordMachine
  pub log : List Entry
  pub lent : List ℕ

-- ---- what a machine keeps

-- as a run begins, the engine stands at the opening
pub record IsOpened (image : Image) (main : MethodId) (l : Limits) (v : Vm) : Type 0 where
  pub has_main : HasMain image main.0
  pub typings : Typings
  pub good : IsGood image typings
  pub stands : StandsFor image typings v (opening image has_main.method l)
  pub limits : v.limits ≡ l

-- the engine stands at the state to which the log leads, and the next step of each thread that is lent is local
pub record IsKept (image : Image) (main : MethodId) (v : Vm) (log : List Entry) (lent : List ℕ) : Type 0 where
  pub has_main : HasMain image main.0
  pub typings : Typings
  pub good : IsGood image typings
  pub machine : Machine
  pub replayed : replay image has_main.method v.limits log ≡ Stands machine
  pub stands : StandsFor image typings v machine
  pub local : All (λ t. next_is_local image machine t ≡ true) lent

-- for each main method and lent threads with which this engine was kept at this log
abbrev pub WhereKept : Image → Vm → List Entry → (MethodId → List ℕ → Type 0) → Type 0
WhereKept image v log Says = (main : MethodId) (lent : List ℕ) → IsKept image main v log lent → Says main lent

-- the thread may step there
abbrev pub MayStepThere : Image → Vm → List Entry → ℕ → Type 0
MayStepThere image v log t = (main : MethodId) (lent : List ℕ) (k : IsKept image main v log lent) → may_step image k.machine t ≡ true

-- a turn was done from where the log led, and logged
pub record TurnedFrom (image : Image) (main : MethodId) (v : Vm) (log : List Entry) (lent : List ℕ) (k : IsKept image main v log lent) (worker t most n : ℕ) (new : Vm) (after_log : List Entry) : Type 0 where
  pub after : Machine
  pub turned : turn image t most k.machine ≡ Ok (record { count = n; machine = after })
  pub logs : after_log ≡ log ++ record { worker = worker; thread = t; steps = n } ∷ []
  pub limits : new.limits ≡ v.limits
  pub replayed : replay image k.has_main.method v.limits after_log ≡ Stands after

-- ---- what is said of it

-- its log leads to this state of the tagged machine
pub record IsAt (r : Run) (main : Method) (m : Machine) : Type 0 where
  pub main_is : method_at r.verified.image r.main.0 ≡ Some main
  pub replayed : replay r.verified.image main r.machine.limits r.log ≡ Stands m

-- in the state to which its log leads
abbrev pub AtItsState : Run → (Method → Machine → Type 0) → Type 0
AtItsState r Says = (main : Method) (m : Machine) → IsAt r main m → Says main m

-- its log leads to a state, which is well typed
pub record IsAtSome (r : Run) : Type 0 where
  pub main : Method
  pub is_main : IsMain r.verified.image main
  pub machine : Machine
  pub at : IsAt r main machine
  pub typings : Typings
  pub accepted : Accepted r.verified.image typings
  pub typed : WellTyped r.verified.image typings machine

-- all but the state and the log is as before
pub record IsSameRun (old new : Run) : Type 0 where
  pub verified : new.verified ≡ old.verified
  pub main : new.main ≡ old.main
  pub limits : new.machine.limits ≡ old.machine.limits
  pub lent : new.lent ≡ old.lent

-- so many steps of a thread by a worker are logged
abbrev pub logged : List Entry → ℕ → ℕ → ℕ → List Entry
logged log worker thread steps = log ++ record { worker = worker; thread = thread; steps = steps } ∷ []

-- a turn of this thread was done and logged
pub record IsTurned (old new : Run) (main : Method) (m : Machine) (worker thread most steps : ℕ) : Type 0 where
  pub after : Machine
  pub turned : turn old.verified.image thread most m ≡ Ok (record { count = steps; machine = after })
  pub logs : new.log ≡ logged old.log worker thread steps
  pub at : IsAt new main after

-- the run goes on, the thread is runnable, and it is at home
pub record MayTurn (r : Run) (m : Machine) (thread : ℕ) : Type 0 where
  pub goes_on : ending_of r.verified.image m ≡ None
  pub runs : runnable r.verified.image m thread ≡ true
  pub at_home : All (λ t. t ≢ thread) r.lent

-- the lowest thread of those that are runnable and at home
pub record IsReady (r : Run) (m : Machine) (thread : ℕ) : Type 0 where
  pub runs : runnable r.verified.image m thread ≡ true
  pub at_home : All (λ t. t ≢ thread) r.lent
  pub lowest : (u : ℕ) → u < thread → runnable r.verified.image m u ≡ true → All (λ t. t ≢ u) r.lent → ⊥

-- each runnable thread is lent
abbrev pub NoneIsReady : Run → Machine → Type 0
NoneIsReady r m = (u : ℕ) → runnable r.verified.image m u ≡ true → All (λ t. t ≢ u) r.lent → ⊥

-- the run has ended, or none may do a turn for now
abbrev pub HasStopped : Run → Machine → Type 0
HasStopped r m = (ending_of r.verified.image m ≢ None) ⊎ NoneIsReady r m

-- ---- runs of the lowest thread

-- the lowest of the runnable threads
pub record IsLowest (image : Image) (m : Machine) (thread : ℕ) : Type 0 where
  pub runs : runnable image m thread ≡ true
  pub lowest : (u : ℕ) → u < thread → runnable image m u ≡ false

-- a turn of that thread by worker 0, of 256 steps at most, with the state after it
pub record IsLowestTurn (image : Image) (m : Machine) (e : Entry) (n : Machine) : Type 0 where
  pub goes_on : ending_of image m ≡ None
  pub worker : e.worker ≡ 0
  pub thread : IsLowest image m e.thread
  pub turned : turn image e.thread 256 m ≡ Ok (record { count = e.steps; machine = n })

-- such turns one after another lead from a state to another
abbrev pub LeadsLowest : Image → List Entry → Machine → Machine → Type 0
LeadsLowest image [] m n = m ≡ n
LeadsLowest image (e ∷ es) m n = (k : Machine) × IsLowestTurn image m e k × LeadsLowest image es k n

-- such turns were done, and logged
pub record RanLowest (old new : Run) (main : Method) (m : Machine) : Type 0 where
  pub turns : List Entry
  pub logs : new.log ≡ old.log ++ turns
  pub after : Machine
  pub at : IsAt new main after
  pub leads : LeadsLowest old.verified.image turns m after
