-- Turns of accepted images, told by words, and the runs that turns make.
use Rattle.std.specs.Prelude.{◌≡◌, ◌≤◌, ◌+◌, ◌-◌, ◌%◌, ◌++◌, ℕ, suc, true, false, List, [], ◌∷◌, length, Some, None, Ok, Err, slice_get}
use Rattle.dv_defs.specs.declared.machine.End.TheVariants as end
use Rattle.dv_defs.specs.declared.run.Ending.{Ending}
use Rattle.dv_defs.specs.declared.run.Entry.{Entry}
use Rattle.dv_defs.specs.declared.run.Limits.{Limits}
use Rattle.dv_defs.specs.Images.{Image}
use Rattle.dv_defs.specs.Pools.{Method}
use Rattle.dv_machine.specs.Accepted.{Accepted}
use Rattle.dv_machine.specs.Opening.{opening}
use Rattle.dv_machine.specs.Replaying.{Stands, Turned, last_step, on_stands, picked, replay, replay_from, runnable_from, seeded_from, seeded_log, steps_of, turn}
use Rattle.dv_machine.specs.Running.{ending_of, runnable}
use Rattle.dv_machine.specs.State.{Machine, Reads}
use Rattle.dv_machine.specs.WellTyped.{Typings, WellTyped}
use Rattle.dv_words.specs.declared.state.Frame.{Frame}
use Rattle.dv_words.specs.declared.state.Level.{Level}
use Rattle.dv_words.specs.declared.state.Level.TheVariants as level
use Rattle.dv_words.specs.Standing.{HeapFits, IsSmall}
use Rattle.dv_words.specs.State.{WordMachine, WordThread}
use Rattle.dv_words.specs.Running as words
use Rattle.dv_words.specs.Step.{step}
use Rattle.law_words.specs.StepLaws.{ReadsFit, StringsFit, with_top}
use Rattle.dv_words.specs.Stepping.{locals_here}
use Rattle.law_engine.specs.Laws.{IsSimulated}

-- a turn with so many steps in front
abbrev pub more : ℕ → Reads Turned → Reads Turned
more n (Ok x) = Ok (record { count = n + x.count; machine = x.machine })
more n (Err y) = Err y

-- ---- local steps of a frame in one go

-- a living thread stands there, with this frame on top
pub record IsLivingAt (w : WordMachine) (t : ℕ) (th : WordThread) (s : Frame) (ls : List Level) : Type 0 where
  pub there : slice_get w.threads t ≡ Some th
  pub living : th.end ≡ end.Living
  pub levels : th.levels ≡ level.Code s ∷ ls

-- words after so many local steps of a thread stand for a state to which the tagged machine comes by as many: turns begin with them, and in a
-- schedule they are steps of an entry
pub record AreSimulatedLocals (image : Image) (T : Typings) (w after_words : WordMachine) (m : Machine) (t n : ℕ) : Type 0 where
  pub after : Machine
  pub simulated : IsSimulated image T after_words after
  pub turns : (k : ℕ) → turn image t (n + k) m ≡ more n (turn image t k after)
  pub steps : (k : ℕ) → steps_of image k t n m ≡ Stands after

-- so many local instructions of the frame on top, where the budget has room for them
abbrev pub LocalsFollow : Type 0
LocalsFollow =
    (image : Image) (T : Typings) (w : WordMachine) (m : Machine) (t n : ℕ) (th : WordThread) (s u : Frame) (ls : List Level) →
    Accepted image T → StringsFit image → IsSimulated image T w m → IsLivingAt w t th s ls → IsSmall s → HeapFits w.shared.heap →
    ending_of image m ≡ None → locals_here image n s ≡ Some u → w.steps + n ≤ w.limits.budget →
    AreSimulatedLocals image T w (with_top w t th u ls n) m t n × IsSmall u

-- ---- the last step of a turn

-- it is done, and the words after it stand again
pub record IsLastStep (image : Image) (T : Typings) (w : WordMachine) (m : Machine) (t : ℕ) : Type 0 where
  pub after : Machine
  pub done : last_step image t m ≡ Ok (record { count = 1; machine = after })
  pub simulated : IsSimulated image T (step image w t) after

-- it is done where the run goes on and the thread may do one; else the turn ends as it is
pub record LastStepFollows (image : Image) (T : Typings) (w : WordMachine) (m : Machine) (t : ℕ) : Type 0 where
  pub goes : words.ending_of image w ≡ None → words.runnable image w t ≡ true → IsLastStep image T w m t
  pub ended : (e : Ending) → words.ending_of image w ≡ Some e → last_step image t m ≡ Ok (record { count = 0; machine = m })
  pub held_up : words.runnable image w t ≡ false → last_step image t m ≡ Ok (record { count = 0; machine = m })

abbrev pub LastStepsFollow : Type 0
LastStepsFollow =
    (image : Image) (T : Typings) (w : WordMachine) (m : Machine) (t : ℕ) → Accepted image T → StringsFit image →
    IsSimulated image T w m → ReadsFit w t → LastStepFollows image T w m t

-- ---- turns of the tagged machine

-- the steps of a turn are steps of a schedule, where nothing has stopped the run before it
abbrev pub TurnsReplay : Type 0
TurnsReplay =
    (image : Image) (m : Machine) (x : Turned) (t most k : ℕ) → m.stop ≡ None → turn image t most m ≡ Ok x →
    steps_of image k t x.count m ≡ Stands x.machine

-- some steps are done and no more than may be, each is counted, and the budget is kept
pub record IsAdvanced (m : Machine) (most : ℕ) (x : Turned) : Type 0 where
  pub some : 1 ≤ x.count
  pub few : x.count ≤ most
  pub steps : x.machine.steps ≡ m.steps + x.count
  pub limits : x.machine.limits ≡ m.limits
  pub within : m.steps ≤ m.limits.budget → x.machine.steps ≤ m.limits.budget

-- a turn of a thread that may step, from a well-typed state with no ending
abbrev pub TurnsAdvance : Type 0
TurnsAdvance =
    (image : Image) (T : Typings) (m : Machine) (x : Turned) (t most : ℕ) → WellTyped image T m → ending_of image m ≡ None →
    runnable image m t ≡ true → 1 ≤ most → turn image t most m ≡ Ok x → IsAdvanced m most x

-- ---- schedules

-- entries after entries: the later ones are replayed from the state to which the first ones lead, unless one of those is refused
abbrev pub ReplaysGoOn : Type 0
ReplaysGoOn =
    (image : Image) (m : Machine) (k : ℕ) (es fs : List Entry) →
    replay_from image k (es ++ fs) m ≡ on_stands (replay_from image k es m) (replay_from image (k + length es) fs)

-- a schedule with one entry more leads where its steps lead
abbrev pub ReplayAppends : Type 0
ReplayAppends =
    (image : Image) (main : Method) (l : Limits) (log : List Entry) (e : Entry) (m n : Machine) →
    replay image main l log ≡ Stands m → steps_of image (length log) e.thread e.steps m ≡ Stands n →
    replay image main l (log ++ e ∷ []) ≡ Stands n

-- ---- seeded runs

-- a schedule with more entries
abbrev pub appended : List Entry → Reads (List Entry) → Reads (List Entry)
appended log (Ok es) = Ok (log ++ es)
appended log (Err y) = Err y

-- a schedule of turns that the words picked: it leads to this state, and what they pick from there on makes it the seeded one
pub record IsSeededSoFar (word : ℕ → ℕ) (image : Image) (main : Method) (l : Limits) (log : List Entry) (m : Machine) : Type 0 where
  pub replayed : replay image main l log ≡ Stands m
  pub few : length log ≤ m.steps
  pub within : m.steps ≤ l.budget
  pub limits : m.limits ≡ l
  pub rest : seeded_log word image main l ≡ appended log (seeded_from word image (suc l.budget - length log) (length log) m)

-- no turn yet
abbrev pub SeedBegins : Type 0
SeedBegins = (word : ℕ → ℕ) (image : Image) (main : Method) (l : Limits) → IsSeededSoFar word image main l [] (opening image main l)

-- the thread that a word picks may step, where no ending stands
abbrev pub SeedPicksRunnable : Type 0
SeedPicksRunnable =
    (image : Image) (m : Machine) (w : ℕ) → ending_of image m ≡ None →
    runnable image m (picked (runnable_from image m m.threads 0) w) ≡ true

-- one turn more, of the thread that the next word picks and as long as it says, from a well-typed state with no ending
abbrev pub SeedGoesOn : Type 0
SeedGoesOn =
    (word : ℕ → ℕ) (image : Image) (T : Typings) (main : Method) (l : Limits) (log : List Entry) (m : Machine) (t : ℕ) (x : Turned) →
    IsSeededSoFar word image main l log m → WellTyped image T m → ending_of image m ≡ None →
    t ≡ picked (runnable_from image m m.threads 0) (word (length log)) → turn image t (1 + word (length log) % 256) m ≡ Ok x →
    IsSeededSoFar word image main l (log ++ record { worker = 0; thread = t; steps = x.count } ∷ []) x.machine

-- with an ending it is the whole schedule
abbrev pub SeedEnds : Type 0
SeedEnds =
    (word : ℕ → ℕ) (image : Image) (main : Method) (l : Limits) (log : List Entry) (m : Machine) (e : Ending) →
    IsSeededSoFar word image main l log m → ending_of image m ≡ Some e → seeded_log word image main l ≡ Ok log
