-- Schedules, turns and seeded runs.
use Rattle.std.specs.Prelude.{◌≡◌, ℕ, zero, suc, ◌+◌, ◌/◌, ◌%◌, Bool, true, false, ◌&&◌, not, List, [], ◌∷◌, length, Option, Some, None, Ok, Err, slice_get, slice_index_or, nat_eq}
use Rattle.dv_defs.specs.Images.{Image}
use Rattle.dv_defs.specs.declared.run.Limits.{Limits}
use Rattle.dv_defs.specs.declared.run.Ending.{Ending}
use Rattle.dv_machine.specs.Why.{Why}
use Rattle.dv_defs.specs.declared.run.Entry.{Entry}
use Rattle.dv_machine.specs.Level.{Level}
use Rattle.dv_machine.specs.Level as level
use Rattle.dv_defs.specs.declared.machine.End.{End}
use Rattle.dv_defs.specs.declared.machine.End.TheVariants as end
use Rattle.dv_defs.specs.Pools.{Method}
use Rattle.dv_typing.specs.Statics.{At, fetch}
use Rattle.dv_defs.specs.Op.{is_local}
use Rattle.dv_machine.specs.State.{Thread, Machine, Reads, on_next}
use Rattle.dv_machine.specs.Step.{step}
use Rattle.dv_machine.specs.Running.{runnable, runnable_thread, ending_of}
use Rattle.dv_machine.specs.Opening.{opening}

-- a state, the entry at which the schedule is refused, or why the machine is stuck
pub data Replayed : Type 0 where
  Stands : (machine : Machine) → Replayed
  NotRunnable : (entry : ℕ) → Replayed
  PastEnd : (entry : ℕ) → Replayed
  Wrong : (why : Why) → Replayed

-- where nothing was refused the replay goes on
abbrev pub on_stands : Replayed → (Machine → Replayed) → Replayed
on_stands (Stands m) go = go m
on_stands r go = r

abbrev pub stands_on : Reads Machine → Replayed
stands_on (Ok m) = Stands m
stands_on (Err y) = Wrong y

-- a step of the k-th entry: no ending stands, and its thread is runnable
abbrev pub one_step : Image → ℕ → ℕ → Machine → Replayed
one_step image k t m =
    elim (ending_of image m) [
      | Some e ↦ PastEnd k
      | None ↦ elim (runnable image m t) [ true ↦ stands_on (step image m t) | false ↦ NotRunnable k ]
    ]

-- the steps of the k-th entry
abbrev pub steps_of : Image → ℕ → ℕ → ℕ → Machine → Replayed
steps_of image k t zero m = Stands m
steps_of image k t (suc n) m = on_stands (one_step image k t m) (steps_of image k t n)

-- the entries one after another, from the k-th on
abbrev pub replay_from : Image → ℕ → List Entry → Machine → Replayed
replay_from image k [] m = Stands m
replay_from image k (e ∷ es) m = on_stands (steps_of image k e.thread e.steps m) (replay_from image (suc k) es)

-- a schedule from the opening on
abbrev pub replay : Image → Method → Limits → List Entry → Replayed
replay image main l log = replay_from image 0 log (opening image main l)

-- a schedule is legal where no entry is refused and the machine isn't stuck
abbrev pub IsLegal : Image → Method → Limits → List Entry → Type 0
IsLegal image main l log = (m : Machine) × (replay image main l log ≡ Stands m)

-- legal, with an ending at its end
abbrev pub IsFinished : Image → Method → Limits → List Entry → Type 0
IsFinished image main l log = (m : Machine) × (e : Ending) × (replay image main l log ≡ Stands m) × (ending_of image m ≡ Some e)

-- legal, with no ending at its end
abbrev pub IsShort : Image → Method → Limits → List Entry → Type 0
IsShort image main l log = (m : Machine) × (replay image main l log ≡ Stands m) × (ending_of image m ≡ None)

-- ---- a turn

-- the steps of a turn with the state after them
pub record Turned : Type 0 where
  pub count : ℕ
  pub machine : Machine

-- an instruction that touches the frame alone
abbrev pub is_local_at : Option At → Bool
is_local_at None = false
is_local_at (Some x) = is_local x.op

abbrev pub is_local_level : Image → List Level → Bool
is_local_level image (level.Code f ∷ ls) = is_local_at (fetch image f.method.0 f.at)
is_local_level image ls = false

-- living, with nothing in flight
abbrev pub is_running : End → Bool
is_running end.Living = true
is_running e = false

abbrev pub thread_is_local : Image → Option Thread → Bool
thread_is_local image None = false
thread_is_local image (Some th) = is_running th.end && is_local_level image th.levels

-- the next step of the thread is local
abbrev pub next_is_local : Image → Machine → ℕ → Bool
next_is_local image m t = thread_is_local image (slice_get m.threads t)

-- one step more
abbrev pub one_more : Reads Turned → Reads Turned
one_more (Ok x) = Ok (record { count = suc x.count; machine = x.machine })
one_more (Err y) = Err y

-- a step of any kind, where the thread may do one
abbrev pub last_step : Image → ℕ → Machine → Reads Turned
last_step image t m =
    elim (ending_of image m) [
      | Some e ↦ Ok (record { count = 0; machine = m })
      | None ↦ elim (runnable image m t) [
        | false ↦ Ok (record { count = 0; machine = m })
        | true ↦ on_next (step image m t) (λ n. Ok (record { count = 1; machine = n }))
      ]
    ]

-- local steps while the next one is local, then at most one other
abbrev pub turn : Image → ℕ → ℕ → Machine → Reads Turned
turn image t zero m = Ok (record { count = 0; machine = m })
turn image t (suc most) m =
    elim (next_is_local image m t && not (nat_eq m.steps m.limits.budget)) [
      | true ↦ on_next (step image m t) (λ n. one_more (turn image t most n))
      | false ↦ last_step image t m
    ]

-- ---- seeded runs; `word` gives the words of the generator

-- the runnable threads, by number
abbrev pub runnable_from : Image → Machine → List Thread → ℕ → List ℕ
runnable_from image m [] k = []
runnable_from image m (t ∷ ts) k =
    elim (runnable_thread image m k t) [
      | true ↦ k ∷ runnable_from image m ts (suc k)
      | false ↦ runnable_from image m ts (suc k)
    ]

-- the thread at place (word div 256) mod their number
abbrev pub picked : List ℕ → ℕ → ℕ
picked ts w = slice_index_or ts (w / 256 % length ts) 0

abbrev pub logged : ℕ → ℕ → List Entry → List Entry
logged t n es = record { worker = 0; thread = t; steps = n } ∷ es

-- so many turns at most, from the k-th word on; each turn is at least one step, so the budget is enough
abbrev pub seeded_from : (ℕ → ℕ) → Image → ℕ → ℕ → Machine → Reads (List Entry)
seeded_from word image zero k m = Ok []
seeded_from word image (suc fuel) k m =
    elim (ending_of image m) [
      | Some e ↦ Ok []
      | None ↦ on_next (turn image (picked (runnable_from image m m.threads 0) (word k)) (1 + word k % 256) m)
          (λ x.
          on_next (seeded_from word image fuel (suc k) x.machine)
          (λ es. Ok (logged (picked (runnable_from image m m.threads 0) (word k)) x.count es)))
    ]

-- the schedule of a run whose turns these words pick
abbrev pub seeded_log : (ℕ → ℕ) → Image → Method → Limits → Reads (List Entry)
seeded_log word image main l = seeded_from word image (suc l.budget) 0 (opening image main l)
