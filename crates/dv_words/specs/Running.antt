-- Which threads are runnable, and how a run stands, on words: as the tagged machine's.
use Rattle.std.specs.Prelude.{ℕ, zero, suc, Bool, true, false, ◌&&◌, not, is_none, List, [], ◌∷◌, Option, Some, None, slice_get, nat_eq, if◌then◌else◌}
use Rattle.dv_defs.specs.declared.machine.Blocked.{Blocked}
use Rattle.dv_defs.specs.declared.machine.Blocked.TheVariants as blocked
use Rattle.dv_defs.specs.declared.machine.End.{End}
use Rattle.dv_defs.specs.declared.machine.End.TheVariants as end
use Rattle.dv_defs.specs.declared.run.Ending.{Ending}
use Rattle.dv_defs.specs.declared.run.Ending.TheVariants as ending
use Rattle.dv_defs.specs.declared.run.Native.{Native}
use Rattle.dv_defs.specs.declared.run.Native.TheVariants as native
use Rattle.dv_machine.specs.Classes.{ask_of}
use Rattle.dv_defs.specs.Images.{Image}
use Rattle.dv_machine.specs.Monitors.{Monitors, owner_of, wait_of}
use Rattle.dv_defs.specs.Op.{Op, Enter, Invoke, needs}
use Rattle.dv_defs.specs.Parts.{Call}
use Rattle.dv_defs.specs.Pools.{Method, method_at}
use Rattle.dv_typing.specs.Statics.{At, fetch}
use Rattle.dv_machine.specs.Calls.{Landing, Lacks, Lands, native_of, receiver_of}
use Rattle.dv_machine.specs.Running.{blocked_record, blocked_wait, by_ask, by_owner}
use Rattle.dv_defs.specs.Prior.{prior_at}
use Rattle.dv_words.specs.declared.state.Frame.{Frame}
use Rattle.dv_words.specs.declared.state.Level.{Level}
use Rattle.dv_words.specs.declared.state.Level.TheVariants as level
use Rattle.dv_words.specs.State.{WordMachine, WordThread}
use Rattle.dv_words.specs.Calls.{dispatch}
use Rattle.dv_words.specs.Local.{reg_word}
use Rattle.dv_words.specs.Threads.{is_living, thread_with}

-- ---- what a thread waits for

-- null throws, so it holds nothing up
abbrev pub blocked_enter : Monitors → ℕ → ℕ → Option Blocked
blocked_enter ms t zero = None
blocked_enter ms t (suc o) = by_owner t (owner_of ms (suc o))

-- a thread that joins this one
abbrev pub blocked_join : List WordThread → Option ℕ → Option Blocked
blocked_join ts None = None
blocked_join ts (Some u) = if is_living (slice_get ts u) then Some (blocked.Join u) else None

-- a call that lands on wait or join of this object
abbrev pub blocked_native : WordMachine → ℕ → ℕ → Option Native → Option Blocked
blocked_native m t o (Some native.Wait) = blocked_wait m.shared.monitors (wait_of m.shared.monitors t)
blocked_native m t o (Some native.Join) = blocked_join m.threads (thread_with m.threads o)
blocked_native m t o n = None

-- by the method on which a call lands
abbrev pub blocked_landing : Image → WordMachine → ℕ → ℕ → Landing → Option Blocked
blocked_landing image m t o (Lacks n) = None
blocked_landing image m t o (Lands g) = blocked_native m t o (native_of image g)

-- a call on null throws
abbrev pub blocked_call : Image → WordMachine → ℕ → Method → Call → Method → ℕ → Option Blocked
blocked_call image m t own c g zero = None
blocked_call image m t own c g (suc o) = blocked_landing image m t (suc o) (dispatch image m.shared.heap own c g (suc o))

-- a static call lands on no native that waits
abbrev pub blocked_receiver : Image → WordMachine → ℕ → Method → Frame → Call → Method → Option ℕ → Option Blocked
blocked_receiver image m t own f c g None = None
blocked_receiver image m t own f c g (Some k) = blocked_call image m t own c g (reg_word f k)

-- an operation whose class is ready
abbrev pub blocked_op : Image → WordMachine → ℕ → Method → Frame → Op → Option Blocked
blocked_op image m t own f (Enter a) = blocked_enter m.shared.monitors t (reg_word f a)
blocked_op image m t own f (Invoke c ks g) = blocked_receiver image m t own f c g (receiver_of (Invoke c ks g))
blocked_op image m t own f op = None

-- a class that the instruction needs is asked for first
abbrev pub blocked_needing : Image → WordMachine → ℕ → Method → Frame → Op → Option ℕ → Option Blocked
blocked_needing image m t own f op None = blocked_op image m t own f op
blocked_needing image m t own f op (Some c) = by_ask (ask_of m.shared.classes c t) (blocked_op image m t own f op) c

-- by the method and the instruction at which a frame stands
abbrev pub blocked_at : Image → WordMachine → ℕ → Frame → Option Method → Option At → Option Blocked
blocked_at image m t f (Some own) (Some x) = blocked_needing image m t own f x.op (needs x.op)
blocked_at image m t f own x = None

-- by the top level of a stack
abbrev pub blocked_levels : Image → WordMachine → ℕ → List Level → Option Blocked
blocked_levels image m t [] = None
blocked_levels image m t (level.Code f ∷ ls) = blocked_at image m t f (method_at image f.method.0) (fetch image f.method.0 f.at)
blocked_levels image m t (level.Init c true ∷ ls) = None
blocked_levels image m t (level.Init c false ∷ ls) = blocked_record m.shared.classes t (prior_at image c.0)

-- what holds a thread up; none where it may step or has ended (JLS 12.4.2, 17.1, 17.2)
abbrev pub blocked_thread : Image → WordMachine → ℕ → WordThread → Option Blocked
blocked_thread image m t th = for_end th.end
  where
    for_end : End → Option Blocked
    for_end end.Living = blocked_levels image m t th.levels
    for_end e = None

-- living, with nothing that holds it up
abbrev pub runnable_thread : Image → WordMachine → ℕ → WordThread → Bool
runnable_thread image m t th = is_living (Some th) && is_none (blocked_thread image m t th)

abbrev pub runnable_one : Image → WordMachine → ℕ → Option WordThread → Bool
runnable_one image m t None = false
runnable_one image m t (Some th) = runnable_thread image m t th

-- a thread by its number
abbrev pub runnable : Image → WordMachine → ℕ → Bool
runnable image m t = runnable_one image m t (slice_get m.threads t)

-- what holds a thread up, by its number
abbrev pub blocked_one : Image → WordMachine → ℕ → Option WordThread → Option Blocked
blocked_one image m t None = None
blocked_one image m t (Some th) = blocked_thread image m t th

abbrev pub blocked_of : Image → WordMachine → ℕ → Option Blocked
blocked_of image m t = blocked_one image m t (slice_get m.threads t)

-- ---- the ending

-- each thread has returned or died
abbrev pub all_ended : List WordThread → Bool
all_ended [] = true
all_ended (t ∷ ts) = not (is_living (Some t)) && all_ended ts

-- some thread is runnable, from the k-th on
abbrev pub any_runnable : Image → WordMachine → List WordThread → ℕ → Bool
any_runnable image m [] k = false
any_runnable image m (t ∷ ts) k = elim (runnable_thread image m k t) [ true ↦ true | false ↦ any_runnable image m ts (suc k) ]

-- what a run comes to by itself
abbrev pub ending_without_stop : Image → WordMachine → Option Ending
ending_without_stop image m =
    elim (all_ended m.threads) [
      | true ↦ Some ending.Done
      | false ↦ elim (nat_eq m.steps m.limits.budget) [
        | true ↦ Some ending.Steps
        | false ↦ elim (any_runnable image m m.threads 0) [ true ↦ None | false ↦ Some ending.NoRunnable ]
      ]
    ]

abbrev pub ending_by : Image → WordMachine → Option Ending → Option Ending
ending_by image m (Some e) = Some e
ending_by image m None = ending_without_stop image m

-- tested in this order: the stop, all ended, the budget, none runnable
abbrev pub ending_of : Image → WordMachine → Option Ending
ending_of image m = ending_by image m m.stop
