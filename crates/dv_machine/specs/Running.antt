-- Which threads are runnable, and how a run stands.
use Rattle.std.specs.Prelude.{is_none, ℕ, suc, Bool, true, false, ◌&&◌, not, List, [], ◌∷◌, Option, Some, None, slice_get, nat_eq, if◌then◌else◌}
use Rattle.dv_defs.specs.Images.{Image}
use Rattle.dv_machine.specs.Value.{Value}
use Rattle.dv_machine.specs.Value as v
use Rattle.dv_defs.specs.declared.run.Ending.{Ending}
use Rattle.dv_defs.specs.declared.run.Ending.TheVariants as ending
use Rattle.dv_defs.specs.declared.run.Native.{Native}
use Rattle.dv_defs.specs.declared.run.Native.TheVariants as native
use Rattle.dv_machine.specs.Frame.{Frame}
use Rattle.dv_machine.specs.Level.{Level}
use Rattle.dv_machine.specs.Level as level
use Rattle.dv_defs.specs.declared.machine.End.{End}
use Rattle.dv_defs.specs.declared.machine.End.TheVariants as end
use Rattle.dv_defs.specs.declared.machine.Ask.{Ask}
use Rattle.dv_defs.specs.declared.machine.Ask.TheVariants as ask
use Rattle.dv_defs.specs.declared.machine.Blocked.{Blocked}
use Rattle.dv_defs.specs.declared.machine.Blocked.TheVariants as blocked
use Rattle.dv_defs.specs.Parts.{Call}
use Rattle.dv_defs.specs.Pools.{Method, method_at}
use Rattle.dv_defs.specs.Op.{Op, Enter, Invoke, needs}
use Rattle.dv_typing.specs.Statics.{At, fetch}
use Rattle.dv_machine.specs.Monitors.{Wait, Monitors, owner_of, wait_of}
use Rattle.dv_machine.specs.Classes.{Classes, ask_of}
use Rattle.dv_machine.specs.State.{Thread, Machine, reg_at}
use Rattle.dv_machine.specs.Calls.{Landing, Lands, Lacks, dispatch, native_of, receiver_of}
use Rattle.dv_machine.specs.Threads.{thread_with, is_living}
use Rattle.dv_defs.specs.Prior.{prior_at}

-- ---- what a thread waits for

-- a class that another thread initialises holds the thread up
abbrev pub by_ask : Ask → Option Blocked → ℕ → Option Blocked
by_ask ask.Go rest c = rest
by_ask ask.Begin rest c = None
by_ask (ask.Wait u) rest c = Some (blocked.Class (record { 0 = c }))
by_ask ask.Bad rest c = None

-- a record looks at its classes in order
abbrev pub blocked_record : Classes → ℕ → List ℕ → Option Blocked
blocked_record cs t [] = None
blocked_record cs t (p ∷ ps) = by_ask (ask_of cs p t) (blocked_record cs t ps) p

-- a monitor that another thread owns
abbrev pub by_owner : ℕ → Option ℕ → Option Blocked
by_owner t None = None
by_owner t (Some u) = if nat_eq u t then None else Some blocked.Monitor

-- null throws, so it holds nothing up
abbrev pub blocked_enter : Monitors → ℕ → Value → Option Blocked
blocked_enter ms t (v.Ref (suc o)) = by_owner t (owner_of ms (suc o))
blocked_enter ms t x = None

-- by whether it is notified, and the monitor's owner
abbrev pub blocked_waiting : Bool → Option ℕ → Option Blocked
blocked_waiting false owner = Some blocked.Wait
blocked_waiting true (Some u) = Some blocked.Monitor
blocked_waiting true None = None

-- a thread that calls wait, and waits already or not yet
abbrev pub blocked_wait : Monitors → Option Wait → Option Blocked
blocked_wait ms None = None
blocked_wait ms (Some w) = blocked_waiting w.notified (owner_of ms w.object)

-- a thread that joins this one
abbrev pub blocked_join : List Thread → Option ℕ → Option Blocked
blocked_join ts None = None
blocked_join ts (Some u) = if is_living (slice_get ts u) then Some (blocked.Join u) else None

-- a call that lands on wait or join of this object
abbrev pub blocked_native : Machine → ℕ → ℕ → Option Native → Option Blocked
blocked_native m t o (Some native.Wait) = blocked_wait m.shared.monitors (wait_of m.shared.monitors t)
blocked_native m t o (Some native.Join) = blocked_join m.threads (thread_with m.threads o)
blocked_native m t o n = None

-- by the method on which a call lands
abbrev pub blocked_landing : Image → Machine → ℕ → ℕ → Landing → Option Blocked
blocked_landing image m t o (Lacks n) = None
blocked_landing image m t o (Lands g) = blocked_native m t o (native_of image g)

-- a call on null throws
abbrev pub blocked_call : Image → Machine → ℕ → Method → Call → Method → Value → Option Blocked
blocked_call image m t own c g (v.Ref (suc o)) = blocked_landing image m t (suc o) (dispatch image m.shared.heap own c g (suc o))
blocked_call image m t own c g x = None

-- a static call lands on no native that waits
abbrev pub blocked_receiver : Image → Machine → ℕ → Method → Frame → Call → Method → Option ℕ → Option Blocked
blocked_receiver image m t own f c g None = None
blocked_receiver image m t own f c g (Some k) = blocked_call image m t own c g (reg_at f.regs k)

-- an operation whose class is ready
abbrev pub blocked_op : Image → Machine → ℕ → Method → Frame → Op → Option Blocked
blocked_op image m t own f (Enter a) = blocked_enter m.shared.monitors t (reg_at f.regs a)
blocked_op image m t own f (Invoke c ks g) = blocked_receiver image m t own f c g (receiver_of (Invoke c ks g))
blocked_op image m t own f op = None

-- a class that the instruction needs is asked for first
abbrev pub blocked_needing : Image → Machine → ℕ → Method → Frame → Op → Option ℕ → Option Blocked
blocked_needing image m t own f op None = blocked_op image m t own f op
blocked_needing image m t own f op (Some c) = by_ask (ask_of m.shared.classes c t) (blocked_op image m t own f op) c

-- by the method and the instruction at which a frame stands
abbrev pub blocked_at : Image → Machine → ℕ → Frame → Option Method → Option At → Option Blocked
blocked_at image m t f (Some own) (Some x) = blocked_needing image m t own f x.op (needs x.op)
blocked_at image m t f own x = None

-- by the top level of a stack
abbrev pub blocked_levels : Image → Machine → ℕ → List Level → Option Blocked
blocked_levels image m t [] = None
blocked_levels image m t (level.Code f ∷ ls) = blocked_at image m t f (method_at image f.method.0) (fetch image f.method.0 f.at)
blocked_levels image m t (level.Init c true ∷ ls) = None
blocked_levels image m t (level.Init c false ∷ ls) = blocked_record m.shared.classes t (prior_at image c.0)

-- what holds a thread up; none where it may step or has ended (JLS 12.4.2, 17.1, 17.2)
abbrev pub blocked_thread : Image → Machine → ℕ → Thread → Option Blocked
blocked_thread image m t th = for_end th.end
  where
    for_end : End → Option Blocked
    for_end end.Living = blocked_levels image m t th.levels
    for_end e = None

-- living, with nothing that holds it up
abbrev pub runnable_thread : Image → Machine → ℕ → Thread → Bool
runnable_thread image m t th = is_living (Some th) && is_none (blocked_thread image m t th)

abbrev pub runnable_one : Image → Machine → ℕ → Option Thread → Bool
runnable_one image m t None = false
runnable_one image m t (Some th) = runnable_thread image m t th

-- a thread by its number
abbrev pub runnable : Image → Machine → ℕ → Bool
runnable image m t = runnable_one image m t (slice_get m.threads t)

-- ---- the ending

-- each thread has returned or died
abbrev pub all_ended : List Thread → Bool
all_ended [] = true
all_ended (t ∷ ts) = not (is_living (Some t)) && all_ended ts

-- some thread is runnable, from the k-th on
abbrev pub any_runnable : Image → Machine → List Thread → ℕ → Bool
any_runnable image m [] k = false
any_runnable image m (t ∷ ts) k = elim (runnable_thread image m k t) [ true ↦ true | false ↦ any_runnable image m ts (suc k) ]

-- what a run comes to by itself
abbrev pub ending_without_stop : Image → Machine → Option Ending
ending_without_stop image m =
    elim (all_ended m.threads) [
      | true ↦ Some ending.Done
      | false ↦ elim (nat_eq m.steps m.limits.budget) [
        | true ↦ Some ending.Steps
        | false ↦ elim (any_runnable image m m.threads 0) [ true ↦ None | false ↦ Some ending.NoRunnable ]
      ]
    ]

abbrev pub ending_by : Image → Machine → Option Ending → Option Ending
ending_by image m (Some e) = Some e
ending_by image m None = ending_without_stop image m

-- tested in this order: the stop, all ended, the budget, none runnable
abbrev pub ending_of : Image → Machine → Option Ending
ending_of image m = ending_by image m m.stop
