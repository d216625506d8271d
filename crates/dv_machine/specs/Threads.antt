-- Monitors, waiting, starting and joining (JLS 17.1, 17.2).
use Rattle.std.specs.Prelude.{ℕ, suc, Bool, true, false, List, [], ◌∷◌, length, Option, Some, None, slice_get, nat_eq, nat_lt, codes, if◌then◌else◌}
use Rattle.dv_defs.specs.Images.{Image}
use Rattle.dv_machine.specs.Value as v
use Rattle.dv_defs.specs.declared.run.Named.TheVariants as named
use Rattle.dv_machine.specs.Level as level
use Rattle.dv_defs.specs.declared.machine.End.{End}
use Rattle.dv_defs.specs.declared.machine.End.TheVariants as end
use Rattle.dv_defs.specs.Pools.{Method, no_arguments}
use Rattle.dv_machine.specs.Heap.{kind_of}
use Rattle.dv_machine.specs.Monitors.{Held, Wait, held_of, owner_of, entered, exited, waiting, notified_one, notified_all, wait_of, resumed}
use Rattle.dv_machine.specs.State.{Thread, Shared, Left, Did, Go, Throws, where_true, gone, Here, onward, with_monitors}
use Rattle.dv_machine.specs.Calls.{Landing, Lacks, Lands, class_of_kind, entered_frame, selected_from}

-- a step of a thread that has to wait leaves the thread as it is
abbrev pub stays : Here → Did Left
stays h = onward h h.shared h.frame

-- the instruction is done
abbrev pub goes : Here → Shared → Did Left
goes h sh = onward h sh (gone h.frame h.next h.frame.regs)

-- no thread owns the monitor, or this one does
abbrev pub free_or_mine : Here → Option ℕ → Bool
free_or_mine h None = true
free_or_mine h (Some t) = nat_eq t h.thread

-- re-entrant
abbrev pub monitor_enter : Here → ℕ → Did Left
monitor_enter h o =
    if free_or_mine h (owner_of h.shared.monitors o)
    then goes h (with_monitors h.shared (entered h.shared.monitors o h.thread 1)) else stays h

abbrev pub holding_it : Here → (ℕ → Did Left) → Option Held → Did Left
holding_it h go None = Throws named.IllegalMonitorState
holding_it h go (Some x) = where_true (nat_eq x.thread h.thread) named.IllegalMonitorState (go x.count)

-- what only the owner does
abbrev pub holding : Here → ℕ → (ℕ → Did Left) → Did Left
holding h o go = holding_it h go (held_of h.shared.monitors o)

abbrev pub monitor_exit : Here → ℕ → Did Left
monitor_exit h o = holding h o (λ n. goes h (with_monitors h.shared (exited h.shared.monitors o)))

-- the second step of a wait: notified, and the monitor is free
abbrev pub taken_back : Here → Wait → Bool → Option ℕ → Did Left
taken_back h w true None = goes h (with_monitors h.shared (resumed h.shared.monitors w))
taken_back h w notified owner = stays h

-- the first step gives the monitor up wholly and waits, the second takes it back as often as it was held
abbrev pub wait_step : Here → ℕ → Option Wait → Did Left
wait_step h o None = holding h o (λ n. onward h (with_monitors h.shared (waiting h.shared.monitors o h.thread n)) h.frame)
wait_step h o (Some w) = taken_back h w w.notified (owner_of h.shared.monitors w.object)

abbrev pub wait_on : Here → ℕ → Did Left
wait_on h o = wait_step h o (wait_of h.shared.monitors h.thread)

abbrev pub notify_on : Here → ℕ → Did Left
notify_on h o = holding h o (λ n. goes h (with_monitors h.shared (notified_one h.shared.monitors o)))

abbrev pub notify_all_on : Here → ℕ → Did Left
notify_all_on h o = holding h o (λ n. goes h (with_monitors h.shared (notified_all h.shared.monitors o)))

abbrev pub thread_from : List Thread → ℕ → ℕ → Option ℕ
thread_from [] k o = None
thread_from (t ∷ ts) k o = elim (nat_eq t.object o) [ true ↦ Some k | false ↦ thread_from ts (suc k) o ]

-- the thread of a Thread object, if it has one
abbrev pub thread_with : List Thread → ℕ → Option ℕ
thread_with ts o = thread_from ts 0 o

-- a thread that is there and has neither returned nor died
abbrev pub is_living : Option Thread → Bool
is_living None = false
is_living (Some t) = alive t.end
  where
    alive : End → Bool
    alive end.Living = true
    alive (end.Flying o) = true
    alive e = false

-- it begins with the run method of its object
abbrev pub new_thread : ℕ → Method → Thread
new_thread o m = record { levels = level.Code (entered_frame m (v.Ref o ∷ []) false) ∷ []; end = end.Living; object = o }

-- the new thread runs the method on which a call lands
abbrev pub started_on : Here → ℕ → Landing → Did Left
started_on h o (Lacks n) = Throws n
started_on h o (Lands m) =
    Go
    (record {
      levels = level.Code (gone h.frame h.next h.frame.regs) ∷ h.rest;
      shared = h.shared;
      started = Some (new_thread o m);
    })

-- the run()V that an object's class selects
abbrev pub run_landing : Image → Option ℕ → Landing
run_landing image c = selected_from image c (codes "run") no_arguments

-- where the object has no thread yet
abbrev pub start_unless : Here → ℕ → Option ℕ → Did Left
start_unless h o (Some u) = Throws named.IllegalThreadState
start_unless h o None =
    where_true (nat_lt (length h.threads) h.limits.threads) named.OutOfMemory
    (started_on h o (run_landing h.image (class_of_kind h.image (kind_of h.shared.heap o))))

-- tested in this order: a thread of the object, the number of threads, the selection of run()V
abbrev pub start_on : Here → ℕ → Did Left
start_on h o = start_unless h o (thread_with h.threads o)

abbrev pub join_with : Here → Option ℕ → Did Left
join_with h None = goes h h.shared
join_with h (Some u) = if is_living (slice_get h.threads u) then stays h else goes h h.shared

-- goes on where the other thread has ended or was never started
abbrev pub join_on : Here → ℕ → Did Left
join_on h o = join_with h (thread_with h.threads o)

abbrev pub object_of_thread : Option Thread → ℕ
object_of_thread None = 0
object_of_thread (Some t) = t.object

-- the Thread object of the thread that steps
abbrev pub own_object : Here → ℕ
own_object h = object_of_thread (slice_get h.threads h.thread)
