-- Monitors, waiting, starting and joining on words (JLS 17.1, 17.2): as the tagged machine's.
use Rattle.std.specs.Prelude.{ℕ, suc, Bool, true, false, List, [], ◌∷◌, length, Option, Some, None, nat_eq, nat_lt, slice_get, if◌then◌else◌}
use Rattle.dv_defs.specs.declared.machine.End.{End}
use Rattle.dv_defs.specs.declared.machine.End.TheVariants as end
use Rattle.dv_defs.specs.declared.run.Named.TheVariants as named
use Rattle.dv_defs.specs.Images.{Image}
use Rattle.dv_machine.specs.Monitors.{Held, Wait, entered, exited, held_of, notified_all, notified_one, owner_of, resumed, wait_of, waiting}
use Rattle.dv_defs.specs.Names.{class_name, object_name, string_name}
use Rattle.dv_defs.specs.Pools.{Method, class_named}
use Rattle.dv_machine.specs.Calls.{Landing, Lacks, Lands, registers_of}
use Rattle.dv_machine.specs.State.{Did, Go, Throws, where_true}
use Rattle.dv_machine.specs.Threads.{run_landing}
use Rattle.dv_words.specs.declared.state.Kind.{Kind}
use Rattle.dv_words.specs.declared.state.Kind.TheVariants as kind
use Rattle.dv_words.specs.declared.state.Level.TheVariants as level
use Rattle.dv_words.specs.Heaps.{kind_of}
use Rattle.dv_words.specs.Stacks as stacks
use Rattle.dv_words.specs.State.{WordThread}
use Rattle.dv_words.specs.Steps.{At, Left, goes, onward, stays, with_monitors}

-- ---- monitors

-- no thread owns the monitor, or this one does
abbrev pub free_or_mine : At → Option ℕ → Bool
free_or_mine h None = true
free_or_mine h (Some t) = nat_eq t h.thread

abbrev pub monitor_enter : At → ℕ → Did Left
monitor_enter h o =
    if free_or_mine h (owner_of h.shared.monitors o)
    then goes h (with_monitors h.shared (entered h.shared.monitors o h.thread 1)) else stays h

abbrev pub holding_it : At → (ℕ → Did Left) → Option Held → Did Left
holding_it h go None = Throws named.IllegalMonitorState
holding_it h go (Some x) = where_true (nat_eq x.thread h.thread) named.IllegalMonitorState (go x.count)

-- what only the owner does
abbrev pub holding : At → ℕ → (ℕ → Did Left) → Did Left
holding h o go = holding_it h go (held_of h.shared.monitors o)

abbrev pub monitor_exit : At → ℕ → Did Left
monitor_exit h o = holding h o (λ n. goes h (with_monitors h.shared (exited h.shared.monitors o)))

-- ---- waiting

-- the second step of a wait: notified, and the monitor is free
abbrev pub taken_back : At → Wait → Bool → Option ℕ → Did Left
taken_back h w true None = goes h (with_monitors h.shared (resumed h.shared.monitors w))
taken_back h w notified owner = stays h

-- the first step gives the monitor up wholly and waits, the second takes it back as often as it was held
abbrev pub wait_step : At → ℕ → Option Wait → Did Left
wait_step h o None = holding h o (λ n. onward h (with_monitors h.shared (waiting h.shared.monitors o h.thread n)) h.frame)
wait_step h o (Some w) = taken_back h w w.notified (owner_of h.shared.monitors w.object)

abbrev pub wait_on : At → ℕ → Did Left
wait_on h o = wait_step h o (wait_of h.shared.monitors h.thread)

abbrev pub notify_on : At → ℕ → Did Left
notify_on h o = holding h o (λ n. goes h (with_monitors h.shared (notified_one h.shared.monitors o)))

abbrev pub notify_all_on : At → ℕ → Did Left
notify_all_on h o = holding h o (λ n. goes h (with_monitors h.shared (notified_all h.shared.monitors o)))

-- ---- threads

abbrev pub thread_from : List WordThread → ℕ → ℕ → Option ℕ
thread_from [] k o = None
thread_from (t ∷ ts) k o = elim (nat_eq t.object o) [ true ↦ Some k | false ↦ thread_from ts (suc k) o ]

-- the thread of a Thread object, if it has one
abbrev pub thread_with : List WordThread → ℕ → Option ℕ
thread_with ts o = thread_from ts 0 o

-- it has neither returned nor died
abbrev pub is_alive : End → Bool
is_alive end.Living = true
is_alive (end.Flying o) = true
is_alive e = false

abbrev pub is_living : Option WordThread → Bool
is_living None = false
is_living (Some t) = is_alive t.end

-- it begins with the run method of its object
abbrev pub new_thread : ℕ → Method → WordThread
new_thread o m =
    record { levels = level.Code (stacks.entered (record { 0 = m.id }) (registers_of m) (o ∷ [])) ∷ []; end = end.Living; object = o }

-- the new thread runs the method on which a call lands
abbrev pub started_on : At → ℕ → Landing → Did Left
started_on h o (Lacks n) = Throws n
started_on h o (Lands m) =
    Go
    (record { levels = level.Code (stacks.gone h.frame h.next) ∷ h.rest; shared = h.shared; started = Some (new_thread o m) })

-- an array's class is Object here
abbrev pub class_of_kind : Image → Option Kind → Option ℕ
class_of_kind image (Some (kind.Object c)) = Some c.0
class_of_kind image (Some kind.Str) = class_named image string_name
class_of_kind image (Some (kind.ClassOf t)) = class_named image class_name
class_of_kind image k = class_named image object_name

-- where the object has no thread yet
abbrev pub start_unless : At → ℕ → Option ℕ → Did Left
start_unless h o (Some u) = Throws named.IllegalThreadState
start_unless h o None =
    where_true (nat_lt (length h.threads) h.limits.threads) named.OutOfMemory
    (started_on h o (run_landing h.image (class_of_kind h.image (kind_of h.shared.heap o))))

-- tested in this order: a thread of the object, the number of threads, the selection of run()V
abbrev pub start_on : At → ℕ → Did Left
start_on h o = start_unless h o (thread_with h.threads o)

abbrev pub join_with : At → Option ℕ → Did Left
join_with h None = goes h h.shared
join_with h (Some u) = if is_living (slice_get h.threads u) then stays h else goes h h.shared

-- goes on where the other thread has ended or was never started
abbrev pub join_on : At → ℕ → Did Left
join_on h o = join_with h (thread_with h.threads o)

abbrev pub object_of_thread : Option WordThread → ℕ
object_of_thread None = 0
object_of_thread (Some t) = t.object

-- the Thread object of the thread that steps
abbrev pub own_object : At → ℕ
own_object h = object_of_thread (slice_get h.threads h.thread)
