-- What each call on monitors keeps of them, as statements.
use Rattle.std.specs.Prelude.{◌≡◌, ℕ, suc, List, Some, None, slice_get}
use Rattle.dv_defs.specs.Images.{Image}
use Rattle.dv_machine.specs.Monitors.{Held, Wait, held_of, owner_of, entered, exited, waiting, notified_one, notified_all, wait_of, resumed}
use Rattle.dv_machine.specs.State.{Thread, Shared, with_monitors}
use Rattle.dv_machine.specs.WellTyped.{IsWaiting, MonitorsFine}

-- a thread that doesn't wait enters a monitor
abbrev pub EnteringKeeps : Type 0
EnteringKeeps =
    (image : Image) (threads : List Thread) (sh : Shared) (steps o t : ℕ) (thread : Thread) →
    MonitorsFine image threads sh steps → slice_get threads t ≡ Some thread → wait_of sh.monitors t ≡ None →
    MonitorsFine image threads (with_monitors sh (entered sh.monitors o t 1)) (suc steps)

-- a monitor is exited once
abbrev pub ExitingKeeps : Type 0
ExitingKeeps =
    (image : Image) (threads : List Thread) (sh : Shared) (steps o : ℕ) → MonitorsFine image threads sh steps →
    MonitorsFine image threads (with_monitors sh (exited sh.monitors o)) (suc steps)

-- an owner gives a monitor up as often as it holds it, and waits
abbrev pub WaitingKeeps : Type 0
WaitingKeeps =
    (image : Image) (threads : List Thread) (sh : Shared) (steps o t : ℕ) (thread : Thread) (h : Held) →
    MonitorsFine image threads sh steps → slice_get threads t ≡ Some thread → wait_of sh.monitors t ≡ None →
    held_of sh.monitors o ≡ Some h → IsWaiting image sh.heap thread.levels thread.end o →
    MonitorsFine image threads (with_monitors sh (waiting sh.monitors o t h.count)) (suc steps)

-- one, or all, of those that wait on an object are notified
abbrev pub NotifyingKeeps : Type 0
NotifyingKeeps =
    (image : Image) (threads : List Thread) (sh : Shared) (steps o : ℕ) → MonitorsFine image threads sh steps →
    MonitorsFine image threads (with_monitors sh (notified_one sh.monitors o)) (suc steps) ×
    MonitorsFine image threads (with_monitors sh (notified_all sh.monitors o)) (suc steps)

-- a waiting thread takes a free monitor back as often as it held it, and waits no more
abbrev pub ResumingKeeps : Type 0
ResumingKeeps =
    (image : Image) (threads : List Thread) (sh : Shared) (steps t : ℕ) (w : Wait) →
    MonitorsFine image threads sh steps → wait_of sh.monitors t ≡ Some w → owner_of sh.monitors w.object ≡ None →
    MonitorsFine image threads (with_monitors sh (resumed sh.monitors w)) (suc steps) ×
    (wait_of (resumed sh.monitors w) t ≡ None)
