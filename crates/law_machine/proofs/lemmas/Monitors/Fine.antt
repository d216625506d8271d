-- Monitors are in order after each call on them, and after a thread has moved on.
use Rattle.std.proofs.Common.{◌≢◌, ℕ, suc, ◌≤◌, List, false, Some, subst, arith}
use Rattle.std.specs.Prelude.{All}
use Rattle.std.proofs.lemmas.List.Elements.{All-weaker, All-push}
use Rattle.dv_defs.specs.Images.{Image}
use Rattle.dv_machine.specs.Monitors.{Held, Wait, Monitors, owner_of, waiting, as_notified, notified_one, notified_all, without, resumed}
use Rattle.dv_machine.specs.State.{Thread, Shared, with_monitors}
use Rattle.dv_machine.specs.WellTyped.{WaitFine, HeldFine, MonitorsFine}
use Rattle.law_machine.specs.MonitorLaws.{EnteringKeeps, ExitingKeeps, WaitingKeeps, NotifyingKeeps, ResumingKeeps}
use Rattle.law_machine.proofs.lemmas.Monitors.Lists.{all_entered, all_exited, all_given_up, all_notified_first, all_notified_each, all_without, AreOnce, object_key, thread_key, once_from, place_from, once_entered, once_exited, once_given_up, once_notified_first, once_notified_each, once_without, once_push}
use Rattle.law_machine.proofs.lemmas.Monitors.Owners.{quiet_from, entry_none, entry_thread, entry_all, without_quiet, not_owner, entered_owner, exited_owner, given_up_owner, given_up_free, held_all, free_from, all_entered_free}

-- ---- the calls

held_later : (threads : List Thread) (n : ℕ) (h : Held) → HeldFine threads n h → HeldFine threads (suc n) h
held_later threads n h f = record { owner = f.owner; low = f.low; high = omega (arith, f.high) }

kept_later : (n : ℕ) (w : Wait) → (1 ≤ w.kept) × (w.kept ≤ n) → (1 ≤ w.kept) × (w.kept ≤ suc n)
kept_later n w k = (k.0, omega (arith, k.1))

-- an entry where only the monitors have changed
wait_again : (image : Image) (threads : List Thread) (sh : Shared) (ms : Monitors) (w : Wait) → WaitFine image threads sh w → owner_of ms w.object ≢ Some w.thread → WaitFine image threads (with_monitors sh ms) w
wait_again image threads sh ms w f d = record { thread = f.thread; has_thread = f.has_thread; waits = f.waits; not_owner = d }

pub entering_keeps : EnteringKeeps
entering_keeps image threads sh n o t thread m has quiet = record {
  waits = λ k d l. wait_again image threads sh _ _ (m.waits k d l) (entered_owner o t 1 _ _ (quiet_from t sh.monitors.waits quiet k d l) sh.monitors.held (m.waits k d l).not_owner);
  held = all_entered (HeldFine threads n) (HeldFine threads (suc n)) (held_later threads n) o t 1 (record { owner = (thread, has); low = omega arith; high = omega arith }) (λ h f. record { owner = (thread, has); low = omega arith; high = omega (arith, f.high) }) sh.monitors.held m.held;
  kept = All-weaker _ _ (kept_later n) sh.monitors.waits m.kept;
  once = m.once;
  one_owner = place_from object_key _ (once_entered o t 1 sh.monitors.held (once_from object_key sh.monitors.held m.one_owner));
}

pub exiting_keeps : ExitingKeeps
exiting_keeps image threads sh n o m = record {
  waits = λ k d l. wait_again image threads sh _ _ (m.waits k d l) (exited_owner o _ _ sh.monitors.held (once_from object_key sh.monitors.held m.one_owner) (m.waits k d l).not_owner);
  held = all_exited (HeldFine threads (suc n)) o (λ h g f. record { owner = f.owner; low = omega (arith, g); high = omega (arith, f.high) }) sh.monitors.held (All-weaker _ _ (held_later threads n) sh.monitors.held m.held);
  kept = All-weaker _ _ (kept_later n) sh.monitors.waits m.kept;
  once = m.once;
  one_owner = place_from object_key _ (once_exited o sh.monitors.held (once_from object_key sh.monitors.held m.one_owner));
}

pub waiting_keeps : WaitingKeeps
waiting_keeps image threads sh n o t thread h m has quiet holds waits = record {
  waits = All-push (WaitFine image threads after) sh.monitors.waits new (λ k d l. wait_again image threads sh _ _ (m.waits k d l) (given_up_owner o _ _ sh.monitors.held apart (m.waits k d l).not_owner)) (record { thread = thread; has_thread = has; waits = waits; not_owner = not_owner o t _ (given_up_free o sh.monitors.held apart) });
  held = all_given_up (HeldFine threads (suc n)) o sh.monitors.held (All-weaker _ _ (held_later threads n) sh.monitors.held m.held);
  kept = All-push (λ (w : Wait). (1 ≤ w.kept) × (w.kept ≤ suc n)) sh.monitors.waits new (All-weaker _ _ (kept_later n) sh.monitors.waits m.kept) (owned.low, omega (arith, owned.high));
  once = place_from thread_key _ (once_push thread_key sh.monitors.waits new (quiet_from t sh.monitors.waits quiet) (once_from thread_key sh.monitors.waits m.once));
  one_owner = place_from object_key _ (once_given_up o sh.monitors.held apart);
}
  where
    new : Wait
    new = record { thread = t; object = o; kept = h.count; notified = false }

    after : Shared
    after = with_monitors sh (waiting sh.monitors o t h.count)

    apart : AreOnce object_key sh.monitors.held
    apart = once_from object_key sh.monitors.held m.one_owner

    owned : HeldFine threads n h
    owned = held_all (HeldFine threads n) o sh.monitors.held h m.held holds

wait_notified : (image : Image) (threads : List Thread) (sh : Shared) (w : Wait) → WaitFine image threads sh w → WaitFine image threads sh (as_notified w)
wait_notified image threads sh w f = record { thread = f.thread; has_thread = f.has_thread; waits = f.waits; not_owner = f.not_owner }

pub notifying_keeps : NotifyingKeeps
notifying_keeps image threads sh n o m = (one, each)
  where
    kept : All (λ (w : Wait). (1 ≤ w.kept) × (w.kept ≤ suc n)) sh.monitors.waits
    kept = All-weaker _ _ (kept_later n) sh.monitors.waits m.kept

    one : MonitorsFine image threads (with_monitors sh (notified_one sh.monitors o)) (suc n)
    one = record {
      waits = all_notified_first (WaitFine image threads (with_monitors sh (notified_one sh.monitors o))) o (wait_notified image threads (with_monitors sh (notified_one sh.monitors o))) sh.monitors.waits (λ k d l. wait_again image threads sh _ _ (m.waits k d l) (m.waits k d l).not_owner);
      held = All-weaker _ _ (held_later threads n) sh.monitors.held m.held;
      kept = all_notified_first (λ (w : Wait). (1 ≤ w.kept) × (w.kept ≤ suc n)) o (λ w p. p) sh.monitors.waits kept;
      once = place_from thread_key _ (once_notified_first o sh.monitors.waits (once_from thread_key sh.monitors.waits m.once));
      one_owner = m.one_owner;
    }

    each : MonitorsFine image threads (with_monitors sh (notified_all sh.monitors o)) (suc n)
    each = record {
      waits = all_notified_each (WaitFine image threads (with_monitors sh (notified_all sh.monitors o))) o (wait_notified image threads (with_monitors sh (notified_all sh.monitors o))) sh.monitors.waits (λ k d l. wait_again image threads sh _ _ (m.waits k d l) (m.waits k d l).not_owner);
      held = All-weaker _ _ (held_later threads n) sh.monitors.held m.held;
      kept = all_notified_each (λ (w : Wait). (1 ≤ w.kept) × (w.kept ≤ suc n)) o (λ w p. p) sh.monitors.waits kept;
      once = place_from thread_key _ (once_notified_each o sh.monitors.waits (once_from thread_key sh.monitors.waits m.once));
      one_owner = m.one_owner;
    }

pub resuming_keeps : ResumingKeeps
resuming_keeps image threads sh n t w m has free = (fine, entry_none t _ (subst (λ (x : ℕ). All (λ (y : Wait). y.thread ≢ x) (without w.thread sh.monitors.waits)) (entry_thread t sh.monitors.waits w has) quiet))
  where
    apart : AreOnce thread_key sh.monitors.waits
    apart = once_from thread_key sh.monitors.waits m.once

    quiet : All (λ (y : Wait). y.thread ≢ w.thread) (without w.thread sh.monitors.waits)
    quiet = without_quiet w.thread sh.monitors.waits apart

    own : WaitFine image threads sh w
    own = entry_all (WaitFine image threads sh) t sh.monitors.waits w m.waits has

    count : (1 ≤ w.kept) × (w.kept ≤ n)
    count = entry_all (λ (x : Wait). (1 ≤ x.kept) × (x.kept ≤ n)) t sh.monitors.waits w m.kept has

    left : All (WaitFine image threads sh) (without w.thread sh.monitors.waits)
    left = all_without (WaitFine image threads sh) w.thread sh.monitors.waits m.waits

    fine : MonitorsFine image threads (with_monitors sh (resumed sh.monitors w)) (suc n)
    fine = record {
      waits = λ k d l. wait_again image threads sh _ _ (left k d l) (entered_owner w.object w.thread w.kept _ _ (quiet k d l) sh.monitors.held (left k d l).not_owner);
      held = all_entered_free (HeldFine threads (suc n)) w.object w.thread w.kept (record { owner = (own.thread, own.has_thread); low = count.0; high = omega (arith, count.1) }) sh.monitors.held (free_from w.object sh.monitors.held free) (All-weaker _ _ (held_later threads n) sh.monitors.held m.held);
      kept = all_without (λ (x : Wait). (1 ≤ x.kept) × (x.kept ≤ suc n)) w.thread sh.monitors.waits (All-weaker _ _ (kept_later n) sh.monitors.waits m.kept);
      once = place_from thread_key _ (once_without w.thread sh.monitors.waits apart);
      one_owner = place_from object_key _ (once_entered w.object w.thread w.kept sh.monitors.held (once_from object_key sh.monitors.held m.one_owner));
    }
