-- Steps after which all but the levels of their own thread is as it was.
use Rattle.std.proofs.Common.{◌≡◌, ◌≢◌, ◌⊎◌, inl, inr, ℕ, suc, List, Some, None, sym, ap, ◌∙◌, arith}
use Rattle.std.specs.Prelude.{slice_get, slice_set, All}
use Rattle.std.proofs.lemmas.Bool.{cases_eq}
use Rattle.std.proofs.lemmas.List.{append-nil}
use Rattle.dv_defs.specs.Images.{Image}
use Rattle.dv_machine.specs.Level.{Level}
use Rattle.dv_machine.specs.Monitors.{Wait, Held}
use Rattle.dv_machine.specs.Classes.{state_at}
use Rattle.dv_machine.specs.State.{Thread, Machine, Left}
use Rattle.dv_machine.specs.Step.{gone_on, end_after}
use Rattle.dv_machine.specs.Conforming.{RefsFine}
use Rattle.dv_machine.specs.WellTyped.{Typings, ThreadFine, WaitFine, HeldFine, records, levels_in, owed, WellTyped}
use Rattle.law_machine.specs.Premises.{LeftFine}
use Rattle.law_machine.proofs.lemmas.Common.Lists.{set_there, set_other}

-- no entry of those that wait is the thread's
abbrev pub IsQuiet : Image → Machine → ℕ → Type 0
IsQuiet image m t = (w : Wait) → WaitFine image m.threads m.shared w → w.thread ≢ t

module _ (image : Image) (T : Typings) (m : Machine) (t : ℕ) (thread : Thread) (has : slice_get m.threads t ≡ Some thread) (levels : List Level) where
  -- what such a step leaves
  abbrev pub same_shared : Left
  same_shared = record { levels = levels; shared = m.shared; started = None }

  -- the thread after it
  abbrev after : Thread
  after = record { levels = levels; end = end_after levels; object = thread.object }

  abbrev threads_after : List Thread
  threads_after = (gone_on m t thread same_shared).threads

  other_thread : (u : ℕ) → u ≢ t → slice_get threads_after u ≡ slice_get m.threads u
  other_thread u d = ap (λ z. slice_get z u) (append-nil (slice_set m.threads t after)) ∙ set_other m.threads t u after d

  own_thread : slice_get threads_after t ≡ Some after
  own_thread = ap (λ z. slice_get z t) (append-nil (slice_set m.threads t after)) ∙ set_there m.threads t after thread has

  wait_kept : (w : Wait) → w.thread ≢ t → WaitFine image m.threads m.shared w → WaitFine image threads_after m.shared w
  wait_kept w d h = record { thread = h.thread; has_thread = other_thread w.thread d ∙ h.has_thread; waits = h.waits; not_owner = h.not_owner }

  held_kept : (h : Held) → HeldFine m.threads m.steps h → HeldFine threads_after (suc m.steps) h
  held_kept h k = record { owner = go (cases_eq h.thread t); low = k.low; high = omega (arith, k.high) }
    where
      go : (h.thread ≡ t) ⊎ (h.thread ≢ t) → (u : Thread) × (slice_get threads_after h.thread ≡ Some u)
      go (inl e) = (after, ap (slice_get threads_after) e ∙ own_thread)
      go (inr d) = (k.owner.0, other_thread h.thread d ∙ k.owner.1)

  records_kept : ((c : ℕ) → records c levels ≡ records c thread.levels) → ((u c : ℕ) → records c (levels_in (slice_get m.threads u)) ≡ owed u (state_at m.shared.classes c)) → (u c : ℕ) → records c (levels_in (slice_get threads_after u)) ≡ owed u (state_at m.shared.classes c)
  records_kept n h u c = go (cases_eq u t)
    where
      go : (u ≡ t) ⊎ (u ≢ t) → records c (levels_in (slice_get threads_after u)) ≡ owed u (state_at m.shared.classes c)
      go (inl e) = ap (λ z. records c (levels_in z)) (ap (slice_get threads_after) e ∙ own_thread) ∙ n c ∙ ap (λ z. records c (levels_in z)) (sym (ap (slice_get m.threads) e ∙ has)) ∙ h u c
      go (inr d) = ap (λ z. records c (levels_in z)) (other_thread u d) ∙ h u c

  pub still : WellTyped image T m → IsQuiet image m t → ThreadFine image T m.shared.heap t levels (end_after levels) → All (RefsFine image m.shared.heap) levels → ((c : ℕ) → records c levels ≡ records c thread.levels) → LeftFine image T m t thread same_shared
  still h quiet fine refs n = record {
    keeps = λ o k e. e;
    levels = fine;
    refs = refs;
    heap = h.heap;
    class_states = h.class_states;
    monitors = record {
      waits = λ k d l. let w = h.monitors.waits k d l in wait_kept _ (quiet _ w) w;
      held = λ k d l. held_kept _ (h.monitors.held k d l);
      kept = λ k d l. let w = h.monitors.kept k d l in (w.0, omega (arith, w.1));
      once = h.monitors.once;
      one_owner = h.monitors.one_owner;
    };
    in_progress = records_kept n h.in_progress;
    started = λ u e. absurd (cc);
  }
