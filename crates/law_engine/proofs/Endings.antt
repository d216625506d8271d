-- Which threads are runnable, and how a run stands, is told by the words.
use Rattle.std.proofs.Common.{◌≡◌, ℕ, suc, List, [], ◌∷◌, Bool, true, false, Option, Some, None, All, refl, ap, ◌∙◌, subst}
use Rattle.std.specs.Prelude.{◌&&◌, is_none, nat_eq, not, slice_get}
use Rattle.std.specs.List.{AllZip}
use Rattle.std.proofs.lemmas.List.Elements.{All-head, All-tail}
use Rattle.dv_defs.specs.declared.machine.Blocked.{Blocked}
use Rattle.dv_defs.specs.declared.run.Ending.{Ending}
use Rattle.dv_defs.specs.declared.run.Ending.TheVariants as ending
use Rattle.dv_defs.specs.declared.run.Limits.{Limits}
use Rattle.dv_defs.specs.Images.{Image}
use Rattle.dv_machine.specs.Accepted.{Accepted}
use Rattle.dv_machine.specs.Running as machine
use Rattle.dv_machine.specs.State.{Machine, Thread}
use Rattle.dv_machine.specs.Threads as tagged
use Rattle.dv_machine.specs.WellTyped.{Typings, WellTyped}
use Rattle.dv_words.specs.Standing.{MachineStands, ThreadStands}
use Rattle.dv_words.specs.State.{WordMachine, WordThread}
use Rattle.dv_words.specs.Running as words
use Rattle.law_words.proofs.ThreadSteps.{BothStand, living_is, thread_at}
use Rattle.law_engine.specs.RunningLaws.{RunningFollows}
use Rattle.law_engine.proofs.Blocked.{IsPlacedThread, all_placed, placed_thread, thread_is}

all_ended_is : (ws : List WordThread) (ts : List Thread) → AllZip ThreadStands ws ts → words.all_ended ws ≡ machine.all_ended ts
all_ended_is [] [] all = refl
all_ended_is [] (t ∷ ts) all = absurd all
all_ended_is (w ∷ ws) [] all = absurd all
all_ended_is (w ∷ ws) (t ∷ ts) all =
    ap (λ (b : Bool). not b && words.all_ended ws) (living_is (Some w) (Some t) all.0) ∙ ap (λ (b : Bool). not (tagged.is_living (Some t)) && b) (all_ended_is ws ts all.1)

-- by whether all have ended, the budget is spent, and one is runnable
abbrev ending_when : Bool → Bool → Bool → Option Ending
ending_when ended spent may =
    elim ended [
      | true ↦ Some ending.Done
      | false ↦ elim spent [
        | true ↦ Some ending.Steps
        | false ↦ elim may [ true ↦ None | false ↦ Some ending.NoRunnable ]
      ]
    ]

module _ (image : Image) (T : Typings) (accepted : Accepted image T) (w : WordMachine) (m : Machine) (stands : MachineStands w m) where
  runnable_thread_is : (t : ℕ) (x : WordThread) (th : Thread) → ThreadStands x th → IsPlacedThread image T m.shared.heap th → words.runnable_thread image w t x ≡ machine.runnable_thread image m t th
  runnable_thread_is t x th one top =
      ap (λ (b : Bool). b && is_none (words.blocked_thread image w t x)) (living_is (Some x) (Some th) one) ∙
      ap (λ (b : Option Blocked). tagged.is_living (Some th) && is_none b) (thread_is image T accepted w m stands t x th one top)

  any_is : (ws : List WordThread) (ts : List Thread) (k : ℕ) → AllZip ThreadStands ws ts → All (IsPlacedThread image T m.shared.heap) ts → words.any_runnable image w ws k ≡ machine.any_runnable image m ts k
  any_is [] [] k all top = refl
  any_is [] (t ∷ ts) k all top = absurd all
  any_is (x ∷ ws) [] k all top = absurd all
  any_is (x ∷ ws) (t ∷ ts) k all top =
      ap (λ (b : Bool). elim b as (λ z. Bool) [ true ↦ true | false ↦ words.any_runnable image w ws (suc k) ]) (runnable_thread_is k x t all.0 (All-head (IsPlacedThread image T m.shared.heap) t ts top)) ∙
      ap (λ (b : Bool). elim (machine.runnable_thread image m k t) as (λ z. Bool) [ true ↦ true | false ↦ b ]) (any_is ws ts (suc k) all.1 (All-tail (IsPlacedThread image T m.shared.heap) t ts top))

  module _ (typed : WellTyped image T m) where
    without_stop_is : words.ending_without_stop image w ≡ machine.ending_without_stop image m
    without_stop_is =
        ap (λ (b : Bool). ending_when b (nat_eq w.steps w.limits.budget) (words.any_runnable image w w.threads 0)) (all_ended_is w.threads m.threads stands.threads) ∙
        ap (λ (n : ℕ). ending_when (machine.all_ended m.threads) (nat_eq n w.limits.budget) (words.any_runnable image w w.threads 0)) stands.steps ∙
        ap (λ (l : Limits). ending_when (machine.all_ended m.threads) (nat_eq m.steps l.budget) (words.any_runnable image w w.threads 0)) stands.limits ∙
        ap (λ (b : Bool). ending_when (machine.all_ended m.threads) (nat_eq m.steps m.limits.budget) b) (any_is w.threads m.threads 0 stands.threads (all_placed image T m typed))

    ending_is : words.ending_of image w ≡ machine.ending_of image m
    ending_is = ap (words.ending_by image w) stands.stop ∙ by m.stop
      where
        by : (e : Option Ending) → words.ending_by image w e ≡ machine.ending_by image m e
        by (Some e) = refl
        by None = without_stop_is

    blocked_is : (t : ℕ) (th : Thread) → slice_get m.threads t ≡ Some th → words.blocked_of image w t ≡ machine.blocked_thread image m t th
    blocked_is t th has = by (slice_get w.threads t) (slice_get m.threads t) has (thread_at w.threads m.threads t stands.threads)
      where
        by : (x : Option WordThread) (y : Option Thread) → y ≡ Some th → BothStand x y → words.blocked_one image w t x ≡ machine.blocked_thread image m t th
        by None None is both = absurd (cc)
        by None (Some y) is both = absurd both
        by (Some x) None is both = absurd both
        by (Some x) (Some y) is both =
            let same : y ≡ th = cc in
            thread_is image T accepted w m stands t x th (subst (ThreadStands x) same both) (placed_thread image T m typed t th has)

    runnable_is : (t : ℕ) → words.runnable image w t ≡ machine.runnable image m t
    runnable_is t = by (slice_get w.threads t) (slice_get m.threads t) refl (thread_at w.threads m.threads t stands.threads)
      where
        by : (x : Option WordThread) (y : Option Thread) → slice_get m.threads t ≡ y → BothStand x y → words.runnable_one image w t x ≡ machine.runnable_one image m t y
        by None None is both = refl
        by None (Some y) is both = absurd both
        by (Some x) None is both = absurd both
        by (Some x) (Some y) is both = runnable_thread_is t x y both (placed_thread image T m typed t y is)

pub running_follows : RunningFollows
running_follows image T w m accepted simulated = record {
  blocked = blocked_is image T accepted w m simulated.stands simulated.typed;
  runnable = runnable_is image T accepted w m simulated.stands simulated.typed;
  ending = ending_is image T accepted w m simulated.stands simulated.typed;
}
