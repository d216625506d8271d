-- Steps of a schedule one after another, and entries after entries.
use Rattle.std.proofs.Common.{◌≡◌, ℕ, zero, suc, ◌+◌, ◌++◌, Bool, true, false, Option, Some, None, Ok, Err, [], ◌∷◌, length, refl, sym, ap, ◌∙◌, arith}
use Rattle.dv_defs.specs.declared.run.Ending.{Ending}
use Rattle.dv_defs.specs.Images.{Image}
use Rattle.dv_machine.specs.Opening.{opening}
use Rattle.dv_machine.specs.Replaying.{NotRunnable, PastEnd, Replayed, Stands, Wrong, on_stands, one_step, replay_from, stands_on, steps_of}
use Rattle.dv_machine.specs.Running.{ending_of, runnable}
use Rattle.dv_machine.specs.State.{Machine, Reads}
use Rattle.dv_machine.specs.Step.{step}
use Rattle.law_engine.specs.TurnLaws.{ReplayAppends, ReplaysGoOn}

-- a refusal ends all that comes after
stands_twice : (r : Replayed) (f g h : Machine → Replayed) → ((m : Machine) → on_stands (f m) g ≡ h m) → on_stands (on_stands r f) g ≡ on_stands r h
stands_twice (Stands m) f g h same = same m
stands_twice (NotRunnable k) f g h same = refl
stands_twice (PastEnd k) f g h same = refl
stands_twice (Wrong y) f g h same = refl

pub stands_alike : (r : Replayed) (g h : Machine → Replayed) → ((m : Machine) → g m ≡ h m) → on_stands r g ≡ on_stands r h
stands_alike (Stands m) g h same = same m
stands_alike (NotRunnable k) g h same = refl
stands_alike (PastEnd k) g h same = refl
stands_alike (Wrong y) g h same = refl

-- a step that is done
pub step_done : (image : Image) (k t : ℕ) (m n : Machine) → ending_of image m ≡ None → runnable image m t ≡ true → step image m t ≡ Ok n → one_step image k t m ≡ Stands n
step_done image k t m n going may done = by (ending_of image m) (runnable image m t) (step image m t) going may done
  where
    by : (e : Option Ending) (b : Bool) (r : Reads Machine) → e ≡ None → b ≡ true → r ≡ Ok n → elim e as (λ z. Replayed) [ Some x ↦ PastEnd k | None ↦ elim b as (λ z. Replayed) [ true ↦ stands_on r | false ↦ NotRunnable k ] ] ≡ Stands n
    by (Some x) b r going may done = absurd (cc)
    by None false r going may done = absurd (cc)
    by None true (Err y) going may done = absurd (cc)
    by None true (Ok x) going may done = let same : x ≡ n = cc in ap Stands same

-- so many steps, then so many more
pub steps_after : (image : Image) (k t n j : ℕ) (m : Machine) → steps_of image k t (n + j) m ≡ on_stands (steps_of image k t n m) (steps_of image k t j)
steps_after image k t zero j m = let none : zero + j ≡ j = omega arith in ap (λ (i : ℕ). steps_of image k t i m) none
steps_after image k t (suc n) j m =
    let one : suc n + j ≡ suc (n + j) = omega arith in
    ap (λ (i : ℕ). steps_of image k t i m) one ∙
    sym (stands_twice (one_step image k t m) (steps_of image k t n) (steps_of image k t j) (steps_of image k t (n + j)) (λ z. sym (steps_after image k t n j z)))

-- ---- entries

-- a place that is counted from the front
place_after : (k n : ℕ) → suc k + n ≡ k + suc n
place_after k n = omega arith

pub replays_go_on : ReplaysGoOn
replays_go_on image m k [] fs = let none : k + 0 ≡ k = omega arith in ap (λ (i : ℕ). replay_from image i fs m) (sym none)
replays_go_on image m k (e ∷ es) fs =
    sym (stands_twice (steps_of image k e.thread e.steps m) (replay_from image (suc k) es) (replay_from image (k + suc (length es)) fs) (replay_from image (suc k) (es ++ fs))
    (λ z. ap (λ (i : ℕ). on_stands (replay_from image (suc k) es z) (replay_from image i fs)) (sym (place_after k (length es))) ∙ sym (replays_go_on image z (suc k) es fs)))

pub replay_appends : ReplayAppends
replay_appends image main l log e m n leads done =
    let first : Machine = opening image main l in
    let from : 0 + length log ≡ length log = omega arith in
    replays_go_on image first 0 log (e ∷ []) ∙ ap (λ (i : ℕ). on_stands (replay_from image 0 log first) (replay_from image i (e ∷ []))) from ∙
    ap (λ r. on_stands r (replay_from image (length log) (e ∷ []))) leads ∙ ap (λ r. on_stands r (replay_from image (suc (length log)) [])) done
