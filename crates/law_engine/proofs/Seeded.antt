-- Turns that the words pick make the seeded schedule.
use Rattle.std.proofs.Common.{◌≡◌, ◌+◌, ◌-◌, ◌%◌, ◌++◌, ◌≤◌, ◌<◌, ℕ, zero, suc, true, false, Option, Some, None, Ok, Err, List, [], ◌∷◌, length, refl, sym, ap, ◌∙◌, subst, arith}
use Rattle.std.specs.Prelude.{nat_eq}
use Rattle.std.proofs.lemmas.Bool.Decides.{nat_tests}
use Rattle.std.proofs.lemmas.List.{append-nil, append_assoc, length-append}
use Rattle.dv_defs.specs.declared.run.Ending.{Ending}
use Rattle.dv_defs.specs.declared.run.Entry.{Entry}
use Rattle.dv_defs.specs.declared.run.Limits.{Limits}
use Rattle.dv_defs.specs.Images.{Image}
use Rattle.dv_defs.specs.Pools.{Method}
use Rattle.dv_machine.specs.Opening.{opening}
use Rattle.dv_machine.specs.Replaying.{Turned, logged, picked, runnable_from, seeded_from, seeded_log, turn}
use Rattle.dv_machine.specs.Running.{ending_of, runnable}
use Rattle.dv_machine.specs.State.{Machine, Reads, on_next}
use Rattle.law_engine.specs.TurnLaws.{IsSeededSoFar, SeedBegins, SeedEnds, SeedGoesOn, appended}
use Rattle.law_engine.proofs.Counting.{turns_advance}
use Rattle.law_engine.proofs.Going.{has_steps_left, not_stopped}
use Rattle.law_engine.proofs.Picked.{seed_picks_runnable}
use Rattle.law_engine.proofs.Replays.{replay_appends}
use Rattle.law_engine.proofs.Turns.{turns_replay}

appended_none : (r : Reads (List Entry)) → appended [] r ≡ r
appended_none (Ok es) = refl
appended_none (Err y) = refl

-- the whole fuel
whole : (n : ℕ) → suc n - 0 ≡ suc n
whole n = omega arith

pub seed_begins : SeedBegins
seed_begins word image main l = record {
  replayed = refl;
  few = omega arith;
  within = omega arith;
  limits = refl;
  rest = ap (λ (n : ℕ). seeded_from word image n 0 (opening image main l)) (sym (whole l.budget)) ∙ sym (appended_none (seeded_from word image (suc l.budget - 0) 0 (opening image main l)));
}

module _ (word : ℕ → ℕ) (image : Image) (m : Machine) where
  -- by the ending that stands
  abbrev seeded_by : Option Ending → ℕ → ℕ → Reads (List Entry)
  seeded_by o fuel k =
      elim o [
        | Some e ↦ Ok []
        | None ↦ on_next (turn image (picked (runnable_from image m m.threads 0) (word k)) (1 + word k % 256) m)
            (λ x.
            on_next (seeded_from word image fuel (suc k) x.machine)
            (λ es. Ok (logged (picked (runnable_from image m m.threads 0) (word k)) x.count es)))
      ]

  ended_is : (fuel k : ℕ) (e : Ending) → ending_of image m ≡ Some e → seeded_from word image fuel k m ≡ Ok []
  ended_is zero k e is = refl
  ended_is (suc fuel) k e is = ap (λ (o : Option Ending). seeded_by o fuel k) is

  turned_is : (fuel k t : ℕ) (x : Turned) → ending_of image m ≡ None → t ≡ picked (runnable_from image m m.threads 0) (word k) → turn image t (1 + word k % 256) m ≡ Ok x → seeded_from word image (suc fuel) k m ≡ on_next (seeded_from word image fuel (suc k) x.machine) (λ es. Ok (logged t x.count es))
  turned_is fuel k t x going is done =
      ap (λ (o : Option Ending). seeded_by o fuel k) going ∙
      ap (λ (u : ℕ). on_next (turn image u (1 + word k % 256) m) (λ y. on_next (seeded_from word image fuel (suc k) y.machine) (λ es. Ok (logged u y.count es)))) (sym is) ∙
      ap (λ (r : Reads Turned). on_next r (λ y. on_next (seeded_from word image fuel (suc k) y.machine) (λ es. Ok (logged t y.count es)))) done

pub seed_ends : SeedEnds
seed_ends word image main l log m e so_far is =
    so_far.rest ∙ ap (appended log) (ended_is word image m (suc l.budget - length log) (length log) e is) ∙ ap (λ (es : List Entry). let r : Reads (List Entry) = Ok es in r) (append-nil log)

-- an entry more
appended_one : (log : List Entry) (t n : ℕ) (r : Reads (List Entry)) → appended log (on_next r (λ es. Ok (logged t n es))) ≡ appended (log ++ record { worker = 0; thread = t; steps = n } ∷ []) r
appended_one log t n (Err y) = refl
appended_one log t n (Ok es) = let e : Entry = record { worker = 0; thread = t; steps = n } in ap (λ (fs : List Entry). let r : Reads (List Entry) = Ok fs in r) (sym (append_assoc log (e ∷ []) es))

one_longer : (log : List Entry) (e : Entry) → length (log ++ e ∷ []) ≡ suc (length log)
one_longer log e = let n = length-append log (e ∷ []) in omega (arith, n)

below : (a b : ℕ) → nat_eq a b ≡ false → a ≤ b → a < b
below a b differ l = grind (arith, nat_tests, differ, l)

-- the turn is the next one that the words pick
next_picked : (word : ℕ → ℕ) (image : Image) (main : Method) (l : Limits) (log : List Entry) (m : Machine) (t : ℕ) (x : Turned) (e : Entry) → e ≡ record { worker = 0; thread = t; steps = x.count } → IsSeededSoFar word image main l log m → length log < l.budget → ending_of image m ≡ None → t ≡ picked (runnable_from image m m.threads 0) (word (length log)) → turn image t (1 + word (length log) % 256) m ≡ Ok x → seeded_log word image main l ≡ appended (log ++ e ∷ []) (seeded_from word image (suc l.budget - length (log ++ e ∷ [])) (length (log ++ e ∷ [])) x.machine)
next_picked word image main l log m t x e entry so_far room going is done =
    let fuel : suc l.budget - length log ≡ suc (l.budget - length log) = omega (arith, room) in
    let count = one_longer log e in
    let left : l.budget - length log ≡ suc l.budget - length (log ++ e ∷ []) = omega (arith, count, room) in
    so_far.rest ∙ ap (λ (n : ℕ). appended log (seeded_from word image n (length log) m)) fuel ∙
    ap (appended log) (turned_is word image m (l.budget - length log) (length log) t x going is done) ∙
    appended_one log t x.count (seeded_from word image (l.budget - length log) (suc (length log)) x.machine) ∙
    ap (λ (d : Entry). appended (log ++ d ∷ []) (seeded_from word image (l.budget - length log) (suc (length log)) x.machine)) (sym entry) ∙
    ap (λ (n : ℕ). appended (log ++ e ∷ []) (seeded_from word image n (suc (length log)) x.machine)) left ∙
    ap (λ (k : ℕ). appended (log ++ e ∷ []) (seeded_from word image (suc l.budget - length (log ++ e ∷ [])) k x.machine)) (sym count)

pub seed_goes_on : SeedGoesOn
seed_goes_on word image T main l log m t x so_far typed going is done =
    let entry : Entry = record { worker = 0; thread = t; steps = x.count } in
    let may : runnable image m t ≡ true = subst (λ (u : ℕ). runnable image m u ≡ true) (sym is) (seed_picks_runnable image m (word (length log)) going) in
    let moved = turns_advance image T m x t (1 + word (length log) % 256) typed going may (omega arith) done in
    let left : m.steps < l.budget = below m.steps l.budget (subst (λ (z : Limits). nat_eq m.steps z.budget ≡ false) so_far.limits (has_steps_left image m going)) so_far.within in
    let count = one_longer log entry in
    let replays = turns_replay image m x t (1 + word (length log) % 256) (length log) (not_stopped image m going) done in
    record {
      replayed = replay_appends image main l log entry m x.machine so_far.replayed replays;
      few = omega (arith, count, moved.steps, moved.some, so_far.few);
      within = subst (λ (z : Limits). x.machine.steps ≤ z.budget) so_far.limits (moved.within (subst (λ (z : Limits). m.steps ≤ z.budget) (sym so_far.limits) so_far.within));
      limits = moved.limits ∙ so_far.limits;
      rest = next_picked word image main l log m t x entry refl so_far (omega (arith, left, so_far.few)) going is done;
    }
