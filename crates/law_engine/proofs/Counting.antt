-- Each step of a turn is counted, and the budget is kept.
use Rattle.std.proofs.Common.{◌≡◌, ◌≢◌, ◌≤◌, ◌+◌, ℕ, zero, suc, true, false, Option, Some, None, Ok, Err, List, [], ◌∷◌, refl, sym, ap, ◌∙◌, subst, arith}
use Rattle.std.specs.Prelude.{is_none, nat_eq, slice_get}
use Rattle.std.proofs.lemmas.Bool.{and_parts}
use Rattle.std.proofs.lemmas.Bool.Decides.{nat_tests}
use Rattle.std.proofs.lemmas.Option.{same_Some}
use Rattle.dv_defs.specs.declared.machine.End.{End}
use Rattle.dv_defs.specs.declared.machine.End.TheVariants as end
use Rattle.dv_machine.specs.Frame.{Frame}
use Rattle.dv_machine.specs.Level.{Level}
use Rattle.dv_machine.specs.Level as level
use Rattle.dv_defs.specs.declared.run.Limits.{Limits}
use Rattle.dv_machine.specs.Why as why
use Rattle.dv_machine.specs.Heap.{Heap}
use Rattle.dv_defs.specs.Images.{Image}
use Rattle.dv_defs.specs.Pools.{Method, method_at}
use Rattle.dv_typing.specs.Statics.{At, fetch}
use Rattle.dv_machine.specs.Replaying.{Turned, turn}
use Rattle.dv_machine.specs.Running.{blocked_thread, ending_of, runnable, runnable_one}
use Rattle.dv_machine.specs.State.{Did, Go, IsStuck, Left, Machine, NoOutput, NoRoom, NoWords, Reads, Thread, Throws, ThrowsRef}
use Rattle.dv_machine.specs.Step.{settled, settled_flight, step, step_at, step_flight, step_living, step_of, step_thread, thrown}
use Rattle.dv_machine.specs.Threads.{is_living}
use Rattle.dv_machine.specs.Unwinding.{Caught, Flies, Lacking, Unwound, made_object}
use Rattle.dv_machine.specs.WellTyped.{ThreadFine, Typings, WellTyped}
use Rattle.law_engine.specs.TurnLaws.{TurnsAdvance}
use Rattle.law_engine.proofs.Going.{has_steps_left, local_step, topped}
use Rattle.law_engine.proofs.Turns.{Begins, Ends, Steps, Way, same_turn, turned, way_of}

-- a step is counted
record IsCounted (m n : Machine) : Type 0 where
  pub steps : n.steps ≡ suc m.steps
  pub limits : n.limits ≡ m.limits

-- ---- one step

same_machine : (m a n : Machine) → IsCounted m a → (let r : Reads Machine = Ok a in r) ≡ Ok n → IsCounted m n
same_machine m a n counted e = let same : a ≡ n = cc in subst (IsCounted m) same counted

module _ (image : Image) (m n : Machine) (t : ℕ) (th : Thread) where
  thrown_counts : (x : Option At) (heap : Option Heap) → (let r : Reads Machine = Ok (thrown m t th x heap) in r) ≡ Ok n → IsCounted m n
  thrown_counts x None e = same_machine m _ n (record { steps = refl; limits = refl }) e
  thrown_counts x (Some heap) e = same_machine m _ n (record { steps = refl; limits = refl }) e

  settled_counts : (x : Option At) (d : Did Left) → settled image m t th x d ≡ Ok n → IsCounted m n
  settled_counts x (Go l) e = same_machine m _ n (record { steps = refl; limits = refl }) e
  settled_counts x (Throws name) e = thrown_counts x (made_object image m.shared.heap name) e
  settled_counts x (ThrowsRef o) e = same_machine m _ n (record { steps = refl; limits = refl }) e
  settled_counts x NoWords e = same_machine m _ n (record { steps = refl; limits = refl }) e
  settled_counts x NoRoom e = same_machine m _ n (record { steps = refl; limits = refl }) e
  settled_counts x NoOutput e = same_machine m _ n (record { steps = refl; limits = refl }) e
  settled_counts x (IsStuck y) e = absurd (cc)

  flight_counts : (u : Unwound) → settled_flight m t th u ≡ Ok n → IsCounted m n
  flight_counts (Caught l) e = same_machine m _ n (record { steps = refl; limits = refl }) e
  flight_counts (Flies o l) e = same_machine m _ n (record { steps = refl; limits = refl }) e
  flight_counts (Lacking l) e = same_machine m _ n (record { steps = refl; limits = refl }) e

  code_counts : (f : Frame) (ls : List Level) (own : Option Method) (a : Option At) → elim own as (λ z. Reads Machine) [ None ↦ Err why.Instruction | Some g ↦ step_at image m t th g f ls a ] ≡ Ok n → IsCounted m n
  code_counts f ls None a e = absurd (cc)
  code_counts f ls (Some own) None e = absurd (cc)
  code_counts f ls (Some own) (Some x) e = settled_counts (Some x) _ e

  living_counts : (ls : List Level) → ls ≢ [] → step_living image m t th ls ≡ Ok n → IsCounted m n
  living_counts [] some e = absurd (some refl)
  living_counts (level.Code f ∷ ls) some e = code_counts f ls (method_at image f.method.0) (fetch image f.method.0 f.at) e
  living_counts (level.Init c r ∷ ls) some e = settled_counts None _ e

  flying_counts : (o : ℕ) (ls : List Level) → ls ≢ [] → step_flight image m t th o ls ≡ Ok n → IsCounted m n
  flying_counts o [] some e = absurd (some refl)
  flying_counts o (level.Code f ∷ ls) some e = flight_counts _ e
  flying_counts o (level.Init c r ∷ ls) some e = flight_counts _ e

  thread_counts : (x : End) → is_living (Some (record { levels = th.levels; end = x; object = th.object })) ≡ true → th.levels ≢ [] → step_thread image m t th x ≡ Ok n → IsCounted m n
  thread_counts end.Living lives some e = living_counts th.levels some e
  thread_counts (end.Flying o) lives some e = flying_counts o th.levels some e
  thread_counts x lives some e = absurd (cc)

-- a thread that hasn't ended has a level
HasLevels : Machine → ℕ → Type 0
HasLevels m t = (th : Thread) → slice_get m.threads t ≡ Some th → is_living (Some th) ≡ true → th.levels ≢ []

step_counts : (image : Image) (m n : Machine) (t : ℕ) → HasLevels m t → runnable image m t ≡ true → step image m t ≡ Ok n → IsCounted m n
unfolding HasLevels
step_counts image m n t levels may done = by (slice_get m.threads t) refl may done
  where
    by : (o : Option Thread) → slice_get m.threads t ≡ o → runnable_one image m t o ≡ true → step_of image m t o ≡ Ok n → IsCounted m n
    by None there may done = absurd (cc)
    by (Some th) there may done =
        let lives = (and_parts (is_living (Some th)) (is_none (blocked_thread image m t th)) may).0 in
        thread_counts image m n t th th.end lives (levels th there lives) done

typed_levels : (image : Image) (T : Typings) (m : Machine) (t : ℕ) → WellTyped image T m → HasLevels m t
unfolding HasLevels
typed_levels image T m t typed th there lives = by th.levels th.end (typed.each t th there) lives
  where
    by : (ls : List Level) (x : End) → ThreadFine image T m.shared.heap t ls x → is_living (Some (record { levels = ls; end = x; object = th.object })) ≡ true → ls ≢ []
    by (l ∷ ls) x fine lives = λ e. absurd (cc)
    by [] end.Living fine lives = absurd fine.0
    by [] (end.Flying o) fine lives = absurd fine.0
    by [] x fine lives = absurd (cc)

top_levels : (m : Machine) (t : ℕ) (f : Frame) (ls : List Level) (o : ℕ) → slice_get m.threads t ≡ Some (topped f ls o) → HasLevels m t
unfolding HasLevels
top_levels m t f ls o there th has lives = let same = same_Some (topped f ls o) th (sym there ∙ has) in subst (λ (x : Thread). x.levels ≢ []) same (λ e. absurd (cc))

-- ---- many

record Counts (m : Machine) (most : ℕ) (x : Turned) : Type 0 where
  pub few : x.count ≤ most
  pub steps : x.machine.steps ≡ m.steps + x.count
  pub limits : x.machine.limits ≡ m.limits
  pub within : m.steps ≤ m.limits.budget → x.machine.steps ≤ m.limits.budget

below : (a b : ℕ) → nat_eq a b ≡ false → a ≤ b → suc a ≤ b
below a b differ l = grind (arith, nat_tests, differ, l)

none_counts : (m : Machine) (most : ℕ) → Counts m most (record { count = 0; machine = m })
none_counts m most = record { few = omega arith; steps = omega arith; limits = refl; within = λ l. l }

one_counts : (m n : Machine) (most : ℕ) → IsCounted m n → nat_eq m.steps m.limits.budget ≡ false → Counts m (suc most) (record { count = 1; machine = n })
one_counts m n most counted left =
    record {
      few = omega arith;
      steps = counted.steps ∙ one;
      limits = counted.limits;
      within = λ l. subst (λ (k : ℕ). k ≤ m.limits.budget) (sym counted.steps) (below m.steps m.limits.budget left l);
    }
  where
    one : suc m.steps ≡ m.steps + 1
    one = omega arith

-- a step before others
more_count : (m n : Machine) (most : ℕ) (y : Turned) → IsCounted m n → nat_eq m.steps m.limits.budget ≡ false → Counts n most y → Counts m (suc most) (record { count = suc y.count; machine = y.machine })
more_count m n most y counted left rest =
    record {
      few = omega (arith, rest.few);
      steps = rest.steps ∙ ap (λ (k : ℕ). k + y.count) counted.steps ∙ next m.steps y.count;
      limits = rest.limits ∙ counted.limits;
      within = λ l. subst (λ (k : Limits). y.machine.steps ≤ k.budget) counted.limits (rest.within (kept l));
    }
  where
    next : (a b : ℕ) → suc a + b ≡ a + suc b
    next a b = omega arith

    kept : m.steps ≤ m.limits.budget → n.steps ≤ n.limits.budget
    kept l = subst (λ (k : Limits). n.steps ≤ k.budget) (sym counted.limits) (subst (λ (k : ℕ). k ≤ m.limits.budget) (sym counted.steps) (below m.steps m.limits.budget left l))

module _ (image : Image) (t : ℕ) where
  -- a turn of one step more, by what it does
  way_counts : (most : ℕ) (m : Machine) (x : Turned) → HasLevels m t → Way image t most m x → ((n : Machine) (y : Turned) → HasLevels n t → turn image t most n ≡ Ok y → Counts n most y) → Counts m (suc most) x
  way_counts most m x levels (Ends held same) rest = subst (Counts m (suc most)) same (none_counts m (suc most))
  way_counts most m x levels (Steps n going may done same) rest =
      subst (Counts m (suc most)) same (one_counts m n most (step_counts image m n t levels may done) (has_steps_left image m going))
  way_counts most m x levels (Begins n y at left done more same) rest =
      let local = local_step image m t at n done in
      let after = top_levels n t local.frame local.rest local.object local.there in
      subst (Counts m (suc most)) same (more_count m n most y (record { steps = local.steps; limits = local.limits }) left (rest n y after more))

  counts : (most : ℕ) (m : Machine) (x : Turned) → HasLevels m t → turn image t most m ≡ Ok x → Counts m most x
  counts zero m x levels e = subst (Counts m 0) (same_turn (turned 0 m) x e) (none_counts m 0)
  counts (suc most) m x levels e = way_counts most m x levels (way_of image t most m x e) (λ n y l d. counts most n y l d)

some_steps : (image : Image) (t most : ℕ) (m : Machine) (x : Turned) → ending_of image m ≡ None → runnable image m t ≡ true → Way image t most m x → 1 ≤ x.count
some_steps image t most m x going may (Ends held same) = absurd (held going may)
some_steps image t most m x going may (Steps n on runs done same) = subst (λ (z : Turned). 1 ≤ z.count) same (omega arith)
some_steps image t most m x going may (Begins n y at left done more same) = subst (λ (z : Turned). 1 ≤ z.count) same (omega arith)

pub turns_advance : TurnsAdvance
turns_advance image T m x t zero typed going may some e = absurd (omega (arith, some))
turns_advance image T m x t (suc most) typed going may some e =
    let done = counts image t (suc most) m x (typed_levels image T m t typed) e in
    record { some = some_steps image t most m x going may (way_of image t most m x e); few = done.few; steps = done.steps; limits = done.limits; within = done.within }
