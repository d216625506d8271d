-- Each seed has a schedule that leads to an ending.
use Rattle.std.proofs.Common.{◌≡◌, ℕ, zero, suc, ◌+◌, ◌≤◌, ◌%◌, ◌++◌, true, false, Option, Some, None, Ok, List, [], ◌∷◌, length, refl, sym, ◌∙◌, subst, arith}
use Rattle.std.specs.Prelude.{nat_eq}
use Rattle.std.proofs.lemmas.Bool.{eq-eqb}
use Rattle.dv_defs.specs.declared.run.Ending.{Ending}
use Rattle.dv_defs.specs.declared.run.Entry.{Entry}
use Rattle.dv_defs.specs.declared.run.Limits.{Limits}
use Rattle.dv_defs.specs.Images.{Image}
use Rattle.dv_defs.specs.Pools.{Method}
use Rattle.dv_machine.specs.Accepted.{Accepted}
use Rattle.dv_machine.specs.Opening.{opening}
use Rattle.dv_machine.specs.Replaying.{IsFinished, picked, runnable_from, seeded_log}
use Rattle.dv_machine.specs.Running.{ending_of}
use Rattle.dv_machine.specs.Seeds.{word_of}
use Rattle.dv_machine.specs.State.{Machine}
use Rattle.dv_machine.specs.WellTyped.{Typings, WellTyped}
use Rattle.law_machine.proofs.lemmas.Bridge.Laws.{bridge_holds}
use Rattle.law_machine.proofs.lemmas.Opening.State.{opening_is_well_typed}
use Rattle.law_linked.proofs.LinkedLaw.{linked_images_have_linking}
use Rattle.law_engine.specs.TurnLaws.{IsAdvanced, IsSeededSoFar}
use Rattle.law_engine.proofs.Counting.{turns_advance}
use Rattle.law_engine.proofs.Going.{has_steps_left}
use Rattle.law_engine.proofs.Picked.{seed_picks_runnable}
use Rattle.law_engine.proofs.Seeded.{seed_begins, seed_ends, seed_goes_on}
use Rattle.dv_sound.specs.Laws.{SeededLogsFinish}
use Rattle.dv_sound.proofs.Unstuck.{turns_never_stick}

-- the schedule is whole, and leads to an ending
abbrev pub HasWhole : (ℕ → ℕ) → Image → Method → Limits → Type 0
HasWhole word image main l = (log : List Entry) × (seeded_log word image main l ≡ Ok log) × IsFinished image main l log

-- one turn more
record IsNext (word : ℕ → ℕ) (image : Image) (T : Typings) (main : Method) (l : Limits) (m : Machine) : Type 0 where
  pub log : List Entry
  pub after : Machine
  pub so_far : IsSeededSoFar word image main l log after
  pub typed : WellTyped image T after
  pub further : suc m.steps ≤ after.steps

module _ (word : ℕ → ℕ) (image : Image) (T : Typings) (main : Method) (l : Limits) (accepted : Accepted image T) where
  -- the turn that the next word picks
  next : (log : List Entry) (m : Machine) → IsSeededSoFar word image main l log m → WellTyped image T m → ending_of image m ≡ None → IsNext word image T main l m
  next log m so_far typed going =
      let t = picked (runnable_from image m m.threads 0) (word (length log)) in
      let most = 1 + word (length log) % 256 in
      let done = turns_never_stick image T m t most accepted typed in
      let moved : IsAdvanced m most done.0 = turns_advance image T m done.0 t most typed going (seed_picks_runnable image m (word (length log)) going) (omega arith) done.1 in
      record {
        log = log ++ record { worker = 0; thread = t; steps = done.0.count } ∷ [];
        after = done.0.machine;
        so_far = seed_goes_on word image T main l log m t done.0 so_far typed going refl done.1;
        typed = done.2;
        further = let some = moved.some in let count = moved.steps in omega (arith, some, count);
      }

  whole : (log : List Entry) (m : Machine) (e : Ending) → IsSeededSoFar word image main l log m → ending_of image m ≡ Some e → HasWhole word image main l
  whole log m e so_far is = (log, seed_ends word image main l log m e so_far is, (m, e, so_far.replayed, is))

  spent : (log : List Entry) (m : Machine) → IsSeededSoFar word image main l log m → l.budget ≤ m.steps → ending_of image m ≡ None → HasWhole word image main l
  spent log m so_far enough going =
      let within = so_far.within in
      let at_end : nat_eq m.steps l.budget ≡ true = eq-eqb m.steps l.budget (omega (arith, enough, within)) in
      let d : true ≡ false = sym (subst (λ (z : Limits). nat_eq m.steps z.budget ≡ true) (sym so_far.limits) at_end) ∙ has_steps_left image m going in
      absurd (cc d)

  finishes : (left : ℕ) (log : List Entry) (m : Machine) → IsSeededSoFar word image main l log m → WellTyped image T m → l.budget ≤ m.steps + left → HasWhole word image main l
  finishes zero log m so_far typed enough = by (ending_of image m) refl
    where
      by : (o : Option Ending) → ending_of image m ≡ o → HasWhole word image main l
      by (Some e) is = whole log m e so_far is
      by None is = spent log m so_far (omega (arith, enough)) is
  finishes (suc left) log m so_far typed enough = by (ending_of image m) refl (λ es n s d b. finishes left es n s d b)
    where
      by : (o : Option Ending) → ending_of image m ≡ o →
          ((es : List Entry) (n : Machine) → IsSeededSoFar word image main l es n → WellTyped image T n → l.budget ≤ n.steps + left → HasWhole word image main l) → HasWhole word image main l
      by (Some e) is rest = whole log m e so_far is
      by None is rest = let k = next log m so_far typed is in rest k.log k.after k.so_far k.typed (let more = k.further in omega (arith, enough, more))

pub seeded_logs_finish : SeededLogsFinish
seeded_logs_finish image is accepts main is_main l seed =
    let found = bridge_holds image (linked_images_have_linking image is) accepts in
    finishes (word_of seed) image found.0 main l found.1 l.budget [] (opening image main l) (seed_begins (word_of seed) image main l) (opening_is_well_typed image found.0 main l found.1 is_main) (omega arith)
