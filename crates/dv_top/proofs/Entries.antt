-- The entries of a run's turns are entries of a log.
use Rattle.std.proofs.Common.{◌≡◌, ℕ, zero, suc, ◌+◌, ◌<◌, ◌≤◌, ◌%◌, true, List, [], ◌∷◌, ◌++◌, Option, Some, None, Ok, Err, mod-lt, arith, ap, refl, subst, ◌∙◌}
use Rattle.std.specs.Prelude.{All}
use Rattle.std.proofs.lemmas.List.Elements.{All-cons, All-nil}
use Rattle.dv_defs.specs.declared.run.Ending.{Ending}
use Rattle.dv_defs.specs.declared.run.Entry.{Entry}
use Rattle.dv_defs.specs.declared.run.Limits.{Limits}
use Rattle.dv_defs.specs.Images.{Image}
use Rattle.dv_defs.specs.Pools.{Method}
use Rattle.dv_machine.specs.Opening.{opening}
use Rattle.dv_machine.specs.Replaying.{Turned, logged, picked, runnable_from, seeded_from, turn}
use Rattle.dv_machine.specs.Running.{ending_of, runnable}
use Rattle.dv_machine.specs.Seeds.{word_of}
use Rattle.dv_machine.specs.State.{Machine, Reads, on_next}
use Rattle.law_engine.proofs.Picked.{seed_picks_runnable}
use Rattle.law_engine.proofs.Turns.{Begins, Ends, Steps, Way, same_turn, turned, way_of}
use Rattle.dv_workers.specs.Entries.{IsOfWorker}
use Rattle.dv_top.specs.Runs.{AreFirstTurns}

-- ---- a turn

module _ (image : Image) (t : ℕ) where
  few_by : (most : ℕ) (m : Machine) (x : Turned) → Way image t most m x → ((n : Machine) (y : Turned) → turn image t most n ≡ Ok y → y.count ≤ most) → x.count ≤ suc most
  few_by most m x (Ends held same) rest = subst (λ (z : Turned). z.count ≤ suc most) same (omega arith)
  few_by most m x (Steps n going may done same) rest = subst (λ (z : Turned). z.count ≤ suc most) same (omega arith)
  few_by most m x (Begins n y at left done more same) rest = subst (λ (z : Turned). z.count ≤ suc most) same (omega (arith, rest n y more))

  -- it has no more steps than it may have
  few : (most : ℕ) (m : Machine) (x : Turned) → turn image t most m ≡ Ok x → x.count ≤ most
  few zero m x e = subst (λ (z : Turned). z.count ≤ 0) (same_turn (turned 0 m) x e) (omega arith)
  few (suc most) m x e = few_by most m x (way_of image t most m x e) (λ n y d. few most n y d)

  -- and one at least, where the run goes on and the thread may step
  some : (most : ℕ) (m : Machine) (x : Turned) → ending_of image m ≡ None → runnable image m t ≡ true → Way image t most m x → 1 ≤ x.count
  some most m x going may (Ends held same) = absurd (held going may)
  some most m x going may (Steps n on runs done same) = subst (λ (z : Turned). 1 ≤ z.count) same (omega arith)
  some most m x going may (Begins n y at left done more same) = subst (λ (z : Turned). 1 ≤ z.count) same (omega arith)

  -- an entry of such a turn
  turn_is_entry : (worker most : ℕ) (m : Machine) (x : Turned) → worker < 8 → most < 256 → ending_of image m ≡ None → runnable image m t ≡ true → turn image t (suc most) m ≡ Ok x → IsOfWorker (record { worker = worker; thread = t; steps = x.count })
  turn_is_entry worker most m x low short going may e =
      record { worker = low; some = some most m x going may (way_of image t most m x e); few = omega (arith, few (suc most) m x e) }

-- ---- turns of a seed

-- nothing comes before nothing
none_before : (log rest : List Entry) → (let r : Reads (List Entry) = Ok [] in r) ≡ Ok (log ++ rest) → All IsOfWorker log
none_before [] rest e = All-nil IsOfWorker
none_before (x ∷ log) rest e = absurd (cc)

module _ (word : ℕ → ℕ) (image : Image) where
  -- from a state on: the first entry, and those behind it
  before : (x : Entry) (es log rest : List Entry) → IsOfWorker x → ((front : List Entry) → es ≡ front ++ rest → All IsOfWorker front) → (let r : Reads (List Entry) = Ok (x ∷ es) in r) ≡ Ok (log ++ rest) → All IsOfWorker log
  before x es [] rest is more e = All-nil IsOfWorker
  before x es (y ∷ log) rest is more e =
      let first : x ≡ y = cc in
      let behind : es ≡ log ++ rest = cc in
      All-cons IsOfWorker y log (subst IsOfWorker first is) (more log behind)

  abbrev thread : ℕ → Machine → ℕ
  thread k m = picked (runnable_from image m m.threads 0) (word k)

  abbrev after : (t : ℕ) → (Machine → Reads (List Entry)) → Reads Turned → Reads (List Entry)
  after t more r = on_next r (λ x. on_next (more x.machine) (λ es. Ok (logged t x.count es)))

  turn_entry : (k : ℕ) (m : Machine) (x : Turned) → ending_of image m ≡ None → turn image (thread k m) (1 + word k % 256) m ≡ Ok x → IsOfWorker (record { worker = 0; thread = thread k m; steps = x.count })
  turn_entry k m x going e =
      let short : word k % 256 < 256 = mod-lt (word k) (omega arith) in
      let size : 1 + word k % 256 ≡ suc (word k % 256) = omega arith in
      turn_is_entry image (thread k m) 0 (word k % 256) m x (omega arith) short going (seed_picks_runnable image m (word k) going) (subst (λ (s : ℕ). turn image (thread k m) s m ≡ Ok x) size e)

  -- the entries behind a turn
  abbrev AreBehind : (Machine → Reads (List Entry)) → Type 0
  AreBehind more = (n : Machine) (front rest : List Entry) → more n ≡ Ok (front ++ rest) → All IsOfWorker front

  behind : (t : ℕ) (x : Turned) (more : Machine → Reads (List Entry)) (log rest : List Entry) → IsOfWorker (record { worker = 0; thread = t; steps = x.count }) → AreBehind more → (r : Reads (List Entry)) → more x.machine ≡ r → on_next r (λ es. Ok (logged t x.count es)) ≡ Ok (log ++ rest) → All IsOfWorker log
  behind t x more log rest is are (Err y) gives e = absurd (cc)
  behind t x more log rest is are (Ok es) gives e = before (record { worker = 0; thread = t; steps = x.count }) es log rest is (λ front same. are x.machine front rest (gives ∙ ap Ok same)) e

  turned_by : (k : ℕ) (m : Machine) (more : Machine → Reads (List Entry)) (log rest : List Entry) → ending_of image m ≡ None → AreBehind more → (r : Reads Turned) → turn image (thread k m) (1 + word k % 256) m ≡ r → after (thread k m) more r ≡ Ok (log ++ rest) → All IsOfWorker log
  turned_by k m more log rest going are (Err y) is e = absurd (cc)
  turned_by k m more log rest going are (Ok x) is e = behind (thread k m) x more log rest (turn_entry k m x going is) are (more x.machine) refl e

  by_ending : (k : ℕ) (m : Machine) (more : Machine → Reads (List Entry)) (log rest : List Entry) → AreBehind more → (o : Option Ending) → ending_of image m ≡ o → elim o as (λ z. Reads (List Entry)) [ Some d ↦ Ok [] | None ↦ after (thread k m) more (turn image (thread k m) (1 + word k % 256) m) ] ≡ Ok (log ++ rest) → All IsOfWorker log
  by_ending k m more log rest are (Some d) ended e = none_before log rest e
  by_ending k m more log rest are None going e = turned_by k m more log rest going are (turn image (thread k m) (1 + word k % 256) m) refl e

  pub seeded_are_entries : (fuel k : ℕ) (m : Machine) (log rest : List Entry) → seeded_from word image fuel k m ≡ Ok (log ++ rest) → All IsOfWorker log
  seeded_are_entries zero k m log rest e = none_before log rest e
  seeded_are_entries (suc fuel) k m log rest e =
      by_ending k m (seeded_from word image fuel (suc k)) log rest (λ n front tail same. seeded_are_entries fuel (suc k) n front tail same) (ending_of image m) refl e

-- ---- both

pub turns_are_entries : (seed : Option ℕ) (image : Image) (main : Method) (limits : Limits) (log : List Entry) → AreFirstTurns seed image main limits log → All IsOfWorker log
turns_are_entries (Some seed) image main limits log (rest, is) = seeded_are_entries (word_of seed) image (suc limits.budget) 0 (opening image main limits) log rest is
turns_are_entries None image main limits log are = are

-- a log is of entries where it is so if it has any
pub entries_if_some : (log : List Entry) → ((log ≡ [] → ⊥) → All IsOfWorker log) → All IsOfWorker log
entries_if_some [] some = All-nil IsOfWorker
entries_if_some (e ∷ es) some = some (λ none. absurd (cc))
