-- Runs whose turns the words of a seed pick.
use Rattle.std.proofs.Common.{◌≡◌, ◌≢◌, ◌≤◌, ◌+◌, ◌-◌, ◌%◌, ◌++◌, ℕ, zero, suc, true, Option, None, Some, Ok, List, [], ◌∷◌, length, All, refl, sym, ap, ◌∙◌, subst, arith}
use Rattle.std.proofs.lemmas.List.{length-append}
use Rattle.std.proofs.lemmas.List.Elements.{All-nil}
use Rattle.rand_core.specs.Steps.{steps_u32, stream_of}
use Rattle.rand_core.specs.Stream.{Stream, next_u32}
use Rattle.rand_pcg.specs.Lcg.{Lcg, advance, next_state, state_after}
use Rattle.rand_pcg.specs.Pcg.{multiplier_64, pcg32}
use Rattle.dv_defs.specs.declared.run.Ending.{Ending}
use Rattle.dv_defs.specs.declared.run.Entry.{Entry}
use Rattle.dv_defs.specs.declared.run.Limits.{Limits}
use Rattle.dv_defs.specs.Pools.{Method}
use Rattle.dv_machine.specs.Opening.{opening}
use Rattle.dv_machine.specs.Replaying.{picked, replay, runnable_from, turn}
use Rattle.dv_machine.specs.Running.{ending_of, runnable}
use Rattle.dv_machine.specs.Seeds.{generator_of, log_of_seed, word_of}
use Rattle.dv_machine.specs.State.{Machine}
use Rattle.dv_rules.specs.Verified.{VerifiedValue}
use Rattle.law_engine.specs.TurnLaws.{IsSeededSoFar, appended}
use Rattle.law_engine.proofs.Counting.{turns_advance}
use Rattle.law_engine.proofs.Picked.{seed_picks_runnable}
use Rattle.law_engine.proofs.Seeded.{seed_begins, seed_ends, seed_goes_on}
use Rattle.dv_sound.specs.Runs.{IsAt, IsSameRun, IsTurned, MayTurn, Run, logged}
use Rattle.dv_sound.proofs.Places.{IsTypedAt}
use Rattle.dv_sound.proofs.Unstuck.{seeds_never_stick}

-- ---- the words

-- the words that a generator will give
abbrev pub words_of : Lcg → Stream
words_of g = stream_of (steps_u32 pcg32) g

-- the generator of a seed after so many words
abbrev pub after_words : ℕ → ℕ → Lcg
after_words seed k = advance 64 multiplier_64 k (generator_of seed)

next_after : (w m p n s : ℕ) → next_state w m p (state_after w m p n s) ≡ state_after w m p (suc n) s
unfolding state_after
next_after w m p zero s = refl
next_after w m p (suc n) s = next_after w m p n (next_state w m p s)

next_generator : (k : ℕ) (g : Lcg) → (pcg32 (advance 64 multiplier_64 k g)).1 ≡ advance 64 multiplier_64 (suc k) g
next_generator k g = ap (λ (s : ℕ). let x : Lcg = record { state = s; increment = g.increment } in x) (next_after 64 multiplier_64 g.increment k g.state)

first_generator : (g : Lcg) → g ≡ advance 64 multiplier_64 0 g
unfolding state_after
first_generator g = refl

-- the next word, and the words after it
module _ (seed k w : ℕ) (g h : Lcg) (same : words_of g ≡ words_of (after_words seed k)) (step : (w, words_of h) ≡ next_u32 (words_of g)) where
  pub word_is : w ≡ word_of seed k
  unfolding next_u32 stream_of
  word_is = ap (λ (p : ℕ × Stream). p.0) (step ∙ ap next_u32 same)

  pub words_after : words_of h ≡ words_of (after_words seed (suc k))
  unfolding next_u32 stream_of
  words_after = ap (λ (p : ℕ × Stream). p.1) (step ∙ ap next_u32 same) ∙ ap words_of (next_generator k (generator_of seed))

-- ---- a run

-- its turns so far are those that the words picked, and the generator gives the further ones
pub record IsSeeding (r : Run) (g : Lcg) (main : Method) (seed : ℕ) : Type 0 where
  pub machine : Machine
  pub at : IsAt r main machine
  pub so_far : IsSeededSoFar (word_of seed) r.verified.image main r.machine.limits r.log machine
  pub words : words_of g ≡ words_of (after_words seed (length r.log))
  pub lent : r.lent ≡ []

-- no turn yet
pub seeding_begins : (r : Run) (g : Lcg) (main : Method) (m : Machine) (seed : ℕ) → IsAt r main m → r.log ≡ [] → r.lent ≡ [] → g ≡ generator_of seed → IsSeeding r g main seed
seeding_begins r g main m seed at empty none same = record {
  machine = opening r.verified.image main r.machine.limits;
  at = record { main_is = at.main_is; replayed = ap (λ (es : List Entry). replay r.verified.image main r.machine.limits es) empty };
  so_far = subst (λ (es : List Entry). IsSeededSoFar (word_of seed) r.verified.image main r.machine.limits es (opening r.verified.image main r.machine.limits)) (sym empty)
      (seed_begins (word_of seed) r.verified.image main r.machine.limits);
  words = ap words_of (same ∙ first_generator (generator_of seed)) ∙ ap (λ (es : List Entry). words_of (after_words seed (length es))) (sym empty);
  lent = none;
}

-- a turn does some steps
pub some_steps : (r new : Run) (main : Method) (m : Machine) (worker t most n : ℕ) → IsTypedAt r m → MayTurn r m t → 1 ≤ most → IsTurned r new main m worker t most n → 1 ≤ n
some_steps r new main m worker t most n fine may some turned =
    (turns_advance r.verified.image fine.typings m (record { count = n; machine = turned.after }) t most fine.typed may.goes_on may.runs some turned.turned).some

one_longer : (log : List Entry) (worker t n : ℕ) → length (logged log worker t n) ≡ suc (length log)
one_longer log worker t n = let count = length-append log (record { worker = worker; thread = t; steps = n } ∷ []) in omega (arith, count)

-- the thread that a word picks may turn
pub may_turn : (r : Run) (m : Machine) (t w : ℕ) → r.lent ≡ [] → ending_of r.verified.image m ≡ None → t ≡ picked (runnable_from r.verified.image m m.threads 0) w → MayTurn r m t
may_turn r m t w none going is = record {
  goes_on = going;
  runs = subst (λ (u : ℕ). runnable r.verified.image m u ≡ true) (sym is) (seed_picks_runnable r.verified.image m w going);
  at_home = subst (λ (ts : List ℕ). All (λ (u : ℕ). u ≢ t) ts) (sym none) (All-nil _);
}

module _ (r : Run) (g : Lcg) (main : Method) (seed : ℕ) (s : IsSeeding r g main seed) where
  -- a turn more, of the thread that the next word picks
  module _ (new : Run) (h : Lcg) (t w n : ℕ) (same : IsSameRun r new) (fine : IsTypedAt r s.machine) (going : ending_of r.verified.image s.machine ≡ None)
      (is : t ≡ picked (runnable_from r.verified.image s.machine s.machine.threads 0) w) (turned : IsTurned r new main s.machine 0 t (1 + w % 256) n) (step : (w, words_of h) ≡ next_u32 (words_of g)) where
    abbrev word : w ≡ word_of seed (length r.log)
    word = word_is seed (length r.log) w g h s.words step

    goes_on : IsSeededSoFar (word_of seed) r.verified.image main r.machine.limits (logged r.log 0 t n) turned.after
    goes_on =
        seed_goes_on (word_of seed) r.verified.image fine.typings main r.machine.limits r.log s.machine t (record { count = n; machine = turned.after }) s.so_far fine.typed going
        (is ∙ ap (picked (runnable_from r.verified.image s.machine s.machine.threads 0)) word) (ap (λ (v : ℕ). turn r.verified.image t (1 + v % 256) s.machine) (sym word) ∙ turned.turned)

    pub seeding_goes_on : IsSeeding new h main seed
    seeding_goes_on = record {
      machine = turned.after;
      at = turned.at;
      so_far = subst (λ (v : VerifiedValue). IsSeededSoFar (word_of seed) v.image main new.machine.limits new.log turned.after) (sym same.verified)
          (subst (λ (l : Limits). IsSeededSoFar (word_of seed) r.verified.image main l new.log turned.after) (sym same.limits)
          (subst (λ (es : List Entry). IsSeededSoFar (word_of seed) r.verified.image main r.machine.limits es turned.after) (sym turned.logs) goes_on));
      words = words_after seed (length r.log) w g h s.words step ∙ ap (λ (k : ℕ). words_of (after_words seed k)) (sym (one_longer r.log 0 t n)) ∙
          ap (λ (es : List Entry). words_of (after_words seed (length es))) (sym turned.logs);
      lent = same.lent ∙ s.lent;
    }

  -- what the words pick from there on
  module _ (old : Run) (same : IsSameRun old r) where
    seeded_alike : log_of_seed old.verified.image main old.machine.limits seed ≡ log_of_seed r.verified.image main r.machine.limits seed
    seeded_alike =
        ap (λ (v : VerifiedValue). log_of_seed v.image main old.machine.limits seed) (sym same.verified) ∙ ap (λ (l : Limits). log_of_seed r.verified.image main l seed) (sym same.limits)

    pub seeding_ends : ending_of r.verified.image s.machine ≢ None → log_of_seed old.verified.image main old.machine.limits seed ≡ Ok r.log
    seeding_ends some = seeded_alike ∙ by (ending_of r.verified.image s.machine) refl
      where
        by : (o : Option Ending) → ending_of r.verified.image s.machine ≡ o → log_of_seed r.verified.image main r.machine.limits seed ≡ Ok r.log
        by None is = absurd (some is)
        by (Some e) is = seed_ends (word_of seed) r.verified.image main r.machine.limits r.log s.machine e s.so_far is

    pub seeding_stops : IsTypedAt r s.machine → (rest : List Entry) × (log_of_seed old.verified.image main old.machine.limits seed ≡ Ok (r.log ++ rest))
    seeding_stops fine =
        let fuel = suc r.machine.limits.budget - length r.log in
        let found = seeds_never_stick (word_of seed) r.verified.image fine.typings s.machine fuel (length r.log) fine.accepted fine.typed in
        (found.0, seeded_alike ∙ s.so_far.rest ∙ ap (appended r.log) found.1)
