-- Runs whose turns are of the lowest runnable thread.
use Rattle.std.proofs.Common.{◌≡◌, ◌≢◌, ◌<◌, ◌++◌, ℕ, Bool, true, false, None, List, [], ◌∷◌, All, refl, sym, ap, ◌∙◌, subst}
use Rattle.std.proofs.lemmas.List.{append-nil, append_assoc}
use Rattle.std.proofs.lemmas.List.Elements.{All-nil}
use Rattle.dv_defs.specs.declared.run.Entry.{Entry}
use Rattle.dv_defs.specs.Images.{Image}
use Rattle.dv_defs.specs.Pools.{Method}
use Rattle.dv_machine.specs.Replaying.{picked, runnable_from}
use Rattle.dv_machine.specs.Running.{ending_of, runnable}
use Rattle.dv_machine.specs.State.{Machine}
use Rattle.dv_rules.specs.Verified.{VerifiedValue}
use Rattle.law_engine.proofs.Picked.{seed_picks_runnable}
use Rattle.dv_sound.specs.Runs.{IsAt, IsLowest, IsLowestTurn, IsReady, IsSameRun, IsTurned, LeadsLowest, MayTurn, NoneIsReady, RanLowest, Run}

-- with no thread lent the lowest one that is at home is the lowest of all
pub lowest : (r : Run) (m : Machine) (t : ℕ) → r.lent ≡ [] → IsReady r m t → IsLowest r.verified.image m t
lowest r m t none ready = record { runs = ready.runs; lowest = λ u less. by u less (runnable r.verified.image m u) refl }
  where
    home : (u : ℕ) → All (λ (v : ℕ). v ≢ u) r.lent
    home u = subst (λ (ts : List ℕ). All (λ (v : ℕ). v ≢ u) ts) (sym none) (All-nil _)

    by : (u : ℕ) → u < t → (b : Bool) → runnable r.verified.image m u ≡ b → runnable r.verified.image m u ≡ false
    by u less false is = is
    by u less true is = absurd (ready.lowest u less is (home u))

pub may : (r : Run) (m : Machine) (t : ℕ) → ending_of r.verified.image m ≡ None → IsReady r m t → MayTurn r m t
may r m t going ready = record { goes_on = going; runs = ready.runs; at_home = ready.at_home }

-- where the run goes on, some thread is runnable
pub one_runs : (r : Run) (m : Machine) → ending_of r.verified.image m ≡ None → (t : ℕ) × (runnable r.verified.image m t ≡ true)
one_runs r m going = (picked (runnable_from r.verified.image m m.threads 0) 0, seed_picks_runnable r.verified.image m 0 going)

-- where the run goes on and no thread is lent, one is ready
pub one_is_ready : (r : Run) (m : Machine) → r.lent ≡ [] → ending_of r.verified.image m ≡ None → NoneIsReady r m → ⊥
one_is_ready r m none going held =
    let runs = one_runs r m going in
    held runs.0 runs.1 (subst (λ (ts : List ℕ). All (λ (v : ℕ). v ≢ runs.0) ts) (sym none) (All-nil _))

-- a turn more at the end
leads_on : (image : Image) (es : List Entry) (e : Entry) (m k n : Machine) → LeadsLowest image es m k → IsLowestTurn image k e n → LeadsLowest image (es ++ e ∷ []) m n
leads_on image [] e m k n same turned = (n, subst (λ (x : Machine). IsLowestTurn image x e n) (sym same) turned, refl)
leads_on image (f ∷ es) e m k n leads turned = (leads.0, leads.1, leads_on image es e leads.0 k n leads.2 turned)

-- no turn yet
pub ran_none : (r : Run) (main : Method) (m : Machine) → IsAt r main m → RanLowest r r main m
ran_none r main m at = record { turns = []; logs = sym (append-nil r.log); after = m; at = at; leads = refl }

module _ (old mid new : Run) (main : Method) (m : Machine) (same : IsSameRun old mid) (none : old.lent ≡ []) (ran : RanLowest old mid main m) where
  pub ran_more : (t n : ℕ) → ending_of mid.verified.image ran.after ≡ None → IsReady mid ran.after t → IsTurned mid new main ran.after 0 t 256 n → RanLowest old new main m
  ran_more t n going ready turned =
      let e : Entry = record { worker = 0; thread = t; steps = n } in
      let one : IsLowestTurn mid.verified.image ran.after e turned.after = record { goes_on = going; worker = refl; thread = lowest mid ran.after t (same.lent ∙ none) ready; turned = turned.turned } in
      record {
        turns = ran.turns ++ e ∷ [];
        logs = turned.logs ∙ ap (λ (es : List Entry). es ++ e ∷ []) ran.logs ∙ append_assoc old.log ran.turns (e ∷ []);
        after = turned.after;
        at = turned.at;
        leads = leads_on old.verified.image ran.turns e m ran.after turned.after ran.leads (subst (λ (v : VerifiedValue). IsLowestTurn v.image ran.after e turned.after) same.verified one);
      }
