-- What a turn is made of, and that its steps are steps of a schedule.
use Rattle.std.proofs.Common.{◌≡◌, ℕ, zero, suc, Bool, true, false, Option, Some, None, Ok, Err, refl, ap, ◌∙◌, subst}
use Rattle.std.specs.Prelude.{◌&&◌, nat_eq, not}
use Rattle.std.proofs.lemmas.Bool.{and_parts}
use Rattle.dv_defs.specs.declared.run.Ending.{Ending}
use Rattle.dv_defs.specs.Images.{Image}
use Rattle.dv_machine.specs.Replaying.{Stands, Turned, last_step, next_is_local, on_stands, one_more, steps_of, turn}
use Rattle.dv_machine.specs.Running.{ending_of, runnable}
use Rattle.dv_machine.specs.State.{Machine, Reads, on_next}
use Rattle.dv_machine.specs.Step.{step}
use Rattle.law_engine.specs.TurnLaws.{TurnsReplay}
use Rattle.law_engine.proofs.Going.{IsAtLocal, at_local, goes_on, local_step, may_step}
use Rattle.law_engine.proofs.LastSteps.{last_by}
use Rattle.law_engine.proofs.Replays.{step_done}

abbrev pub turned : ℕ → Machine → Turned
turned n m = record { count = n; machine = m }

-- a turn of one step more than these does none, one of any kind, or a local one and then a turn of these
pub data Way (image : Image) (t most : ℕ) (m : Machine) (x : Turned) : Type 0 where
  Ends : ((ending_of image m ≡ None) → (runnable image m t ≡ true) → ⊥) → turned 0 m ≡ x → Way image t most m x
  Steps : (n : Machine) → ending_of image m ≡ None → runnable image m t ≡ true → step image m t ≡ Ok n → turned 1 n ≡ x → Way image t most m x
  Begins : (n : Machine) (y : Turned) → IsAtLocal image m t → nat_eq m.steps m.limits.budget ≡ false → step image m t ≡ Ok n → turn image t most n ≡ Ok y → turned (suc y.count) y.machine ≡ x → Way image t most m x

pub same_turn : (x y : Turned) → (let r : Reads Turned = Ok x in r) ≡ Ok y → x ≡ y
same_turn x y e = cc

module _ (image : Image) (t most : ℕ) (m : Machine) (x : Turned) where
  abbrev It : Type 0
  It = Way image t most m x

  of_last : last_step image t m ≡ Ok x → It
  of_last e = by (ending_of image m) refl (runnable image m t) refl (step image m t) refl e
    where
      by : (o : Option Ending) → ending_of image m ≡ o → (b : Bool) → runnable image m t ≡ b → (r : Reads Machine) → step image m t ≡ r → last_by o b r m ≡ Ok x → It
      by (Some d) ended b may r done e = Ends (λ going runs. absurd (cc)) (same_turn (turned 0 m) x e)
      by None going false may r done e = Ends (λ g runs. absurd (cc)) (same_turn (turned 0 m) x e)
      by None going true may (Err y) done e = absurd (cc)
      by None going true may (Ok n) done e = Steps n going may done (same_turn (turned 1 n) x e)

  of_rest : (n : Machine) (r : Reads Turned) → IsAtLocal image m t → nat_eq m.steps m.limits.budget ≡ false → step image m t ≡ Ok n → turn image t most n ≡ r → one_more r ≡ Ok x → It
  of_rest n (Err y) at budget done rest e = absurd (cc)
  of_rest n (Ok y) at budget done rest e = Begins n y at budget done rest (same_turn (turned (suc y.count) y.machine) x e)

  of_first : (r : Reads Machine) → IsAtLocal image m t → nat_eq m.steps m.limits.budget ≡ false → step image m t ≡ r → on_next r (λ n. one_more (turn image t most n)) ≡ Ok x → It
  of_first (Err y) at budget done e = absurd (cc)
  of_first (Ok n) at budget done e = of_rest n (turn image t most n) at budget done refl e

  pub way_of : turn image t (suc most) m ≡ Ok x → It
  way_of e = by (next_is_local image m t && not (nat_eq m.steps m.limits.budget)) refl e
    where
      not_true : (b : Bool) → not b ≡ true → b ≡ false
      not_true true e = absurd (cc)
      not_true false e = refl

      by : (b : Bool) → (next_is_local image m t && not (nat_eq m.steps m.limits.budget)) ≡ b → elim b as (λ z. Reads Turned) [ true ↦ on_next (step image m t) (λ n. one_more (turn image t most n)) | false ↦ last_step image t m ] ≡ Ok x → It
      by false is e = of_last e
      by true is e =
          let parts = and_parts (next_is_local image m t) (not (nat_eq m.steps m.limits.budget)) is in
          of_first (step image m t) (at_local image m t parts.0) (not_true (nat_eq m.steps m.limits.budget) parts.1) refl e

-- ---- as steps of an entry

module _ (image : Image) (t k : ℕ) where
  abbrev Replays : Machine → Turned → Type 0
  Replays m x = steps_of image k t x.count m ≡ Stands x.machine

  replays : (most : ℕ) (m : Machine) (x : Turned) → m.stop ≡ None → turn image t most m ≡ Ok x → Replays m x
  replays zero m x stop e = subst (Replays m) (same_turn (turned 0 m) x e) refl
  replays (suc most) m x stop e = by (way_of image t most m x e) (λ n y s d. replays most n y s d)
    where
      by : Way image t most m x → ((n : Machine) (y : Turned) → n.stop ≡ None → turn image t most n ≡ Ok y → Replays n y) → Replays m x
      by (Ends not same) rest = subst (Replays m) same refl
      by (Steps n going may done same) rest = subst (Replays m) same (ap (λ r. on_stands r (steps_of image k t 0)) (step_done image k t m n going may done))
      by (Begins n y at budget done more same) rest =
          let local = local_step image m t at n done in
          let one = step_done image k t m n (goes_on image m t at stop budget) (may_step image m t at) done in
          subst (Replays m) same (ap (λ r. on_stands r (steps_of image k t y.count)) one ∙ rest n y (local.stop ∙ stop) more)

pub turns_replay : TurnsReplay
turns_replay image m x t most k stop e = replays image t k most m x stop e
