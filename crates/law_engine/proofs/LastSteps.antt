-- The last step of a turn, told by the words.
use Rattle.std.proofs.Common.{◌≡◌, ℕ, Bool, true, false, Option, Some, None, Ok, refl, sym, ap, ◌∙◌}
use Rattle.dv_defs.specs.declared.run.Ending.{Ending}
use Rattle.dv_defs.specs.Images.{Image}
use Rattle.dv_machine.specs.Replaying.{Turned, last_step}
use Rattle.dv_machine.specs.Running.{ending_of, runnable}
use Rattle.dv_machine.specs.State.{Machine, Reads, on_next}
use Rattle.dv_machine.specs.Step.{step}
use Rattle.law_engine.specs.TurnLaws.{LastStepsFollow}
use Rattle.law_engine.proofs.Endings.{running_follows}
use Rattle.law_engine.proofs.Steps.{accepted_steps_follow}

-- by the ending that stands, whether the thread may step, and what its step gives
abbrev pub last_by : Option Ending → Bool → Reads Machine → Machine → Reads Turned
last_by e may r m =
    elim e [
      | Some x ↦ Ok (record { count = 0; machine = m })
      | None ↦ elim may [
        | false ↦ Ok (record { count = 0; machine = m })
        | true ↦ on_next r (λ n. Ok (record { count = 1; machine = n }))
      ]
    ]

module _ (image : Image) (t : ℕ) (m : Machine) where
  pub last_done : (n : Machine) → ending_of image m ≡ None → runnable image m t ≡ true → step image m t ≡ Ok n → last_step image t m ≡ Ok (record { count = 1; machine = n })
  last_done n going may done =
      ap (λ (e : Option Ending). last_by e (runnable image m t) (step image m t) m) going ∙ ap (λ (b : Bool). last_by None b (step image m t) m) may ∙
      ap (λ (r : Reads Machine). last_by None true r m) done

  pub last_ended : (e : Ending) → ending_of image m ≡ Some e → last_step image t m ≡ Ok (record { count = 0; machine = m })
  last_ended e is = ap (λ (o : Option Ending). last_by o (runnable image m t) (step image m t) m) is

  pub last_held : runnable image m t ≡ false → last_step image t m ≡ Ok (record { count = 0; machine = m })
  last_held is = ap (λ (b : Bool). last_by (ending_of image m) b (step image m t) m) is ∙ by (ending_of image m)
    where
      by : (o : Option Ending) → last_by o false (step image m t) m ≡ Ok (record { count = 0; machine = m })
      by (Some e) = refl
      by None = refl

pub last_steps_follow : LastStepsFollow
last_steps_follow image T w m t accepted strings simulated reads =
    let alike = running_follows image T w m accepted simulated in
    record {
      goes = λ on may.
          let going = sym alike.ending ∙ on in
          let runs = sym (alike.runnable t) ∙ may in
          let follows = accepted_steps_follow image T w m t accepted strings reads simulated going runs in
          record { after = follows.after; done = last_done image t m follows.after going runs follows.stepped; simulated = follows.simulated };
      ended = λ e is. last_ended image t m e (sym alike.ending ∙ is);
      held_up = λ is. last_held image t m (sym (alike.runnable t) ∙ is);
    }
