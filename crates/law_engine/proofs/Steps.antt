-- The opening of an accepted image, and a step of a runnable thread: the tagged one isn't stuck, and the words follow it.
use Rattle.std.proofs.Common.{◌≡◌, Ok, Err, refl}
use Rattle.law_machine.specs.Premises.{HoldsOf}
use Rattle.dv_machine.specs.State.{Machine, Reads}
use Rattle.dv_machine.specs.Step as machine
use Rattle.dv_machine.specs.WellTyped.{WellTyped}
use Rattle.law_machine.proofs.lemmas.Opening.State.{opening_is_well_typed}
use Rattle.law_machine.proofs.lemmas.Steps.Sound.{steps_are_sound}
use Rattle.law_words.proofs.Fitting.{fetched_operands_fit}
use Rattle.law_words.proofs.OpeningState.{opening_stand}
use Rattle.law_words.proofs.ThreadStep.{steps_follow}
use Rattle.law_engine.specs.Laws.{AcceptedStepsFollow, IsSimulatedStep, OpeningsAreSimulated, TypedStatesFit}
use Rattle.law_engine.proofs.Chars.{chars_are_numbers}
use Rattle.law_engine.proofs.Fields.{accepted_images_fit}
use Rattle.law_engine.proofs.Puts.{puts_are_made}

pub typed_states_fit : TypedStatesFit
typed_states_fit image T m acc typed bounded =
    record { bounded = bounded; chars = chars_are_numbers image T acc m.shared.heap typed.heap; made = puts_are_made image T m acc typed }

pub accepted_steps_follow : AcceptedStepsFollow
accepted_steps_follow image T w m t acc strings words before going may =
    by (machine.step image m t) refl (steps_are_sound image T m t acc before.typed going may)
  where
    by : (r : Reads Machine) → machine.step image m t ≡ r → HoldsOf (WellTyped image T) r → IsSimulatedStep image T w m t
    by (Ok n) is typed =
        let image_fits = accepted_images_fit image T acc in
        let follows = steps_follow image w m n t image_fits (fetched_operands_fit image image_fits strings) words (typed_states_fit image T m acc before.typed before.bounded) before.stands is in
        record { after = n; stepped = is; simulated = record { typed = typed; bounded = follows.1; stands = follows.0 } }
    by (Err why) is typed = absurd typed

pub openings_are_simulated : OpeningsAreSimulated
openings_are_simulated image T main l acc is_main whole texts few =
    let stands = opening_stand image main l whole texts few in
    record { typed = opening_is_well_typed image T main l acc is_main; bounded = stands.1; stands = stands.0 }
