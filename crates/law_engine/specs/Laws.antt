-- On accepted images the steps on words simulate the tagged machine's.
use Rattle.std.specs.Prelude.{◌≡◌, ◌<◌, ◌^◌, ℕ, true, None, Ok}
use Rattle.dv_defs.specs.declared.run.Limits.{Limits}
use Rattle.dv_typing.specs.Accepting.{Accepts}
use Rattle.dv_defs.specs.Images.{Image}
use Rattle.dv_defs.specs.Pools.{Method}
use Rattle.dv_machine.specs.Accepted.{Accepted}
use Rattle.dv_machine.specs.Opening as tagged
use Rattle.dv_machine.specs.Running.{ending_of, runnable}
use Rattle.dv_machine.specs.State.{Machine}
use Rattle.dv_machine.specs.Step as machine
use Rattle.dv_machine.specs.Mains.{IsMain}
use Rattle.dv_machine.specs.WellTyped.{Typings, WellTyped}
use Rattle.dv_words.specs.Standing.{MachineStands}
use Rattle.dv_words.specs.State.{WordMachine}
use Rattle.law_words.specs.Laws.{IsBounded}
use Rattle.dv_words.specs.Opening as words
use Rattle.dv_words.specs.Step.{step}
use Rattle.law_words.specs.StepLaws.{AllKeysRise, ImageFits, InitsAreTexts, IsFit, ReadsFit, StaticsAreWhole, StringsFit}

-- look-ups find what they say, natives have their own prototypes, no string has a field
abbrev pub AcceptedImagesFit : Type 0
AcceptedImagesFit = (image : Image) (T : Typings) → Accepted image T → ImageFits image

-- the keys of each switch rise
abbrev pub AcceptedKeysRise : Type 0
AcceptedKeysRise = (image : Image) → Accepts image → AllKeysRise image

-- cells of arrays of chars are numbers, and what constructors make are objects of classes
abbrev pub TypedStatesFit : Type 0
TypedStatesFit =
    (image : Image) (T : Typings) (m : Machine) → Accepted image T → WellTyped image T m → IsBounded m.shared.heap → IsFit image m

-- the words stand for a state that is well typed and whose heap is bounded
pub record IsSimulated (image : Image) (T : Typings) (w : WordMachine) (m : Machine) : Type 0 where
  pub typed : WellTyped image T m
  pub bounded : IsBounded m.shared.heap
  pub stands : MachineStands w m

-- the tagged step isn't stuck, and the words after it stand again
pub record IsSimulatedStep (image : Image) (T : Typings) (w : WordMachine) (m : Machine) (t : ℕ) : Type 0 where
  pub after : Machine
  pub stepped : machine.step image m t ≡ Ok after
  pub simulated : IsSimulated image T (step image w t) after

-- from a state with no ending, of each runnable thread
abbrev pub AcceptedStepsFollow : Type 0
AcceptedStepsFollow =
    (image : Image) (T : Typings) (w : WordMachine) (m : Machine) (t : ℕ) → Accepted image T → StringsFit image → ReadsFit w t →
    IsSimulated image T w m → ending_of image m ≡ None → runnable image m t ≡ true → IsSimulatedStep image T w m t

-- the words in which a run of a main method begins stand for the tagged machine's opening state, which is well typed
abbrev pub OpeningsAreSimulated : Type 0
OpeningsAreSimulated =
    (image : Image) (T : Typings) (main : Method) (l : Limits) → Accepted image T → IsMain image main → StaticsAreWhole image →
    InitsAreTexts image → l.heap < 2 ^ 31 → IsSimulated image T (words.opening image main l) (tagged.opening image main l)
