-- The steps of the instructions of a body.
use Rattle.std.specs.Prelude.{◌≡◌, ◌<◌, ℕ, List, length, Option, Some, None, slice_index_or}
use Rattle.dv_defs.specs.Images.{Image}
use Rattle.dv_defs.specs.Op.{Code}
use Rattle.dv_typing.specs.Statics.{At, fetch}
use Rattle.dv_bases.specs.Bases.{Names}
use Rattle.dv_effects.specs.declared.effects.Step.{Step}
use Rattle.dv_effects.specs.Effects.{IsStep}

-- there is the step of what is fetched at an address
abbrev pub HasStepAt : Image → Names → Code → ℕ → Option Step → Type 0
HasStepAt image names code at o = (x : At) → fetch image code.method.id at ≡ Some x → (step : Step) × (o ≡ Some step) × IsStep names code at x.op step

-- ... at each address below some
pub record AreStepsTo (image : Image) (names : Names) (code : Code) (n : ℕ) (steps : List (Option Step)) : Type 0 where
  pub count : length steps ≡ n
  pub each : (at : ℕ) → at < n → HasStepAt image names code at (slice_index_or steps at None)
