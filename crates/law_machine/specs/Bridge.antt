-- From linking and acceptance to what the laws take of an image, as a statement.
use Rattle.dv_defs.specs.Images.{Image}
use Rattle.dv_typing.specs.Accepting.{Accepts}
use Rattle.dv_machine.specs.WellTyped.{Typings}
use Rattle.law_types.specs.Hierarchy.{IsHierarchy}
use Rattle.dv_machine.specs.Accepted.{KeepsSlots, HasBodies, HasPools, HasInits, HasBoot, Accepted}

-- what linking gives of an image
pub record HasLinking (image : Image) : Type 0 where
  pub hierarchy : IsHierarchy image
  pub slots : KeepsSlots image
  pub bodies : HasBodies image
  pub pools : HasPools image
  pub inits : HasInits image
  pub boot : HasBoot image

-- a linked image that the verifier accepts is what the laws take
abbrev pub BridgeHolds : Type 0
BridgeHolds = (image : Image) → HasLinking image → Accepts image → (T : Typings) × Accepted image T
