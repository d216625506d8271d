-- What is found of a body that breaks no static rule.
use Rattle.std.specs.Prelude.{◌≡◌, ◌≢◌, List, []}
use Rattle.dv_defs.specs.declared.faults.Fault.{Fault}
use Rattle.dv_defs.specs.Images.{Image}
use Rattle.dv_defs.specs.Op.{Code}
use Rattle.dv_typing.specs.Flow.{Typing, IsTyping, IsLeast}
use Rattle.dv_typing.specs.Accepting.{typing_faults}
use Rattle.dv_rules.specs.declared.verified.Map.{Map}
use Rattle.dv_rules.specs.Verified.{typing_of}

-- its least typing
pub record IsJudged (image : Image) (code : Code) (m : Map) : Type 0 where
  pub typing : IsTyping image code (typing_of m)
  pub least : IsLeast image code (typing_of m)
  pub faultless : typing_faults image code (typing_of m) code.tiles ≡ []

-- or faults by its least assignment, where it has no typing
pub record AreJudged (image : Image) (code : Code) (fs : List Fault) : Type 0 where
  pub typing : Typing
  pub least : IsLeast image code typing
  pub are : fs ≡ typing_faults image code typing code.tiles
  pub some : fs ≢ []
  pub refused : (other : Typing) → IsTyping image code other → ⊥
