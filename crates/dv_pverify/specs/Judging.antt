-- Methods that are judged one after another.
use Rattle.std.specs.Prelude.{◌≡◌, ℕ, suc, List, [], ◌∷◌, ◌++◌, Option, Some, None}
use Rattle.dv_defs.specs.declared.faults.Fault.{Fault}
use Rattle.dv_defs.specs.Images.{Image}
use Rattle.dv_defs.specs.Op.{Code, code_at}
use Rattle.dv_typing.specs.Flow.{IsTyping}
use Rattle.dv_typing.specs.Accepting.{AreFaults, IsAcceptedMethod, static_places}
use Rattle.dv_rules.specs.declared.verified.Map.{Map}
use Rattle.dv_rules.specs.Verified.{typing_of}

-- the faults of a body; where there are none the map is a typing, and where there is one there is no typing
pub record IsJudged (image : Image) (code : Code) (map : Map) (faults : List Fault) : Type 0 where
  pub are_faults : AreFaults image code faults
  pub static : faults ≡ [] → static_places image code ≡ []
  pub typed : faults ≡ [] → IsTyping image code (typing_of map)
  pub refused : (faults ≡ [] → ⊥) → IsAcceptedMethod image code → ⊥

-- a method without a body has none
abbrev pub Judges : Image → Option Code → Map → List Fault → Type 0
Judges image None map faults = faults ≡ []
Judges image (Some code) map faults = IsJudged image code map faults

-- the maps and the faults of the methods from one on
abbrev pub AreJudged : Image → ℕ → List Map → List Fault → Type 0
AreJudged image n [] faults = faults ≡ []
AreJudged image n (m ∷ ms) faults =
    (own : List Fault) × (rest : List Fault) × Judges image (code_at image n) m own × AreJudged image (suc n) ms rest ×
    (faults ≡ own ++ rest)
