-- Images whose methods have typings.
use Rattle.std.specs.Prelude.{◌≡◌, ℕ, List, [], Option, Some, None, slice_get, slice_index_or}
use Rattle.dv_defs.specs.Images.{Image}
use Rattle.dv_defs.specs.Op.{Code, code_at}
use Rattle.dv_typing.specs.Flow.{Typing, IsTyping}
use Rattle.dv_typing.specs.Accepting.{static_places}
use Rattle.dv_rules.specs.declared.verified.Map.{Map}

-- what a map gives each address
abbrev pub typing_of : Map → Typing
typing_of m at = slice_index_or m.states at None

abbrev pub typing_at : Option Map → Typing
typing_at None at = None
typing_at (Some m) at = typing_of m at

pub record VerifiedValue : Type 0 where
  pub image : Image
  pub maps : List Map

-- no method with a body breaks a static rule, and the map of each is a typing
pub record IsVerified (image : Image) (maps : List Map) : Type 0 where
  pub static : (n : ℕ) (code : Code) → code_at image n ≡ Some code → static_places image code ≡ []
  pub typed : (n : ℕ) (code : Code) → code_at image n ≡ Some code → IsTyping image code (typing_at (slice_get maps n))
