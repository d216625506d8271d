-- Bytes that are read one piece after another.
use Rattle.std.specs.Prelude.{◌≡◌, ℕ, ◌≤◌, List, Option, length, take, IfSome}
use Rattle.dv_io.specs.Io.{after_taking}

-- this much was read so far
pub record ReadSoFar (old now : Option (List ℕ)) (text : List ℕ) : Type 0 where
  pub left : now ≡ after_taking (length text) old
  pub front : IfSome old (λ bytes. (text ≡ take (length text) bytes) × (length text ≤ length bytes))
