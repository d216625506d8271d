-- A register's value with its tag.
use Rattle.std.specs.Prelude.{ℕ, ℤ}

-- `Zero` is the constant 0, an int and the null reference; `Lo` and `Hi` are the halves of a long; `Ref` is an object's number, 0 for null;
-- `Uninit` is the object, not yet initialised, that the new-instance at that address made; `UninitThis` the receiver of a constructor
pub data Value : Type 0 where
  Undef : Value
  Zero : Value
  Num : (n : ℤ) → Value
  Lo : (bits : ℕ) → Value
  Hi : (bits : ℕ) → Value
  Ref : (object : ℕ) → Value
  Uninit : (address object : ℕ) → Value
  UninitThis : (object : ℕ) → Value
