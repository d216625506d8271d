-- Local steps of a method with given units.
use Rattle.std.specs.Prelude.{◌≡◌, ◌≤◌, ℕ, Bool, true, false, List, drop, Some}
use Rattle.dv_defs.specs.Images.{Image}
use Rattle.dv_defs.specs.Op.{Code, Op, code_at, is_local}
use Rattle.dv_words.specs.Local.{word_local}
use Rattle.dv_words.specs.Stepping.{KeysRise, RanLocally, StepsLocally}
use Rattle.dv_words.specs.declared.state.Frame.{Frame}
use Rattle.dv_local.specs.Spelled.{IsOp}

-- what is spelled at the frame's address is a local instruction and was done, a switch where its keys rise; or it isn't one and nothing changed
pub record SteppedUnits (units : List ℕ) (done : Bool) (s t : Frame) : Type 0 where
  pub method : t.method ≡ s.method
  pub local : (op : Op) (next : ℕ) → IsOp units s.at (drop s.at units) op next → is_local op ≡ done
  pub goes : (op : Op) (next : ℕ) → IsOp units s.at (drop s.at units) op next → done ≡ true → KeysRise op → t ≡ word_local op s next
  pub stays : done ≡ false → t ≡ s

-- a method of an image has these units
pub record HasUnits (image : Image) (n : ℕ) (units : List ℕ) : Type 0 where
  pub code : Code
  pub has_code : code_at image n ≡ Some code
  pub same_units : code.body.units ≡ units

-- in each image where the frame's method has these units
pub record RanUnits (units : List ℕ) (most done : ℕ) (s t : Frame) : Type 0 where
  pub few : done ≤ most
  pub ran : (image : Image) → HasUnits image s.method.0 units → RanLocally image most done s t

-- a step, in each image where the frame's method has these units
pub record StepsUnits (units : List ℕ) (done : Bool) (s t : Frame) : Type 0 where
  pub steps : (image : Image) → HasUnits image s.method.0 units → StepsLocally image done s t
