-- An instruction as it stands in a method's units, and what is done there.
use Rattle.std.specs.Prelude.{◌≡◌, ℕ, suc, ◌+◌, ◌*◌, ◌^◌, Bool, true, false, List, ◌∷◌, drop, slice_index, Some, Ok}
use Rattle.dv_defs.specs.declared.code.Insn.{Insn}
use Rattle.dv_defs.specs.Decoding.{insn_here}
use Rattle.dv_defs.specs.Images.{Image}
use Rattle.dv_defs.specs.Op.{Code, Op, is_local, op_of}
use Rattle.dv_defs.specs.Tiling.{tiles_in, tiling}
use Rattle.dv_words.specs.Local.{word_local}
use Rattle.dv_words.specs.Stepping.{KeysRise}
use Rattle.dv_words.specs.declared.state.Frame.{Frame}
use Rattle.dv_local.specs.declared.here.Here.{Here}

-- the units behind the first one
abbrev pub rest_of : Here → List ℕ
rest_of h = drop (suc h.at) h.units.now

-- one of them, 0 past the end
abbrev pub unit_after : Here → ℕ → ℕ
unit_after h k = slice_index (rest_of h) k

-- two of them as a number of 32 bits
abbrev pub double_after : Here → ℕ → ℕ
double_after h k = unit_after h k + unit_after h (suc k) * 2 ^ 16

-- in a method with these units, an operation that is spelled by the units from an address on
pub record IsOp (units : List ℕ) (at : ℕ) (here : List ℕ) (op : Op) (next : ℕ) : Type 0 where
  pub image : Image
  pub code : Code
  pub tiles : code.tiles ≡ tiles_in (tiling units)
  pub insn : Insn
  pub size : ℕ
  pub read : insn_here here ≡ Some (record { insn = insn; size = size })
  pub resolved : op_of image code at insn ≡ Ok op
  pub after : next ≡ at + size

abbrev pub IsOpHere : Here → Op → ℕ → Type 0
IsOpHere h op next = IsOp h.units.now h.at (h.first ∷ rest_of h) op next

-- what is spelled here is a local instruction, and it was done, a switch where its keys rise
pub record Did (here : Here) (s t : Frame) : Type 0 where
  pub method : t.method ≡ s.method
  pub local : (op : Op) (next : ℕ) → IsOpHere here op next → is_local op ≡ true
  pub goes : (op : Op) (next : ℕ) → IsOpHere here op next → KeysRise op → t ≡ word_local op s next

-- ... and was done, or it isn't one and nothing changed
pub record SteppedHere (here : Here) (done : Bool) (s t : Frame) : Type 0 where
  pub method : t.method ≡ s.method
  pub local : (op : Op) (next : ℕ) → IsOpHere here op next → is_local op ≡ done
  pub goes : (op : Op) (next : ℕ) → IsOpHere here op next → done ≡ true → KeysRise op → t ≡ word_local op s next
  pub stays : done ≡ false → t ≡ s
