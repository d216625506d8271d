-- What is known of the states in which classes begin.
use Rattle.std.specs.Prelude.{◌≡◌, ◌<◌, ℕ, Bool, true, false, List, length, Option, Some, None, is_some, slice_index_or, if◌then◌else◌}
use Rattle.dv_machine.specs.Classes.{ClassState, Fresh, Ready}
use Rattle.dv_defs.specs.Images.{Image}
use Rattle.dv_defs.specs.Linked.{IsImage}
use Rattle.dv_defs.specs.Pools.{initialiser, parent_at}
use Rattle.dv_machine.specs.Opening.{is_born}
use Rattle.dv_clinit.specs.declared.states.State.{State}
use Rattle.dv_clinit.specs.States.{class_state}

-- the state in which a class begins
abbrev pub first_state : Image → ℕ → ClassState
first_state image c = if is_born image c then Ready else Fresh

abbrev pub DeclaresNone : Image → ℕ → Type 0
DeclaresNone image c = initialiser image c ≡ None

abbrev pub parent_state : Image → Option ℕ → ClassState
parent_state image None = Ready
parent_state image (Some p) = first_state image p

-- a class begins as its superclass does, as ready where there is none
abbrev pub BeginsAsParent : Image → ℕ → Type 0
BeginsAsParent image c = first_state image c ≡ parent_state image (parent_at image c)

-- the state of a class is known, or is open
abbrev pub IsKnown : Image → (ℕ → Type 0) → ℕ → Option State → Type 0
IsKnown image IsOpen c None = IsOpen c
IsKnown image IsOpen c (Some s) = class_state s ≡ first_state image c

-- by class of a linked image
pub record AreKnown (image : Image) (IsOpen : ℕ → Type 0) (known : List (Option State)) : Type 0 where
  pub linked : IsImage image
  pub count : length known ≡ length image.classes
  pub at : (c : ℕ) (d : Option State) → c < length known → IsKnown image IsOpen c (slice_index_or known c d)

abbrev pub is_known_at : List (Option State) → ℕ → Bool
is_known_at known c = is_some (slice_index_or known c None)

-- after a walk up from a class something is known of it, and of the superclass of each class of which nothing was known before
pub record IsWrittenUp (image : Image) (before after : List (Option State)) (class : ℕ) : Type 0 where
  pub here : is_known_at after class ≡ true
  pub above : (c p : ℕ) → is_known_at before c ≡ false → is_known_at after c ≡ true → parent_at image c ≡ Some p → is_known_at after p ≡ true
