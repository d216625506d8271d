-- Conformity goes up the order, as statements: of a value, of registers, of a frame.
use Rattle.std.specs.Prelude.{◌≡◌, ℕ, true, List, length}
use Rattle.dv_defs.specs.Images.{Image}
use Rattle.dv_machine.specs.Value.{Value}
use Rattle.dv_machine.specs.Frame.{Frame}
use Rattle.dv_typing.specs.declared.typing.RegType.{RegType}
use Rattle.dv_typing.specs.declared.typing.RegState.{RegState}
use Rattle.dv_machine.specs.Heap.{Heap}
use Rattle.dv_typing.specs.RegTypes.{Types, type_at, under, IsBelow}
use Rattle.dv_machine.specs.Conforming.{Own, Conforms, IsGood, Conform}
use Rattle.law_types.specs.Hierarchy.{IsOrder}

-- a value that conforms to a type conforms to each type above it
abbrev pub ValueConformityGoesUp : Type 0
ValueConformityGoesUp =
    (image : Image) → IsOrder image → (heap : Heap) (own : Own) (x : Value) (s t : RegType) → under image s t ≡ true →
    Conforms image heap own x s → Conforms image heap own x t

-- registers that conform to types conform to equally many types above them
abbrev pub RegisterConformityGoesUp : Type 0
RegisterConformityGoesUp =
    (image : Image) → IsOrder image → (heap : Heap) (own : Own) (xs : List Value) (ss ts : Types) →
    ((k : ℕ) → under image (type_at ss k) (type_at ts k) ≡ true) → length ss ≡ length ts →
    IsGood image heap own xs ss → IsGood image heap own xs ts

-- a frame that conforms to a state conforms to each state above it
abbrev pub FrameConformityGoesUp : Type 0
FrameConformityGoesUp =
    (image : Image) → IsOrder image → (heap : Heap) (own : Own) (f : Frame) (s t : RegState) → IsBelow image s t →
    Conform image heap own f s → Conform image heap own f t
