-- What a caller's frame is after its call returned.
use Rattle.std.specs.Prelude.{◌≡◌, ℕ, true, List, Option, Some, None}
use Rattle.dv_defs.specs.Images.{Image}
use Rattle.dv_machine.specs.Value.{Value}
use Rattle.dv_machine.specs.Value as v
use Rattle.dv_machine.specs.Pending.{Pending}
use Rattle.dv_machine.specs.Frame.{Frame}
use Rattle.dv_typing.specs.declared.typing.RegState.{RegState}
use Rattle.dv_defs.specs.Parts.{Call}
use Rattle.dv_defs.specs.Pools.{Method, is_constructor, own_type, class_type}
use Rattle.dv_defs.specs.Op.{Invoke}
use Rattle.dv_typing.specs.Statics.{At}
use Rattle.dv_typing.specs.Demands.{demands, made_at}
use Rattle.dv_typing.specs.Transfer.{out, pending_of}
use Rattle.dv_machine.specs.Heap.{Heap}
use Rattle.dv_machine.specs.State.{reg_at}
use Rattle.dv_machine.specs.Calls.{receiver_of, returned}
use Rattle.dv_machine.specs.Conforming.{IsOf, ResultConforms, Conform}
use Rattle.dv_machine.specs.WellTyped.{own_of}

-- the object of an uninitialised value is one now: of the class that its place makes, or of the method's own
abbrev pub IsBuilt : Image → Heap → Method → Value → Type 0
IsBuilt image heap m (v.Uninit a o) = (c : ℕ) → made_at image m a ≡ Some c → IsOf image heap o (class_type image c)
IsBuilt image heap m (v.UninitThis o) = IsOf image heap o (own_type image m)
IsBuilt image heap m x = Unit {0}

-- a frame that conforms at an invoke, whose demand holds, with the result of the call
pub record IsBack (image : Image) (heap : Heap) (this : Option ℕ) (m : Method) (f : Frame) (s : RegState) (x : At) (p : Pending) :
    Type 0 where
  pub conform : Conform image heap (own_of image this m) f s
  pub call : Call
  pub args : List ℕ
  pub callee : Method
  pub is_invoke : x.op ≡ Invoke call args callee
  pub demand : demands image m x.op s ≡ None
  pub result : ResultConforms image heap (own_of image this m) p (pending_of callee.def.proto.ret)
  -- where a constructor returns, its receiver's object is initialised
  pub built : is_constructor callee ≡ true → (k : ℕ) → receiver_of x.op ≡ Some k → IsBuilt image heap m (reg_at f.regs k)

-- such a frame conforms to the state after the invoke once the call has returned
abbrev pub ReturnedConforms : Type 0
ReturnedConforms =
    (image : Image) (heap : Heap) (this : Option ℕ) (m : Method) (f : Frame) (s : RegState) (x : At) (p : Pending) →
    (b : IsBack image heap this m f s x p) →
    Conform image heap (own_of image this m) (returned (is_constructor b.callee) f x p) (out image m f.at x.op s)
