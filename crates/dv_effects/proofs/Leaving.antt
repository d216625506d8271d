-- What operations leave beside the registers.
use Rattle.std.proofs.Common.{◌≡◌, ℕ, Bool, true, false, None, refl}
use Rattle.dv_defs.specs.Images.{Image}
use Rattle.dv_defs.specs.Pools.{Method, is_constructor}
use Rattle.dv_defs.specs.Op.{Op, Filled, Invoke}
use Rattle.dv_typing.specs.declared.typing.RegType.{RegType}
use Rattle.dv_typing.specs.declared.typing.PendingType.{PendingType}
use Rattle.dv_typing.specs.declared.typing.RegState.{RegState}
use Rattle.dv_typing.specs.RegTypes.{type_at}
use Rattle.dv_typing.specs.Transfer.{after_constructor, first_of, out, pending_of, with_pending}
use Rattle.dv_effects.specs.Effects.{pending_left}

abbrev called : Image → Method → RegState → RegType → PendingType → Bool → RegState
called image m s t p b = elim b [ true ↦ with_pending (after_constructor image m s t) p | false ↦ with_pending s p ]

called_result : (image : Image) (m : Method) (s : RegState) (t : RegType) (p : PendingType) (b : Bool) → p ≡ (called image m s t p b).result
called_result image m s t p true = refl
called_result image m s t p false = refl

called_caught : (image : Image) (m : Method) (s : RegState) (t : RegType) (p : PendingType) (b : Bool) → None ≡ (called image m s t p b).caught
called_caught image m s t p true = refl
called_caught image m s t p false = refl

pub result_left : (image : Image) (m : Method) (at : ℕ) (op : Op) (s : RegState) → pending_left op ≡ (out image m at op s).result
result_left image m at (Filled rs t) s = refl
result_left image m at (Invoke c ks g) s = called_result image m s (type_at s.regs (first_of ks)) (pending_of g.def.proto.ret) (is_constructor g)
result_left image m at op s = refl

pub none_caught : (image : Image) (m : Method) (at : ℕ) (op : Op) (s : RegState) → None ≡ (out image m at op s).caught
none_caught image m at (Invoke c ks g) s = called_caught image m s (type_at s.regs (first_of ks)) (pending_of g.def.proto.ret) (is_constructor g)
none_caught image m at op s = refl
