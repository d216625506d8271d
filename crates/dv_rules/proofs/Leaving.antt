-- The parts of the state after an operation.
use Rattle.std.proofs.Common.{◌≡◌, ℕ, Bool, true, false, Some, None, refl}
use Rattle.dv_typing.specs.declared.typing.RegType.{RegType}
use Rattle.dv_typing.specs.declared.typing.RegType.TheVariants as ty
use Rattle.dv_typing.specs.declared.typing.PendingType.{PendingType}
use Rattle.dv_typing.specs.declared.typing.RegState.{RegState}
use Rattle.dv_defs.specs.Images.{Image}
use Rattle.dv_defs.specs.Pools.{Method, is_constructor}
use Rattle.dv_defs.specs.Op.{Op, Filled, Invoke}
use Rattle.dv_typing.specs.RegTypes.{type_at}
use Rattle.dv_typing.specs.Transfer.{after_constructor, first_of, out, pending_of, with_pending}
use Rattle.dv_rules.specs.Changes.{pending_after, pending_with, this_after}

constructed : (image : Image) (m : Method) (s : RegState) (t : RegType) → (after_constructor image m s t).this_pending ≡ pending_with (Some t) s.this_pending
constructed image m s ty.UninitThis = refl
constructed image m s t = refl

at_test : (image : Image) (m : Method) (s : RegState) (t : RegType) (p : PendingType) (b : Bool) →
    let after : RegState = elim b as (λ _. RegState) [ true ↦ with_pending (after_constructor image m s t) p | false ↦ with_pending s p ] in
    after ≡ record { regs = after.regs; result = p; caught = None; this_pending = pending_with (elim b [ true ↦ Some t | false ↦ None ]) s.this_pending }
at_test image m s t p true = rw (constructed image m s t) refl
at_test image m s t p false = refl

pub parts : (image : Image) (m : Method) (at : ℕ) (op : Op) (s : RegState) →
    out image m at op s ≡ record { regs = (out image m at op s).regs; result = pending_after op; caught = None; this_pending = this_after op s }
parts image m at (Filled rs t) s = refl
parts image m at (Invoke c ks g) s = at_test image m s (type_at s.regs (first_of ks)) (pending_of g.def.proto.ret) (is_constructor g)
parts image m at op s = refl
