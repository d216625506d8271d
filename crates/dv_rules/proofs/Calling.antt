-- What a call does to the registers.
use Rattle.std.proofs.Common.{◌≡◌, ◌<◌, ℕ, zero, suc, Bool, true, false, List, [], ◌∷◌, Option, Some, None, map, take, refl, ap, arith}
use Rattle.std.specs.Prelude.{option_and_then, slice_index}
use Rattle.dv_defs.specs.declared.names.ClassId.{ClassId}
use Rattle.dv_defs.specs.declared.code.Regs.{Regs}
use Rattle.dv_typing.specs.declared.typing.RegType.{RegType}
use Rattle.dv_typing.specs.declared.typing.RegType.TheVariants as ty
use Rattle.dv_typing.specs.declared.typing.PendingType.{PendingType}
use Rattle.dv_typing.specs.declared.typing.RegState.{RegState}
use Rattle.dv_defs.specs.Images.{Image}
use Rattle.dv_defs.specs.Parts.{Call}
use Rattle.dv_defs.specs.Pools.{Method, is_constructor}
use Rattle.dv_defs.specs.Op.{Invoke, count_up, named_registers}
use Rattle.dv_typing.specs.RegTypes.{type_at}
use Rattle.dv_typing.specs.Demands.{made_at}
use Rattle.dv_typing.specs.Transfer.{after_constructor, after_invoke, class_or_conflict, first_of, pending_of, replaced, with_pending}
use Rattle.dv_rules.specs.Changes.{call_change, changed, number, receiver_in}
use Rattle.dv_demands.specs.Made.{made_for, place_of}

at_type : (image : Image) (m : Method) (s : RegState) (made : Option ClassId) (t : RegType) →
    number made ≡ option_and_then (made_at image m) (place_of t) →
    changed image (call_change m made (Some t)) s.regs ≡ (after_constructor image m s t).regs
at_type image m s made (ty.Uninit a) h = ap (λ (c : Option ℕ). map (replaced a (class_or_conflict image c)) s.regs) h
at_type image m s made ty.UninitThis h = refl
at_type image m s made t h = refl

at_test : (image : Image) (m : Method) (s : RegState) (made : Option ClassId) (t : RegType) (p : PendingType) (b : Bool) →
    number made ≡ option_and_then (made_at image m) (elim b [ true ↦ place_of t | false ↦ None ]) →
    changed image (call_change m made (elim b [ true ↦ Some t | false ↦ None ])) s.regs
    ≡ (elim b as (λ _. RegState) [ true ↦ with_pending (after_constructor image m s t) p | false ↦ with_pending s p ]).regs
at_test image m s made t p true h = at_type image m s made t h
at_test image m s made t p false h = refl

pub called : (image : Image) (m : Method) (s : RegState) (made : Option ClassId) (c : Call) (ks : List ℕ) (g : Method) →
    number made ≡ made_for image m (Invoke c ks g) s.regs →
    changed image (call_change m made (receiver_in s.regs ks g)) s.regs ≡ (after_invoke image m s ks g).regs
called image m s made c ks g h = at_test image m s made (type_at s.regs (first_of ks)) (pending_of g.def.proto.ret) (is_constructor g) h

first_up : (from n : ℕ) → 0 < n → first_of (count_up from n) ≡ from
first_up from zero h = absurd (omega arith)
first_up from (suc n) h = refl

first_taken : (n : ℕ) (ks : List ℕ) → 0 < n → first_of (take n ks) ≡ slice_index ks 0
first_taken zero ks h = absurd (omega arith)
first_taken (suc n) [] h = refl
first_taken (suc n) (k ∷ ks) h = refl

first_by : (range : Bool) (n : ℕ) (ks : List ℕ) → 0 < n →
    first_of (elim range [ true ↦ count_up (slice_index ks 0) n | false ↦ take n ks ]) ≡ slice_index ks 0
first_by true n ks h = first_up (slice_index ks 0) n h
first_by false n ks h = first_taken n ks h

pub first_named : (r : Regs) → 0 < r.count → first_of (named_registers r) ≡ slice_index r.first 0
first_named r h = first_by r.range r.count r.first h

none_by : (range : Bool) (n : ℕ) (ks : List ℕ) → n ≡ 0 →
    first_of (elim range [ true ↦ count_up (slice_index ks 0) n | false ↦ take n ks ]) ≡ 0
none_by true n ks h = rw h refl
none_by false n ks h = rw h refl

pub none_named : (r : Regs) → r.count ≡ 0 → first_of (named_registers r) ≡ 0
none_named r h = none_by r.range r.count r.first h
