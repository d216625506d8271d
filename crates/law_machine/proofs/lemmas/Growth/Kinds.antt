-- What holds of values, frames and stacks still holds where objects were added.
use Rattle.std.proofs.Common.{◌≡◌, ℕ, zero, suc, List, [], ◌∷◌, Bool, true, false, Option, Some, None, sym, ap, ◌∙◌, subst}
use Rattle.std.specs.Prelude.{All, IfSome}
use Rattle.std.proofs.lemmas.List.Elements.{All-weaker}
use Rattle.dv_defs.specs.declared.names.Ty.{Ty}
use Rattle.dv_defs.specs.Images.{Image}
use Rattle.dv_machine.specs.Value.{Value}
use Rattle.dv_machine.specs.Value as v
use Rattle.dv_machine.specs.Kind.{Kind}
use Rattle.dv_machine.specs.Pending.{Pending}
use Rattle.dv_machine.specs.Pending as pending
use Rattle.dv_machine.specs.Frame.{Frame}
use Rattle.dv_machine.specs.Level.{Level}
use Rattle.dv_machine.specs.Level as level
use Rattle.dv_defs.specs.declared.machine.End.{End}
use Rattle.dv_defs.specs.declared.machine.End.TheVariants as end
use Rattle.dv_defs.specs.declared.run.Preallocated.{Preallocated}
use Rattle.dv_typing.specs.declared.typing.RegType.{RegType}
use Rattle.dv_typing.specs.declared.typing.RegType.TheVariants as ty
use Rattle.dv_typing.specs.declared.typing.PendingType.{PendingType}
use Rattle.dv_typing.specs.declared.typing.PendingType.TheVariants as pend
use Rattle.dv_typing.specs.declared.typing.RegState.{RegState}
use Rattle.dv_defs.specs.Order.{instance}
use Rattle.dv_typing.specs.Flow.{Catcher, handlers_at}
use Rattle.dv_typing.specs.RegTypes.{Types}
use Rattle.dv_machine.specs.Heap.{Heap, kind_of}
use Rattle.dv_machine.specs.State.{type_of, type_of_kind}
use Rattle.dv_machine.specs.Unwinding.{catches, caught_frame, is_opening}
use Rattle.dv_machine.specs.Conforming.{Own, IsObject, IsThere, IsOf, Fits, IsMade, IsThis, Conforms, IsGood, ResultConforms, CaughtConforms, Conform, RefFine, ResultFine, RefsFine}
use Rattle.dv_machine.specs.WellTyped.{Typings, IsPlaced, IsHandled, StackFine, FlightFine, ThreadFine, CodeFine, PreallocatedFine}
use Rattle.law_machine.specs.Premises.{KeepsKinds}

-- two heaps in which an object is of one kind
pub same_type : (image : Image) (before after : Heap) (o : ℕ) (k : Kind) → kind_of before o ≡ Some k → kind_of after o ≡ Some k → type_of image before o ≡ type_of image after o
same_type image before after o k e f = ap (type_of_kind image) (e ∙ sym f)

abbrev pub Either : Bool → Type 0 → Type 0 → Type 0
Either b A B = elim b [ true ↦ A | false ↦ B ]

pub either_map : (A B C D : Type 0) → (A → C) → (B → D) → (b : Bool) → Either b A B → Either b C D
either_map A B C D f g true k = f k
either_map A B C D f g false k = g k

module _ (image : Image) (before after : Heap) (g : KeepsKinds before after) where
  pub object_grown : (o : ℕ) → IsObject image before o → IsObject image after o
  object_grown o h = record { kind = h.kind; has_kind = g o h.kind h.has_kind; proper = h.proper }

  pub there_grown : (o : ℕ) → IsThere image before o → IsThere image after o
  there_grown zero h = h
  there_grown (suc o) h = object_grown (suc o) h

  pub is_of_grown : (o : ℕ) (t : Ty) → IsOf image before o t → IsOf image after o t
  is_of_grown o t h = record { object = record { kind = h.object.kind; has_kind = g o h.object.kind h.object.has_kind; proper = h.object.proper }; fits = h.fits }

  pub fits_grown : (o : ℕ) (t : Ty) → Fits image before o t → Fits image after o t
  fits_grown zero t h = h
  fits_grown (suc o) t h = is_of_grown (suc o) t h

  made_grown : (own : Own) (a o : ℕ) → IsMade image before own a o → IsMade image after own a o
  made_grown own a o h = record { class = h.class; is_site = h.is_site; has_kind = g o _ h.has_kind }

  this_grown : (own : Own) (o : ℕ) → IsThis image before own o → IsThis image after own o
  this_grown own o h = record { is_own = h.is_own; class = h.class; has_kind = g o _ h.has_kind; under = h.under }

  pub conforms_grown : (own : Own) (x : Value) (t : RegType) → Conforms image before own x t → Conforms image after own x t
  conforms_grown own (v.Ref o) (ty.Class t) h = fits_grown o t h
  conforms_grown own (v.Uninit a o) (ty.Uninit b) h = (h.0, made_grown own a o h.1)
  conforms_grown own (v.UninitThis o) ty.UninitThis h = this_grown own o h
  conforms_grown own x t h = h

  pub good_grown : (own : Own) (xs : List Value) (ts : Types) → IsGood image before own xs ts → IsGood image after own xs ts
  good_grown own xs ts h = record { regs = λ k. conforms_grown own _ _ (h.regs k); count = h.count; apart = h.apart }

  result_grown : (own : Own) (p : Pending) (t : PendingType) → ResultConforms image before own p t → ResultConforms image after own p t
  result_grown own p pend.None h = h
  result_grown own (pending.One x) (pend.One t) h = conforms_grown own x t h
  result_grown own (pending.Two lo hi) pend.Long h = h
  result_grown own p t h = absurd h

  caught_grown : (o : Option ℕ) (t : Option Ty) → CaughtConforms image before o t → CaughtConforms image after o t
  caught_grown o None h = h
  caught_grown (Some o) (Some t) h = is_of_grown o t h
  caught_grown None (Some t) h = h

  pub conform_grown : (own : Own) (f : Frame) (s : RegState) → Conform image before own f s → Conform image after own f s
  conform_grown own f s h = record { good = good_grown own _ _ h.good; result = result_grown own _ _ h.result; caught = caught_grown _ _ h.caught; this_pending = h.this_pending }

  -- the two exceptions of the opening
  pub preallocated_grown : (p : Preallocated) → PreallocatedFine image before p → PreallocatedFine image after p
  preallocated_grown p h = record { out_of_memory = g p.out_of_memory _ h.out_of_memory; stack_overflow = g p.stack_overflow _ h.stack_overflow }

  ref_grown : (x : Value) → RefFine image before x → RefFine image after x
  ref_grown (v.Ref o) h = there_grown o h
  ref_grown x h = h

  result_fine_grown : (p : Pending) → ResultFine image before p → ResultFine image after p
  result_fine_grown (pending.One x) h = ref_grown x h
  result_fine_grown p h = h

  if_there_grown : (o : Option ℕ) → IfSome o (IsThere image before) → IfSome o (IsThere image after)
  if_there_grown None h = h
  if_there_grown (Some o) h = there_grown o h

  pub refs_grown : (l : Level) → RefsFine image before l → RefsFine image after l
  refs_grown (level.Code f) h = (All-weaker (RefFine image before) (RefFine image after) ref_grown f.regs h.0, result_fine_grown f.result h.1, if_there_grown f.caught h.2)
  refs_grown (level.Init c r) h = h

  pub all_refs_grown : (ls : List Level) → All (RefsFine image before) ls → All (RefsFine image after) ls
  all_refs_grown ls h = All-weaker (RefsFine image before) (RefsFine image after) refs_grown ls h

  -- a handler that takes an object in the grown heap took it before
  same_catch : (o : ℕ) → IsObject image before o → (t : Option Ty) → catches image after o t ≡ true → catches image before o t ≡ true
  same_catch o h None e = e
  same_catch o h (Some t) e = subst (λ (x : Ty). instance image x t ≡ true) (sym (same_type image before after o h.kind h.has_kind (g o h.kind h.has_kind))) e

  module _ (T : Typings) where
    pub placed_grown : (this : Option ℕ) (f : Frame) → IsPlaced image T before this f → IsPlaced image T after this f
    placed_grown this f h = record { method = h.method; has_method = h.has_method; state = h.state; has_state = h.has_state; conform = conform_grown _ f h.state h.conform }

    pub handled_grown : (this : Option ℕ) (o : ℕ) (f : Frame) → IsObject image before o → IsHandled image T before this o f → IsHandled image T after this o f
    handled_grown this o f i h = All-weaker (λ (c : Catcher). catches image before o c.ty ≡ true → IsPlaced image T before this (caught_frame f c.to o)) (λ (c : Catcher). catches image after o c.ty ≡ true → IsPlaced image T after this (caught_frame f c.to o)) (λ c p e. placed_grown this _ (p (same_catch o i c.ty e))) (handlers_at image f.method.0 f.at) h

    code_grown : (f : Frame) (ls : List Level) → CodeFine image T before f ls → CodeFine image T after f ls
    code_grown f ls h = record { frame = h.frame; below = h.below }

    pub stack_grown : (t : ℕ) (ls : List Level) → StackFine image T before t None ls → StackFine image T after t None ls
    stack_grown t [] h = h
    stack_grown t (level.Code f ∷ ls) h = (code_grown f ls h.0, placed_grown _ f h.1, h.2, stack_grown t ls h.3)
    stack_grown t (level.Init c r ∷ ls) h = (h.0, either_map _ _ _ _ (stack_grown t ls) (stack_grown t ls) (is_opening image t c.0 ls) h.1)

    -- below an exception in flight
    pub flight_stack_grown : (t o : ℕ) → IsObject image before o → (ls : List Level) → StackFine image T before t (Some o) ls → StackFine image T after t (Some o) ls
    flight_stack_grown t o i [] h = h
    flight_stack_grown t o i (level.Code f ∷ ls) h = (code_grown f ls h.0, placed_grown _ f h.1, handled_grown _ o f i h.2, flight_stack_grown t o i ls h.3)
    flight_stack_grown t o i (level.Init c r ∷ ls) h = (h.0, either_map _ _ _ _ (stack_grown t ls) (flight_stack_grown t o i ls) (is_opening image t c.0 ls) h.1)

    flight_grown : (t o : ℕ) → IsObject image before o → (ls : List Level) → FlightFine image T before t o ls → FlightFine image T after t o ls
    flight_grown t o i [] h = h
    flight_grown t o i (level.Code f ∷ ls) h = (code_grown f ls h.0, handled_grown _ o f i h.1, flight_stack_grown t o i ls h.2)
    flight_grown t o i (level.Init c r ∷ ls) h = flight_stack_grown t o i (level.Init c r ∷ ls) h

    pub thread_grown : (t : ℕ) (ls : List Level) (e : End) → ThreadFine image T before t ls e → ThreadFine image T after t ls e
    thread_grown t ls end.Living h = (h.0, stack_grown t ls h.1)
    thread_grown t ls (end.Flying o) h = (h.0, is_of_grown o _ h.1, flight_grown t o h.1.object ls h.2)
    thread_grown t ls end.Returned h = h
    thread_grown t ls (end.Died o) h = (h.0, is_of_grown o _ h.1)
