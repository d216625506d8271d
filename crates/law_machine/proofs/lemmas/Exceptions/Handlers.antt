-- A frame at an instruction that can throw finds its handlers in order.
use Rattle.std.proofs.Common.{◌≡◌, ℕ, Bool, true, false, Option, Some, None, refl, sym, ap, ◌∙◌, subst}
use Rattle.std.specs.Prelude.{All}
use Rattle.std.proofs.lemmas.List.Elements.{All-weaker}
use Rattle.std.proofs.lemmas.Option.{same_Some}
use Rattle.dv_defs.specs.declared.names.Ty.{Ty}
use Rattle.dv_defs.specs.Images.{Image}
use Rattle.dv_defs.specs.declared.code.Body.{Body}
use Rattle.dv_machine.specs.Frame.{Frame}
use Rattle.dv_typing.specs.declared.typing.RegState.{RegState}
use Rattle.dv_defs.specs.Names.{throwable_name}
use Rattle.dv_defs.specs.Types.{of_class}
use Rattle.dv_defs.specs.Pools.{Method, method_at}
use Rattle.dv_defs.specs.Order.{instance}
use Rattle.dv_defs.specs.Op.{Code, code_at, code_of, with_body, can_throw}
use Rattle.dv_typing.specs.Statics.{At, fetch}
use Rattle.dv_typing.specs.Flow.{Catcher, Leads, handlers_at, thrown_at, is_exit, caught_state, caught_as}
use Rattle.dv_machine.specs.Heap.{Heap, kind_type}
use Rattle.dv_machine.specs.State.{type_of, type_of_kind}
use Rattle.dv_machine.specs.Unwinding.{catches, caught_frame}
use Rattle.dv_machine.specs.Conforming.{IsOf, Conform}
use Rattle.dv_machine.specs.WellTyped.{Typings, own_of, IsPlaced, IsHandled, IsThrowable}
use Rattle.dv_machine.specs.Accepted.{Accepted, IsFine, FindsRightly}
use Rattle.law_machine.proofs.lemmas.Common.Conformity.{frame_up}
use Rattle.law_types.proofs.Interfaces.{fits_reference}

-- ---- code

pub code_id : (image : Image) → FindsRightly image → (n : ℕ) (code : Code) → code_at image n ≡ Some code → code.method.id ≡ n
unfolding code_at
code_id image finds n code e = go (method_at image n) refl e
  where
    with_body_id : (m : Method) (b : Option Body) → with_body m b ≡ Some code → code.method.id ≡ m.id
    with_body_id m None e = absurd (cc)
    with_body_id m (Some b) e = ap (λ (c : Code). c.method.id) (sym (same_Some _ code e))

    go : (x : Option Method) → method_at image n ≡ x → code_of x ≡ Some code → code.method.id ≡ n
    go None f e = absurd (cc)
    go (Some m) f e = with_body_id m m.def.body e ∙ finds.methods n m f

-- ---- handlers

module _ (image : Image) (T : Typings) (acc : Accepted image T) (heap : Heap) where
  -- what a handler catches is of its type
  caught_is : (o : ℕ) → IsThrowable image heap o → (t : Option Ty) → catches image heap o t ≡ true → IsOf image heap o (caught_as t)
  caught_is o i None e = i
  caught_is o i (Some t) e = record { object = i.object; fits = acc.order.instance_fits _ t (fits_reference image _ (of_class throwable_name) i.fits refl) (subst (λ (x : Ty). instance image x t ≡ true) type e) }
    where
      type : type_of image heap o ≡ kind_type image i.object.kind
      type = ap (type_of_kind image) i.object.has_kind

  module _ (this : Option ℕ) (f : Frame) (method : Method) (has : method_at image f.method.0 ≡ Some method) (s : RegState) (conform : Conform image heap (own_of image this method) f s) (o : ℕ) (thrown : IsThrowable image heap o) where
    -- the frame, once it is in a handler
    handler_placed : (h : Catcher) → Leads image (T f.method.0) (caught_state s h) h.to → catches image heap o h.ty ≡ true → IsPlaced image T heap this (caught_frame f h.to o)
    handler_placed h l e = record {
      method = method;
      has_method = has;
      state = l.state;
      has_state = l.has_state;
      conform = frame_up image acc.order heap (own_of image this method) (caught_frame f h.to o) (caught_state s h) l.state l.below (record { good = conform.good; result = tt; caught = caught_is o thrown h.ty e; this_pending = conform.this_pending });
    }

    -- the handlers of the address that an instruction's exception is searched in
    pub handlers_placed : (code : Code) (x : At) → code_at image f.method.0 ≡ Some code → IsFine image (T f.method.0) code f.at x s → can_throw x.op ≡ true → All (λ h. catches image heap o h.ty ≡ true → IsPlaced image T heap this (caught_frame f h.to o)) (handlers_at image f.method.0 (thrown_at f.at x))
    handlers_placed code x hc fine can = All-weaker (λ (h : Catcher). Leads image (T f.method.0) (caught_state s h) h.to) (λ (h : Catcher). catches image heap o h.ty ≡ true → IsPlaced image T heap this (caught_frame f h.to o)) handler_placed (handlers_at image f.method.0 (thrown_at f.at x)) (subst (λ (n : ℕ). All (λ (h : Catcher). Leads image (T f.method.0) (caught_state s h) h.to) (handlers_at image n (thrown_at f.at x))) (code_id image acc.finds f.method.0 code hc) (fine.handled can))

  -- a frame that stands at an instruction which throws and is no monitor-exit
  pub placed_handled : (this : Option ℕ) (f : Frame) (x : At) (o : ℕ) → IsPlaced image T heap this f → fetch image f.method.0 f.at ≡ Some x → can_throw x.op ≡ true → is_exit x.op ≡ false → IsThrowable image heap o → IsHandled image T heap this o f
  placed_handled this f x o p fetched can exit i =
      let e = acc.typed.each f.method.0 f.at p.state p.has_state in
      let same : e.1 ≡ x = same_Some e.1 x (sym e.3 ∙ fetched) in
      let at : thrown_at f.at x ≡ f.at = ap (λ (b : Bool). elim b [ true ↦ x.next | false ↦ f.at ]) exit in
      subst (λ (n : ℕ). All (λ (h : Catcher). catches image heap o h.ty ≡ true → IsPlaced image T heap this (caught_frame f h.to o)) (handlers_at image f.method.0 n)) at (handlers_placed this f p.method p.has_method p.state p.conform o i e.0 x e.2 (subst (λ (y : At). IsFine image (T f.method.0) e.0 f.at y p.state) same e.4) can)
