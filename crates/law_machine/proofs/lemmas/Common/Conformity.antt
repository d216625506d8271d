-- Conformity goes up the order of states.
use Rattle.std.proofs.Common.{◌≡◌, ℕ, zero, suc, true, length, List, Option, Some, None, refl, ◌∙◌, subst}
use Rattle.std.proofs.lemmas.Bool.{eqb-true}
use Rattle.dv_defs.specs.declared.names.Ty.{Ty}
use Rattle.dv_defs.specs.Images.{Image}
use Rattle.dv_machine.specs.Value.{Value}
use Rattle.dv_machine.specs.Value as v
use Rattle.dv_machine.specs.Frame.{Frame}
use Rattle.dv_machine.specs.Pending.{Pending}
use Rattle.dv_typing.specs.declared.typing.RegType.{RegType}
use Rattle.dv_typing.specs.declared.typing.RegType.TheVariants as ty
use Rattle.dv_typing.specs.declared.typing.PendingType.{PendingType}
use Rattle.dv_typing.specs.declared.typing.PendingType.TheVariants as pend
use Rattle.dv_typing.specs.declared.typing.RegState.{RegState}
use Rattle.dv_machine.specs.Heap.{Heap}
use Rattle.dv_defs.specs.Order.{sub}
use Rattle.dv_typing.specs.RegTypes.{Types, type_at, under, UnderPending, UnderCaught, IsBelow}
use Rattle.dv_machine.specs.State.{reg_at}
use Rattle.dv_machine.specs.Conforming.{Own, IsOf, Fits, Conforms, IsUninit, AreApart, IsGood, ResultConforms, CaughtConforms, Conform}
use Rattle.law_types.specs.Hierarchy.{IsOrder}
use Rattle.law_machine.specs.Conformity.{ValueConformityGoesUp, RegisterConformityGoesUp, FrameConformityGoesUp}
use Rattle.law_types.proofs.Facts.{no}

module _ (image : Image) (ord : IsOrder image) where
  module _ (heap : Heap) (own : Own) where
    pub is_of_up : (o : ℕ) (s t : Ty) → sub image s t ≡ true → IsOf image heap o s → IsOf image heap o t
    is_of_up o s t e h = record { object = h.object; fits = ord.fits_up _ s t h.fits e }

    fits_up : (o : ℕ) (s t : Ty) → sub image s t ≡ true → Fits image heap o s → Fits image heap o t
    fits_up zero s t e f = tt
    fits_up (suc o) s t e f = is_of_up (suc o) s t e f

    zero_is_int : (x : Value) → Conforms image heap own x ty.Zero → Conforms image heap own x ty.Int
    zero_is_int v.Zero c = tt
    zero_is_int x c = absurd c

    zero_is_class : (x : Value) (t : Ty) → Conforms image heap own x ty.Zero → Conforms image heap own x (ty.Class t)
    zero_is_class v.Zero t c = tt
    zero_is_class x t c = absurd c

    class_is_class : (x : Value) (s t : Ty) → sub image s t ≡ true → Conforms image heap own x (ty.Class s) → Conforms image heap own x (ty.Class t)
    class_is_class v.Zero s t e c = tt
    class_is_class (v.Ref o) s t e c = fits_up o s t e c
    class_is_class x s t e c = absurd c

    pub value_up : (x : Value) (s t : RegType) → under image s t ≡ true → Conforms image heap own x s → Conforms image heap own x t
    value_up x s ty.Conflict e c = tt
    value_up x ty.Zero ty.Zero e c = c
    value_up x ty.Zero ty.Int e c = zero_is_int x c
    value_up x ty.Zero (ty.Class t) e c = zero_is_class x t c
    value_up x ty.Int ty.Int e c = c
    value_up x ty.LongLo ty.LongLo e c = c
    value_up x ty.LongHi ty.LongHi e c = c
    value_up x (ty.Class s) (ty.Class t) e c = class_is_class x s t e c
    value_up x (ty.Uninit a) (ty.Uninit b) e c = subst (λ (z : ℕ). Conforms image heap own x (ty.Uninit z)) (eqb-true a b e) c
    value_up x ty.UninitThis ty.UninitThis e c = c
    value_up x s t e c = no e

    -- under an uninitialised type is that type alone
    uninit_same : (s t : RegType) → under image s t ≡ true → IsUninit t → s ≡ t
    uninit_same (ty.Uninit a) (ty.Uninit b) e u = subst (λ (z : ℕ). ty.Uninit a ≡ ty.Uninit z) (eqb-true a b e) refl
    uninit_same ty.UninitThis ty.UninitThis e u = refl
    uninit_same s ty.Conflict e u = absurd u
    uninit_same s ty.Zero e u = absurd u
    uninit_same s ty.Int e u = absurd u
    uninit_same s ty.LongLo e u = absurd u
    uninit_same s ty.LongHi e u = absurd u
    uninit_same s (ty.Class c) e u = absurd u
    uninit_same s t e u = no e

    apart_up : (xs : List Value) (ss ts : Types) → ((k : ℕ) → under image (type_at ss k) (type_at ts k) ≡ true) → AreApart xs ss → AreApart xs ts
    apart_up xs ss ts e h j k a b =
        let p = uninit_same (type_at ss j) (type_at ts j) (e j) a in
        let q = uninit_same (type_at ss k) (type_at ts k) (e k) b in
        rw (← p, ← q) (h j k (rw (← p) at a) (rw (← q) at b))

    pub registers_up : (xs : List Value) (ss ts : Types) → ((k : ℕ) → under image (type_at ss k) (type_at ts k) ≡ true) → length ss ≡ length ts → IsGood image heap own xs ss → IsGood image heap own xs ts
    registers_up xs ss ts e n h = record {
      regs = λ k. value_up (reg_at xs k) (type_at ss k) (type_at ts k) (e k) (h.regs k);
      count = h.count ∙ n;
      apart = apart_up xs ss ts e h.apart;
    }

    result_up : (p : Pending) (r q : PendingType) → UnderPending r q → ResultConforms image heap own p r → ResultConforms image heap own p q
    result_up p r pend.None u c = tt
    result_up p r (pend.One t) u c = subst (λ (z : PendingType). ResultConforms image heap own p z) u c
    result_up p r pend.Long u c = subst (λ (z : PendingType). ResultConforms image heap own p z) u c

    caught_up : (o : Option ℕ) (c d : Option Ty) → UnderCaught image c d → CaughtConforms image heap o c → CaughtConforms image heap o d
    caught_up o c None u h = tt
    caught_up o None (Some d) u h = absurd u
    caught_up None (Some c) (Some d) u h = absurd h
    caught_up (Some o) (Some c) (Some d) u h = is_of_up o c d u h

    pub frame_up : (f : Frame) (s t : RegState) → IsBelow image s t → Conform image heap own f s → Conform image heap own f t
    frame_up f s t b c = record {
      good = registers_up f.regs s.regs t.regs b.each b.count c.good;
      result = result_up f.result s.result t.result b.result c.result;
      caught = caught_up f.caught s.caught t.caught b.caught c.caught;
      this_pending = λ e. b.this_pending (c.this_pending e);
    }

pub value_conformity_goes_up : ValueConformityGoesUp
value_conformity_goes_up image ord heap own x s t e c = value_up image ord heap own x s t e c

pub register_conformity_goes_up : RegisterConformityGoesUp
register_conformity_goes_up image ord heap own xs ss ts e n h = registers_up image ord heap own xs ss ts e n h

pub frame_conformity_goes_up : FrameConformityGoesUp
frame_conformity_goes_up image ord heap own f s t b c = frame_up image ord heap own f s t b c
