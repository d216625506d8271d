-- The order of states.
use Rattle.std.proofs.Common.{◌≡◌, ℕ, true, Option, Some, None, refl, ◌∙◌, subst}
use Rattle.std.proofs.lemmas.Bool.{eqb-true, eq-eqb}
use Rattle.dv_defs.specs.declared.names.Ty.{Ty}
use Rattle.dv_defs.specs.Images.{Image}
use Rattle.dv_typing.specs.declared.typing.RegType.{RegType}
use Rattle.dv_typing.specs.declared.typing.RegType.TheVariants as ty
use Rattle.dv_typing.specs.declared.typing.PendingType.{PendingType}
use Rattle.dv_typing.specs.declared.typing.PendingType.TheVariants as pend
use Rattle.dv_typing.specs.declared.typing.RegState.{RegState}
use Rattle.dv_typing.specs.RegTypes.{type_at, under, UnderPending, UnderCaught, IsBelow}
use Rattle.law_types.specs.Hierarchy.{IsOrder}
use Rattle.law_types.specs.Laws.{StatesAreOrdered}
use Rattle.law_types.proofs.Laws.{types_are_ordered}

module _ (image : Image) (ord : IsOrder image) where
  -- ---- types

  pub under_same : (t : RegType) → under image t t ≡ true
  under_same (ty.Class c) = ord.same c
  under_same (ty.Uninit a) = eq-eqb a a refl
  under_same ty.Conflict = refl
  under_same ty.Zero = refl
  under_same ty.Int = refl
  under_same ty.LongLo = refl
  under_same ty.LongHi = refl
  under_same ty.UninitThis = refl

  trans_from : (u t s : RegType) → under image s t ≡ true → under image t u ≡ true → under image s u ≡ true
  trans_from ty.Conflict t s x y = refl
  trans_from ty.Zero ty.Zero ty.Zero x y = refl
  trans_from ty.Int ty.Zero ty.Zero x y = refl
  trans_from ty.Int ty.Int ty.Zero x y = refl
  trans_from ty.Int ty.Int ty.Int x y = refl
  trans_from (ty.Class d) ty.Zero ty.Zero x y = refl
  trans_from (ty.Class d) (ty.Class c) ty.Zero x y = refl
  trans_from (ty.Class d) (ty.Class c) (ty.Class b) x y = ord.trans b c d x y
  trans_from ty.LongLo ty.LongLo ty.LongLo x y = refl
  trans_from ty.LongHi ty.LongHi ty.LongHi x y = refl
  trans_from (ty.Uninit c) (ty.Uninit b) (ty.Uninit a) x y = eq-eqb a c (eqb-true a b x ∙ eqb-true b c y)
  trans_from ty.UninitThis ty.UninitThis ty.UninitThis x y = refl
  trans_from u t s x y = absurd (cc)

  pub under_trans : (s t u : RegType) → under image s t ≡ true → under image t u ≡ true → under image s u ≡ true
  under_trans s t u x y = trans_from u t s x y

  -- ---- states

  pub pending_same : (r : PendingType) → UnderPending r r
  pending_same pend.None = tt
  pending_same (pend.One t) = refl
  pending_same pend.Long = refl

  pending_trans : (r p q : PendingType) → UnderPending r p → UnderPending p q → UnderPending r q
  pending_trans r p pend.None x y = tt
  pending_trans r p (pend.One t) x y = subst (λ (z : PendingType). UnderPending r z) y x
  pending_trans r p pend.Long x y = subst (λ (z : PendingType). UnderPending r z) y x

  caught_same : (c : Option Ty) → UnderCaught image c c
  caught_same None = tt
  caught_same (Some c) = ord.same c

  caught_trans : (c d e : Option Ty) → UnderCaught image c d → UnderCaught image d e → UnderCaught image c e
  caught_trans c d None x y = tt
  caught_trans c None (Some e) x y = absurd y
  caught_trans None (Some d) (Some e) x y = absurd x
  caught_trans (Some c) (Some d) (Some e) x y = ord.trans c d e x y

  pub below_same : (s : RegState) → IsBelow image s s
  below_same s = record { each = λ k. under_same (type_at s.regs k); count = refl; result = pending_same s.result; caught = caught_same s.caught; this_pending = λ e. e }

  pub below_trans : (s t u : RegState) → IsBelow image s t → IsBelow image t u → IsBelow image s u
  below_trans s t u x y = record {
    each = λ k. under_trans (type_at s.regs k) (type_at t.regs k) (type_at u.regs k) (x.each k) (y.each k);
    count = x.count ∙ y.count;
    result = pending_trans s.result t.result u.result x.result y.result;
    caught = caught_trans s.caught t.caught u.caught x.caught y.caught;
    this_pending = λ e. y.this_pending (x.this_pending e);
  }

pub states_are_ordered : StatesAreOrdered
states_are_ordered image h = record { same = below_same image (types_are_ordered image h); trans = below_trans image (types_are_ordered image h) }
