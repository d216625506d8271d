-- Joins of register types and of states are least.
use Rattle.std.proofs.Common.{◌≡◌, inl, inr, ℕ, zero, suc, ◌≤◌, [], ◌∷◌, length, Bool, true, false, ◌||◌, Option, Some, None, refl, sym, ap, ◌∙◌, subst, arith}
use Rattle.std.specs.Prelude.{nat_eq, All, IfSome}
use Rattle.std.proofs.lemmas.Bool.{cases_lt, eqb-true, eq-eqb, or_cases, or_left, or_right}
use Rattle.dv_defs.specs.declared.names.Ty.{Ty}
use Rattle.dv_defs.specs.Images.{Image}
use Rattle.dv_typing.specs.declared.typing.RegType.{RegType}
use Rattle.dv_typing.specs.declared.typing.RegType.TheVariants as ty
use Rattle.dv_typing.specs.declared.typing.PendingType.{PendingType}
use Rattle.dv_typing.specs.declared.typing.PendingType.TheVariants as pend
use Rattle.dv_typing.specs.declared.typing.RegState.{RegState}
use Rattle.dv_defs.specs.Types.{is_reference}
use Rattle.dv_typing.specs.RegTypes.{Types, type_at, under, UnderPending, UnderCaught, IsBelow}
use Rattle.dv_typing.specs.Joins.{join_classes, join_type, joined, same_type, join_result, join_caught, join_state}
use Rattle.law_types.specs.Hierarchy.{IsHierarchy, IsOrder}
use Rattle.law_types.specs.Laws.{refers, RefersRightly, JoinIsLeast}
use Rattle.law_types.proofs.Facts.{no}
use Rattle.law_types.proofs.Equal.{reg_type_is, reg_type_same}
use Rattle.law_types.proofs.Laws.{types_are_ordered}
use Rattle.law_types.proofs.States.{under_same}
use Rattle.law_types.proofs.Arrays.{super_common}

-- a type above both of two, under each other that is
record IsTypeJoin (image : Image) (s t j : RegType) : Type 0 where
  first : under image s j ≡ true
  second : under image t j ≡ true
  least : (u : RegType) → under image s u ≡ true → under image t u ≡ true → under image j u ≡ true

module _ (image : Image) (h : IsHierarchy image) where
  ord : IsOrder image
  ord = types_are_ordered image h

  -- ---- types

  -- above two types of which none is under the other is Conflict alone, but for classes
  only_conflict : (u s t : RegType) → refers s ≡ true → refers t ≡ true → under image s u ≡ true → under image t u ≡ true → under image s t ≡ false → under image t s ≡ false → under image (join_classes image s t) u ≡ true
  only_conflict ty.Conflict s t r q x y m n = refl
  only_conflict ty.Zero ty.Zero ty.Zero r q x y m n = absurd (cc)
  only_conflict ty.Zero ty.Zero t r q x y m n = no y
  only_conflict ty.Zero s t r q x y m n = no x
  only_conflict ty.Int ty.Zero ty.Zero r q x y m n = absurd (cc)
  only_conflict ty.Int ty.Zero ty.Int r q x y m n = absurd (cc)
  only_conflict ty.Int ty.Zero t r q x y m n = no y
  only_conflict ty.Int ty.Int ty.Zero r q x y m n = absurd (cc)
  only_conflict ty.Int ty.Int ty.Int r q x y m n = absurd (cc)
  only_conflict ty.Int ty.Int t r q x y m n = no y
  only_conflict ty.Int s t r q x y m n = no x
  only_conflict ty.LongLo ty.LongLo ty.LongLo r q x y m n = absurd (cc)
  only_conflict ty.LongLo ty.LongLo t r q x y m n = no y
  only_conflict ty.LongLo s t r q x y m n = no x
  only_conflict ty.LongHi ty.LongHi ty.LongHi r q x y m n = absurd (cc)
  only_conflict ty.LongHi ty.LongHi t r q x y m n = no y
  only_conflict ty.LongHi s t r q x y m n = no x
  only_conflict (ty.Class e) ty.Zero ty.Zero r q x y m n = absurd (cc)
  only_conflict (ty.Class e) ty.Zero (ty.Class d) r q x y m n = absurd (cc)
  only_conflict (ty.Class e) ty.Zero t r q x y m n = no y
  only_conflict (ty.Class e) (ty.Class c) ty.Zero r q x y m n = absurd (cc)
  only_conflict (ty.Class e) (ty.Class c) (ty.Class d) r q x y m n = (super_common image h c d r q).least e x y
  only_conflict (ty.Class e) (ty.Class c) t r q x y m n = no y
  only_conflict (ty.Class e) s t r q x y m n = no x
  only_conflict (ty.Uninit a) (ty.Uninit b) (ty.Uninit c) r q x y m n = absurd (let same : nat_eq b c ≡ true = eq-eqb b c (eqb-true b a x ∙ sym (eqb-true c a y)) in cc)
  only_conflict (ty.Uninit a) (ty.Uninit b) t r q x y m n = no y
  only_conflict (ty.Uninit a) s t r q x y m n = no x
  only_conflict ty.UninitThis ty.UninitThis ty.UninitThis r q x y m n = absurd (cc)
  only_conflict ty.UninitThis ty.UninitThis t r q x y m n = no y
  only_conflict ty.UninitThis s t r q x y m n = no x

  classes_first : (s t : RegType) → refers s ≡ true → refers t ≡ true → under image s (join_classes image s t) ≡ true
  classes_first (ty.Class c) (ty.Class d) r q = (super_common image h c d r q).first
  classes_first s t r q = refl

  classes_second : (s t : RegType) → refers s ≡ true → refers t ≡ true → under image t (join_classes image s t) ≡ true
  classes_second (ty.Class c) (ty.Class d) r q = (super_common image h c d r q).second
  classes_second s t r q = refl

  join_by : (s t : RegType) → refers s ≡ true → refers t ≡ true → (a b : Bool) → under image s t ≡ a → under image t s ≡ b → IsTypeJoin image s t (elim a [ true ↦ t | false ↦ elim b [ true ↦ s | false ↦ join_classes image s t ] ])
  join_by s t r q true b m n = record { first = m; second = under_same image ord t; least = λ u x y. y }
  join_by s t r q false true m n = record { first = under_same image ord s; second = n; least = λ u x y. x }
  join_by s t r q false false m n = record { first = classes_first s t r q; second = classes_second s t r q; least = λ u x y. only_conflict u s t r q x y m n }

  join_is : (s t : RegType) → refers s ≡ true → refers t ≡ true → IsTypeJoin image s t (join_type image s t)
  join_is s t r q = join_by s t r q (under image s t) (under image t s) refl refl

  -- ---- registers

  joined_at : (ss ts : Types) (k : ℕ) → length ss ≡ length ts → type_at (joined image ss ts) k ≡ join_type image (type_at ss k) (type_at ts k)
  joined_at [] [] k e = refl
  joined_at [] (t ∷ ts) k e = absurd (omega (arith, e))
  joined_at (s ∷ ss) [] k e = absurd (omega (arith, e))
  joined_at (s ∷ ss) (t ∷ ts) zero e = refl
  joined_at (s ∷ ss) (t ∷ ts) (suc k) e = joined_at ss ts k (omega (arith, e))

  joined_count : (ss ts : Types) → length ss ≡ length ts → length (joined image ss ts) ≡ length ss
  joined_count [] [] e = refl
  joined_count [] (t ∷ ts) e = absurd (omega (arith, e))
  joined_count (s ∷ ss) [] e = absurd (omega (arith, e))
  joined_count (s ∷ ss) (t ∷ ts) e = ap suc (joined_count ss ts (omega (arith, e)))

  past_at : (ts : Types) (k : ℕ) → length ts ≤ k → type_at ts k ≡ ty.Conflict
  past_at [] k l = refl
  past_at (t ∷ ts) zero l = absurd (omega arith)
  past_at (t ∷ ts) (suc k) l = past_at ts k (omega arith)

  refers_at : (ts : Types) (k : ℕ) → All (λ t. refers t ≡ true) ts → refers (type_at ts k) ≡ true
  refers_at ts k all = elim (cases_lt k (length ts)) [ inl l ↦ all k ty.Conflict l | inr l ↦ rw (past_at ts k l) refl ]

  -- ---- pending results

  kept_first : (s t : RegType) (b : Bool) → same_type s t ≡ b → UnderPending (pend.One s) (elim b [ true ↦ pend.One t | false ↦ pend.None ])
  kept_first s t true e = ap pend.One (reg_type_is s t e)
  kept_first s t false e = tt

  kept_second : (t : RegType) (b : Bool) → UnderPending (pend.One t) (elim b [ true ↦ pend.One t | false ↦ pend.None ])
  kept_second t true = refl
  kept_second t false = tt

  result_first : (r q : PendingType) → UnderPending r (join_result r q)
  result_first (pend.One s) (pend.One t) = kept_first s t (same_type s t) refl
  result_first pend.Long pend.Long = refl
  result_first r q = tt

  result_second : (r q : PendingType) → UnderPending q (join_result r q)
  result_second (pend.One s) (pend.One t) = kept_second t (same_type s t)
  result_second pend.Long pend.Long = refl
  result_second r q = tt

  kept_same : (x : RegType) (b : Bool) → b ≡ true → UnderPending (elim b [ true ↦ pend.One x | false ↦ pend.None ]) (pend.One x)
  kept_same x true e = refl
  kept_same x false e = no e

  result_least : (u r q : PendingType) → UnderPending r u → UnderPending q u → UnderPending (join_result r q) u
  result_least pend.None r q x y = tt
  result_least (pend.One t) r q x y =
      subst (λ (z : PendingType). UnderPending (join_result z q) (pend.One t)) (sym x)
      (subst (λ (z : PendingType). UnderPending (join_result (pend.One t) z) (pend.One t)) (sym y) (kept_same t (same_type t t) (reg_type_same t)))
  result_least pend.Long r q x y =
      subst (λ (z : PendingType). UnderPending (join_result z q) pend.Long) (sym x)
      (subst (λ (z : PendingType). UnderPending (join_result pend.Long z) pend.Long) (sym y) refl)

  -- ---- caught types

  caught_first : (c d : Option Ty) → IfSome c (λ t. is_reference t ≡ true) → IfSome d (λ t. is_reference t ≡ true) → UnderCaught image c (join_caught image c d)
  caught_first (Some a) (Some b) r q = (super_common image h a b r q).first
  caught_first c d r q = tt

  caught_second : (c d : Option Ty) → IfSome c (λ t. is_reference t ≡ true) → IfSome d (λ t. is_reference t ≡ true) → UnderCaught image d (join_caught image c d)
  caught_second (Some a) (Some b) r q = (super_common image h a b r q).second
  caught_second c d r q = tt

  caught_least : (u c d : Option Ty) → IfSome c (λ t. is_reference t ≡ true) → IfSome d (λ t. is_reference t ≡ true) → UnderCaught image c u → UnderCaught image d u → UnderCaught image (join_caught image c d) u
  caught_least None c d r q x y = tt
  caught_least (Some e) None d r q x y = absurd x
  caught_least (Some e) (Some a) None r q x y = absurd y
  caught_least (Some e) (Some a) (Some b) r q x y = (super_common image h a b r q).least e x y

  -- ---- states

  either_pending : (a b c : Bool) → (a ≡ true → c ≡ true) → (b ≡ true → c ≡ true) → (a || b) ≡ true → c ≡ true
  either_pending a b c f g e = elim (or_cases a b e) [ inl x ↦ f x | inr y ↦ g y ]

  module _ (s t : RegState) (p : RefersRightly s) (q : RefersRightly t) (e : length s.regs ≡ length t.regs) where
    at : (k : ℕ) → IsTypeJoin image (type_at s.regs k) (type_at t.regs k) (type_at (joined image s.regs t.regs) k)
    at k = subst (λ (z : RegType). IsTypeJoin image (type_at s.regs k) (type_at t.regs k) z) (sym (joined_at s.regs t.regs k e)) (join_is (type_at s.regs k) (type_at t.regs k) (refers_at s.regs k p.regs) (refers_at t.regs k q.regs))

    above_first : IsBelow image s (join_state image s t)
    above_first = record {
      each = λ k. (at k).first;
      count = sym (joined_count s.regs t.regs e);
      result = result_first s.result t.result;
      caught = caught_first s.caught t.caught p.caught q.caught;
      this_pending = λ x. or_left s.this_pending t.this_pending x;
    }

    above_second : IsBelow image t (join_state image s t)
    above_second = record {
      each = λ k. (at k).second;
      count = sym (joined_count s.regs t.regs e ∙ e);
      result = result_second s.result t.result;
      caught = caught_second s.caught t.caught p.caught q.caught;
      this_pending = λ x. or_right s.this_pending t.this_pending x;
    }

    below_each : (u : RegState) → IsBelow image s u → IsBelow image t u → IsBelow image (join_state image s t) u
    below_each u x y = record {
      each = λ k. (at k).least (type_at u.regs k) (x.each k) (y.each k);
      count = joined_count s.regs t.regs e ∙ x.count;
      result = result_least u.result s.result t.result x.result y.result;
      caught = caught_least u.caught s.caught t.caught p.caught q.caught x.caught y.caught;
      this_pending = either_pending s.this_pending t.this_pending u.this_pending x.this_pending y.this_pending;
    }

pub join_is_least : JoinIsLeast
join_is_least image h s t p q e = record { first = above_first image h s t p q e; second = above_second image h s t p q e; least = below_each image h s t p q e }
