-- The greatest register type under two that are above a third, and the same of states.
use Rattle.std.proofs.Common.{◌≡◌, inl, inr, [], ◌∷◌, Bool, true, false, ◌&&◌, None, refl, sym, ◌∙◌, subst}
use Rattle.std.specs.Prelude.{nat_eq}
use Rattle.std.proofs.lemmas.Bool.{eqb-true, eq-eqb, and_parts, and_from}
use Rattle.dv_defs.specs.Images.{Image}
use Rattle.dv_typing.specs.declared.typing.RegType.{RegType}
use Rattle.dv_typing.specs.declared.typing.RegType.TheVariants as ty
use Rattle.dv_typing.specs.declared.typing.PendingType.TheVariants as pend
use Rattle.dv_typing.specs.declared.typing.RegState.{RegState}
use Rattle.dv_typing.specs.RegTypes.{Types, under, IsBelow}
use Rattle.dv_typing.specs.Flow.{Catcher, caught_state}
use Rattle.dv_types.specs.Under.{regs_under}
use Rattle.dv_types.proofs.Below.{regs_each, regs_count, regs_from}
use Rattle.law_types.specs.Hierarchy.{IsHierarchy, IsOrder}
use Rattle.law_types.proofs.Laws.{types_are_ordered}
use Rattle.law_types.proofs.States.{under_same}
use Rattle.law_gather.specs.Gathered.{handed}
use Rattle.law_gather.proofs.Chains.{types_chain}

abbrev pub met_type : Image → RegType → RegType → RegType
met_type image u t = elim (under image u t) [ true ↦ u | false ↦ elim (under image t u) [ true ↦ t | false ↦ ty.Zero ] ]

abbrev pub met : Image → Types → Types → Types
met image (u ∷ us) (t ∷ ts) = met_type image u t ∷ met image us ts
met image us ts = []

abbrev pub met_state : Image → RegState → RegState → RegState
met_state image t u = record { regs = met image t.regs u.regs; result = pend.None; caught = None; this_pending = t.this_pending && u.this_pending }

module _ (image : Image) (h : IsHierarchy image) where
  ord : IsOrder image
  ord = types_are_ordered image h

  -- ---- register types

  -- under two of which none is under the other is Zero alone
  only_zero : (u t s : RegType) → under image s u ≡ true → under image s t ≡ true → under image u t ≡ false → under image t u ≡ false → s ≡ ty.Zero
  only_zero u t ty.Zero x y m n = refl
  only_zero ty.Conflict t s x y m n = absurd (cc)
  only_zero u ty.Conflict s x y m n = absurd (cc)
  only_zero (ty.Class a) (ty.Class b) (ty.Class c) x y m n = elim (types_chain image h c a b x y) [ inl r ↦ absurd (cc) | inr r ↦ absurd (cc) ]
  only_zero (ty.Uninit a) (ty.Uninit b) (ty.Uninit c) x y m n = absurd (let same : nat_eq a b ≡ true = eq-eqb a b (sym (eqb-true c a x) ∙ eqb-true c b y) in cc)
  only_zero u t s x y m n = absurd (cc)

  -- under both, and above what is
  abbrev IsMet : RegType → RegType → RegType → RegType → Type 0
  IsMet s u t m = (under image m u ≡ true) × (under image m t ≡ true) × (under image s m ≡ true)

  met_by : (s u t : RegType) → under image s u ≡ true → under image s t ≡ true → (a b : Bool) → under image u t ≡ a → under image t u ≡ b →
      IsMet s u t (elim a [ true ↦ u | false ↦ elim b [ true ↦ t | false ↦ ty.Zero ] ])
  met_by s u t x y true b m n = (under_same image ord u, m, x)
  met_by s u t x y false true m n = (n, under_same image ord t, y)
  met_by s u t x y false false m n =
      let z = only_zero u t s x y m n in
      subst (λ (w : RegType). IsMet s u t w) z (x, y, under_same image ord s)

  met_is : (s u t : RegType) → under image s u ≡ true → under image s t ≡ true → IsMet s u t (met_type image u t)
  met_is s u t x y = met_by s u t x y (under image u t) (under image t u) refl refl

  -- ---- registers

  regs_met : (ss us ts : Types) → regs_under image ss us ≡ true → regs_under image ss ts ≡ true →
      (regs_under image (met image us ts) us ≡ true) × (regs_under image (met image us ts) ts ≡ true) × (regs_under image ss (met image us ts) ≡ true)
  regs_met [] [] [] x y = (refl, refl, refl)
  regs_met (s ∷ ss) (u ∷ us) (t ∷ ts) x y =
      let p = and_parts (under image s u) (regs_under image ss us) x in
      let q = and_parts (under image s t) (regs_under image ss ts) y in
      let m = met_type image u t in
      let one = met_is s u t p.0 q.0 in
      let rest = regs_met ss us ts p.1 q.1 in (
        and_from (under image m u) (regs_under image (met image us ts) us) one.0 rest.0,
        and_from (under image m t) (regs_under image (met image us ts) ts) one.1 rest.1,
        and_from (under image s m) (regs_under image ss (met image us ts)) one.2 rest.2,
      )
  regs_met ss us ts x y = absurd (cc)

  -- ---- states

  -- with what is caught it is under the one, and it is under the other, and above what is
  pub record IsMetState (s t u m : RegState) (c : Catcher) : Type 0 where
    pub first : IsBelow image (caught_state m c) t
    pub second : IsBelow image m u
    pub greatest : IsBelow image (handed s) m

  pub states_met : (s t u : RegState) (c : Catcher) → IsBelow image (caught_state s c) t → IsBelow image (handed s) u → IsMetState s t u (met_state image t u) c
  states_met s t u c x y =
      let ms = met image t.regs u.regs in
      let r = regs_met s.regs t.regs u.regs (regs_from image s.regs t.regs x.count x.each) (regs_from image s.regs u.regs y.count y.each) in
      record {
        first = record { each = regs_each image ms t.regs r.0; count = regs_count image ms t.regs r.0; result = x.result; caught = x.caught; this_pending = λ e. (and_parts t.this_pending u.this_pending e).0 };
        second = record { each = regs_each image ms u.regs r.1; count = regs_count image ms u.regs r.1; result = y.result; caught = y.caught; this_pending = λ e. (and_parts t.this_pending u.this_pending e).1 };
        greatest = record { each = regs_each image s.regs ms r.2; count = regs_count image s.regs ms r.2; result = tt; caught = tt; this_pending = λ e. and_from t.this_pending u.this_pending (x.this_pending e) (y.this_pending e) };
      }
