-- A walk up that writes down what is known.
use Rattle.std.proofs.Common.{◌≡◌, ◌≢◌, ◌⊎◌, inl, inr, ⊎_elim, ◌<◌, ℕ, Bool, true, false, List, length, set, Option, Some, None, refl, sym, ap, ◌∙◌}
use Rattle.std.specs.Prelude.{is_some, nat_eq}
use Rattle.std.proofs.lemmas.Bool.{eqb-true, eq-eqb}
use Rattle.std.proofs.lemmas.List.{get_or-set_other, get_or-set_same}
use Rattle.dv_defs.specs.Images.{Image}
use Rattle.dv_defs.specs.Pools.{parent_at}
use Rattle.dv_clinit.specs.declared.states.State.{State}
use Rattle.dv_clinit.specs.Births.{IsWrittenUp, is_known_at}

-- ---- one class

module _ (known : List (Option State)) (at : ℕ) (s : State) where
  self_known : at < length known → is_known_at (set known at (Some s)) at ≡ true
  self_known within = ap is_some (get_or-set_same known at (Some s) None within)

  other_same : (c : ℕ) → c ≢ at → is_known_at (set known at (Some s)) c ≡ is_known_at known c
  other_same c other = ap is_some (get_or-set_other known at c (Some s) None other)

  by_place : (c : ℕ) → (c ≡ at) ⊎ (c ≢ at)
  by_place c = by (nat_eq c at) refl
    where
      by : (b : Bool) → nat_eq c at ≡ b → (c ≡ at) ⊎ (c ≢ at)
      by true test = inl (eqb-true c at test)
      by false test = inr (λ same. let equal : nat_eq c at ≡ true = eq-eqb c at same in cc)

  at_known : at < length known → (c : ℕ) → c ≡ at → is_known_at (set known at (Some s)) c ≡ true
  at_known within c same = ap (is_known_at (set known at (Some s))) same ∙ self_known within

  still_known : at < length known → (c : ℕ) → is_known_at known c ≡ true → is_known_at (set known at (Some s)) c ≡ true
  still_known within c was = ⊎_elim (λ same. at_known within c same) (λ other. other_same c other ∙ was) (by_place c)

  new_or_old : (c : ℕ) → is_known_at (set known at (Some s)) c ≡ true → (c ≡ at) ⊎ (is_known_at known c ≡ true)
  new_or_old c now = ⊎_elim (λ same. inl same) (λ other. inr (sym (other_same c other) ∙ now)) (by_place c)

-- ---- the walk

-- all is written down but for the class where the walk stands
pub record IsOnTheWay (image : Image) (before after : List (Option State)) (class at : ℕ) : Type 0 where
  pub here : (is_known_at after class ≡ true) ⊎ (class ≡ at)
  pub above : (c p : ℕ) → is_known_at before c ≡ false → is_known_at after c ≡ true → parent_at image c ≡ Some p → (is_known_at after p ≡ true) ⊎ (p ≡ at)

pub way_on : (image : Image) (before after : List (Option State)) (class at q : ℕ) (s : State) → at < length after → parent_at image at ≡ Some q
    → IsOnTheWay image before after class at → IsOnTheWay image before (set after at (Some s)) class q
way_on image before after class at q s within up way =
    record {
      here = inl (⊎_elim (λ was. still_known after at s within class was) (λ same. at_known after at s within class same) way.here);
      above = λ c p unknown now parent.
          ⊎_elim
          (λ same. inr (let both : Some p ≡ Some q = sym parent ∙ (ap (parent_at image) same ∙ up) in cc))
          (λ was. inl (⊎_elim (λ known. still_known after at s within p known) (λ here. at_known after at s within p here) (way.above c p unknown was parent)))
          (new_or_old after at s c now);
    }

pub way_top : (image : Image) (before after : List (Option State)) (class at : ℕ) (s : State) → at < length after → parent_at image at ≡ None
    → IsOnTheWay image before after class at → IsWrittenUp image before (set after at (Some s)) class
way_top image before after class at s within top way =
    record {
      here = ⊎_elim (λ was. still_known after at s within class was) (λ same. at_known after at s within class same) way.here;
      above = λ c p unknown now parent.
          ⊎_elim
          (λ same. absurd (let both : None ≡ Some p = sym top ∙ (ap (parent_at image) (sym same) ∙ parent) in cc))
          (λ was. ⊎_elim (λ known. still_known after at s within p known) (λ here. at_known after at s within p here) (way.above c p unknown was parent))
          (new_or_old after at s c now);
    }
