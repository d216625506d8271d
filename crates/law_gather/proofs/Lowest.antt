-- The greatest state that, with what is caught, is under the state of each handler.
use Rattle.std.specs.Prelude.{slice_get, nat_eq}
use Rattle.std.proofs.Common.{◌≡◌, ℕ, zero, suc, List, [], ◌∷◌, length, replicate, Bool, true, false, ◌&&◌, Option, Some, None, refl, ap, sym, ◌∙◌, subst}
use Rattle.std.proofs.lemmas.Bool.{and_parts, and_from, eqb-true, eq-eqb}
use Rattle.std.proofs.lemmas.Option.{same_Some}
use Rattle.dv_worklist.specs.Flow.{Assignment}
use Rattle.dv_typing.specs.declared.typing.RegType.TheVariants as ty
use Rattle.dv_typing.specs.declared.typing.PendingType.TheVariants as pend
use Rattle.dv_typing.specs.declared.typing.RegState.{RegState}
use Rattle.dv_defs.specs.Images.{Image}
use Rattle.dv_typing.specs.RegTypes.{type_at, IsBelow}
use Rattle.dv_typing.specs.Flow.{Catcher, caught_state}
use Rattle.dv_types.specs.Under.{state_under}
use Rattle.dv_types.proofs.Below.{below_from, below_to}
use Rattle.law_types.specs.Hierarchy.{IsHierarchy}
use Rattle.law_types.proofs.States.{states_are_ordered}
use Rattle.law_gather.specs.Gathered.{handed}
use Rattle.law_gather.proofs.Lawful.{caught_below}
use Rattle.law_gather.proofs.Meets.{met_state, states_met}

-- ---- states of so many registers

-- the state above all of them
abbrev pub top_state : ℕ → RegState
top_state n = record { regs = replicate n ty.Conflict; result = pend.None; caught = None; this_pending = true }

conflict_at : (n k : ℕ) → type_at (replicate n ty.Conflict) k ≡ ty.Conflict
conflict_at zero k = refl
conflict_at (suc n) zero = refl
conflict_at (suc n) (suc k) = conflict_at n k

count_of : (n : ℕ) → length (replicate n ty.Conflict) ≡ n
count_of zero = refl
count_of (suc n) = ap suc (count_of n)

pub below_top : (image : Image) (n : ℕ) (s : RegState) → length s.regs ≡ n → IsBelow image s (top_state n)
below_top image n s e = record {
  each = λ k. rw (conflict_at n k) refl;
  count = e ∙ sym (count_of n);
  result = tt;
  caught = tt;
  this_pending = λ t. refl;
}

-- the state, if it is one of them
abbrev pub if_full : ℕ → Option RegState → Option RegState
if_full n None = None
if_full n (Some s) = elim (nat_eq (length s.regs) n) [ true ↦ Some s | false ↦ None ]

pub full_from : (n : ℕ) (o : Option RegState) (s : RegState) → if_full n o ≡ Some s → (o ≡ Some s) × (length s.regs ≡ n)
full_from n None s e = absurd (cc)
full_from n (Some t) s e = by_count (nat_eq (length t.regs) n) refl e
  where
    by_count : (b : Bool) → nat_eq (length t.regs) n ≡ b → elim b as (λ w. Option RegState) [ true ↦ Some t | false ↦ None ] ≡ Some s → (Some t ≡ Some s) × (length s.regs ≡ n)
    by_count true q r = (r, ap (λ (z : RegState). length z.regs) (sym (same_Some t s r)) ∙ eqb-true (length t.regs) n q)
    by_count false q r = absurd (cc)

pub full_to : (n : ℕ) (o : Option RegState) (s : RegState) → o ≡ Some s → length s.regs ≡ n → if_full n o ≡ Some s
full_to n o s e l =
    let full : nat_eq (length s.regs) n ≡ true = eq-eqb (length s.regs) n l in
    ap (if_full n) e ∙ ap (λ (b : Bool). elim b as (λ w. Option RegState) [ true ↦ Some s | false ↦ None ]) full

module _ (image : Image) (h : IsHierarchy image) (registers : ℕ) (b : Assignment RegState) where
  trans : (s t u : RegState) → IsBelow image s t → IsBelow image t u → IsBelow image s u
  trans = (states_are_ordered image h).trans

  -- ---- under one handler more

  -- under the state of the handler, with what it catches, and under the other
  abbrev is_lower : Catcher → RegState → RegState → RegState → Bool
  is_lower c t u m = state_under image (caught_state m c) t && state_under image m u

  abbrev lower_by : RegState → Bool → Option RegState
  lower_by m b = elim b as (λ w. Option RegState) [ true ↦ Some m | false ↦ None ]

  abbrev lower : Catcher → Option RegState → Option RegState → Option RegState
  lower c (Some t) (Some u) = lower_by (met_state image t u) (is_lower c t u (met_state image t u))
  lower c o p = None

  record IsLower (c : Catcher) (o p : Option RegState) (m : RegState) : Type 0 where
    handler : RegState
    has_handler : o ≡ Some handler
    other : RegState
    has_other : p ≡ Some other
    first : IsBelow image (caught_state m c) handler
    second : IsBelow image m other

  lower_if : (c : Catcher) (t u n m : RegState) (w : Bool) → is_lower c t u n ≡ w → lower_by n w ≡ Some m → IsLower c (Some t) (Some u) m
  lower_if c t u n m true q e =
      let same : n ≡ m = same_Some n m e in
      let r = and_parts (state_under image (caught_state n c) t) (state_under image n u) q in
      subst (λ (z : RegState). IsLower c (Some t) (Some u) z) same
      (record { handler = t; has_handler = refl; other = u; has_other = refl; first = below_from image (caught_state n c) t r.0; second = below_from image n u r.1 })
  lower_if c t u n m false q e = absurd (cc)

  lower_is : (c : Catcher) (o p : Option RegState) (m : RegState) → lower c o p ≡ Some m → IsLower c o p m
  lower_is c (Some t) (Some u) m e = lower_if c t u (met_state image t u) m (is_lower c t u (met_state image t u)) refl e
  lower_is c None p m e = absurd (cc)
  lower_is c (Some t) None m e = absurd (cc)

  is_found : (s t u : RegState) (c : Catcher) (o p : Option RegState) → o ≡ Some t → p ≡ Some u → IsBelow image (caught_state s c) t → IsBelow image (handed s) u →
      (m : RegState) × (lower c o p ≡ Some m) × IsBelow image (handed s) m
  is_found s t u c o p x y low high =
      let m = met_state image t u in
      let r = states_met image h s t u c low high in
      let passes : is_lower c t u m ≡ true = and_from (state_under image (caught_state m c) t) (state_under image m u) (below_to image (caught_state m c) t r.first) (below_to image m u r.second) in
      (m, ap (λ (z : Option RegState). lower c z p) x ∙ (ap (λ (z : Option RegState). lower c (Some t) z) y ∙ ap (lower_by m) passes), r.greatest)

  -- ---- under all handlers

  pub record IsOver (s : RegState) (c : Catcher) : Type 0 where
    pub state : RegState
    pub there : b c.to ≡ Some state
    pub above : IsBelow image (caught_state s c) state

  abbrev pub lowest : List Catcher → Option RegState
  lowest [] = Some (top_state registers)
  lowest (c ∷ cs) = lower c (b c.to) (lowest cs)

  -- with what is caught it is under each handler's
  pub lowest_is : (cs : List Catcher) (m : RegState) → lowest cs ≡ Some m → (i : ℕ) (c : Catcher) → slice_get cs i ≡ Some c → IsOver m c
  lowest_is [] m e i c q = absurd (cc)
  lowest_is (a ∷ cs) m e zero c q =
      let r = lower_is a (b a.to) (lowest cs) m e in
      subst (λ (z : Catcher). IsOver m z) (same_Some a c q) (record { state = r.handler; there = r.has_handler; above = r.first })
  lowest_is (a ∷ cs) m e (suc i) c q =
      let r = lower_is a (b a.to) (lowest cs) m e in
      let rest = lowest_is cs r.other r.has_other i c q in
      record { state = rest.state; there = rest.there; above = trans (caught_state m c) (caught_state r.other c) rest.state (caught_below image h m r.other r.second c) rest.above }

  -- and it is above each that is
  pub is_lowest : (s : RegState) → length s.regs ≡ registers → (cs : List Catcher) → ((i : ℕ) (c : Catcher) → slice_get cs i ≡ Some c → IsOver s c) →
      (m : RegState) × (lowest cs ≡ Some m) × IsBelow image (handed s) m
  is_lowest s l [] each = (top_state registers, refl, below_top image registers (handed s) l)
  is_lowest s l (a ∷ cs) each =
      let here = each 0 a refl in
      let (u, is, low) = is_lowest s l cs (λ i c q. each (suc i) c q) in
      is_found s here.state u a (b a.to) (lowest cs) here.there is here.above low
