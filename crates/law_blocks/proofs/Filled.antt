-- States filled in between heads.
use Rattle.std.proofs.Common.{◌≡◌, ℕ, zero, suc, ◌<◌, Option, Some, None, refl, ap, sym, ◌∙◌, subst, arith}
use Rattle.std.proofs.lemmas.Option.{same_Some}
use Rattle.dv_worklist.specs.Flow.{Assignment}
use Rattle.dv_typing.specs.declared.typing.RegState.{RegState}
use Rattle.dv_defs.specs.Images.{Image}
use Rattle.dv_defs.specs.Op.{Code}
use Rattle.dv_typing.specs.Statics.{At, fetch}
use Rattle.dv_typing.specs.Transfer.{out}
use Rattle.law_blocks.specs.Blocks.{Before, AreBefore, state_after, filled_by, filled}

-- a head has the state assigned, and each other the state after the address before
pub record IsFilled (image : Image) (code : Code) (before : Before) (a c : Assignment RegState) : Type 0 where
  pub head : (at : ℕ) → before at ≡ None → c at ≡ a at
  pub step : (at to : ℕ) → before to ≡ Some at → c to ≡ state_after image code at (fetch image code.method.id at) (c at)

module _ (image : Image) (code : Code) (before : Before) (are : AreBefore image code before) (a : Assignment RegState) where
  abbrev fill : ℕ → ℕ → Option RegState
  fill n at = filled_by image code before a n at

  abbrev fill_from : ℕ → ℕ → Option ℕ → Option RegState
  fill_from n at o = elim o as (λ w. Option RegState) [ None ↦ a at | Some p ↦ state_after image code p (fetch image code.method.id p) (fill n p) ]

  -- enough steps are enough
  stable_by : (n m at : ℕ) → at < suc n → at < suc m → ((p : ℕ) → p < n → p < m → fill n p ≡ fill m p) → (o : Option ℕ) → before at ≡ o → fill_from n at o ≡ fill_from m at o
  stable_by n m at l k later None e = refl
  stable_by n m at l k later (Some p) e =
      let r = (are.straight p at e).rises in
      ap (state_after image code p (fetch image code.method.id p)) (later p (omega (arith, l, r)) (omega (arith, k, r)))

  stable : (n m at : ℕ) → at < n → at < m → fill n at ≡ fill m at
  stable zero m at l k = absurd (omega (arith, l))
  stable (suc n) zero at l k = absurd (omega (arith, k))
  stable (suc n) (suc m) at l k = stable_by n m at l k (stable n m) (before at) refl

  filled_head : (at : ℕ) → before at ≡ None → filled image code before a at ≡ a at
  filled_head at e = ap (fill_from at at) e

  filled_step : (at to : ℕ) → before to ≡ Some at → filled image code before a to ≡ state_after image code at (fetch image code.method.id at) (filled image code before a at)
  filled_step at to e =
      let r = (are.straight at to e).rises in
      ap (fill_from to to) e ∙ ap (state_after image code at (fetch image code.method.id at)) (stable to (suc at) at r (omega arith))

  pub filled_from : (c : Assignment RegState) → ((at : ℕ) → c at ≡ filled image code before a at) → IsFilled image code before a c
  filled_from c is = record {
    head = λ at e. is at ∙ filled_head at e;
    step = λ at to e. is to ∙ (filled_step at to e ∙ ap (state_after image code at (fetch image code.method.id at)) (sym (is at)));
  }

  module _ (c : Assignment RegState) (f : IsFilled image code before a c) where
    -- so it is what is filled in
    to_by : (n at : ℕ) → at < suc n → ((p : ℕ) → p < n → c p ≡ filled image code before a p) → (o : Option ℕ) → before at ≡ o → c at ≡ filled image code before a at
    to_by n at l later None e = f.head at e ∙ sym (filled_head at e)
    to_by n at l later (Some p) e =
        let r = (are.straight p at e).rises in
        f.step p at e ∙ (ap (state_after image code p (fetch image code.method.id p)) (later p (omega (arith, l, r))) ∙ sym (filled_step p at e))

    to_within : (n at : ℕ) → at < n → c at ≡ filled image code before a at
    to_within zero at l = absurd (omega (arith, l))
    to_within (suc n) at l = to_by n at l (to_within n) (before at) refl

    pub filled_to : (at : ℕ) → c at ≡ filled image code before a at
    filled_to at = to_within (suc at) at (omega arith)

    -- ---- what holds of the states of heads, and from one to the next

    pub step_is : (at to : ℕ) (x : At) → fetch image code.method.id at ≡ Some x → before to ≡ Some at → c to ≡ state_after image code at (Some x) (c at)
    step_is at to x e q = f.step at to q ∙ ap (λ (z : Option At). state_after image code at z (c at)) e

    module _ (P : ℕ → RegState → Type 0)
        (heads : (at : ℕ) (s : RegState) → before at ≡ None → a at ≡ Some s → P at s)
        (steps : (p at : ℕ) (x : At) (t : RegState) → fetch image code.method.id p ≡ Some x → before at ≡ Some p → c p ≡ Some t → P p t → P at (out image code.method p x.op t)) where
      from_state : (p at : ℕ) (x : At) (s : RegState) → fetch image code.method.id p ≡ Some x → before at ≡ Some p → ((t : RegState) → c p ≡ Some t → P p t) →
          (o : Option RegState) → c p ≡ o → state_after image code p (Some x) o ≡ Some s → P at s
      from_state p at x s e q later None is r = absurd (cc)
      from_state p at x s e q later (Some t) is r = subst (P at) (same_Some (out image code.method p x.op t) s r) (steps p at x t e q is (later t is))

      from_before : (n at : ℕ) (s : RegState) → at < suc n → c at ≡ Some s → ((p : ℕ) (t : RegState) → p < n → c p ≡ Some t → P p t) → (o : Option ℕ) → before at ≡ o → P at s
      from_before n at s l e later None q = heads at s q (sym (f.head at q) ∙ e)
      from_before n at s l e later (Some p) q =
          let g = are.straight p at q in
          let r = g.rises in
          from_state p at g.insn s g.fetched q (λ t is. later p t (omega (arith, l, r)) is) (c p) refl (sym (step_is p at g.insn g.fetched q) ∙ e)

      all_within : (n at : ℕ) (s : RegState) → at < n → c at ≡ Some s → P at s
      all_within zero at s l e = absurd (omega (arith, l))
      all_within (suc n) at s l e = from_before n at s l e (all_within n) (before at) refl

      pub by_blocks : (at : ℕ) (s : RegState) → c at ≡ Some s → P at s
      by_blocks at s e = all_within (suc at) at s (omega arith) e
