-- A closed assignment of the flow from head to head, filled in between, is closed where it gathers, and fits there.
use Rattle.std.specs.Prelude.{nat_lt}
use Rattle.std.proofs.Common.{◌≡◌, ℕ, zero, suc, ◌+◌, ◌<◌, ◌≤◌, List, ◌++◌, length, Bool, true, false, Option, Some, None, refl, ap, sym, ◌∙◌, subst, arith}
use Rattle.dv_worklist.specs.Flow.{Onward, Assignment, AllFit, HasAbove, IsClosed, IsLawful}
use Rattle.dv_typing.specs.declared.typing.RegState.{RegState}
use Rattle.dv_defs.specs.Images.{Image}
use Rattle.dv_defs.specs.Op.{Code}
use Rattle.dv_typing.specs.Statics.{At, fetch}
use Rattle.dv_typing.specs.Flow.{targets}
use Rattle.law_infer.specs.Flowing.{goes_to, rank_of, top_of, IsReady}
use Rattle.law_gather.specs.Gathered.{addresses, covering_entry, hands_on, onward_by, onward_gathered, gathered_flow, fits_gathered}
use Rattle.law_gather.proofs.Lawful.{gathered_flows_are_lawful}
use Rattle.law_blocks.specs.Blocks.{Before, AreBefore, is_before, onward_through, onward_blocks, blocks_flow, fits_blocks, state_after}
use Rattle.law_blocks.proofs.Each.{Each, each_nil, each_left, each_right, each_both, each_of}
use Rattle.law_blocks.proofs.Through.{before_to, after, ending, insn_through, caught_from, blocks_inside, blocks_past, gathered_inside, gathered_past, inside, is_inside, past_none, on_straight, straight, straight_alone, leads_to_heads, follows, hands_to_heads, caught_to_heads}
use Rattle.law_blocks.proofs.Filled.{IsFilled, step_is, by_blocks}

module _ (image : Image) (code : Code) (before : Before) (ready : IsReady image code) (are : AreBefore image code before) (a c : Assignment RegState) (f : IsFilled image code before a c) where
  law : IsLawful (gathered_flow image code) (fits_gathered image code) (rank_of image code) (top_of image code)
  law = gathered_flows_are_lawful image code ready

  -- ---- it fits

  abbrev Goes : Onward RegState → Type 0
  Goes o = fits_gathered image code o.to o.state × (o.to < addresses code + length code.body.tries)

  pub all_fit : AllFit (fits_blocks image code before) a → AllFit (fits_gathered image code) c
  all_fit fits =
      by_blocks image code before are a c f (fits_gathered image code)
      (λ at s q e. (fits at s e).0)
      (λ p at x t e q is fit. (on_straight image code before ready are Goes p at x t e q (law.onward_fits p t fit)).0)

  -- ---- it is closed

  module _ (closed : IsClosed (blocks_flow image code before) a) where
    abbrev Low : Onward RegState → Type 0
    Low o = HasAbove (blocks_flow image code before) a o.to o.state

    abbrev Above : Onward RegState → Type 0
    Above o = HasAbove (gathered_flow image code) c o.to o.state

    abbrev Heads : List (Onward RegState) → Type 0
    Heads os = Each (λ o. before o.to ≡ None) os

    moved : (o : Onward RegState) → before o.to ≡ None → Low o → Above o
    moved o q has = record { state = has.state; there = f.head o.to q ∙ has.there; above = has.above }

    all_moved : (os : List (Onward RegState)) → Heads os → Each Low os → Each Above os
    all_moved os heads lows k o there = moved o (heads k o there) (lows k o there)

    -- what goes on from here to the end of straight code arrives
    record IsPassed (at : ℕ) (s : RegState) : Type 0 where
      left : ℕ
      enough : addresses code ≤ at + left
      each : Each Low (onward_through image code before left at s)

    abbrev Passed : ℕ → RegState → Type 0
    Passed at s = nat_lt at (addresses code) ≡ true → IsPassed at s

    at_head : (at : ℕ) (s : RegState) → before at ≡ None → a at ≡ Some s → Passed at s
    at_head at s q e l = record {
      left = addresses code;
      enough = omega arith;
      each = each_of Low (onward_blocks image code before at s) (onward_through image code before (addresses code) at s) (blocks_inside image code before at s l) (closed.arrives at s e);
    }

    onward_parts : (n at : ℕ) (s : RegState) (x : At) → fetch image code.method.id at ≡ Some x → (b : Bool) → is_before at (before x.next) ≡ b → Each Low (onward_through image code before (suc n) at s) →
        Each Low (hands_on code s (covering_entry code at x) ++ ending image code before n at s x b)
    onward_parts n at s x e b q each =
        each_of Low (onward_through image code before (suc n) at s) (hands_on code s (covering_entry code at x) ++ ending image code before n at s x b) (insn_through image code before n at s x e b q) each

    next_by : (n p at : ℕ) (x : At) (t : RegState) → fetch image code.method.id p ≡ Some x → before at ≡ Some p → addresses code ≤ p + n → Each Low (onward_through image code before n p t) → IsPassed at (after image code before p t x)
    next_by zero p at x t e q enough each = absurd (let l = inside image code before ready are p x e in omega (arith, enough, l))
    next_by (suc n) p at x t e q enough each =
        let (next, only, leads) = straight image code before ready are p at x e q in
        let hands : List (Onward RegState) = hands_on code t (covering_entry code p x) in
        let r = (are.straight p at q).rises in
        let on : is_before p (before x.next) ≡ true = before_to p (before x.next) (ap before next ∙ q) in
        let rest : Each Low (onward_through image code before n x.next (after image code before p t x)) = each_right Low hands (onward_through image code before n x.next (after image code before p t x)) (onward_parts n p t x e true on each) in
        record { left = n; enough = omega (arith, enough, r); each = subst (λ (z : ℕ). Each Low (onward_through image code before n z (after image code before p t x))) next rest }

    passed : (at : ℕ) (s : RegState) → c at ≡ Some s → Passed at s
    passed = by_blocks image code before are a c f Passed at_head
        (λ p at x t e q is ih l. (let r = ih (is_inside image code before ready are p x e) in next_by r.left p at x t e q r.enough r.each))

    -- from an instruction
    goes_by : (n at : ℕ) (s : RegState) (x : At) → fetch image code.method.id at ≡ Some x → c at ≡ Some s → (b : Bool) → is_before at (before x.next) ≡ b → Each Low (ending image code before n at s x b) → Each Above (goes_to code (after image code before at s x) (targets x))
    goes_by n at s x e is true q each =
        let there = follows image code before ready are at x q in
        let s2 : RegState = after image code before at s x in
        straight_alone image code before ready are Above at x.next x s e there
        (record { state = s2; there = step_is image code before are a c f at x.next x e there ∙ ap (state_after image code at (Some x)) is; above = law.order.same s2 })
    goes_by n at s x e is false q each = all_moved (goes_to code (after image code before at s x) (targets x)) (leads_to_heads image code before ready are at x (after image code before at s x) e q) each

    insn_by : (n at : ℕ) (s : RegState) (x : At) → fetch image code.method.id at ≡ Some x → c at ≡ Some s → addresses code ≤ at + n → Each Low (onward_through image code before n at s) → Each Above (onward_by image code at s (Some x))
    insn_by zero at s x e is enough each = absurd (let l = inside image code before ready are at x e in omega (arith, enough, l))
    insn_by (suc n) at s x e is enough each =
        let b : Bool = is_before at (before x.next) in
        let hands : List (Onward RegState) = hands_on code s (covering_entry code at x) in
        let parts = onward_parts n at s x e b refl each in
        each_both Above (goes_to code (after image code before at s x) (targets x)) hands
        (goes_by n at s x e is b refl (each_right Low hands (ending image code before n at s x b) parts))
        (all_moved hands (hands_to_heads image code before ready are s (covering_entry code at x)) (each_left Low hands (ending image code before n at s x b) parts))

    fetched_by : (at : ℕ) (s : RegState) → c at ≡ Some s → IsPassed at s → (o : Option At) → fetch image code.method.id at ≡ o → Each Above (onward_by image code at s o)
    fetched_by at s is p None e = each_nil Above
    fetched_by at s is p (Some x) e = insn_by p.left at s x e is p.enough p.each

    -- from a place
    arrives : (at : ℕ) (s : RegState) → c at ≡ Some s → (b : Bool) → nat_lt at (addresses code) ≡ b → Each Above (onward_gathered image code at s)
    arrives at s is true l =
        each_of Above (onward_by image code at s (fetch image code.method.id at)) (onward_gathered image code at s) (sym (gathered_inside image code before at s l))
        (fetched_by at s is (passed at s is l) (fetch image code.method.id at) refl)
    arrives at s is false l =
        let here : a at ≡ Some s = sym (f.head at (past_none image code before ready are at l)) ∙ is in
        each_of Above (caught_from image code before at s) (onward_gathered image code at s) (sym (gathered_past image code before at s l))
        (all_moved (caught_from image code before at s) (caught_to_heads image code before ready are at s)
        (each_of Low (onward_blocks image code before at s) (caught_from image code before at s) (blocks_past image code before at s l) (closed.arrives at s here)))

    pub closed_filled : IsClosed (gathered_flow image code) c
    closed_filled = record {
      entry = moved (record { to = 0; state = (gathered_flow image code).entry }) are.entry closed.entry;
      arrives = λ at s is. arrives at s is (nat_lt at (addresses code)) refl;
    }
