-- The flow from head to head is lawful.
use Rattle.std.specs.Prelude.{nat_lt, filter}
use Rattle.std.proofs.Common.{◌≡◌, ℕ, zero, suc, ◌+◌, ◌<◌, List, [], ◌++◌, length, Bool, true, false, Option, Some, None, refl, sym, ◌∙◌, subst}
use Rattle.dv_worklist.specs.Flow.{Onward, IsJoinOrder, IsLawful, IsMonotone}
use Rattle.dv_typing.specs.declared.typing.RegState.{RegState}
use Rattle.dv_defs.specs.Images.{Image}
use Rattle.dv_defs.specs.Op.{Code}
use Rattle.dv_defs.specs.Tiling.{begins_insn}
use Rattle.dv_typing.specs.Statics.{At, fetch}
use Rattle.dv_typing.specs.Flow.{targets}
use Rattle.dv_types.specs.Under.{state_under}
use Rattle.law_infer.specs.Flowing.{goes_to, rank_of, top_of, IsReady}
use Rattle.law_gather.specs.Gathered.{addresses, covering_entry, handed, hands_on, onward_gathered, gathered_flow, fits_gathered}
use Rattle.law_gather.proofs.Lawful.{gathered_flows_are_lawful}
use Rattle.law_blocks.specs.Blocks.{Before, AreBefore, is_before, onward_through, onward_blocks, blocks_flow, fits_blocks}
use Rattle.law_blocks.specs.Laws.{BlockFlowsAreLawful}
use Rattle.law_blocks.proofs.Each.{Each, each_nil, each_left, each_right, each_both, each_of, Rises, rises_nil, rises_cons, rises_map}
use Rattle.law_blocks.proofs.Through.{after, ending, through_from, caught_from, blocks_inside, blocks_past, gathered_past, insn_gathered, on_straight, leads_to_heads, follows, hands_to_heads, caught_to_heads}
use Rattle.law_blocks.proofs.Least.{after_under, handed_under}

module _ (image : Image) (code : Code) (before : Before) (ready : IsReady image code) (are : AreBefore image code before) where
  base : IsLawful (gathered_flow image code) (fits_gathered image code) (rank_of image code) (top_of image code)
  base = gathered_flows_are_lawful image code ready

  order : IsJoinOrder (blocks_flow image code before) (fits_blocks image code before) (rank_of image code)
  order = record {
    same = base.order.same;
    trans = base.order.trans;
    first = λ place s t f g. base.order.first place s t f.0 g.0;
    second = λ place s t f g. base.order.second place s t f.0 g.0;
    lowest = λ place s t u f g x y. base.order.lowest place s t u f.0 g.0 x y;
    joined = λ place s t f g. (base.order.joined place s t f.0 g.0, f.1);
    near = λ place s t f g x. base.order.near place s t f.0 g.0 x;
  }

  -- ---- what goes on rises

  abbrev Rising : List (Onward RegState) → List (Onward RegState) → Type 0
  Rising xs ys = Rises (state_under image) xs ys

  hands_then : (s t : RegState) → state_under image s t ≡ true → (c : Option ℕ) (xs ys : List (Onward RegState)) → Rising xs ys → Rising (hands_on code s c ++ xs) (hands_on code t c ++ ys)
  hands_then s t u None xs ys r = r
  hands_then s t u (Some entry) xs ys r =
      let to = addresses code + entry in
      rises_cons (state_under image) (record { to = to; state = handed s }) (record { to = to; state = handed t }) xs ys refl (handed_under image code before ready are s t u) r

  abbrev ThroughRises : ℕ → Type 0
  ThroughRises n = (at : ℕ) (s t : RegState) → state_under image s t ≡ true → Rising (onward_through image code before n at s) (onward_through image code before n at t)

  ending_rises : (n at : ℕ) (x : At) (s t : RegState) → state_under image s t ≡ true → ThroughRises n → (w : Bool) → Rising (ending image code before n at s x w) (ending image code before n at t x w)
  ending_rises n at x s t u later true =
      later x.next (after image code before at s x) (after image code before at t x) (after_under image code before ready are at x s t u)
  ending_rises n at x s t u later false =
      rises_map (state_under image) (λ to. record { to = to; state = after image code before at s x }) (λ to. record { to = to; state = after image code before at t x }) (λ to. refl)
      (λ to. after_under image code before ready are at x s t u) (filter (begins_insn code.tiles) (targets x))

  fetched_rises : (n at : ℕ) (s t : RegState) → state_under image s t ≡ true → ThroughRises n → (o : Option At) → Rising (through_from image code before n at s o) (through_from image code before n at t o)
  fetched_rises n at s t u later None = rises_nil (state_under image) []
  fetched_rises n at s t u later (Some x) =
      let w : Bool = is_before at (before x.next) in
      hands_then s t u (covering_entry code at x) (ending image code before n at s x w) (ending image code before n at t x w) (ending_rises n at x s t u later w)

  through_rises : (n : ℕ) → ThroughRises n
  through_rises zero at s t u = rises_nil (state_under image) []
  through_rises (suc n) at s t u = fetched_rises n at s t u (through_rises n) (fetch image code.method.id at)

  rises_by : (place : ℕ) (s t : RegState) → fits_blocks image code before place s → state_under image s t ≡ true → (w : Bool) → nat_lt place (addresses code) ≡ w →
      Rising (onward_blocks image code before place s) (onward_blocks image code before place t)
  rises_by place s t f u true l =
      subst (λ (z : List (Onward RegState)). Rising z (onward_blocks image code before place t)) (sym (blocks_inside image code before place s l))
      (subst (λ (z : List (Onward RegState)). Rising (onward_through image code before (addresses code) place s) z) (sym (blocks_inside image code before place t l))
      (through_rises (addresses code) place s t u))
  rises_by place s t f u false l =
      let low = through_gathered place s l in
      let high = through_gathered place t l in
      subst (λ (z : List (Onward RegState)). Rising z (onward_blocks image code before place t)) low
      (subst (λ (z : List (Onward RegState)). Rising (onward_gathered image code place s) z) high (base.monotone place s t f.0 u))
    where
      through_gathered : (place : ℕ) (s : RegState) → nat_lt place (addresses code) ≡ false → onward_gathered image code place s ≡ onward_blocks image code before place s
      through_gathered place s l = gathered_past image code before place s l ∙ sym (blocks_past image code before place s l)

  monotone : IsMonotone (blocks_flow image code before) (fits_blocks image code before)
  monotone place s t f u = rises_by place s t f u (nat_lt place (addresses code)) refl

  -- ---- what goes on fits

  abbrev Goes : Onward RegState → Type 0
  Goes o = fits_gathered image code o.to o.state × (o.to < addresses code + length code.body.tries)

  abbrev Inside : Onward RegState → Type 0
  Inside o = fits_blocks image code before o.to o.state × (o.to < addresses code + length code.body.tries)

  abbrev Heads : List (Onward RegState) → Type 0
  Heads os = Each (λ o. before o.to ≡ None) os

  at_heads : (os : List (Onward RegState)) → Heads os → Each Goes os → Each Inside os
  at_heads os heads goes k o there = (let g = goes k o there in ((g.0, heads k o there), g.1))

  abbrev ThroughFits : ℕ → Type 0
  ThroughFits n = (at : ℕ) (s : RegState) → fits_gathered image code at s → Each Inside (onward_through image code before n at s)

  ending_fits : (n at : ℕ) (x : At) (s : RegState) → fetch image code.method.id at ≡ Some x → Each Goes (onward_gathered image code at s) → Each Goes (goes_to code (after image code before at s x) (targets x)) → ThroughFits n →
      (w : Bool) → is_before at (before x.next) ≡ w → Each Inside (ending image code before n at s x w)
  ending_fits n at x s e all goes later true q =
      later x.next (after image code before at s x) (on_straight image code before ready are Goes at x.next x s e (follows image code before ready are at x q) all).0
  ending_fits n at x s e all goes later false q =
      at_heads (goes_to code (after image code before at s x) (targets x)) (leads_to_heads image code before ready are at x (after image code before at s x) e q) goes

  fetched_fits : (n at : ℕ) (s : RegState) → fits_gathered image code at s → ThroughFits n → (o : Option At) → fetch image code.method.id at ≡ o → Each Inside (through_from image code before n at s o)
  fetched_fits n at s f later None e = each_nil Inside
  fetched_fits n at s f later (Some x) e =
      let goes : List (Onward RegState) = goes_to code (after image code before at s x) (targets x) in
      let hands : List (Onward RegState) = hands_on code s (covering_entry code at x) in
      let all : Each Goes (onward_gathered image code at s) = base.onward_fits at s f in
      let parts : Each Goes (goes ++ hands) = each_of Goes (onward_gathered image code at s) (goes ++ hands) (insn_gathered image code before ready are at s x e) all in
      let w : Bool = is_before at (before x.next) in
      each_both Inside hands (ending image code before n at s x w)
      (at_heads hands (hands_to_heads image code before ready are s (covering_entry code at x)) (each_right Goes goes hands parts))
      (ending_fits n at x s e all (each_left Goes goes hands parts) later w refl)

  through_fits : (n : ℕ) → ThroughFits n
  through_fits zero at s f = each_nil Inside
  through_fits (suc n) at s f = fetched_fits n at s f (through_fits n) (fetch image code.method.id at) refl

  onward_fits : (place : ℕ) (s : RegState) → fits_blocks image code before place s → (w : Bool) → nat_lt place (addresses code) ≡ w → Each Inside (onward_blocks image code before place s)
  onward_fits place s f true l =
      each_of Inside (onward_through image code before (addresses code) place s) (onward_blocks image code before place s) (sym (blocks_inside image code before place s l))
      (through_fits (addresses code) place s f.0)
  onward_fits place s f false l =
      let caught : List (Onward RegState) = caught_from image code before place s in
      each_of Inside caught (onward_blocks image code before place s) (sym (blocks_past image code before place s l))
      (at_heads caught (caught_to_heads image code before ready are place s)
      (each_of Goes (onward_gathered image code place s) caught (gathered_past image code before place s l) (base.onward_fits place s f.0)))

pub block_flows_are_lawful : BlockFlowsAreLawful
block_flows_are_lawful image code before ready are = record {
  order = order image code before ready are;
  monotone = monotone image code before ready are;
  entry_fits = ((base image code before ready are).entry_fits, are.entry);
  onward_fits = λ place s f. onward_fits image code before ready are place s f (nat_lt place (addresses code)) refl;
  below = λ place s f. (base image code before ready are).below place s f.0;
}
