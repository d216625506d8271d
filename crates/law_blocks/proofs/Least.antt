-- The least assignment of the flow from head to head, filled in between, is that of the flow that gathers.
use Rattle.std.specs.Prelude.{nat_lt}
use Rattle.std.proofs.Common.{◌≡◌, ℕ, zero, suc, ◌+◌, List, [], ◌++◌, Bool, true, false, Option, Some, None, refl, sym}
use Rattle.dv_worklist.specs.Flow.{Onward, Assignment, HasAbove, IsClosed, IsUnder, IsLawful}
use Rattle.dv_typing.specs.declared.typing.RegState.{RegState}
use Rattle.dv_defs.specs.Images.{Image}
use Rattle.dv_defs.specs.Op.{Code}
use Rattle.dv_defs.specs.Tiling.{begins_insn}
use Rattle.dv_typing.specs.Statics.{At, fetch}
use Rattle.dv_typing.specs.Flow.{targets}
use Rattle.dv_types.specs.Under.{state_under}
use Rattle.dv_types.proofs.Below.{below_from, below_to}
use Rattle.law_types.proofs.Transfer.{transfer_is_monotone}
use Rattle.law_infer.specs.Flowing.{goes_to, rank_of, top_of, IsReady}
use Rattle.law_gather.specs.Gathered.{addresses, covering_entry, handed, hands_on, onward_gathered, gathered_flow, fits_gathered}
use Rattle.law_gather.proofs.Lawful.{handed_below, gathered_flows_are_lawful}
use Rattle.law_blocks.specs.Blocks.{Before, AreBefore, is_before, onward_through, onward_blocks, blocks_flow}
use Rattle.law_blocks.specs.Laws.{BlockAssignmentsAreLeast}
use Rattle.law_blocks.proofs.Each.{Each, each_nil, each_cons, each_left, each_right, each_both, each_of, each_made, made_each}
use Rattle.law_blocks.proofs.Through.{after, ending, through_from, caught_from, blocks_inside, blocks_past, gathered_past, insn_gathered, on_straight, follows}
use Rattle.law_blocks.proofs.Filled.{IsFilled, filled_from, by_blocks}
use Rattle.law_blocks.proofs.Closed.{all_fit, closed_filled}

module _ (image : Image) (code : Code) (before : Before) (ready : IsReady image code) (are : AreBefore image code before) where
  law : IsLawful (gathered_flow image code) (fits_gathered image code) (rank_of image code) (top_of image code)
  law = gathered_flows_are_lawful image code ready

  -- a state above leads to a state above
  pub after_under : (at : ℕ) (x : At) (s t : RegState) → state_under image s t ≡ true → state_under image (after image code before at s x) (after image code before at t x) ≡ true
  after_under at x s t u =
      below_to image (after image code before at s x) (after image code before at t x)
      (transfer_is_monotone image ready.hierarchy code.method at x.op s t (below_from image s t u))

  pub handed_under : (s t : RegState) → state_under image s t ≡ true → state_under image (handed s) (handed t) ≡ true
  handed_under s t u = below_to image (handed s) (handed t) (handed_below image s t (below_from image s t u))

  module _ (b : Assignment RegState) (closed : IsClosed (gathered_flow image code) b) where
    abbrev Above : Onward RegState → Type 0
    Above o = HasAbove (gathered_flow image code) b o.to o.state

    lower : (to : ℕ) (s t : RegState) → state_under image s t ≡ true → HasAbove (gathered_flow image code) b to t → HasAbove (gathered_flow image code) b to s
    lower to s t u has = record { state = has.state; there = has.there; above = law.order.trans s t has.state u has.above }

    lower_hands : (s t : RegState) → state_under image s t ≡ true → (c : Option ℕ) → Each Above (hands_on code t c) → Each Above (hands_on code s c)
    lower_hands s t u None each = each_nil Above
    lower_hands s t u (Some entry) each =
        let to = addresses code + entry in
        each_cons Above (record { to = to; state = handed s }) [] (lower to (handed s) (handed t) (handed_under s t u) (each 0 (record { to = to; state = handed t }) refl)) (each_nil Above)

    lower_goes : (s t : RegState) → state_under image s t ≡ true → (tos : List ℕ) → Each Above (goes_to code t tos) → Each Above (goes_to code s tos)
    lower_goes s t u tos each =
        each_made Above (begins_insn code.tiles) (λ to. record { to = to; state = s }) tos
        (λ k to there begun. lower to s t u (made_each Above (begins_insn code.tiles) (λ to. record { to = to; state = t }) tos each k to there begun))

    -- ---- where it is closed, all that goes on through straight code arrives

    abbrev Through : ℕ → Type 0
    Through n = (at : ℕ) (s t : RegState) → b at ≡ Some t → state_under image s t ≡ true → Each Above (onward_through image code before n at s)

    ending_by : (n at : ℕ) (x : At) (s t : RegState) → fetch image code.method.id at ≡ Some x → b at ≡ Some t → state_under image s t ≡ true → Through n →
        (w : Bool) → is_before at (before x.next) ≡ w → Each Above (ending image code before n at s x w)
    ending_by n at x s t e is u later true q =
        let has = on_straight image code before ready are Above at x.next x t e (follows image code before ready are at x q) (closed.arrives at t is) in
        later x.next (after image code before at s x) has.state has.there
        (law.order.trans (after image code before at s x) (after image code before at t x) has.state (after_under at x s t u) has.above)
    ending_by n at x s t e is u later false q =
        let goes : List (Onward RegState) = goes_to code (after image code before at t x) (targets x) in
        let hands : List (Onward RegState) = hands_on code t (covering_entry code at x) in
        lower_goes (after image code before at s x) (after image code before at t x) (after_under at x s t u) (targets x)
        (each_left Above goes hands (each_of Above (onward_gathered image code at t) (goes ++ hands) (insn_gathered image code before ready are at t x e) (closed.arrives at t is)))

    fetched_by : (n at : ℕ) (s t : RegState) → b at ≡ Some t → state_under image s t ≡ true → Through n →
        (o : Option At) → fetch image code.method.id at ≡ o → Each Above (through_from image code before n at s o)
    fetched_by n at s t is u later None e = each_nil Above
    fetched_by n at s t is u later (Some x) e =
        let goes : List (Onward RegState) = goes_to code (after image code before at t x) (targets x) in
        let hands : List (Onward RegState) = hands_on code t (covering_entry code at x) in
        let w : Bool = is_before at (before x.next) in
        each_both Above (hands_on code s (covering_entry code at x)) (ending image code before n at s x w)
        (lower_hands s t u (covering_entry code at x)
        (each_right Above goes hands (each_of Above (onward_gathered image code at t) (goes ++ hands) (insn_gathered image code before ready are at t x e) (closed.arrives at t is))))
        (ending_by n at x s t e is u later w refl)

    through : (n : ℕ) → Through n
    through zero at s t is u = each_nil Above
    through (suc n) at s t is u = fetched_by n at s t is u (through n) (fetch image code.method.id at) refl

    arrives : (at : ℕ) (s : RegState) → b at ≡ Some s → (w : Bool) → nat_lt at (addresses code) ≡ w → Each Above (onward_blocks image code before at s)
    arrives at s is true l =
        each_of Above (onward_through image code before (addresses code) at s) (onward_blocks image code before at s) (sym (blocks_inside image code before at s l))
        (through (addresses code) at s s is (law.order.same s))
    arrives at s is false l =
        each_of Above (caught_from image code before at s) (onward_blocks image code before at s) (sym (blocks_past image code before at s l))
        (each_of Above (onward_gathered image code at s) (caught_from image code before at s) (gathered_past image code before at s l) (closed.arrives at s is))

    -- so it is closed from head to head
    closed_blocks : IsClosed (blocks_flow image code before) b
    closed_blocks = record {
      entry = record { state = closed.entry.state; there = closed.entry.there; above = closed.entry.above };
      arrives = λ at s is k o there. (let has = arrives at s is (nat_lt at (addresses code)) refl k o there in record { state = has.state; there = has.there; above = has.above });
    }

    -- and what is under it at heads is under it in between
    under_filled : (a c : Assignment RegState) → IsFilled image code before a c → IsUnder (blocks_flow image code before) a b → IsUnder (gathered_flow image code) c b
    under_filled a c f under =
        by_blocks image code before are a c f (HasAbove (gathered_flow image code) b)
        (λ at s q e. (let has = under at s e in record { state = has.state; there = has.there; above = has.above }))
        (λ p at x t e q is has.
        lower at (after image code before p t x) (after image code before p has.state x) (after_under p x t has.state has.above)
        (on_straight image code before ready are Above p at x has.state e q (closed.arrives p has.state has.there)))

pub block_assignments_are_least : BlockAssignmentsAreLeast
block_assignments_are_least image code before ready are a fits least c is =
    let f = filled_from image code before are a c is in (
      record {
        closed = closed_filled image code before ready are a c f least.closed;
        least = λ b closed. under_filled image code before ready are b closed a c f (least.least b (closed_blocks image code before ready are b closed));
      },
      all_fit image code before ready are a c f fits,
    )
