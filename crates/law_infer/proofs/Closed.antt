-- The worklist's least assignment is the method's least assignment.
use Rattle.std.proofs.Common.{◌≡◌, ℕ, true, Option, Some, None, refl, sym, subst}
use Rattle.std.proofs.lemmas.List.Elements.{All-weaker}
use Rattle.dv_typing.specs.declared.typing.RegState.{RegState}
use Rattle.dv_defs.specs.Images.{Image}
use Rattle.dv_defs.specs.Tiling.{begins_insn}
use Rattle.dv_defs.specs.Op.{Code}
use Rattle.dv_typing.specs.Statics.{At, fetch}
use Rattle.dv_typing.specs.Transfer.{entry_state, out}
use Rattle.dv_typing.specs.Flow.{Typing, Leads, Flows, IsFlowClosed, IsUnderAt, targets, handlers_at, thrown_at, caught_state}
use Rattle.dv_types.proofs.Below.{below_from, below_to}
use Rattle.dv_worklist.specs.Flow.{Onward, HasAbove, IsClosed, AllFit, assigned}
use Rattle.law_infer.specs.Flowing.{flow_of, fits_at, IsReady}
use Rattle.law_infer.specs.Laws.{LeastAssignmentsAreLeast}
use Rattle.law_infer.proofs.Onwards.{each_from, from_each}

module _ (image : Image) (code : Code) (ready : IsReady image code) (typing : Typing) where
  -- ---- a state above, in the one words and the other

  leads_from : (to : ℕ) (s : RegState) → HasAbove (flow_of image code) typing to s → Leads image typing s to
  leads_from to s a = record { state = a.state; has_state = a.there; below = below_from image s a.state a.above }

  leads_to : (to : ℕ) (s : RegState) → Leads image typing s to → HasAbove (flow_of image code) typing to s
  leads_to to s l = record { state = l.state; there = l.has_state; above = below_to image s l.state l.below }

  abbrev Arrived : Onward RegState → Type 0
  Arrived o = HasAbove (flow_of image code) typing o.to o.state

  -- ---- closed for the worklist, closed for the method

  flows_from : (at : ℕ) (x : At) (s : RegState) → fetch image code.method.id at ≡ Some x → typing at ≡ Some s → IsClosed (flow_of image code) typing → Flows image code.method typing at x s
  flows_from at x s e t closed =
      let each = from_each image code Arrived at x s e (closed.arrives at s t) in
      record {
        onward = All-weaker (λ to. begins_insn code.tiles to ≡ true → Arrived (record { to = to; state = out image code.method at x.op s }))
            (λ to. (y : At) → fetch image code.method.id to ≡ Some y → Leads image typing (out image code.method at x.op s) to)
            (λ to arrived y f. leads_from to (out image code.method at x.op s) (arrived (ready.clean.only to y f))) (targets x) each.goes;
        handled = λ throws. All-weaker (λ h. begins_insn code.tiles h.to ≡ true → Arrived (record { to = h.to; state = caught_state s h }))
            (λ h. (y : At) → fetch image code.method.id h.to ≡ Some y → Leads image typing (caught_state s h) h.to)
            (λ h arrived y f. leads_from h.to (caught_state s h) (arrived (ready.clean.only h.to y f))) (handlers_at image code.method.id (thrown_at at x)) (each.throws throws);
      }

  pub closed_from : AllFit (fits_at image code) typing → IsClosed (flow_of image code) typing → IsFlowClosed image code typing
  closed_from fits closed = record {
    start = leads_from 0 (entry_state image code.method code.body.registers) closed.entry;
    each = λ at s t.
        let (x, is) = ready.clean.each at (fits at s t).0 in
        (x, is.fetched, flows_from at x s is.fetched t closed);
  }

  -- where an instruction begins, what is fetched leads on
  arrived_at : (to : ℕ) (s : RegState) → begins_insn code.tiles to ≡ true → ((y : At) → fetch image code.method.id to ≡ Some y → Leads image typing s to) → HasAbove (flow_of image code) typing to s
  arrived_at to s b leads =
      let (y, is) = ready.clean.each to b in
      leads_to to s (leads y is.fetched)

  pub closed_to : IsFlowClosed image code typing → IsClosed (flow_of image code) typing
  closed_to closed = record {
    entry = leads_to 0 (entry_state image code.method code.body.registers) closed.start;
    arrives = λ at s t.
        let (x, e, flows) = closed.each at s t in
        each_from image code Arrived at x s e
        (record {
          goes = All-weaker (λ to. (y : At) → fetch image code.method.id to ≡ Some y → Leads image typing (out image code.method at x.op s) to)
              (λ to. begins_insn code.tiles to ≡ true → Arrived (record { to = to; state = out image code.method at x.op s }))
              (λ to leads b. arrived_at to (out image code.method at x.op s) b leads) (targets x) flows.onward;
          throws = λ throws. All-weaker (λ h. (y : At) → fetch image code.method.id h.to ≡ Some y → Leads image typing (caught_state s h) h.to)
              (λ h. begins_insn code.tiles h.to ≡ true → Arrived (record { to = h.to; state = caught_state s h }))
              (λ h leads b. arrived_at h.to (caught_state s h) b leads) (handlers_at image code.method.id (thrown_at at x)) (flows.handled throws);
        });
  }

-- ---- least

under_from : (image : Image) (code : Code) (other : Typing) (at : ℕ) (o : Option RegState) →
    ((s : RegState) → o ≡ Some s → HasAbove (flow_of image code) other at s) → IsUnderAt image o (other at)
under_from image code other at None above = tt
under_from image code other at (Some s) above =
    let a = above s refl in
    subst (λ (z : Option RegState). IsUnderAt image (Some s) z) (sym a.there) (below_from image s a.state a.above)

pub least_assignments_are_least : LeastAssignmentsAreLeast
least_assignments_are_least image code ready xs fits least = record {
  closed = closed_from image code ready (assigned xs) fits least.closed;
  least = λ other closed at. under_from image code other at (assigned xs at) (λ s t. least.least other (closed_to image code ready other closed) at s t);
}
