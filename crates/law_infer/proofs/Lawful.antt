-- The flow of a method's states is lawful.
use Rattle.std.specs.Prelude.{filter}
use Rattle.std.proofs.Common.{◌≡◌, ◌<◌, ℕ, List, [], length, Bool, true, false, Option, Some, refl, sym, subst, arith}
use Rattle.std.proofs.lemmas.List.Elements.{All-weaker}
use Rattle.dv_typing.specs.declared.typing.RegState.{RegState}
use Rattle.dv_defs.specs.Images.{Image}
use Rattle.dv_defs.specs.Tiling.{begins_insn}
use Rattle.dv_defs.specs.Op.{Code, can_throw}
use Rattle.dv_typing.specs.Statics.{At, fetch}
use Rattle.dv_typing.specs.RegTypes.{IsBelow}
use Rattle.dv_typing.specs.Transfer.{out}
use Rattle.dv_typing.specs.Flow.{Catcher, targets, handlers_at, thrown_at, caught_state}
use Rattle.law_types.proofs.States.{states_are_ordered}
use Rattle.law_types.proofs.Transfer.{transfer_is_monotone}
use Rattle.dv_types.specs.Under.{state_under}
use Rattle.dv_types.proofs.Below.{below_from, below_to}
use Rattle.law_flow.specs.Fitting.{StateFits}
use Rattle.law_flow.proofs.EntriesFit.{entries_fit, caught_states_fit}
use Rattle.law_flow.proofs.StateRanks.{ranks_are_bounded}
use Rattle.law_flow.proofs.TransferFits.{transfer_fits}
use Rattle.dv_worklist.specs.Flow.{Onward, IsMonotone}
use Rattle.law_infer.specs.Flowing.{goes_to_handlers, onward_of, onward_from, flow_of, fits_at, IsReady}
use Rattle.law_infer.specs.Laws.{FlowsAreLawful}
use Rattle.law_infer.proofs.Each.{Each}
use Rattle.law_infer.proofs.Onwards.{each_from}
use Rattle.law_infer.proofs.Ordered.{states_are_join_ordered}
use Rattle.law_infer.proofs.Rises.{Rises, rises_nil, rises_then, rises_map}
use Rattle.law_infer.proofs.Tiles.{within}

module _ (image : Image) (code : Code) (ready : IsReady image code) where
  -- ---- what goes on rises

  -- a handler of a state above is entered with a state above
  caught_below : (s t : RegState) → IsBelow image s t → (h : Catcher) → IsBelow image (caught_state s h) (caught_state t h)
  caught_below s t b h = record { each = b.each; count = b.count; result = tt; caught = ((states_are_ordered image ready.hierarchy).same (caught_state s h)).caught; this_pending = b.this_pending }

  abbrev thrown : RegState → List Catcher → Bool → List (Onward RegState)
  thrown s hs b = elim b as (λ w. List (Onward RegState)) [ true ↦ goes_to_handlers code s hs | false ↦ [] ]

  thrown_rises : (s t : RegState) → IsBelow image s t → (hs : List Catcher) (b : Bool) → Rises (state_under image) (thrown s hs b) (thrown t hs b)
  thrown_rises s t u hs true =
      rises_map (state_under image) (λ h. record { to = h.to; state = caught_state s h }) (λ h. record { to = h.to; state = caught_state t h }) (λ h. refl)
      (λ h. below_to image (caught_state s h) (caught_state t h) (caught_below s t u h)) (filter (λ h. begins_insn code.tiles h.to) hs)
  thrown_rises s t u hs false = rises_nil (state_under image) []

  onward_rises : (at : ℕ) (x : At) (s t : RegState) → IsBelow image s t → Rises (state_under image) (onward_of image code at s x) (onward_of image code at t x)
  onward_rises at x s t u =
      let hs : List Catcher = handlers_at image code.method.id (thrown_at at x) in
      rises_then (state_under image) (λ to. record { to = to; state = out image code.method at x.op s }) (λ to. record { to = to; state = out image code.method at x.op t }) (λ to. refl)
      (λ to. below_to image (out image code.method at x.op s) (out image code.method at x.op t) (transfer_is_monotone image ready.hierarchy code.method at x.op s t u))
      (filter (begins_insn code.tiles) (targets x)) (thrown s hs (can_throw x.op)) (thrown t hs (can_throw x.op))
      (thrown_rises s t u hs (can_throw x.op))

  fetched_rises : (at : ℕ) (x : At) (s t : RegState) → fetch image code.method.id at ≡ Some x → IsBelow image s t →
      Rises (state_under image) (onward_from image code at s (fetch image code.method.id at)) (onward_from image code at t (fetch image code.method.id at))
  fetched_rises at x s t e u =
      subst (λ (o : Option At). Rises (state_under image) (onward_from image code at s o) (onward_from image code at t o)) (sym e) (onward_rises at x s t u)

  flow_rises : IsMonotone (flow_of image code) (fits_at image code)
  flow_rises place s t f u k o e =
      let (x, is) = ready.clean.each place f.0 in
      fetched_rises place x s t is.fetched (below_from image s t u) k o e

  -- ---- what goes on fits

  abbrev FitsInside : Onward RegState → Type 0
  FitsInside o = fits_at image code o.to o.state × (o.to < length code.body.units)

  fits_inside : (to : ℕ) (s : RegState) → StateFits image code s → begins_insn code.tiles to ≡ true → FitsInside (record { to = to; state = s })
  fits_inside to s f b =
      let l = (within code.body.units 0 0 code.tiles ready.clean.tiled to b).1 in
      ((b, f), omega (arith, l))

  onward_fits : (place : ℕ) (s : RegState) → fits_at image code place s → Each FitsInside (onward_from image code place s (fetch image code.method.id place))
  onward_fits place s f =
      let (x, is) = ready.clean.each place f.0 in
      let after : StateFits image code (out image code.method place x.op s) = transfer_fits image code ready.code_is ready.clean place x is.fetched s f.1 in
      each_from image code FitsInside place x s is.fetched
      (record {
        goes = λ k d l b. fits_inside _ (out image code.method place x.op s) after b;
        throws = λ e. All-weaker (λ h. StateFits image code (caught_state s h)) (λ h. begins_insn code.tiles h.to ≡ true → FitsInside (record { to = h.to; state = caught_state s h }))
            (λ h fit b. fits_inside h.to (caught_state s h) fit b) (handlers_at image code.method.id (thrown_at place x))
            (caught_states_fit image code ready.code_is ready.clean (thrown_at place x) s f.1);
      })

pub flows_are_lawful : FlowsAreLawful
flows_are_lawful image code ready = record {
  order = states_are_join_ordered image code ready;
  monotone = flow_rises image code ready;
  entry_fits = (ready.clean.start, entries_fit image code ready.code_is ready.clean);
  onward_fits = onward_fits image code ready;
  below = λ place s f. ranks_are_bounded image ready.hierarchy code s f.1;
}
