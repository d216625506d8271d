-- The flow that gathers is lawful.
use Rattle.std.specs.Prelude.{nat_lt, slice_get, filter}
use Rattle.std.proofs.Common.{◌≡◌, inl, inr, ℕ, zero, suc, ◌+◌, ◌-◌, ◌<◌, List, [], ◌∷◌, length, Bool, true, false, Option, Some, None, Ok, refl, ap, sym, ◌∙◌, subst, arith}
use Rattle.std.proofs.lemmas.Bool.{lt-ltb}
use Rattle.std.proofs.lemmas.List.{length-map}
use Rattle.std.proofs.lemmas.Option.{same_Some}
use Rattle.dv_worklist.specs.Flow.{Onward, IsJoinOrder, IsLawful, IsMonotone}
use Rattle.dv_typing.specs.declared.typing.RegState.{RegState}
use Rattle.dv_defs.specs.Images.{Image}
use Rattle.dv_defs.specs.Tiling.{Tile, tiled, begins_insn}
use Rattle.dv_defs.specs.Op.{Code}
use Rattle.dv_typing.specs.Statics.{At, fetch}
use Rattle.dv_typing.specs.RegTypes.{IsBelow}
use Rattle.dv_typing.specs.Transfer.{out}
use Rattle.dv_typing.specs.Flow.{Catcher, targets, caught_state}
use Rattle.dv_typing.specs.Joins.{join_state}
use Rattle.law_types.specs.Hierarchy.{IsHierarchy}
use Rattle.law_types.proofs.Facts.{no}
use Rattle.law_types.proofs.States.{states_are_ordered}
use Rattle.dv_types.specs.Under.{state_under}
use Rattle.dv_types.proofs.Below.{below_from, below_to}
use Rattle.law_flow.specs.Fitting.{StateFits}
use Rattle.law_infer.specs.Flowing.{flow_of, fits_at, rank_of, top_of, IsReady}
use Rattle.law_infer.proofs.Lawful.{flows_are_lawful}
use Rattle.law_gather.specs.Gathered.{addresses, covering_entry, handed, hands_on, onward_by, onward_caught, gathered_flow, Gathers, fits_by, fits_gathered}
use Rattle.law_gather.specs.Laws.{GatheredFlowsAreLawful}
use Rattle.law_gather.proofs.Lists.{in_first, in_second, in_either, made_from, made_of, within}
use Rattle.law_gather.proofs.Covering.{handlers_by, covers_within, to_handler, goes_on, onward_when, past_addresses, found_again, goes_where, goes_first, goes_to_each}

-- what is handed on is the same of what is handed on
pub handed_below : (image : Image) (s t : RegState) → IsBelow image s t → IsBelow image (handed s) (handed t)
handed_below image s t b = record { each = b.each; count = b.count; result = tt; caught = tt; this_pending = b.this_pending }

-- a handler of a state above is entered with a state above
pub caught_below : (image : Image) → IsHierarchy image → (s t : RegState) → IsBelow image s t → (h : Catcher) → IsBelow image (caught_state s h) (caught_state t h)
caught_below image o s t b h = record { each = b.each; count = b.count; result = tt; caught = ((states_are_ordered image o).same (caught_state s h)).caught; this_pending = b.this_pending }

handed_fits : (image : Image) (code : Code) (s : RegState) → StateFits image code s → StateFits image code (handed s)
handed_fits image code s f = record { count = f.count; regs = f.regs; result = tt; caught = tt }

-- there is a unit where an instruction begins at the first
pub some_unit : (us : List ℕ) (ts : List Tile) → tiled 0 0 us ≡ Ok ts → begins_insn ts 0 ≡ true → 0 < length us
some_unit [] ts e b =
    let none : [] ≡ ts = cc in
    no (subst (λ (z : List Tile). begins_insn z 0 ≡ true) (sym none) b)
some_unit (u ∷ us) ts e b = omega arith

module _ (image : Image) (code : Code) (ready : IsReady image code) where
  base : IsLawful (flow_of image code) (fits_at image code) (rank_of image code) (top_of image code)
  base = flows_are_lawful image code ready

  -- ---- order

  -- a state that fits some place fits the first instruction
  at_first : (place : ℕ) (s : RegState) (b : Bool) → fits_by image code place s b → fits_at image code 0 s
  at_first place s true f = (ready.clean.start, f.1)
  at_first place s false f = (ready.clean.start, f.1)

  first : (place : ℕ) (s : RegState) → fits_gathered image code place s → fits_at image code 0 s
  first place s f = at_first place s (nat_lt place (addresses code)) f

  joined : (place : ℕ) (s t : RegState) (b : Bool) → fits_by image code place s b → fits_by image code place t b → fits_by image code place (join_state image s t) b
  joined place s t true f g = base.order.joined place s t f g
  joined place s t false f g = (f.0, (base.order.joined 0 s t (ready.clean.start, f.1) (ready.clean.start, g.1)).1)

  order : IsJoinOrder (gathered_flow image code) (fits_gathered image code) (rank_of image code)
  order = record {
    same = base.order.same;
    trans = base.order.trans;
    first = λ place s t f g. base.order.first 0 s t (first place s f) (first place t g);
    second = λ place s t f g. base.order.second 0 s t (first place s f) (first place t g);
    lowest = λ place s t u f g x y. base.order.lowest 0 s t u (first place s f) (first place t g) x y;
    joined = λ place s t f g. joined place s t (nat_lt place (addresses code)) f g;
    near = λ place s t f g x. base.order.near 0 s t (first place s f) (first place t g) x;
  }

  -- ---- what goes on rises

  -- at the same place in the other list, to the same place, with a state above
  abbrev HasHigher : List (Onward RegState) → ℕ → Onward RegState → Type 0
  HasHigher ys k o = (p : Onward RegState) × (slice_get ys k ≡ Some p) × (p.to ≡ o.to) × (state_under image o.state p.state ≡ true)

  abbrev Rises : List (Onward RegState) → List (Onward RegState) → Type 0
  Rises xs ys = (k : ℕ) (o : Onward RegState) → slice_get xs k ≡ Some o → HasHigher ys k o

  hands_rises : (s t : RegState) → IsBelow image s t → (c : Option ℕ) → Rises (hands_on code s c) (hands_on code t c)
  hands_rises s t u None k o e = absurd (cc)
  hands_rises s t u (Some entry) zero o e =
      let to = addresses code + entry in
      subst (λ (z : Onward RegState). HasHigher (hands_on code t (Some entry)) zero z) (same_Some (record { to = to; state = handed s }) o e)
      (record { to = to; state = handed t }, refl, refl, below_to image (handed s) (handed t) (handed_below image s t u))
  hands_rises s t u (Some entry) (suc k) o e = absurd (cc)

  -- equally many targets
  equally_many : (at : ℕ) (x : At) (s t : RegState) → length (goes_on image code at s x) ≡ length (goes_on image code at t x)
  equally_many at x s t =
      let tos = filter (begins_insn code.tiles) (targets x) in
      length-map tos (λ to. record { to = to; state = out image code.method at x.op s }) ∙
      sym (length-map tos (λ to. record { to = to; state = out image code.method at x.op t }))

  insn_rises : (at : ℕ) (x : At) (s t : RegState) → fetch image code.method.id at ≡ Some x → fits_at image code at s → state_under image s t ≡ true →
      Rises (onward_by image code at s (Some x)) (onward_by image code at t (Some x))
  insn_rises at x s t e f u k o q =
      let c : Option ℕ = covering_entry code at x in
      let ss : List (Onward RegState) = goes_on image code at s x in
      let ts : List (Onward RegState) = goes_on image code at t x in
      let many : length ss ≡ length ts = equally_many at x s t in
      elim (in_either ss (hands_on code s c) k o q) [
        | inl one ↦ by_target k o one many (base.monotone at s t f u k o (goes_first image code ready.code_is at s x e k o one))
        | inr r ↦ (let (p, there, to, above) = hands_rises s t (below_from image s t u) c r.place o r.there in
            (p, in_second ts (hands_on code t c) k r.place p (let a = r.after in omega (arith, a, many)) there, to, above))
      ]
    where
      by_target : (k : ℕ) (o : Onward RegState) → slice_get (goes_on image code at s x) k ≡ Some o →
          length (goes_on image code at s x) ≡ length (goes_on image code at t x) →
          HasHigher ((flow_of image code).onward at t) k o → HasHigher (onward_by image code at t (Some x)) k o
      by_target k o one many (p, there, to, above) =
          elim (goes_where image code ready.code_is at t x e k p there) [
            | inl two ↦ (p, in_first (goes_on image code at t x) (hands_on code t (covering_entry code at x)) k p two, to, above)
            | inr r ↦ absurd (let a = r.past in let l = within (goes_on image code at s x) k o one in omega (arith, a, l, many))
          ]

  fetched_rises : (at : ℕ) (s t : RegState) → fits_at image code at s → state_under image s t ≡ true →
      Rises (onward_by image code at s (fetch image code.method.id at)) (onward_by image code at t (fetch image code.method.id at))
  fetched_rises at s t f u =
      let (x, is) = ready.clean.each at f.0 in
      subst (λ (o : Option At). Rises (onward_by image code at s o) (onward_by image code at t o)) (sym is.fetched) (insn_rises at x s t is.fetched f u)

  caught_rises : (s t : RegState) → IsBelow image s t → (hs : List Catcher) → Rises (onward_caught s hs) (onward_caught t hs)
  caught_rises s t u hs k o e =
      let m = made_from (to_handler s) hs k o e in
      let h = m.from in (
        to_handler t h,
        made_of (to_handler t) hs k h m.there,
        ap (λ (z : Onward RegState). z.to) m.is,
        subst (λ (z : Onward RegState). state_under image z.state (caught_state t h) ≡ true) m.is (below_to image (caught_state s h) (caught_state t h) (caught_below image ready.hierarchy s t u h)),
      )

  rises : (place : ℕ) (s t : RegState) (b : Bool) → fits_by image code place s b → state_under image s t ≡ true → Rises (onward_when image code place s b) (onward_when image code place t b)
  rises place s t true f u = fetched_rises place s t f u
  rises place s t false f u = caught_rises s t (below_from image s t u) (handlers_by code (Some (place - addresses code)))

  monotone : IsMonotone (gathered_flow image code) (fits_gathered image code)
  monotone place s t f u = rises place s t (nat_lt place (addresses code)) f u

  -- ---- what goes on fits

  abbrev FitsInside : Onward RegState → Type 0
  FitsInside o = fits_gathered image code o.to o.state × (o.to < addresses code + length code.body.tries)

  -- at an instruction
  insn_inside : (o : Onward RegState) → fits_at image code o.to o.state × (o.to < addresses code) → FitsInside o
  insn_inside o (f, l) = (subst (fits_by image code o.to o.state) (sym (lt-ltb o.to (addresses code) l)) f, omega (arith, l))

  -- and at an entry to which one hands on
  entry_inside : (entry : ℕ) (s : RegState) → Gathers image code entry → StateFits image code s → entry < length code.body.tries → FitsInside (record { to = addresses code + entry; state = s })
  entry_inside entry s g f l =
      let n = addresses code in
      (subst (fits_by image code (n + entry) s) (sym (past_addresses image code entry)) (subst (Gathers image code) (found_again image code entry) g, f), omega (arith, l))

  hands_inside : (at : ℕ) (x : At) (s : RegState) → fetch image code.method.id at ≡ Some x → StateFits image code s → (c : Option ℕ) → covering_entry code at x ≡ c →
      (k : ℕ) (o : Onward RegState) → slice_get (hands_on code s c) k ≡ Some o → FitsInside o
  hands_inside at x s e f None q k o there = absurd (cc)
  hands_inside at x s e f (Some entry) q zero o there =
      subst FitsInside (same_Some (record { to = addresses code + entry; state = handed s }) o there)
      (entry_inside entry (handed s) (record { at = at; insn = x; fetched = e; covered = q }) (handed_fits image code s f) (covers_within code at entry x q))
  hands_inside at x s e f (Some entry) q (suc k) o there = absurd (cc)

  insn_fits : (at : ℕ) (x : At) (s : RegState) → fetch image code.method.id at ≡ Some x → fits_at image code at s →
      (k : ℕ) (o : Onward RegState) → slice_get (onward_by image code at s (Some x)) k ≡ Some o → FitsInside o
  insn_fits at x s e f k o q =
      let c : Option ℕ = covering_entry code at x in
      elim (in_either (goes_on image code at s x) (hands_on code s c) k o q) [
        | inl one ↦ insn_inside o (base.onward_fits at s f k o (goes_first image code ready.code_is at s x e k o one))
        | inr r ↦ hands_inside at x s e f.1 c refl r.place o r.there
      ]

  caught_fits : (entry : ℕ) (s : RegState) → Gathers image code entry → StateFits image code s → (k : ℕ) (o : Onward RegState) → slice_get (onward_caught s (handlers_by code (Some entry))) k ≡ Some o → FitsInside o
  caught_fits entry s g f k o q =
      let m = made_from (to_handler s) (handlers_by code (Some entry)) k o q in
      let (j, there) = goes_to_each image code ready.code_is ready.clean entry g s k m.from m.there in
      let here : fits_at image code g.at s = (ready.clean.only g.at g.insn g.fetched, f) in
      subst FitsInside m.is (insn_inside (to_handler s m.from) (base.onward_fits g.at s here j (to_handler s m.from) there))

  onward_fits : (place : ℕ) (s : RegState) (b : Bool) → fits_by image code place s b → (k : ℕ) (o : Onward RegState) → slice_get (onward_when image code place s b) k ≡ Some o → FitsInside o
  onward_fits place s true f k o q =
      let (x, is) = ready.clean.each place f.0 in
      insn_fits place x s is.fetched f k o (subst (λ (z : Option At). slice_get (onward_by image code place s z) k ≡ Some o) is.fetched q)
  onward_fits place s false f k o q = caught_fits (place - addresses code) s f.0 f.1 k o q

  entry_fits : fits_gathered image code 0 (gathered_flow image code).entry
  entry_fits =
      let l : 0 < addresses code = some_unit code.body.units code.tiles ready.clean.tiled ready.clean.start in
      subst (fits_by image code 0 (gathered_flow image code).entry) (sym (lt-ltb 0 (addresses code) l)) base.entry_fits

pub gathered_flows_are_lawful : GatheredFlowsAreLawful
gathered_flows_are_lawful image code ready = record {
  order = order image code ready;
  monotone = monotone image code ready;
  entry_fits = entry_fits image code ready;
  onward_fits = λ place s f. onward_fits image code ready place s (nat_lt place (addresses code)) f;
  below = λ place s f. (base image code ready).below 0 s (first image code ready place s f);
}
