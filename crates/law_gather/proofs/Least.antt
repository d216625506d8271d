-- The least assignment of the flow that gathers, cut to the instructions, is that of the flow that doesn't.
use Rattle.std.specs.Prelude.{slice_get, nat_lt, filter}
use Rattle.std.proofs.Common.{◌≡◌, inl, inr, ℕ, zero, suc, ◌+◌, ◌-◌, ◌<◌, List, length, Bool, true, false, Option, Some, None, refl, ap, sym, ◌∙◌, subst}
use Rattle.std.proofs.lemmas.Bool.{lt-ltb}
use Rattle.std.proofs.lemmas.List.{length-replicate}
use Rattle.std.proofs.lemmas.List.Elements.{All-replicate}
use Rattle.std.proofs.lemmas.Option.{same_Some}
use Rattle.dv_worklist.specs.Flow.{Onward, Assignment, HasAbove, IsClosed, IsUnder, IsLawful, assigned}
use Rattle.dv_typing.specs.declared.typing.RegType.TheVariants as ty
use Rattle.dv_typing.specs.declared.typing.RegState.{RegState}
use Rattle.dv_defs.specs.Images.{Image}
use Rattle.dv_defs.specs.Tiling.{begins_insn}
use Rattle.dv_defs.specs.Op.{Code}
use Rattle.dv_typing.specs.Statics.{At, fetch}
use Rattle.dv_typing.specs.Transfer.{out}
use Rattle.dv_typing.specs.Flow.{Catcher, targets, caught_state}
use Rattle.dv_types.proofs.Below.{below_from, below_to}
use Rattle.law_types.proofs.Transfer.{transfer_is_monotone}
use Rattle.law_flow.specs.Fitting.{dims_met, RegFits, StateFits}
use Rattle.law_infer.specs.Flowing.{flow_of, fits_at, rank_of, top_of, IsReady}
use Rattle.law_infer.proofs.Lawful.{flows_are_lawful}
use Rattle.law_gather.specs.Gathered.{addresses, covering_entry, handed, hands_on, onward_by, gathered_flow, Gathers}
use Rattle.law_gather.specs.Laws.{at_instructions, GatheredAssignmentsAreLeast}
use Rattle.law_gather.proofs.Lists.{in_either, made_from, made_of}
use Rattle.law_gather.proofs.Covering.{handlers_by, to_handler, goes_on, onward_when, past_addresses, found_again, goes_first, goes_to_each}
use Rattle.law_gather.proofs.Lawful.{some_unit}
use Rattle.law_gather.proofs.Closed.{cut, all_fit, closed_cut}
use Rattle.law_gather.proofs.Lowest.{top_state, below_top, if_full, full_from, full_to, IsOver, lowest, lowest_is, is_lowest}

module _ (image : Image) (code : Code) (ready : IsReady image code) where
  law : IsLawful (flow_of image code) (fits_at image code) (rank_of image code) (top_of image code)
  law = flows_are_lawful image code ready

  abbrev registers : ℕ
  registers = code.body.registers

  abbrev top : RegState
  top = top_state registers

  -- ---- the state above all fits each instruction, so what goes on has as many registers, and goes to an address

  top_fits : StateFits image code top
  top_fits = record {
    count = length-replicate registers ty.Conflict;
    regs = All-replicate (RegFits (dims_met image code) code) registers ty.Conflict tt;
    result = tt;
    caught = tt;
  }

  top_here : (at : ℕ) (x : At) → fetch image code.method.id at ≡ Some x → fits_at image code at top
  top_here at x f = (ready.clean.only at x f, top_fits)

  -- the state goes to an address, and has all registers
  record IsFull (o : Onward RegState) : Type 0 where
    inside : o.to < addresses code
    count : length o.state.regs ≡ registers

  target_full : (at : ℕ) (s : RegState) (x : At) → fetch image code.method.id at ≡ Some x → length s.regs ≡ registers → (k : ℕ) (o : Onward RegState) → slice_get (goes_on image code at s x) k ≡ Some o → IsFull o
  target_full at s x f l k o q =
      let m = made_from (λ to. record { to = to; state = out image code.method at x.op s }) (filter (begins_insn code.tiles) (targets x)) k o q in
      let high : Onward RegState = record { to = m.from; state = out image code.method at x.op top } in
      let there : slice_get (goes_on image code at top x) k ≡ Some high = made_of (λ to. record { to = to; state = out image code.method at x.op top }) (filter (begins_insn code.tiles) (targets x)) k m.from m.there in
      let fit = law.onward_fits at top (top_here at x f) k high (goes_first image code ready.code_is at top x f k high there) in
      let below = transfer_is_monotone image ready.hierarchy code.method at x.op s top (below_top image registers s l) in
      subst IsFull m.is (record { inside = fit.1; count = below.count ∙ fit.0.1.count })

  handler_inside : (entry : ℕ) → Gathers image code entry → (i : ℕ) (h : Catcher) → slice_get (handlers_by code (Some entry)) i ≡ Some h → h.to < addresses code
  handler_inside entry g i h q =
      let (j, there) = goes_to_each image code ready.code_is ready.clean entry g top i h q in
      (law.onward_fits g.at top (top_here g.at g.insn g.fetched) j (to_handler top h) there).1

  -- ---- an assignment that is closed where the flow doesn't gather, with states for try entries

  module _ (b : Assignment RegState) (closed : IsClosed (flow_of image code) b) where
    abbrev at_address : ℕ → Bool → Option RegState
    at_address place w = elim w as (λ v. Option RegState) [ true ↦ if_full registers (b place) | false ↦ None ]

    -- its states of so many registers, at addresses
    abbrev full : Assignment RegState
    full place = at_address place (nat_lt place (addresses code))

    abbrev entry_state_of : ℕ → Option RegState
    entry_state_of entry = lowest image ready.hierarchy registers full (handlers_by code (Some entry))

    abbrev state_by : ℕ → Bool → Option RegState
    state_by place w = elim w as (λ v. Option RegState) [ true ↦ if_full registers (b place) | false ↦ entry_state_of (place - addresses code) ]

    -- and for each try entry the greatest state under all its handlers
    abbrev larger : Assignment RegState
    larger place = state_by place (nat_lt place (addresses code))

    abbrev Above : ℕ → RegState → Type 0
    Above = HasAbove (gathered_flow image code) larger

    full_is : (place : ℕ) (s : RegState) → place < addresses code → b place ≡ Some s → length s.regs ≡ registers → full place ≡ Some s
    full_is place s l e c = ap (at_address place) (lt-ltb place (addresses code) l) ∙ full_to registers (b place) s e c

    larger_by : (place : ℕ) (s : RegState) (w : Bool) → at_address place w ≡ Some s → state_by place w ≡ Some s
    larger_by place s true e = e
    larger_by place s false e = absurd (cc)

    larger_is : (place : ℕ) (s : RegState) → full place ≡ Some s → larger place ≡ Some s
    larger_is place s e = larger_by place s (nat_lt place (addresses code)) e

    -- what arrives at an address with all registers arrives here too
    same_above : (o : Onward RegState) → IsFull o → HasAbove (flow_of image code) b o.to o.state → Above o.to o.state
    same_above o f has =
        let same = (below_from image o.state has.state has.above).count in
        record { state = has.state; there = larger_is o.to has.state (full_is o.to has.state f.inside has.there (sym same ∙ f.count)); above = has.above }

    -- ---- it is closed where the flow gathers

    -- what an instruction hands on is under the state of the entry
    handed_above : (at : ℕ) (s : RegState) (x : At) → fetch image code.method.id at ≡ Some x → b at ≡ Some s → length s.regs ≡ registers → (entry : ℕ) → covering_entry code at x ≡ Some entry → Above (addresses code + entry) (handed s)
    handed_above at s x f e l entry q =
        let g : Gathers image code entry = record { at = at; insn = x; fetched = f; covered = q } in
        let each : (i : ℕ) (h : Catcher) → slice_get (handlers_by code (Some entry)) i ≡ Some h → IsOver image ready.hierarchy registers full s h = λ i h there. over entry g s e l i h there in
        let (m, is, high) = is_lowest image ready.hierarchy registers full s l (handlers_by code (Some entry)) each in
        record {
          state = m;
          there = ap (state_by (addresses code + entry)) (past_addresses image code entry) ∙ (ap entry_state_of (sym (found_again image code entry)) ∙ is);
          above = below_to image (handed s) m high;
        }
      where
        over : (entry : ℕ) (g : Gathers image code entry) (s : RegState) → b g.at ≡ Some s → length s.regs ≡ registers → (i : ℕ) (h : Catcher) → slice_get (handlers_by code (Some entry)) i ≡ Some h → IsOver image ready.hierarchy registers full s h
        over entry g s e l i h there =
            let (j, goes) = goes_to_each image code ready.code_is ready.clean entry g s i h there in
            let has = closed.arrives g.at s e j (to_handler s h) goes in
            let low = below_from image (caught_state s h) has.state has.above in
            record { state = has.state; there = full_is h.to has.state (handler_inside entry g i h there) has.there (sym low.count ∙ l); above = low }

    hands_arrive : (at : ℕ) (s : RegState) (x : At) → fetch image code.method.id at ≡ Some x → b at ≡ Some s → length s.regs ≡ registers → (c : Option ℕ) → covering_entry code at x ≡ c → (k : ℕ) (o : Onward RegState) → slice_get (hands_on code s c) k ≡ Some o → Above o.to o.state
    hands_arrive at s x f e l None q k o there = absurd (cc)
    hands_arrive at s x f e l (Some entry) q zero o there =
        subst (λ (z : Onward RegState). Above z.to z.state) (same_Some (record { to = addresses code + entry; state = handed s }) o there) (handed_above at s x f e l entry q)
    hands_arrive at s x f e l (Some entry) q (suc k) o there = absurd (cc)

    insn_arrives : (at : ℕ) (s : RegState) → b at ≡ Some s → length s.regs ≡ registers → (y : Option At) → fetch image code.method.id at ≡ y → (k : ℕ) (o : Onward RegState) → slice_get (onward_by image code at s y) k ≡ Some o → Above o.to o.state
    insn_arrives at s e l None f k o q = absurd (cc)
    insn_arrives at s e l (Some x) f k o q =
        let c : Option ℕ = covering_entry code at x in
        elim (in_either (goes_on image code at s x) (hands_on code s c) k o q) [
          | inl one ↦ same_above o (target_full at s x f l k o one) (closed.arrives at s e k o (goes_first image code ready.code_is at s x f k o one))
          | inr r ↦ hands_arrive at s x f e l c refl r.place o r.there
        ]

    arrives : (place : ℕ) (s : RegState) (w : Bool) → state_by place w ≡ Some s → (k : ℕ) (o : Onward RegState) → slice_get (onward_when image code place s w) k ≡ Some o → Above o.to o.state
    arrives place s true e k o q =
        let (there, count) = full_from registers (b place) s e in
        insn_arrives place s there count (fetch image code.method.id place) refl k o q
    arrives place s false e k o q =
        let hs : List Catcher = handlers_by code (Some (place - addresses code)) in
        let m = made_from (to_handler s) hs k o q in
        let r = lowest_is image ready.hierarchy registers full hs s e k m.from m.there in
        subst (λ (z : Onward RegState). Above z.to z.state) m.is
        (record { state = r.state; there = larger_is m.from.to r.state r.there; above = below_to image (caught_state s m.from) r.state r.above })

    closed_larger : IsClosed (gathered_flow image code) larger
    closed_larger = record {
      entry = same_above (record { to = 0; state = (flow_of image code).entry })
          (record { inside = some_unit code.body.units code.tiles ready.clean.tiled ready.clean.start; count = law.entry_fits.1.count }) closed.entry;
      arrives = λ place s e k o q. arrives place s (nat_lt place (addresses code)) e k o q;
    }

    under_larger : (xs : List (Option RegState)) → IsUnder (gathered_flow image code) (assigned xs) larger → IsUnder (flow_of image code) (assigned (at_instructions code xs)) b
    under_larger xs under place s e =
        let (l, there) = cut (addresses code) xs place s e in
        let has = under place s there in
        let kept : if_full registers (b place) ≡ Some has.state = sym (ap (state_by place) (lt-ltb place (addresses code) l)) ∙ has.there in
        record { state = has.state; there = (full_from registers (b place) has.state kept).0; above = has.above }

pub gathered_assignments_are_least : GatheredAssignmentsAreLeast
gathered_assignments_are_least image code ready xs fits least = (
  record {
    closed = closed_cut image code ready xs fits least.closed;
    least = λ b closed. under_larger image code ready b closed xs (least.least (larger image code ready b closed) (closed_larger image code ready b closed));
  },
  all_fit image code ready xs fits,
)
