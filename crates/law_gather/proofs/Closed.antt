-- An assignment that is closed where the flow gathers, cut to the instructions, is closed where it doesn't.
use Rattle.std.specs.Prelude.{slice_get, take}
use Rattle.std.proofs.Common.{◌≡◌, inl, inr, ℕ, zero, suc, ◌+◌, ◌<◌, List, [], ◌∷◌, ◌++◌, length, Option, Some, None, refl, sym, subst, arith}
use Rattle.std.proofs.lemmas.Bool.{lt-ltb}
use Rattle.dv_worklist.specs.Flow.{Onward, AllFit, HasAbove, IsClosed, IsLawful, assigned}
use Rattle.dv_typing.specs.declared.typing.RegState.{RegState}
use Rattle.dv_defs.specs.Images.{Image}
use Rattle.dv_defs.specs.Op.{Code}
use Rattle.dv_typing.specs.Statics.{At, fetch}
use Rattle.dv_typing.specs.Flow.{Catcher, caught_state}
use Rattle.dv_types.proofs.Below.{below_from, below_to}
use Rattle.law_infer.specs.Flowing.{flow_of, fits_at, rank_of, top_of, IsReady}
use Rattle.law_infer.proofs.Lawful.{flows_are_lawful}
use Rattle.law_gather.specs.Gathered.{addresses, covering_entry, handed, hands_on, onward_caught, onward_gathered, gathered_flow, fits_by, fits_gathered}
use Rattle.law_gather.specs.Laws.{at_instructions}
use Rattle.law_gather.proofs.Lists.{in_first, in_second, made_of}
use Rattle.law_gather.proofs.Covering.{handlers_by, to_handler, goes_on, insn_onward, entry_onward, goes_where}
use Rattle.law_gather.proofs.Lawful.{caught_below, some_unit}

-- ---- the states of the first places alone

pub cut : {S : Type 0} (n : ℕ) (xs : List (Option S)) (place : ℕ) (s : S) → assigned (take n xs) place ≡ Some s → (place < n) × (assigned xs place ≡ Some s)
cut zero xs place s e = absurd (cc)
cut (suc n) [] place s e = absurd (cc)
cut (suc n) (x ∷ xs) zero s e = (omega arith, e)
cut (suc n) (x ∷ xs) (suc place) s e = let r = cut n xs place s e in let l = r.0 in (omega (arith, l), r.1)

uncut : {S : Type 0} (n : ℕ) (xs : List (Option S)) (place : ℕ) (s : S) → place < n → assigned xs place ≡ Some s → assigned (take n xs) place ≡ Some s
uncut zero xs place s l e = absurd (omega (arith, l))
uncut (suc n) [] place s l e = absurd (cc)
uncut (suc n) (x ∷ xs) zero s l e = e
uncut (suc n) (x ∷ xs) (suc place) s l e = uncut n xs place s (omega (arith, l)) e

module _ (image : Image) (code : Code) (ready : IsReady image code) (xs : List (Option RegState)) (fits : AllFit (fits_gathered image code) (assigned xs)) where
  law : IsLawful (flow_of image code) (fits_at image code) (rank_of image code) (top_of image code)
  law = flows_are_lawful image code ready

  fits_here : (at : ℕ) (s : RegState) → at < addresses code → assigned xs at ≡ Some s → fits_at image code at s
  fits_here at s l e = subst (fits_by image code at s) (lt-ltb at (addresses code) l) (fits at s e)

  pub all_fit : AllFit (fits_at image code) (assigned (at_instructions code xs))
  all_fit at s e = let (l, there) = cut (addresses code) xs at s e in fits_here at s l there

  above_cut : (at : ℕ) (s : RegState) → at < addresses code → HasAbove (gathered_flow image code) (assigned xs) at s → HasAbove (flow_of image code) (assigned (at_instructions code xs)) at s
  above_cut at s l has = record { state = has.state; there = uncut (addresses code) xs at has.state l has.there; above = has.above }

  module _ (closed : IsClosed (gathered_flow image code) (assigned xs)) where
    abbrev Above : ℕ → RegState → Type 0
    Above = HasAbove (gathered_flow image code) (assigned xs)

    -- what arrives from the list of what goes on
    arrived : (place : ℕ) (s : RegState) → assigned xs place ≡ Some s → (os : List (Onward RegState)) → onward_gathered image code place s ≡ os → (k : ℕ) (o : Onward RegState) → slice_get os k ≡ Some o → Above o.to o.state
    arrived place s e os is k o q = closed.arrives place s e k o (subst (λ (z : List (Onward RegState)). slice_get z k ≡ Some o) (sym is) q)

    -- from the entry to which a state is handed it goes on to each handler
    through : (at : ℕ) (s : RegState) (entry : ℕ) → Above (addresses code + entry) (handed s) → (i : ℕ) (h : Catcher) → slice_get (handlers_by code (Some entry)) i ≡ Some h → Above h.to (caught_state s h)
    through at s entry has i h there =
        let g = has.state in
        let high = arrived (addresses code + entry) g has.there (onward_caught g (handlers_by code (Some entry))) (entry_onward image code entry g) i (to_handler g h) (made_of (to_handler g) (handlers_by code (Some entry)) i h there) in
        let up = below_to image (caught_state s h) (caught_state g h) (caught_below image ready.hierarchy (handed s) g (below_from image (handed s) g has.above) h) in
        record { state = high.state; there = high.there; above = law.order.trans (caught_state s h) (caught_state g h) high.state up high.above }

    to_handlers : (at : ℕ) (s : RegState) (x : At) → at < addresses code → fetch image code.method.id at ≡ Some x → assigned xs at ≡ Some s → (c : Option ℕ) → covering_entry code at x ≡ c →
        (i : ℕ) (h : Catcher) → slice_get (handlers_by code c) i ≡ Some h → Above h.to (caught_state s h)
    to_handlers at s x l f e None q i h there = absurd (cc)
    to_handlers at s x l f e (Some entry) q i h there =
        let ts : List (Onward RegState) = goes_on image code at s x in
        let o : Onward RegState = record { to = addresses code + entry; state = handed s } in
        let hand : slice_get (hands_on code s (covering_entry code at x)) 0 ≡ Some o = subst (λ (z : Option ℕ). slice_get (hands_on code s z) 0 ≡ Some o) (sym q) refl in
        let len : length ts + 0 ≡ length ts + 0 = refl in
        through at s entry (arrived at s e (ts ++ hands_on code s (covering_entry code at x)) (insn_onward image code at s x l f) (length ts + 0) o (in_second ts (hands_on code s (covering_entry code at x)) (length ts + 0) 0 o len hand)) i h there

    arrives : (at : ℕ) (s : RegState) (x : At) → at < addresses code → fetch image code.method.id at ≡ Some x → assigned xs at ≡ Some s → (k : ℕ) (o : Onward RegState) →
        slice_get ((flow_of image code).onward at s) k ≡ Some o → Above o.to o.state
    arrives at s x l f e k o q =
        let ts : List (Onward RegState) = goes_on image code at s x in
        elim (goes_where image code ready.code_is at s x f k o q) [
          | inl one ↦ arrived at s e (ts ++ hands_on code s (covering_entry code at x)) (insn_onward image code at s x l f) k o (in_first ts (hands_on code s (covering_entry code at x)) k o one)
          | inr r ↦ subst (λ (z : Onward RegState). Above z.to z.state) r.is (to_handlers at s x l f e (covering_entry code at x) refl r.place r.handler r.there)
        ]

    pub closed_cut : IsClosed (flow_of image code) (assigned (at_instructions code xs))
    closed_cut = record {
      entry = above_cut 0 (flow_of image code).entry (some_unit code.body.units code.tiles ready.clean.tiled ready.clean.start) closed.entry;
      arrives = λ at s e k o q.
          let (l, there) = cut (addresses code) xs at s e in
          let here = fits_here at s l there in
          let (x, is) = ready.clean.each at here.0 in
          above_cut o.to o.state (law.onward_fits at s here k o q).1 (arrives at s x l is.fetched there k o q);
    }
