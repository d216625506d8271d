-- The handlers of an instruction are those of the try entry that covers it.
use Rattle.std.specs.Prelude.{slice_get, position, nat_lt, filter, All}
use Rattle.std.specs.List.{position_or_len}
use Rattle.std.proofs.Common.{◌≡◌, ◌⊎◌, inl, inr, ℕ, suc, ◌+◌, ◌-◌, ◌<◌, ◌≤◌, List, [], ◌∷◌, ◌++◌, length, Bool, cond, true, false, Option, Some, None, refl, ap, sym, ◌∙◌, subst, arith}
use Rattle.std.proofs.lemmas.Bool.{ltb-true, lt-ltb}
use Rattle.std.proofs.lemmas.Option.{slice_get_cases, cond_some}
use Rattle.dv_worklist.specs.Flow.{Onward}
use Rattle.dv_typing.specs.declared.typing.RegState.{RegState}
use Rattle.dv_defs.specs.declared.code.Body.{Body}
use Rattle.dv_defs.specs.declared.code.Try.{Try}
use Rattle.dv_defs.specs.Images.{Image}
use Rattle.dv_defs.specs.Op.{Code, code_at, can_throw}
use Rattle.dv_defs.specs.Tiling.{begins_insn}
use Rattle.dv_typing.specs.Statics.{At, fetch}
use Rattle.dv_typing.specs.Transfer.{out}
use Rattle.dv_typing.specs.Flow.{Catcher, catchers, targets, handlers_of, handlers_in, handlers_at, thrown_at, caught_state}
use Rattle.law_flow.specs.Clean.{IsHandler, IsClean}
use Rattle.law_infer.specs.Flowing.{goes_to, goes_to_handlers, onward_from}
use Rattle.law_gather.specs.Gathered.{covers, covering_entry, addresses, hands_on, onward_by, catchers_of, onward_caught, onward_gathered, Gathers}
use Rattle.law_gather.proofs.Lists.{in_first, in_second, in_either, made_from, made_of, passed_from, passes, all_at}

abbrev first_covers : Body → ℕ → Try → List Try → Bool → List Catcher
first_covers body at t ts covered = elim covered [ true ↦ catchers body t.handlers | false ↦ handlers_of body ts at ]

found_by : (body : Body) (at : ℕ) (t : Try) (ts : List Try) (covered : Bool) → covers at t ≡ covered → handlers_of body ts at ≡ catchers_of body (slice_get ts (position_or_len (covers at) ts))
    → handlers_of body (t ∷ ts) at ≡ catchers_of body (slice_get (t ∷ ts) (position_or_len (covers at) (t ∷ ts)))
found_by body at t ts true e later = rw (e, position_or_len) (ap (first_covers body at t ts) e)
found_by body at t ts false e later =
    let n = position_or_len (covers at) ts in
    let next : suc n ≡ 1 + n = omega arith in
    rw (e, position_or_len) (ap (first_covers body at t ts) e ∙ (later ∙ ap (λ (k : ℕ). catchers_of body (slice_get (t ∷ ts) k)) next))

-- the handlers of an address are those of the first entry that covers it
found : (body : Body) (at : ℕ) (ts : List Try) → handlers_of body ts at ≡ catchers_of body (slice_get ts (position_or_len (covers at) ts))
found body at [] = refl
found body at (t ∷ ts) = found_by body at t ts (covers at t) refl (found body at ts)

abbrev pub entry_of : List Try → Option ℕ → Option Try
entry_of ts None = None
entry_of ts (Some k) = slice_get ts k

found_at : (body : Body) (ts : List Try) (n : ℕ) → catchers_of body (slice_get ts n) ≡ catchers_of body (entry_of ts (cond (nat_lt n (length ts)) (Some n) None))
found_at body ts n =
    elim (slice_get_cases ts n).1 [
      | inl there ↦
          let inside : nat_lt n (length ts) ≡ true = grind (arith, there.1) in
          ap (λ b. catchers_of body (entry_of ts (cond b (Some n) None))) (sym inside)
      | inr past ↦
          let outside : nat_lt n (length ts) ≡ false = grind (arith, past.0) in
          ap (catchers_of body) past.1 ∙ ap (λ b. catchers_of body (entry_of ts (cond b (Some n) None))) (sym outside)
    ]

module _ (code : Code) where
  -- the handlers of a try entry, by its number
  abbrev pub handlers_by : Option ℕ → List Catcher
  handlers_by o = catchers_of code.body (entry_of code.body.tries o)

  covered_by : (at : ℕ) → handlers_of code.body code.body.tries at ≡ handlers_by (position (covers at) code.body.tries)
  covered_by at = found code.body at code.body.tries ∙ found_at code.body code.body.tries (position_or_len (covers at) code.body.tries)

  pub number_within : (at k : ℕ) → position (covers at) code.body.tries ≡ Some k → k < length code.body.tries
  number_within at k e =
      let n = position_or_len (covers at) code.body.tries in
      let (inside, same) = cond_some (nat_lt n (length code.body.tries)) n k e in
      let l : n < length code.body.tries = ltb-true n (length code.body.tries) inside in
      omega (arith, l, same)

  covering_some : (at k : ℕ) (b : Bool) → elim b as (λ w. Option ℕ) [ true ↦ position (covers at) code.body.tries | false ↦ None ] ≡ Some k → position (covers at) code.body.tries ≡ Some k
  covering_some at k true e = e
  covering_some at k false e = absurd (cc)

  -- an entry that covers an instruction is there
  pub covers_within : (at k : ℕ) (x : At) → covering_entry code at x ≡ Some k → k < length code.body.tries
  covers_within at k x e = number_within (thrown_at at x) k (covering_some (thrown_at at x) k (can_throw x.op) e)

abbrev pub to_handler : RegState → Catcher → Onward RegState
to_handler s h = record { to = h.to; state = caught_state s h }

-- an instruction's targets, with the state after it
abbrev pub goes_on : Image → Code → ℕ → RegState → At → List (Onward RegState)
goes_on image code at s x = goes_to code (out image code.method at x.op s) (targets x)

lt_false : (a b : ℕ) → b ≤ a → nat_lt a b ≡ false
lt_false a b l = grind (arith, l)

-- ---- what goes on where it gathers

module _ (image : Image) (code : Code) where
  -- from a place, by whether it is an address
  abbrev pub onward_when : ℕ → RegState → Bool → List (Onward RegState)
  onward_when place s b = elim b as (λ w. List (Onward RegState)) [
    | true ↦ onward_by image code place s (fetch image code.method.id place)
    | false ↦ onward_caught s (handlers_by code (Some (place - addresses code)))
  ]

  -- from an instruction
  pub insn_onward : (at : ℕ) (s : RegState) (x : At) → at < addresses code → fetch image code.method.id at ≡ Some x →
      onward_gathered image code at s ≡ goes_on image code at s x ++ hands_on code s (covering_entry code at x)
  insn_onward at s x l e = ap (onward_when at s) (lt-ltb at (addresses code) l) ∙ ap (onward_by image code at s) e

  -- an entry's place is no address
  pub past_addresses : (entry : ℕ) → nat_lt (addresses code + entry) (addresses code) ≡ false
  past_addresses entry = lt_false (addresses code + entry) (addresses code) (omega arith)

  -- and its number is found again
  pub found_again : (entry : ℕ) → entry ≡ (addresses code + entry) - addresses code
  found_again entry = omega arith

  -- from an entry
  pub entry_onward : (entry : ℕ) (s : RegState) → onward_gathered image code (addresses code + entry) s ≡ onward_caught s (handlers_by code (Some entry))
  entry_onward entry s =
      ap (onward_when (addresses code + entry) s) (past_addresses entry) ∙
      ap (λ (k : ℕ). onward_caught s (handlers_by code (Some k))) (sym (found_again entry))

module _ (image : Image) (code : Code) (own : code_at image code.method.id ≡ Some code) where
  handlers_are : (at : ℕ) → handlers_at image code.method.id at ≡ handlers_of code.body code.body.tries at
  unfolding handlers_at
  handlers_are at = ap (λ o. handlers_in o at) own

  handlers_found : (at : ℕ) → handlers_at image code.method.id at ≡ handlers_by code (position (covers at) code.body.tries)
  handlers_found at = handlers_are at ∙ covered_by code at

  -- ---- the ways on of an instruction

  thrown_by : (s : RegState) (at : ℕ) (b : Bool) →
      elim b as (λ w. List (Onward RegState)) [ true ↦ goes_to_handlers code s (handlers_at image code.method.id at) | false ↦ [] ] ≡
      goes_to_handlers code s (handlers_by code (elim b as (λ w. Option ℕ) [ true ↦ position (covers at) code.body.tries | false ↦ None ]))
  thrown_by s at true = ap (goes_to_handlers code s) (handlers_found at)
  thrown_by s at false = refl

  -- to its targets, and to the handlers of the entry that covers it
  pub onward_is : (at : ℕ) (s : RegState) (x : At) → fetch image code.method.id at ≡ Some x →
      onward_from image code at s (fetch image code.method.id at) ≡ goes_on image code at s x ++ goes_to_handlers code s (handlers_by code (covering_entry code at x))
  onward_is at s x e =
      ap (onward_from image code at s) e ∙
      ap (λ (z : List (Onward RegState)). goes_on image code at s x ++ z) (thrown_by s (thrown_at at x) (can_throw x.op))

  -- past the targets it goes to a handler of the entry
  pub record ToHandler (s : RegState) (at : ℕ) (x : At) (k : ℕ) (o : Onward RegState) : Type 0 where
    pub past : length (goes_on image code at s x) ≤ k
    pub place : ℕ
    pub handler : Catcher
    pub there : slice_get (handlers_by code (covering_entry code at x)) place ≡ Some handler
    pub is : to_handler s handler ≡ o

  pub goes_where : (at : ℕ) (s : RegState) (x : At) → fetch image code.method.id at ≡ Some x → (k : ℕ) (o : Onward RegState) →
      slice_get (onward_from image code at s (fetch image code.method.id at)) k ≡ Some o → (slice_get (goes_on image code at s x) k ≡ Some o) ⊎ ToHandler s at x k o
  goes_where at s x e k o q =
      let hs : List Catcher = handlers_by code (covering_entry code at x) in
      let there = subst (λ (z : List (Onward RegState)). slice_get z k ≡ Some o) (onward_is at s x e) q in
      elim (in_either (goes_on image code at s x) (goes_to_handlers code s hs) k o there) [
        | inl first ↦ inl first
        | inr r ↦ inr (let m = made_from (to_handler s) (filter (λ h. begins_insn code.tiles h.to) hs) r.place o r.there in
            let p = passed_from (λ h. begins_insn code.tiles h.to) hs r.place m.from m.there in
            record { past = (let a = r.after in omega (arith, a)); place = p.0; handler = m.from; there = p.1; is = m.is })
      ]

  pub goes_first : (at : ℕ) (s : RegState) (x : At) → fetch image code.method.id at ≡ Some x → (k : ℕ) (o : Onward RegState) →
      slice_get (goes_on image code at s x) k ≡ Some o → slice_get (onward_from image code at s (fetch image code.method.id at)) k ≡ Some o
  goes_first at s x e k o q =
      let hs : List Catcher = handlers_by code (covering_entry code at x) in
      subst (λ (z : List (Onward RegState)). slice_get z k ≡ Some o) (sym (onward_is at s x e)) (in_first (goes_on image code at s x) (goes_to_handlers code s hs) k o q)

  -- ---- the handlers of an entry to which an instruction hands on

  module _ (clean : IsClean image code) (entry : ℕ) (g : Gathers image code entry) where
    covered_at : position (covers (thrown_at g.at g.insn)) code.body.tries ≡ Some entry
    covered_at = covering_some code (thrown_at g.at g.insn) entry (can_throw g.insn.op) g.covered

    -- they are instructions
    pub leads : (i : ℕ) (h : Catcher) → slice_get (handlers_by code (Some entry)) i ≡ Some h → begins_insn code.tiles h.to ≡ true
    leads i h e =
        let same : handlers_at image code.method.id (thrown_at g.at g.insn) ≡ handlers_by code (Some entry) = handlers_found (thrown_at g.at g.insn) ∙ ap (handlers_by code) covered_at in
        (all_at (IsHandler code) (handlers_by code (Some entry)) i h (subst (λ (z : List Catcher). All (IsHandler code) z) same (clean.handlers_lead (thrown_at g.at g.insn))) e).leads

    -- and each state goes on from that instruction to each of them
    pub goes_to_each : (s : RegState) (i : ℕ) (h : Catcher) → slice_get (handlers_by code (Some entry)) i ≡ Some h →
        (k : ℕ) × (slice_get (onward_from image code g.at s (fetch image code.method.id g.at)) k ≡ Some (to_handler s h))
    goes_to_each s i h e =
        let hs : List Catcher = handlers_by code (Some entry) in
        let first : List (Onward RegState) = goes_on image code g.at s g.insn in
        let p = passes (λ h. begins_insn code.tiles h.to) hs i h e (leads i h e) in
        let made : slice_get (goes_to_handlers code s hs) p.0 ≡ Some (to_handler s h) = made_of (to_handler s) (filter (λ h. begins_insn code.tiles h.to) hs) p.0 h p.1 in
        let is : onward_from image code g.at s (fetch image code.method.id g.at) ≡ first ++ goes_to_handlers code s hs =
        onward_is g.at s g.insn g.fetched ∙ ap (λ (o : Option ℕ). first ++ goes_to_handlers code s (handlers_by code o)) g.covered in
        (length first + p.0, subst (λ (z : List (Onward RegState)). slice_get z (length first + p.0) ≡ Some (to_handler s h)) (sym is) (in_second first (goes_to_handlers code s hs) (length first + p.0) p.0 (to_handler s h) refl made))
