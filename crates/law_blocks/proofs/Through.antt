-- What goes on from an instruction through straight code.
use Rattle.std.specs.Prelude.{slice_get, nat_lt}
use Rattle.std.proofs.Common.{◌≡◌, ℕ, suc, ◌+◌, ◌-◌, ◌<◌, ◌≤◌, List, [], ◌∷◌, ◌++◌, Bool, true, false, Option, Some, None, refl, ap, sym, ◌∙◌, subst, arith}
use Rattle.std.proofs.lemmas.Bool.{lt-ltb, eqb-true, eq-eqb}
use Rattle.std.proofs.lemmas.Option.{same_Some}
use Rattle.dv_worklist.specs.Flow.{Onward}
use Rattle.dv_typing.specs.declared.typing.RegState.{RegState}
use Rattle.dv_defs.specs.declared.code.Try.{Try}
use Rattle.dv_defs.specs.Images.{Image}
use Rattle.dv_defs.specs.Op.{Code}
use Rattle.dv_defs.specs.Tiling.{begins_insn}
use Rattle.dv_typing.specs.Statics.{At, fetch}
use Rattle.dv_typing.specs.Transfer.{out}
use Rattle.dv_typing.specs.Flow.{targets, caught_state}
use Rattle.law_infer.specs.Flowing.{goes_to, IsReady}
use Rattle.law_infer.proofs.Tiles.{within}
use Rattle.law_gather.specs.Gathered.{addresses, covering_entry, handed, hands_on, onward_by, catchers_of, onward_caught, onward_gathered}
use Rattle.law_blocks.specs.Blocks.{Before, AreBefore, is_before, onward_through, onward_blocks}
use Rattle.law_blocks.proofs.Each.{Each, each_nil, each_cons, each_left, each_of, each_map, each_made, made_each}

-- ---- the test of what stands before

before_from : (at : ℕ) (o : Option ℕ) → is_before at o ≡ true → o ≡ Some at
before_from at None e = absurd (cc)
before_from at (Some p) e = ap Some (eqb-true p at e)

pub before_to : (at : ℕ) (o : Option ℕ) → o ≡ Some at → is_before at o ≡ true
before_to at o e = subst (λ (z : Option ℕ). is_before at z ≡ true) (sym e) (eq-eqb at at refl)

lt_false : (a b : ℕ) → b ≤ a → nat_lt a b ≡ false
lt_false a b l = grind (arith, l)

module _ (image : Image) (code : Code) (before : Before) where
  -- ---- the lists, by their tests

  abbrev pub after : ℕ → RegState → At → RegState
  after at s x = out image code.method at x.op s

  -- the last part of what goes on, by whether the next instruction follows
  abbrev pub ending : ℕ → ℕ → RegState → At → Bool → List (Onward RegState)
  ending n at s x b = elim b as (λ w. List (Onward RegState)) [
    | true ↦ onward_through image code before n x.next (out image code.method at x.op s)
    | false ↦ goes_to code (out image code.method at x.op s) (targets x)
  ]

  abbrev pub through_from : ℕ → ℕ → RegState → Option At → List (Onward RegState)
  through_from n at s o = elim o as (λ w. List (Onward RegState)) [
    | None ↦ []
    | Some x ↦ hands_on code s (covering_entry code at x) ++ ending n at s x (is_before at (before x.next))
  ]

  pub insn_through : (n at : ℕ) (s : RegState) (x : At) → fetch image code.method.id at ≡ Some x → (b : Bool) → is_before at (before x.next) ≡ b →
      onward_through image code before (suc n) at s ≡ hands_on code s (covering_entry code at x) ++ ending n at s x b
  insn_through n at s x e b q =
      ap (through_from n at s) e ∙ ap (λ (w : Bool). hands_on code s (covering_entry code at x) ++ ending n at s x w) q

  -- from a try entry
  abbrev pub caught_from : ℕ → RegState → List (Onward RegState)
  caught_from place s = onward_caught s (catchers_of code.body (slice_get code.body.tries (place - addresses code)))

  abbrev gathered_when : ℕ → RegState → Bool → List (Onward RegState)
  gathered_when place s b = elim b as (λ w. List (Onward RegState)) [ true ↦ onward_by image code place s (fetch image code.method.id place) | false ↦ caught_from place s ]

  abbrev blocks_when : ℕ → RegState → Bool → List (Onward RegState)
  blocks_when place s b = elim b as (λ w. List (Onward RegState)) [ true ↦ onward_through image code before (addresses code) place s | false ↦ caught_from place s ]

  pub blocks_inside : (place : ℕ) (s : RegState) → nat_lt place (addresses code) ≡ true → onward_blocks image code before place s ≡ onward_through image code before (addresses code) place s
  blocks_inside place s e = ap (blocks_when place s) e

  pub gathered_inside : (place : ℕ) (s : RegState) → nat_lt place (addresses code) ≡ true → onward_gathered image code place s ≡ onward_by image code place s (fetch image code.method.id place)
  gathered_inside place s e = ap (gathered_when place s) e

  pub blocks_past : (place : ℕ) (s : RegState) → nat_lt place (addresses code) ≡ false → onward_blocks image code before place s ≡ caught_from place s
  blocks_past place s e = ap (blocks_when place s) e

  pub gathered_past : (place : ℕ) (s : RegState) → nat_lt place (addresses code) ≡ false → onward_gathered image code place s ≡ caught_from place s
  gathered_past place s e = ap (gathered_when place s) e

  module _ (ready : IsReady image code) (are : AreBefore image code before) where
    -- ---- where instructions stand

    begun_inside : (at : ℕ) → begins_insn code.tiles at ≡ true → at < addresses code
    begun_inside at b = let l = (within code.body.units 0 0 code.tiles ready.clean.tiled at b).1 in omega (arith, l)

    pub inside : (at : ℕ) (x : At) → fetch image code.method.id at ≡ Some x → at < addresses code
    inside at x e = begun_inside at (ready.clean.only at x e)

    pub is_inside : (at : ℕ) (x : At) → fetch image code.method.id at ≡ Some x → nat_lt at (addresses code) ≡ true
    is_inside at x e = lt-ltb at (addresses code) (inside at x e)

    pub insn_gathered : (at : ℕ) (s : RegState) (x : At) → fetch image code.method.id at ≡ Some x →
        onward_gathered image code at s ≡ goes_to code (after at s x) (targets x) ++ hands_on code s (covering_entry code at x)
    insn_gathered at s x e = gathered_inside at s (is_inside at x e) ∙ ap (onward_by image code at s) e

    -- ---- straight code

    pub straight : (at to : ℕ) (x : At) → fetch image code.method.id at ≡ Some x → before to ≡ Some at → (x.next ≡ to) × (targets x ≡ to ∷ []) × (begins_insn code.tiles to ≡ true)
    straight at to x e q =
        let g = are.straight at to q in
        let same : g.insn ≡ x = same_Some g.insn x (sym g.fetched ∙ e) in
        (subst (λ (z : At). z.next ≡ to) same g.next, subst (λ (z : At). targets z ≡ to ∷ []) same g.only, g.leads)

    -- what goes on from an instruction goes straight on
    pub on_straight : (P : Onward RegState → Type 0) (at to : ℕ) (x : At) (s : RegState) → fetch image code.method.id at ≡ Some x → before to ≡ Some at →
        Each P (onward_gathered image code at s) → P (record { to = to; state = after at s x })
    on_straight P at to x s e q each =
        let (next, only, leads) = straight at to x e q in
        let goes : List (Onward RegState) = goes_to code (after at s x) (targets x) in
        let first : Each P goes = each_left P goes (hands_on code s (covering_entry code at x)) (each_of P (onward_gathered image code at s) (goes ++ hands_on code s (covering_entry code at x)) (insn_gathered at s x e) each) in
        made_each P (begins_insn code.tiles) (λ to. record { to = to; state = after at s x }) (targets x) first 0 to (subst (λ (z : List ℕ). slice_get z 0 ≡ Some to) (sym only) refl) leads

    -- it holds at a target that is an instruction
    abbrev Begun : (Onward RegState → Type 0) → ℕ → RegState → At → ℕ → Type 0
    Begun P at s x to = begins_insn code.tiles to ≡ true → P (record { to = to; state = after at s x })

    -- and nowhere else
    pub straight_alone : (P : Onward RegState → Type 0) (at to : ℕ) (x : At) (s : RegState) → fetch image code.method.id at ≡ Some x → before to ≡ Some at →
        P (record { to = to; state = after at s x }) → Each P (goes_to code (after at s x) (targets x))
    straight_alone P at to x s e q p =
        let (next, only, leads) = straight at to x e q in
        each_made P (begins_insn code.tiles) (λ to. record { to = to; state = after at s x }) (targets x)
        (each_of (Begun P at s x) (to ∷ []) (targets x) (sym only) (each_cons (Begun P at s x) to [] (λ b. p) (each_nil (Begun P at s x))))

    -- where the next instruction doesn't follow, it leads to heads
    leads_by : (at to : ℕ) (x : At) → fetch image code.method.id at ≡ Some x → is_before at (before x.next) ≡ false → (k : ℕ) → slice_get (targets x) k ≡ Some to → (o : Option ℕ) → before to ≡ o → before to ≡ None
    leads_by at to x e q k there None is = is
    leads_by at to x e q k there (Some p) is =
        let same : p ≡ at = are.alone at x e k to there p is in
        let here : before to ≡ Some at = is ∙ ap Some same in
        let next : x.next ≡ to = (straight at to x e here).0 in
        let follows : is_before at (before x.next) ≡ true = before_to at (before x.next) (ap before next ∙ here) in
        absurd (cc)

    pub leads_to_heads : (at : ℕ) (x : At) (s : RegState) → fetch image code.method.id at ≡ Some x → is_before at (before x.next) ≡ false → Each (λ o. before o.to ≡ None) (goes_to code s (targets x))
    leads_to_heads at x s e q =
        each_made (λ o. before o.to ≡ None) (begins_insn code.tiles) (λ to. record { to = to; state = s }) (targets x)
        (λ k to there b. leads_by at to x e q k there (before to) refl)

    pub follows : (at : ℕ) (x : At) → is_before at (before x.next) ≡ true → before x.next ≡ Some at
    follows at x e = before_from at (before x.next) e

    -- ---- try entries are heads, and so are handlers

    past_by : (place : ℕ) → nat_lt place (addresses code) ≡ false → (o : Option ℕ) → before place ≡ o → before place ≡ None
    past_by place e None is = is
    past_by place e (Some p) is =
        let g = are.straight p place is in
        let l : nat_lt place (addresses code) ≡ true = lt-ltb place (addresses code) (begun_inside place g.leads) in
        absurd (cc)

    pub past_none : (place : ℕ) → nat_lt place (addresses code) ≡ false → before place ≡ None
    past_none place e = past_by place e (before place) refl

    pub hands_to_heads : (s : RegState) (c : Option ℕ) → Each (λ o. before o.to ≡ None) (hands_on code s c)
    hands_to_heads s None = each_nil (λ o. before o.to ≡ None)
    hands_to_heads s (Some entry) =
        each_cons (λ o. before o.to ≡ None) (record { to = addresses code + entry; state = handed s }) []
        (past_none (addresses code + entry) (lt_false (addresses code + entry) (addresses code) (omega arith))) (each_nil (λ o. before o.to ≡ None))

    entry_to_heads : (s : RegState) (entry : ℕ) (o : Option Try) → slice_get code.body.tries entry ≡ o → Each (λ o. before o.to ≡ None) (onward_caught s (catchers_of code.body o))
    entry_to_heads s entry None e = each_nil (λ o. before o.to ≡ None)
    entry_to_heads s entry (Some t) e =
        each_map (λ o. before o.to ≡ None) (λ h. record { to = h.to; state = caught_state s h }) (catchers_of code.body (Some t)) (λ k h there. are.handlers entry t e k h there)

    pub caught_to_heads : (place : ℕ) (s : RegState) → Each (λ o. before o.to ≡ None) (caught_from place s)
    caught_to_heads place s = entry_to_heads s (place - addresses code) (slice_get code.body.tries (place - addresses code)) refl
