-- What a method's plan has at an instruction.
use Rattle.std.proofs.Common.{◌≡◌, ◌<◌, ◌≤◌, inl, inr, ℕ, Bool, true, false, cond, List, [], length, map, Option, Some, None, refl, sym, ap, ◌∙◌, subst, arith}
use Rattle.std.specs.Prelude.{IfSome, nat_lt, slice_get, slice_index_or}
use Rattle.std.specs.List.{position_or_len}
use Rattle.std.proofs.lemmas.Option.{same_Some, slice_get-get_or, slice_get_cases}
use Rattle.std.proofs.lemmas.List.{get_or_past}
use Rattle.std.proofs.lemmas.List.Elements.{All-nil}
use Rattle.dv_defs.specs.declared.code.Body.{Body}
use Rattle.dv_defs.specs.declared.code.Try.{Try}
use Rattle.dv_defs.specs.Op.{Code, can_throw}
use Rattle.dv_typing.specs.Flow.{thrown_at}
use Rattle.law_gather.specs.Gathered.{covers, covering_entry, catchers_of}
use Rattle.dv_defs.specs.Tiling.{begins_insn}
use Rattle.dv_typing.specs.Statics.{At, fetch}
use Rattle.law_infer.specs.Flowing.{IsReady}
use Rattle.law_infer.proofs.Tiles.{within}
use Rattle.dv_bases.specs.Bases.{Names, IsNumbered}
use Rattle.dv_effects.specs.declared.effects.Step.{Step}
use Rattle.dv_effects.specs.Effects.{IsStep}
use Rattle.dv_effects.specs.Made.{AreSteps, HasClasses}
use Rattle.dv_effects.proofs.Making.{steps_made}
use Rattle.dv_rules.specs.Edges.{handler_edge}
use Rattle.dv_plan.specs.declared.plan.Plan.{Plan}
use Rattle.dv_plan.specs.declared.ways.Ways.{Ways}
use Rattle.dv_plan.specs.declared.hops.Hop.{Hop}
use Rattle.dv_plan.specs.Hops.{LeadTo, AreHops}
use Rattle.dv_plan.specs.Ways.{IsWays}
use Rattle.dv_plan.specs.Marks.{before_by}
use Rattle.dv_plan.specs.Plans.{IsPlan}

abbrev first_of : Bool → ℕ → ℕ → Option ℕ
first_of throws n count = elim throws [ true ↦ cond (nat_lt n count) (Some n) None | false ↦ None ]

inside_if : (n count : ℕ) (less : Bool) → nat_lt n count ≡ less → IfSome (cond less (Some n) None) (λ k. k < count)
inside_if n count true e = grind (arith, e)
inside_if n count false e = tt

inside_by : (throws : Bool) (n count : ℕ) → IfSome (first_of throws n count) (λ k. k < count)
inside_by true n count = inside_if n count (nat_lt n count) refl
inside_by false n count = tt

-- the ways from a try entry are those to its handlers
pub leads_by : (names : Names) (body : Body) (hops : List (List Hop)) → AreHops names body (length body.tries) hops → (k : ℕ) → LeadTo names (slice_index_or hops k []) (map handler_edge (catchers_of body (slice_get body.tries k)))
leads_by names body hops are k =
    elim (slice_get_cases body.tries k).1 [
      | inl there ↦
          subst (λ (o : Option Try). LeadTo names (slice_index_or hops k []) (map handler_edge (catchers_of body o))) (sym there.2) (are.each k there.0 there.1 there.2)
      | inr past ↦
          let long : length hops ≤ k = omega (arith, past.0, are.count) in
          subst (λ (o : Option Try). LeadTo names (slice_index_or hops k []) (map handler_edge (catchers_of body o))) (sym past.1)
          (subst (λ (hs : List Hop). LeadTo names hs []) (sym (get_or_past hops k [] long)) (record { numbered = All-nil (λ h. IsNumbered names h.caught); lead = refl }))
    ]

-- the entry that covers an instruction is one of the body's
pub entry_inside : (code : Code) (at : ℕ) (x : At) (o : Option ℕ) → o ≡ covering_entry code at x → IfSome o (λ entry. entry < length code.body.tries)
entry_inside code at x o is = subst (λ (p : Option ℕ). IfSome p (λ entry. entry < length code.body.tries)) (sym is) (inside_by (can_throw x.op) (position_or_len (covers (thrown_at at x)) code.body.tries) (length code.body.tries))

module _ (names : Names) (code : Code) (ready : IsReady names.image code) (p : Plan) (is : IsPlan names.image names code p) where
  pub inside : (at : ℕ) → begins_insn code.tiles at ≡ true → at < length code.body.units
  inside at begins = let w = (within code.body.units 0 0 code.tiles ready.clean.tiled at begins).1 in omega (arith, w)

  -- and what has one before it is an instruction
  pub leads_inside : (to at : ℕ) → before_by p.marks.items to ≡ Some at → to < length code.body.units
  leads_inside to at before = inside to (is.before.straight at to before).leads

  -- a step and the ways on stand where an instruction begins
  pub has_step : (at : ℕ) → begins_insn code.tiles at ≡ true → (step : Step) × (slice_index_or p.steps.items at None ≡ Some step)
  has_step at begins =
      let insn = ready.clean.each at begins in
      let has = is.steps.each at (inside at begins) insn.0 insn.1.fetched in
      (has.0, has.1)

  pub has_ways : (at : ℕ) → begins_insn code.tiles at ≡ true → (w : Ways) × (slice_index_or p.ways.items at None ≡ Some w)
  has_ways at begins =
      let insn = ready.clean.each at begins in
      let has = (is.ways.each at (inside at begins)).there insn.0 insn.1.fetched in
      (has.0, has.1)

  -- and are those of what is fetched there
  pub step_is : (at : ℕ) (x : At) (step : Step) → at < length code.body.units → fetch names.image code.method.id at ≡ Some x → slice_index_or p.steps.items at None ≡ Some step → IsStep names code at x.op step
  step_is at x step inside fetched there =
      let has = is.steps.each at inside x fetched in
      subst (λ (s : Step). IsStep names code at x.op s) (same_Some has.0 step (sym has.1 ∙ there)) has.2

  pub ways_are : (at : ℕ) (x : At) (w : Ways) → at < length code.body.units → fetch names.image code.method.id at ≡ Some x → slice_index_or p.ways.items at None ≡ Some w → IsWays code at x w
  ways_are at x w inside fetched there =
      let has = (is.ways.each at inside).there x fetched in
      subst (λ (v : Ways). IsWays code at x v) (same_Some has.0 w (sym has.1 ∙ there)) has.2

  are_steps : AreSteps names code p.steps.items
  are_steps at begins =
      let insn = ready.clean.each at begins in
      let has = is.steps.each at (inside at begins) insn.0 insn.1.fetched in
      let long : at < length p.steps.items = omega (arith, inside at begins, is.steps.count) in
      record {
        insn = insn.0;
        fetched = insn.1.fetched;
        step = has.0;
        there = slice_get-get_or p.steps.items at None long ∙ ap Some has.1;
        is_step = has.2;
      }

  pub has_classes : HasClasses names code p.own p.steps.items
  has_classes = record { own_class = is.own; made = steps_made names code p.steps.items are_steps }
