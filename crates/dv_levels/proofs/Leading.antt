-- Where levels lead along a method's plan.
use Rattle.std.proofs.Common.{◌≡◌, ◌≢◌, ◌<◌, ◌≤◌, ℕ, suc, ◌+◌, ◌-◌, inl, inr, Bool, true, false, not, ◌||◌, List, [], length, map, Option, Some, None, refl, sym, ap, ◌∙◌, subst, arith}
use Rattle.std.specs.Prelude.{All, IfSome, filter, nat_eq, nat_lt, slice_get, slice_index_or}
use Rattle.std.specs.Option.{option_map}
use Rattle.std.proofs.lemmas.Bool.{eqb-true, eq-eqb}
use Rattle.std.proofs.lemmas.Option.{same_Some, slice_get-map, slice_get-get_or, slice_get_cases}
use Rattle.std.proofs.lemmas.List.{get_or_past}
use Rattle.std.proofs.lemmas.List.Elements.{All-nil}
use Rattle.dv_defs.specs.declared.code.Try.{Try}
use Rattle.dv_defs.specs.Op.{Code}
use Rattle.dv_defs.specs.Tiling.{begins_insn}
use Rattle.dv_typing.specs.declared.typing.RegType.TheVariants as ty
use Rattle.dv_typing.specs.RegTypes.{Types, type_at}
use Rattle.dv_typing.specs.Transfer.{copied_int, copied_object, object_element, result_int, result_ref, caught_type}
use Rattle.dv_typing.specs.Statics.{At, fetch}
use Rattle.dv_typing.specs.Flow.{Catcher, targets}
use Rattle.dv_rules.specs.declared.flow.Edge.{Edge}
use Rattle.dv_rules.specs.Edges.{handler_edge}
use Rattle.dv_bases.specs.Bases.{Names, word_type, IsNumbered}
use Rattle.dv_effects.specs.declared.effects.Effect.{Effect}
use Rattle.dv_effects.specs.declared.effects.Effect.TheVariants as effect
use Rattle.dv_effects.specs.declared.effects.Step.{Step}
use Rattle.dv_effects.specs.Effects.{IsStep, registers_after}
use Rattle.dv_plan.specs.declared.plan.Plan.{Plan}
use Rattle.dv_plan.specs.declared.ways.Ways.{Ways}
use Rattle.dv_plan.specs.declared.hops.Hop.{Hop}
use Rattle.dv_plan.specs.Hops.{LeadTo, hop_edge}
use Rattle.dv_plan.specs.Ways.{IsWays}
use Rattle.dv_plan.specs.Plans.{IsPlan}
use Rattle.law_gather.specs.Gathered.{addresses, covering_entry, catchers_of}
use Rattle.law_blocks.proofs.Each.{Each}
use Rattle.dv_defs.specs.Images.{Image}
use Rattle.law_levels.specs.Levels.{IsShallower, limit, HasNoClass, IsBounded, Carries}
use Rattle.law_levels.proofs.Bounds.{bounds_go_on, bounds_are_handed, bounds_are_caught, bounds_end}
use Rattle.dv_levels.specs.declared.effects.Level.{Level}
use Rattle.dv_levels.specs.Takes.{IsLevel, Takes, is_half, is_kept, taken_by}
use Rattle.dv_levels.proofs.Taking.{write_keeps, write_takes, two_keeps, result_long_keeps, new_keeps, construct_keeps, object_keeps, element_keeps}

-- ---- effects

contrary : (x : Bool) → x ≡ true → not x ≡ true → ⊥
contrary true e n = absurd (cc)
contrary false e n = absurd (cc)

other : (a b : ℕ) → not (nat_eq a b) ≡ true → a ≢ b
other a b e same = contrary (nat_eq a b) (eq-eqb a b same) e

neither : (a b : ℕ) → nat_eq a b ≡ false → a ≢ b
neither a b e same = absurd (let z = eq-eqb a b same in cc)

others_by : (low a : ℕ) (x y : Bool) → nat_eq a low ≡ x → nat_eq a (suc low) ≡ y → not (x || y) ≡ true → (a ≢ low) × (a ≢ suc low)
others_by low a false false p q e = (neither a low p, neither a (suc low) q)
others_by low a false true p q e = absurd (cc)
others_by low a true y p q e = absurd (cc)

others : (low a : ℕ) → not (is_half low a) ≡ true → (a ≢ low) × (a ≢ suc low)
others low a e = others_by low a (nat_eq a low) (nat_eq a (suc low)) refl refl e

pub kept_takes : (e : Effect) (register : ℕ) (fewer : Bool) → is_kept e register ≡ true → Takes e register fewer register fewer
kept_takes effect.Nothing r fewer k names m s d h = h
kept_takes (effect.Put a word) r fewer k names m s d h = write_keeps (limit fewer d) s.regs a r (word_type names word) (other r a k) h
kept_takes (effect.PutLong a) r fewer k names m s d h = let o = others a r k in two_keeps (limit fewer d) s.regs a r ty.LongLo ty.LongHi o.0 o.1 h
kept_takes (effect.CopyInt a from) r fewer k names m s d h = write_keeps (limit fewer d) s.regs a r (copied_int (type_at s.regs from)) (other r a k) h
kept_takes (effect.CopyObject a from) r fewer k names m s d h = write_keeps (limit fewer d) s.regs a r (copied_object (type_at s.regs from)) (other r a k) h
kept_takes (effect.ResultInt a) r fewer k names m s d h = write_keeps (limit fewer d) s.regs a r (result_int s.result) (other r a k) h
kept_takes (effect.ResultLong a) r fewer k names m s d h = let o = others a r k in result_long_keeps (limit fewer d) s.regs a r s.result o.0 o.1 h
kept_takes (effect.ResultObject a) r fewer k names m s d h = write_keeps (limit fewer d) s.regs a r (result_ref s.result) (other r a k) h
kept_takes (effect.Caught a) r fewer k names m s d h = write_keeps (limit fewer d) s.regs a r (caught_type s.caught) (other r a k) h
kept_takes (effect.Element a array) r fewer k names m s d h = write_keeps (limit fewer d) s.regs a r (object_element (type_at s.regs array)) (other r a k) h
kept_takes (effect.New a at) r fewer k names m s d h = new_keeps (limit fewer d) s.regs a r at (other r a k) h
kept_takes (effect.Construct a) r fewer k names m s d h = construct_keeps (limit fewer d) names.image m s (type_at s.regs a) r h

copy_takes : (a from r : ℕ) (fewer b : Bool) → nat_eq from r ≡ b → (o : ℕ) (less : Bool) → elim b as (λ w. Option (ℕ × Bool)) [ true ↦ Some (a, fewer) | false ↦ None ] ≡ Some (o, less) →
    Takes (effect.CopyObject a from) r fewer o less
copy_takes a from r fewer false e o less is names m s d h = absurd (cc)
copy_takes a from r fewer true e o less is names m s d h =
    let to : a ≡ o = ap (λ (p : ℕ × Bool). p.0) (same_Some (a, fewer) (o, less) is) in
    let so : fewer ≡ less = ap (λ (p : ℕ × Bool). p.1) (same_Some (a, fewer) (o, less) is) in
    let here : IsShallower (limit fewer d) (type_at s.regs from) = subst (λ (k : ℕ). IsShallower (limit fewer d) (type_at s.regs k)) (sym (eqb-true from r e)) h in
    let regs : Types = registers_after names m (effect.CopyObject a from) s in
    let there : IsShallower (limit fewer d) (type_at regs a) = write_takes (limit fewer d) s.regs a (copied_object (type_at s.regs from)) (object_keeps (limit fewer d) (type_at s.regs from) here) in
    subst (λ (k : ℕ). IsShallower (limit less d) (type_at regs k)) to (subst (λ (b : Bool). IsShallower (limit b d) (type_at regs a)) so there)

element_takes : (a array r : ℕ) (fewer b : Bool) → nat_eq array r ≡ b → (o : ℕ) (less : Bool) → elim b as (λ w. Option (ℕ × Bool)) [ true ↦ Some (a, true) | false ↦ None ] ≡ Some (o, less) →
    Takes (effect.Element a array) r fewer o less
element_takes a array r fewer false e o less is names m s d h = absurd (cc)
element_takes a array r fewer true e o less is names m s d h =
    let to : a ≡ o = ap (λ (p : ℕ × Bool). p.0) (same_Some (a, true) (o, less) is) in
    let so : true ≡ less = ap (λ (p : ℕ × Bool). p.1) (same_Some (a, true) (o, less) is) in
    let here : IsShallower (limit fewer d) (type_at s.regs array) = subst (λ (k : ℕ). IsShallower (limit fewer d) (type_at s.regs k)) (sym (eqb-true array r e)) h in
    let regs : Types = registers_after names m (effect.Element a array) s in
    let there : IsShallower d (type_at regs a) = write_takes d s.regs a (object_element (type_at s.regs array)) (element_keeps d fewer (type_at s.regs array) here) in
    subst (λ (k : ℕ). IsShallower (limit less d) (type_at regs k)) to (subst (λ (b : Bool). IsShallower (limit b d) (type_at regs a)) so there)

pub taken_takes : (e : Effect) (register : ℕ) (fewer : Bool) (o : ℕ) (less : Bool) → taken_by e register fewer ≡ Some (o, less) → Takes e register fewer o less
taken_takes (effect.CopyObject a from) r fewer o less is = copy_takes a from r fewer (nat_eq from r) refl o less is
taken_takes (effect.Element a array) r fewer o less is = element_takes a array r fewer (nat_eq array r) refl o less is
taken_takes e r fewer o less is = absurd (cc)

-- ---- the way back

pub back : (image : Image) (code : Code) (place register : ℕ) (level : Level) → level.place ≡ place → level.register ≡ register → level.fewer ≡ true →
    IsLevel image code place register level → HasNoClass image code place register
back image code place register level p r f bounded =
    let there : IsBounded image code place register place level.register level.fewer = subst (λ (k : ℕ). IsBounded image code place register k level.register level.fewer) p bounded in
    let here : IsBounded image code place register place register level.fewer = subst (λ (k : ℕ). IsBounded image code place register place k level.fewer) r there in
    bounds_end image code place register (subst (λ (b : Bool). IsBounded image code place register place register b) f here)

-- ---- lists

all_from_each : {X : Type 0} (P : X → Type 0) (xs : List X) → Each P xs → All P xs
all_from_each P xs each k d inside = each k (slice_index_or xs k d) (slice_get-get_or xs k d inside)

-- what an option maps to comes from what it has
from_map : {A B : Type 0} (f : A → B) (o : Option A) (b : B) → option_map f o ≡ Some b → (a : A) × (o ≡ Some a) × (f a ≡ b)
from_map f None b e = absurd (cc)
from_map f (Some a) b e = (a, refl, same_Some (f a) b e)

-- ---- along a plan

module _ (names : Names) (code : Code) (p : Plan) (is : IsPlan names.image names code p) (first own : ℕ) where
  abbrev Bounded : ℕ → ℕ → Bool → Type 0
  Bounded place register fewer = IsBounded names.image code first own place register fewer

  -- what stands at an address
  record IsAt (at : ℕ) (w : Ways) : Type 0 where
    insn : At
    fetched : fetch names.image code.method.id at ≡ Some insn
    ways : IsWays code at insn w

  is_at : (at : ℕ) (w : Ways) → at < addresses code → slice_index_or p.ways.items at None ≡ Some w → IsAt at w
  is_at at w inside there =
      let has = is.ways.each at inside in
      let x = has.only w there in
      let ways = has.there x.0 x.1 in
      record { insn = x.0; fetched = x.1; ways = subst (λ (v : Ways). IsWays code at x.0 v) (same_Some ways.0 w (sym ways.1 ∙ there)) ways.2 }

  carried : (at : ℕ) (x : At) (step : Step) → at < addresses code → fetch names.image code.method.id at ≡ Some x → slice_index_or p.steps.items at None ≡ Some step →
      (r : ℕ) (fewer : Bool) (o : ℕ) (less : Bool) → Takes step.effect r fewer o less → Carries names.image code at x.op r fewer o less
  carried at x step inside fetched there r fewer o less takes s d h =
      let has = is.steps.each at inside x fetched in
      let here : IsStep names code at x.op step = subst (λ (v : Step). IsStep names code at x.op v) (same_Some has.0 step (sym has.1 ∙ there)) has.2 in
      subst (λ (ts : Types). IsShallower (limit less d) (type_at ts o)) (here.registers s) (takes names code.method s d h)

  pub targets_bounded : (at : ℕ) (w : Ways) (step : Step) → at < addresses code → nat_lt at (addresses code) ≡ true →
      slice_index_or p.ways.items at None ≡ Some w → slice_index_or p.steps.items at None ≡ Some step →
      (r : ℕ) (fewer : Bool) (o : ℕ) (less : Bool) → Takes step.effect r fewer o less → Bounded at r fewer → All (λ to. Bounded to o less) w.targets
  targets_bounded at w step inside lt there has r fewer o less takes bounded =
      let here = is_at at w inside there in
      let x = here.insn in
      let tos : List ℕ = filter (begins_insn code.tiles) (targets x) in
      let each : Each (λ to. Bounded to o less) tos =
      λ k to e. bounds_go_on names.image code first own at r fewer bounded lt x here.fetched o less (carried at x step inside here.fetched has r fewer o less takes) k to e in
      subst (λ (ts : List ℕ). All (λ to. Bounded to o less) ts) (sym here.ways.targets) (all_from_each (λ to. Bounded to o less) tos each)

  entry_by : (at r : ℕ) (fewer : Bool) (x : At) → Bounded at r fewer → nat_lt at (addresses code) ≡ true → fetch names.image code.method.id at ≡ Some x →
      (o : Option ℕ) → covering_entry code at x ≡ o → IfSome o (λ entry. Bounded (addresses code + entry) r fewer)
  entry_by at r fewer x bounded lt fetched None e = tt
  entry_by at r fewer x bounded lt fetched (Some entry) e = bounds_are_handed names.image code first own at r fewer bounded lt x fetched entry e

  pub entry_bounded : (at : ℕ) (w : Ways) → at < addresses code → nat_lt at (addresses code) ≡ true → slice_index_or p.ways.items at None ≡ Some w →
      (r : ℕ) (fewer : Bool) → Bounded at r fewer → IfSome w.covering (λ entry. Bounded (addresses code + entry) r fewer)
  entry_bounded at w inside lt there r fewer bounded =
      let here = is_at at w inside there in
      entry_by at r fewer here.insn bounded lt here.fetched w.covering (sym here.ways.covering)

  -- the handlers of an entry
  hop_bounded : (place r : ℕ) (fewer : Bool) → Bounded place r fewer → nat_lt place (addresses code) ≡ false → (hops : List Hop) →
      LeadTo names hops (map handler_edge (catchers_of code.body (slice_get code.body.tries (place - addresses code)))) → Each (λ hop. Bounded hop.to r fewer) hops
  hop_bounded place r fewer bounded past hops lead k hop e =
      let cs : List Catcher = catchers_of code.body (slice_get code.body.tries (place - addresses code)) in
      let edge : option_map handler_edge (slice_get cs k) ≡ Some (hop_edge names hop) =
      sym (slice_get-map handler_edge cs k) ∙ (ap (λ (es : List Edge). slice_get es k) (sym lead.lead) ∙ (slice_get-map (hop_edge names) hops k ∙ ap (option_map (hop_edge names)) e)) in
      let c = from_map handler_edge (slice_get cs k) (hop_edge names hop) edge in
      let to : c.0.to ≡ hop.to = ap (λ (e : Edge). e.to) c.2 in
      subst (λ (t : ℕ). Bounded t r fewer) to (bounds_are_caught names.image code first own place r fewer bounded past k c.0 c.1)

  leads : (k : ℕ) → LeadTo names (slice_index_or p.hops.items k []) (map handler_edge (catchers_of code.body (slice_get code.body.tries k)))
  leads k =
      elim (slice_get_cases code.body.tries k).1 [
        | inl there ↦
            subst (λ (o : Option Try). LeadTo names (slice_index_or p.hops.items k []) (map handler_edge (catchers_of code.body o))) (sym there.2) (is.hops.each k there.0 there.1 there.2)
        | inr past ↦
            let long : length p.hops.items ≤ k = omega (arith, past.0, is.hops.count) in
            subst (λ (o : Option Try). LeadTo names (slice_index_or p.hops.items k []) (map handler_edge (catchers_of code.body o))) (sym past.1)
            (subst (λ (hs : List Hop). LeadTo names hs []) (sym (get_or_past p.hops.items k [] long)) (record { numbered = All-nil (λ (h : Hop). IsNumbered names h.caught); lead = refl }))
      ]

  pub handlers_bounded : (place r : ℕ) (fewer : Bool) → Bounded place r fewer → nat_lt place (addresses code) ≡ false → All (λ hop. Bounded hop.to r fewer) (slice_index_or p.hops.items (place - addresses code) [])
  handlers_bounded place r fewer bounded past =
      all_from_each (λ hop. Bounded hop.to r fewer) (slice_index_or p.hops.items (place - addresses code) []) (hop_bounded place r fewer bounded past (slice_index_or p.hops.items (place - addresses code) []) (leads (place - addresses code)))
