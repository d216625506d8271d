-- Bounds of registers begin at one, go on with its states, and rule out what would be shallower than itself.
use Rattle.std.specs.Prelude.{nat_lt, slice_get, filter}
use Rattle.std.proofs.Common.{◌≡◌, ◌<◌, ℕ, suc, ◌+◌, ◌-◌, List, [], ◌∷◌, ◌++◌, Bool, true, false, Option, Some, None, map, refl, ap, sym, ◌∙◌, subst, arith}
use Rattle.std.specs.Option.{option_map}
use Rattle.std.proofs.lemmas.Option.{same_Some, slice_get-map}
use Rattle.dv_worklist.specs.Flow.{Onward, Assignment, HasAbove, IsClosed}
use Rattle.dv_defs.specs.declared.names.Ty.{Ty}
use Rattle.dv_defs.specs.Images.{Image}
use Rattle.dv_defs.specs.Op.{Code}
use Rattle.dv_defs.specs.Tiling.{begins_insn}
use Rattle.dv_typing.specs.declared.typing.RegType.{RegType}
use Rattle.dv_typing.specs.declared.typing.RegType.TheVariants as ty
use Rattle.dv_typing.specs.declared.typing.RegState.{RegState}
use Rattle.dv_typing.specs.RegTypes.{type_at}
use Rattle.dv_typing.specs.Transfer.{out}
use Rattle.dv_typing.specs.Statics.{At, fetch}
use Rattle.dv_typing.specs.Flow.{Catcher, targets, caught_state}
use Rattle.law_infer.specs.Flowing.{goes_to}
use Rattle.law_gather.specs.Gathered.{addresses, covering_entry, catchers_of, hands_on, handed, onward_by, onward_caught, onward_gathered, gathered_flow}
use Rattle.law_blocks.specs.Blocks.{Before}
use Rattle.law_blocks.proofs.Each.{Each, each_left, each_right, each_of}
use Rattle.law_blocks.proofs.Through.{gathered_inside, gathered_past, caught_from}
use Rattle.law_levels.specs.Levels.{IsShallower, limit, HasShallower, IsBounded, HasNoClass, Carries}
use Rattle.law_levels.specs.Laws.{BoundsBegin, BoundsEnd, BoundsGoOn, BoundsAreHanded, BoundsAreCaught}
use Rattle.law_levels.proofs.Shallow.{register_above}

abbrev all_heads : Before
all_heads at = None

pub bounds_begin : BoundsBegin
bounds_begin image code first register b closed s there c is =
    record { state = s; there = there; shallower = subst (λ (t : RegType). IsShallower (suc c.dims) t) (sym is) (let l : c.dims < suc c.dims = omega arith in l) }

pub bounds_end : BoundsEnd
bounds_end image code first register bounded b closed s there c is =
    let h = bounded b closed s there c is in
    let same : h.state ≡ s = same_Some h.state s (sym h.there ∙ there) in
    let here : type_at h.state.regs register ≡ ty.Class c = ap (λ (t : RegState). type_at t.regs register) same ∙ is in
    let less : c.dims < c.dims = subst (λ (t : RegType). IsShallower c.dims t) here h.shallower in
    absurd (omega (arith, less))

-- ---- from a place

module _ (image : Image) (code : Code) (b : Assignment RegState) (closed : IsClosed (gathered_flow image code) b) where
  abbrev Above : Onward RegState → Type 0
  Above o = HasAbove (gathered_flow image code) b o.to o.state

  -- what arrives is no deeper where it does
  arrived : (o : Onward RegState) (register n : ℕ) → Above o → IsShallower n (type_at o.state.regs register) → HasShallower b o.to register n
  arrived o register n has shallow = record { state = has.state; there = has.there; shallower = register_above image n register o.state has.state has.above shallow }

  from_insn : (at : ℕ) (s : RegState) (x : At) → b at ≡ Some s → nat_lt at (addresses code) ≡ true → fetch image code.method.id at ≡ Some x →
      Each Above (goes_to code (out image code.method at x.op s) (targets x) ++ hands_on code s (covering_entry code at x))
  from_insn at s x there inside fetched =
      each_of Above (onward_gathered image code at s) (onward_by image code at s (Some x))
      (gathered_inside image code all_heads at s inside ∙ ap (onward_by image code at s) fetched) (closed.arrives at s there)

  to_target : (at : ℕ) (s : RegState) (x : At) → b at ≡ Some s → nat_lt at (addresses code) ≡ true → fetch image code.method.id at ≡ Some x →
      (k to : ℕ) → slice_get (filter (begins_insn code.tiles) (targets x)) k ≡ Some to → Above (record { to = to; state = out image code.method at x.op s })
  to_target at s x there inside fetched k to is =
      let after = out image code.method at x.op s in
      let made : ℕ → Onward RegState = λ to. record { to = to; state = after } in
      each_left Above (goes_to code after (targets x)) (hands_on code s (covering_entry code at x)) (from_insn at s x there inside fetched) k (made to)
      (slice_get-map made (filter (begins_insn code.tiles) (targets x)) k ∙ ap (option_map made) is)

  to_entry : (at : ℕ) (s : RegState) (x : At) → b at ≡ Some s → nat_lt at (addresses code) ≡ true → fetch image code.method.id at ≡ Some x →
      (entry : ℕ) → covering_entry code at x ≡ Some entry → Above (record { to = addresses code + entry; state = handed s })
  to_entry at s x there inside fetched entry covered =
      let all = each_right Above (goes_to code (out image code.method at x.op s) (targets x)) (hands_on code s (covering_entry code at x)) (from_insn at s x there inside fetched) in
      each_of Above (hands_on code s (covering_entry code at x)) (hands_on code s (Some entry)) (ap (hands_on code s) covered) all 0 (record { to = addresses code + entry; state = handed s }) refl

  to_handler : (place : ℕ) (s : RegState) → b place ≡ Some s → nat_lt place (addresses code) ≡ false →
      (k : ℕ) (h : Catcher) → slice_get (catchers_of code.body (slice_get code.body.tries (place - addresses code))) k ≡ Some h → Above (record { to = h.to; state = caught_state s h })
  to_handler place s there past k h is =
      let made : Catcher → Onward RegState = λ h. record { to = h.to; state = caught_state s h } in
      let hs = catchers_of code.body (slice_get code.body.tries (place - addresses code)) in
      each_of Above (onward_gathered image code place s) (caught_from image code all_heads place s) (gathered_past image code all_heads place s past) (closed.arrives place s there)
      k (made h) (slice_get-map made hs k ∙ ap (option_map made) is)

-- ---- the laws

pub bounds_go_on : BoundsGoOn
bounds_go_on image code first register at r fewer bounded inside x fetched o less carries k to is b closed s there c holds =
    let h = bounded b closed s there c holds in
    arrived image code b closed (record { to = to; state = out image code.method at x.op h.state }) o (limit less c.dims)
    (to_target image code b closed at h.state x h.there inside fetched k to is) (carries h.state c.dims h.shallower)

pub bounds_are_handed : BoundsAreHanded
bounds_are_handed image code first register at r fewer bounded inside x fetched entry covered b closed s there c holds =
    let h = bounded b closed s there c holds in
    arrived image code b closed (record { to = addresses code + entry; state = handed h.state }) r (limit fewer c.dims)
    (to_entry image code b closed at h.state x h.there inside fetched entry covered) h.shallower

pub bounds_are_caught : BoundsAreCaught
bounds_are_caught image code first register place r fewer bounded past k caught is b closed s there c holds =
    let h = bounded b closed s there c holds in
    arrived image code b closed (record { to = caught.to; state = caught_state h.state caught }) r (limit fewer c.dims)
    (to_handler image code b closed place h.state h.there past k caught is) h.shallower
