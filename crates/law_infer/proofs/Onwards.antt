-- What holds of each state that goes on from an instruction.
use Rattle.std.specs.Prelude.{All}
use Rattle.std.proofs.Common.{◌≡◌, ℕ, List, [], Bool, true, false, Option, Some, refl, sym, subst}
use Rattle.dv_typing.specs.declared.typing.RegState.{RegState}
use Rattle.dv_defs.specs.Images.{Image}
use Rattle.dv_defs.specs.Tiling.{begins_insn}
use Rattle.dv_defs.specs.Op.{Code, can_throw}
use Rattle.dv_typing.specs.Statics.{At, fetch}
use Rattle.dv_typing.specs.Transfer.{out}
use Rattle.dv_typing.specs.Flow.{Catcher, targets, handlers_at, thrown_at, caught_state}
use Rattle.dv_worklist.specs.Flow.{Onward}
use Rattle.law_infer.specs.Flowing.{goes_to, goes_to_handlers, onward_of, onward_from}
use Rattle.law_infer.proofs.Each.{Each, each_nil, each_left, each_right, each_both, each_made, made_each}

module _ (image : Image) (code : Code) (P : Onward RegState → Type 0) (at : ℕ) (x : At) (s : RegState) where
  abbrev pub to_target : ℕ → Onward RegState
  to_target to = record { to = to; state = out image code.method at x.op s }

  abbrev pub to_handler : Catcher → Onward RegState
  to_handler h = record { to = h.to; state = caught_state s h }

  abbrev pub handlers : List Catcher
  handlers = handlers_at image code.method.id (thrown_at at x)

  -- it holds at each target and each handler that is an instruction
  pub record IsOnward : Type 0 where
    pub goes : All (λ to. begins_insn code.tiles to ≡ true → P (to_target to)) (targets x)
    pub throws : can_throw x.op ≡ true → All (λ h. begins_insn code.tiles h.to ≡ true → P (to_handler h)) handlers

  abbrev thrown : Bool → List (Onward RegState)
  thrown b = elim b as (λ w. List (Onward RegState)) [ true ↦ goes_to_handlers code s handlers | false ↦ [] ]

  abbrev goes_on : List (Onward RegState)
  goes_on = goes_to code (out image code.method at x.op s) (targets x)

  each_thrown : (b : Bool) → (b ≡ true → All (λ h. begins_insn code.tiles h.to ≡ true → P (to_handler h)) handlers) → Each P (thrown b)
  each_thrown true all = each_made P (λ h. begins_insn code.tiles h.to) to_handler handlers (all refl)
  each_thrown false all = each_nil P

  thrown_each : (b : Bool) → Each P (thrown b) → b ≡ true → All (λ h. begins_insn code.tiles h.to ≡ true → P (to_handler h)) handlers
  thrown_each true each e = made_each P (λ h. begins_insn code.tiles h.to) to_handler handlers each
  thrown_each false each e = absurd (cc)

  onward_each : IsOnward → Each P (onward_of image code at s x)
  onward_each i =
      each_both P goes_on (thrown (can_throw x.op)) (each_made P (begins_insn code.tiles) to_target (targets x) i.goes)
      (each_thrown (can_throw x.op) i.throws)

  each_onward : Each P (onward_of image code at s x) → IsOnward
  each_onward each = record {
    goes = made_each P (begins_insn code.tiles) to_target (targets x) (each_left P goes_on (thrown (can_throw x.op)) each);
    throws = thrown_each (can_throw x.op) (each_right P goes_on (thrown (can_throw x.op)) each);
  }

  -- likewise from the address at which it is fetched
  abbrev EachFrom : Option At → Type 0
  EachFrom o = Each P (onward_from image code at s o)

  pub each_from : fetch image code.method.id at ≡ Some x → IsOnward → EachFrom (fetch image code.method.id at)
  each_from e i = subst EachFrom (sym e) (onward_each i)

  pub from_each : fetch image code.method.id at ≡ Some x → EachFrom (fetch image code.method.id at) → IsOnward
  from_each e each = each_onward (subst EachFrom e each)
