-- Flow edges, and assignments of states to a method's instructions.
use Rattle.std.specs.Prelude.{◌≡◌, ℕ, Bool, true, false, ◌&&◌, List, [], ◌∷◌, map, Option, Some, None, slice_get, nat_lt, nat_le, All}
use Rattle.dv_defs.specs.declared.names.Ty.{Ty}
use Rattle.dv_defs.specs.declared.code.Body.{Body}
use Rattle.dv_defs.specs.declared.code.Try.{Try}
use Rattle.dv_defs.specs.declared.code.Handler.{Handler}
use Rattle.dv_defs.specs.Images.{Image}
use Rattle.dv_typing.specs.declared.typing.PendingType.TheVariants as pend
use Rattle.dv_typing.specs.declared.typing.RegState.{RegState}
use Rattle.dv_defs.specs.Names.{throwable_name}
use Rattle.dv_defs.specs.Types.{of_class}
use Rattle.dv_defs.specs.Pools.{Method}
use Rattle.dv_defs.specs.Op.{Op, Goto, IfBoth, IfZero, Switch, Exit, Code, code_at, can_throw}
use Rattle.dv_typing.specs.Statics.{At, fetch}
use Rattle.dv_typing.specs.RegTypes.{IsBelow}
use Rattle.dv_typing.specs.Demands.{goes_on, ok}
use Rattle.dv_typing.specs.Transfer.{entry_state, out}

-- a handler: the type that it catches, none where it catches all, and its address
pub record Catcher : Type 0 where
  pub ty : Option Ty
  pub to : ℕ

-- the handlers of an entry, up to and with the first catch-all
abbrev pub catchers : Body → List Handler → List Catcher
catchers b [] = []
catchers b (h ∷ hs) =
    elim h.kind [
      | None ↦ record { ty = None; to = h.at } ∷ []
      | Some k ↦ record { ty = slice_get b.types k; to = h.at } ∷ catchers b hs
    ]

-- the try entry that covers an address
abbrev pub handlers_of : Body → List Try → ℕ → List Catcher
handlers_of b [] at = []
handlers_of b (t ∷ ts) at = elim (nat_le t.start at && nat_lt at t.end) [ true ↦ catchers b t.handlers | false ↦ handlers_of b ts at ]

abbrev pub handlers_in : Option Code → ℕ → List Catcher
handlers_in None at = []
handlers_in (Some c) at = handlers_of c.body c.body.tries at

-- the handlers of the try entry of an address, up to and with the first catch-all
unfoldable pub handlers_at : Image → ℕ → ℕ → List Catcher
handlers_at image n at = handlers_in (code_at image n) at

abbrev pub is_exit : Op → Bool
is_exit (Exit a) = true
is_exit op = false

-- the address whose handlers an instruction's exception is searched in: for monitor-exit the next one (own)
abbrev pub thrown_at : ℕ → At → ℕ
thrown_at at x = elim (is_exit x.op) [ true ↦ x.next | false ↦ at ]

-- the targets of a branch or switch
abbrev pub jumps : Op → List ℕ
jumps (Goto to) = to ∷ []
jumps (IfBoth t a b to) = to ∷ []
jumps (IfZero t a to) = to ∷ []
jumps (Switch a cases) = map (λ c. c.to) cases
jumps op = []

-- where control may go on without an exception
abbrev pub targets : At → List ℕ
targets x = elim (goes_on x.op) [ true ↦ x.next ∷ jumps x.op | false ↦ jumps x.op ]

abbrev pub caught_as : Option Ty → Ty
caught_as None = of_class throwable_name
caught_as (Some t) = t

-- the state with which a handler is entered
abbrev pub caught_state : RegState → Catcher → RegState
caught_state s h = record { regs = s.regs; result = pend.None; caught = Some (caught_as h.ty); this_pending = s.this_pending }

-- a state for some of a method's instructions, by address
abbrev pub Typing : Type 0
Typing = ℕ → Option RegState

-- the address has a state above this one
pub record Leads (image : Image) (typing : Typing) (s : RegState) (to : ℕ) : Type 0 where
  pub state : RegState
  pub has_state : typing to ≡ Some state
  pub below : IsBelow image s state

-- the state flows along each edge; an edge to an address that isn't an instruction's is left out
pub record Flows (image : Image) (m : Method) (typing : Typing) (at : ℕ) (x : At) (s : RegState) : Type 0 where
  pub onward : All (λ to. (y : At) → fetch image m.id to ≡ Some y → Leads image typing (out image m at x.op s) to) (targets x)
  pub handled :
      can_throw x.op ≡ true →
      All (λ h. (y : At) → fetch image m.id h.to ≡ Some y → Leads image typing (caught_state s h) h.to)
      (handlers_at image m.id (thrown_at at x))

-- address 0 has a state above the entry state, and each state flows on
pub record IsFlowClosed (image : Image) (code : Code) (typing : Typing) : Type 0 where
  pub start : Leads image typing (entry_state image code.method code.body.registers) 0
  pub each :
      (at : ℕ) (s : RegState) → typing at ≡ Some s →
      (x : At) × (fetch image code.method.id at ≡ Some x) × Flows image code.method typing at x s

-- flow-closed, and each instruction that has a state is satisfied with it
pub record IsTyping (image : Image) (code : Code) (typing : Typing) : Type 0 where
  pub closed : IsFlowClosed image code typing
  pub good :
      (at : ℕ) (s : RegState) (x : At) → typing at ≡ Some s → fetch image code.method.id at ≡ Some x →
      ok image code.method x s ≡ None

abbrev pub IsUnderAt : Image → Option RegState → Option RegState → Type 0
IsUnderAt image None t = Unit {0}
IsUnderAt image (Some s) None = ⊥
IsUnderAt image (Some s) (Some t) = IsBelow image s t

-- the flow-closed one that is under every other
pub record IsLeast (image : Image) (code : Code) (typing : Typing) : Type 0 where
  pub closed : IsFlowClosed image code typing
  pub least : (other : Typing) → IsFlowClosed image code other → (at : ℕ) → IsUnderAt image (typing at) (other at)
