-- The states of a method as they flow from head to head of straight code, and those in between.
use Rattle.std.specs.Prelude.{◌≡◌, ◌<◌, ℕ, zero, suc, ◌+◌, ◌-◌, Bool, true, false, List, [], ◌∷◌, ◌++◌, length, Option, Some, None, nat_eq, nat_lt, slice_get}
use Rattle.dv_worklist.specs.Flow.{Onward, Flow, Assignment}
use Rattle.dv_typing.specs.declared.typing.RegState.{RegState}
use Rattle.dv_defs.specs.declared.code.Try.{Try}
use Rattle.dv_defs.specs.Images.{Image}
use Rattle.dv_defs.specs.Op.{Code}
use Rattle.dv_defs.specs.Tiling.{begins_insn}
use Rattle.dv_typing.specs.Statics.{At, fetch}
use Rattle.dv_typing.specs.Transfer.{entry_state, out}
use Rattle.dv_typing.specs.Flow.{Catcher, catchers, targets}
use Rattle.dv_typing.specs.Joins.{join_state}
use Rattle.dv_types.specs.Under.{state_under}
use Rattle.law_infer.specs.Flowing.{goes_to}
use Rattle.law_gather.specs.Gathered.{addresses, covering_entry, hands_on, catchers_of, onward_caught, fits_gathered}

-- the address before each that is no head of straight code
abbrev pub Before : Type 0
Before = ℕ → Option ℕ

-- an instruction goes on to the next one, which is the other, alone
pub record GoesStraight (image : Image) (code : Code) (at to : ℕ) : Type 0 where
  pub insn : At
  pub fetched : fetch image code.method.id at ≡ Some insn
  pub next : insn.next ≡ to
  pub only : targets insn ≡ to ∷ []
  pub rises : at < to
  pub leads : begins_insn code.tiles to ≡ true

-- where there is an address before, its instruction goes straight on, and nothing else leads there
pub record AreBefore (image : Image) (code : Code) (before : Before) : Type 0 where
  pub entry : before 0 ≡ None
  pub straight : (at to : ℕ) → before to ≡ Some at → GoesStraight image code at to
  pub alone :
      (at : ℕ) (x : At) → fetch image code.method.id at ≡ Some x → (k to : ℕ) → slice_get (targets x) k ≡ Some to →
      (p : ℕ) → before to ≡ Some p → p ≡ at
  pub handlers :
      (entry : ℕ) (t : Try) → slice_get code.body.tries entry ≡ Some t →
      (k : ℕ) (h : Catcher) → slice_get (catchers code.body t.handlers) k ≡ Some h → before h.to ≡ None

-- ---- from head to head

-- whether it is the address before
abbrev pub is_before : ℕ → Option ℕ → Bool
is_before at None = false
is_before at (Some p) = nat_eq p at

-- what goes on from an instruction, and from those that follow it in straight code, with so many steps left
abbrev pub onward_through : Image → Code → Before → ℕ → ℕ → RegState → List (Onward RegState)
onward_through image code before zero at s = []
onward_through image code before (suc n) at s =
    elim (fetch image code.method.id at) [
      | None ↦ []
      | Some x ↦
          hands_on code s (covering_entry code at x) ++
          elim (is_before at (before x.next)) [
            | true ↦ onward_through image code before n x.next (out image code.method at x.op s)
            | false ↦ goes_to code (out image code.method at x.op s) (targets x)
          ]
    ]

-- from the heads below the number of addresses, and from try entries from there on
abbrev pub onward_blocks : Image → Code → Before → ℕ → RegState → List (Onward RegState)
onward_blocks image code before place s =
    elim (nat_lt place (addresses code)) [
      | true ↦ onward_through image code before (addresses code) place s
      | false ↦ onward_caught s (catchers_of code.body (slice_get code.body.tries (place - addresses code)))
    ]

-- the flow of a method's states through straight code and try entries
abbrev pub blocks_flow : Image → Code → Before → Flow RegState
blocks_flow image code before =
    record {
      size = addresses code + length code.body.tries;
      entry = entry_state image code.method code.body.registers;
      under = state_under image;
      join = join_state image;
      onward = onward_blocks image code before;
    }

-- states stand as where it gathers, but at heads alone
abbrev pub fits_blocks : Image → Code → Before → ℕ → RegState → Type 0
fits_blocks image code before place s = fits_gathered image code place s × (before place ≡ None)

-- ---- in between

-- the state after what is fetched at an address, where it has one before
abbrev pub state_after : Image → Code → ℕ → Option At → Option RegState → Option RegState
state_after image code at (Some x) (Some s) = Some (out image code.method at x.op s)
state_after image code at x s = None

-- with so many steps left, back to the head
abbrev pub filled_by : Image → Code → Before → Assignment RegState → ℕ → ℕ → Option RegState
filled_by image code before a zero at = None
filled_by image code before a (suc n) at =
    elim (before at) [
      | None ↦ a at
      | Some p ↦ state_after image code p (fetch image code.method.id p) (filled_by image code before a n p)
    ]

-- a head's state as assigned, and each other the state after the address before
abbrev pub filled : Image → Code → Before → Assignment RegState → Assignment RegState
filled image code before a at = filled_by image code before a (suc at) at
