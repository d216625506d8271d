-- The states of a method as they flow where each try entry has a place of its own: its instructions hand on to it, and it to handlers.
use Rattle.std.specs.Prelude.{◌≡◌, ℕ, ◌+◌, ◌-◌, Bool, true, false, ◌&&◌, List, [], ◌∷◌, ◌++◌, length, map, position, Option, Some, None, nat_le, nat_lt, slice_get}
use Rattle.dv_worklist.specs.Flow.{Onward, Flow}
use Rattle.dv_typing.specs.declared.typing.PendingType.TheVariants as pend
use Rattle.dv_typing.specs.declared.typing.RegState.{RegState}
use Rattle.dv_defs.specs.declared.code.Body.{Body}
use Rattle.dv_defs.specs.declared.code.Try.{Try}
use Rattle.dv_defs.specs.Images.{Image}
use Rattle.dv_defs.specs.Op.{Code, can_throw}
use Rattle.dv_typing.specs.Statics.{At, fetch}
use Rattle.dv_typing.specs.Transfer.{entry_state, out}
use Rattle.dv_typing.specs.Flow.{Catcher, catchers, targets, thrown_at, caught_state}
use Rattle.dv_typing.specs.Joins.{join_state}
use Rattle.dv_types.specs.Under.{state_under}
use Rattle.law_flow.specs.Fitting.{StateFits}
use Rattle.law_infer.specs.Flowing.{goes_to, fits_at}

-- a try entry covers the addresses from its start up to and without its end
abbrev pub covers : ℕ → Try → Bool
covers at t = nat_le t.start at && nat_lt at t.end

-- the number of the entry whose handlers an instruction may throw to
abbrev pub covering_entry : Code → ℕ → At → Option ℕ
covering_entry code at x = elim (can_throw x.op) [ true ↦ position (covers (thrown_at at x)) code.body.tries | false ↦ None ]

-- so many places are the addresses of units; after them each try entry has one
abbrev pub addresses : Code → ℕ
addresses code = length code.body.units

-- what handlers take over of a state
abbrev pub handed : RegState → RegState
handed s = record { regs = s.regs; result = pend.None; caught = None; this_pending = s.this_pending }

-- that goes on to the place of a try entry
abbrev pub hands_on : Code → RegState → Option ℕ → List (Onward RegState)
hands_on code s None = []
hands_on code s (Some entry) = record { to = addresses code + entry; state = handed s } ∷ []

-- from an instruction the state after goes on to the targets, and the state before to the entry that covers it
abbrev pub onward_by : Image → Code → ℕ → RegState → Option At → List (Onward RegState)
onward_by image code at s None = []
onward_by image code at s (Some x) = goes_to code (out image code.method at x.op s) (targets x) ++ hands_on code s (covering_entry code at x)

-- the handlers of a try entry that may be missing
abbrev pub catchers_of : Body → Option Try → List Catcher
catchers_of body None = []
catchers_of body (Some t) = catchers body t.handlers

-- from a try entry what is gathered, with what is caught, goes on to each handler
abbrev pub onward_caught : RegState → List Catcher → List (Onward RegState)
onward_caught s hs = map (λ h. record { to = h.to; state = caught_state s h }) hs

-- the one below, the other from there on
abbrev pub onward_gathered : Image → Code → ℕ → RegState → List (Onward RegState)
onward_gathered image code place s =
    elim (nat_lt place (addresses code)) [
      | true ↦ onward_by image code place s (fetch image code.method.id place)
      | false ↦ onward_caught s (catchers_of code.body (slice_get code.body.tries (place - addresses code)))
    ]

-- the flow of a method's states through instructions and try entries
abbrev pub gathered_flow : Image → Code → Flow RegState
gathered_flow image code =
    record {
      size = addresses code + length code.body.tries;
      entry = entry_state image code.method code.body.registers;
      under = state_under image;
      join = join_state image;
      onward = onward_gathered image code;
    }

-- an instruction hands on to the entry
pub record Gathers (image : Image) (code : Code) (entry : ℕ) : Type 0 where
  pub at : ℕ
  pub insn : At
  pub fetched : fetch image code.method.id at ≡ Some insn
  pub covered : covering_entry code at insn ≡ Some entry

-- at an instruction as before; else it is what an entry gathers
abbrev pub fits_by : Image → Code → ℕ → RegState → Bool → Type 0
fits_by image code place s true = fits_at image code place s
fits_by image code place s false = Gathers image code (place - addresses code) × StateFits image code s

-- states stand at instructions, and at entries to which one hands on
abbrev pub fits_gathered : Image → Code → ℕ → RegState → Type 0
fits_gathered image code place s = fits_by image code place s (nat_lt place (addresses code))
