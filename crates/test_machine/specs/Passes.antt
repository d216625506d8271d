-- The faults of a method as the examples find them: states are passed on over all instructions, again and again. Only
-- the examples know of this; what a fault is is said by the least assignment.
use Rattle.std.specs.Prelude.{ℕ, zero, suc, ◌++◌, true, false, List, [], ◌∷◌, length, replicate, Option, Some, None, slice_set, slice_index_or}
use Rattle.dv_defs.specs.declared.faults.Rule.{Rule}
use Rattle.dv_defs.specs.declared.faults.Rule.TheVariants as rule
use Rattle.dv_defs.specs.Images.{Image}
use Rattle.dv_typing.specs.declared.typing.RegState.{RegState}
use Rattle.dv_defs.specs.Tiling.{Tile}
use Rattle.dv_defs.specs.Op.{Code, code_at, can_throw}
use Rattle.dv_typing.specs.Statics.{At, fetch}
use Rattle.dv_typing.specs.Transfer.{entry_state, out}
use Rattle.dv_typing.specs.Flow.{Catcher, targets, handlers_at, thrown_at, caught_state}
use Rattle.dv_typing.specs.Joins.{join_state}
use Rattle.dv_typing.specs.Accepting.{Place, static_places, demand_at}

-- by address
abbrev pub States : Type 0
States = List (Option RegState)

abbrev pub state_there : States → ℕ → Option RegState
state_there states at = slice_index_or states at None

abbrev pub joined_with : Image → RegState → Option RegState → RegState
joined_with image s None = s
joined_with image s (Some t) = join_state image t s

-- a state comes to an instruction, where one stands there
abbrev pub joined_at : Image → States → ℕ → RegState → Option At → States
joined_at image states to s None = states
joined_at image states to s (Some x) = slice_set states to (Some (joined_with image s (state_there states to)))

-- a state comes to an address
abbrev pub given : Image → ℕ → ℕ → RegState → States → States
given image n to s states = joined_at image states to s (fetch image n to)

abbrev pub given_all : Image → ℕ → List ℕ → RegState → States → States
given_all image n [] s states = states
given_all image n (to ∷ tos) s states = given_all image n tos s (given image n to s states)

-- the handlers of an instruction get its state before it, with what they catch
abbrev pub given_handlers : Image → ℕ → List Catcher → RegState → States → States
given_handlers image n [] s states = states
given_handlers image n (h ∷ hs) s states = given_handlers image n hs s (given image n h.to (caught_state s h) states)

-- where the instruction can throw
abbrev pub handled : Image → ℕ → ℕ → At → RegState → States → States
handled image n at x s states =
    elim (can_throw x.op) [
      | true ↦ given_handlers image n (handlers_at image n (thrown_at at x)) s states
      | false ↦ states
    ]

-- an instruction that has a state passes it on
abbrev pub passed_on : Image → Code → ℕ → Option At → Option RegState → States → States
passed_on image code at (Some x) (Some s) states =
    handled image code.method.id at x s
    (given_all image code.method.id (targets x) (out image code.method at x.op s) states)
passed_on image code at x s states = states

-- from the first instruction to the last
abbrev pub passed_over : Image → Code → List Tile → States → States
passed_over image code [] states = states
passed_over image code (t ∷ ts) states =
    passed_over image code ts
    (passed_on image code t.at (fetch image code.method.id t.at) (state_there states t.at) states)

-- so many times over all instructions
abbrev pub passes : Image → Code → ℕ → States → States
passes image code zero states = states
passes image code (suc n) states = passes image code n (passed_over image code code.tiles states)

-- only the first instruction has a state
abbrev pub states_on_entry : Image → Code → States
states_on_entry image code = Some (entry_state image code.method code.body.registers) ∷ replicate (length code.body.units) None

abbrev pub broken_at : ℕ → Option Rule → List Place
broken_at at None = []
broken_at at (Some r) = record { at = at; broken = r } ∷ []

-- the rules that are broken, one after another
abbrev pub broken_in : Image → Code → States → List Tile → List Place
broken_in image code states [] = []
broken_in image code states (t ∷ ts) =
    broken_at t.at (demand_at image code (fetch image code.method.id t.at) (state_there states t.at)) ++
    broken_in image code states ts

-- where a static rule is broken no typing is asked for
abbrev pub broken_by : Image → Code → List Place → List Place
broken_by image code (p ∷ ps) = p ∷ ps
broken_by image code [] = broken_in image code (passes image code 6 (states_on_entry image code)) code.tiles

abbrev pub broken_of : Image → Option Code → List Place
broken_of image None = []
broken_of image (Some code) = broken_by image code (static_places image code)

-- the faults of a method: its static ones, else those that six passes find
abbrev pub faults_of : Image → ℕ → List Place
faults_of image n = broken_of image (code_at image n)

-- a static rule, and a typing rule, that is broken at an address
abbrev pub S : ℕ → ℕ → Place
S n at = record { at = at; broken = rule.S n }

abbrev pub V : ℕ → ℕ → Place
V n at = record { at = at; broken = rule.V n }
