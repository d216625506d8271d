-- What effects do to bounds of registers.
use Rattle.std.specs.Prelude.{ℕ, suc, Bool, true, false, not, ◌||◌, nat_eq, Option, Some, None}
use Rattle.dv_defs.specs.Images.{Image}
use Rattle.dv_defs.specs.Op.{Code}
use Rattle.dv_defs.specs.Pools.{Method}
use Rattle.dv_typing.specs.declared.typing.RegState.{RegState}
use Rattle.dv_typing.specs.RegTypes.{type_at}
use Rattle.dv_bases.specs.Bases.{Names}
use Rattle.dv_effects.specs.declared.effects.Effect.{Effect}
use Rattle.dv_effects.specs.declared.effects.Effect.TheVariants as effect
use Rattle.dv_effects.specs.Effects.{registers_after}
use Rattle.law_levels.specs.Levels.{IsBounded, IsShallower, limit}
use Rattle.dv_levels.specs.declared.effects.Level.{Level}

-- what bounds one register before an effect bounds another after it
abbrev pub Takes : Effect → ℕ → Bool → ℕ → Bool → Type 0
Takes effect register fewer other less =
    (names : Names) (m : Method) (s : RegState) (d : ℕ) → IsShallower (limit fewer d) (type_at s.regs register) →
    IsShallower (limit less d) (type_at (registers_after names m effect s) other)

-- a level is a bound beside a register at a place
abbrev pub IsLevel : Image → Code → ℕ → ℕ → Level → Type 0
IsLevel image code first own level = IsBounded image code first own level.place level.register level.fewer

-- ---- what is kept, and what is taken

-- one of the two registers of a long
abbrev pub is_half : ℕ → ℕ → Bool
is_half low register = nat_eq register low || nat_eq register (suc low)

-- an effect writes nothing that isn't shallow to the register
abbrev pub is_kept : Effect → ℕ → Bool
is_kept effect.Nothing register = true
is_kept (effect.Put k word) register = not (nat_eq register k)
is_kept (effect.PutLong k) register = not (is_half k register)
is_kept (effect.CopyInt k from) register = not (nat_eq register k)
is_kept (effect.CopyObject k from) register = not (nat_eq register k)
is_kept (effect.ResultInt k) register = not (nat_eq register k)
is_kept (effect.ResultLong k) register = not (is_half k register)
is_kept (effect.ResultObject k) register = not (nat_eq register k)
is_kept (effect.Caught k) register = not (nat_eq register k)
is_kept (effect.Element k array) register = not (nat_eq register k)
is_kept (effect.New k at) register = not (nat_eq register k)
is_kept (effect.Construct k) register = true

-- the register that takes the object of another, or an element of its array, and whether that has fewer dimensions
abbrev pub taken_by : Effect → ℕ → Bool → Option (ℕ × Bool)
taken_by (effect.CopyObject k from) register fewer = elim (nat_eq from register) [ true ↦ Some (k, fewer) | false ↦ None ]
taken_by (effect.Element k array) register fewer = elim (nat_eq array register) [ true ↦ Some (k, true) | false ↦ None ]
taken_by e register fewer = None
