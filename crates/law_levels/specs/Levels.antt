-- How shallow the arrays of registers are, in each closed assignment, beside those of one register at one place.
use Rattle.std.specs.Prelude.{◌≡◌, ◌<◌, ℕ, suc, Bool, true, false, Some}
use Rattle.dv_worklist.specs.Flow.{Assignment, IsClosed}
use Rattle.dv_defs.specs.declared.names.Ty.{Ty}
use Rattle.dv_defs.specs.Images.{Image}
use Rattle.dv_defs.specs.Op.{Code, Op}
use Rattle.dv_typing.specs.declared.typing.RegType.{RegType}
use Rattle.dv_typing.specs.declared.typing.RegType.TheVariants as ty
use Rattle.dv_typing.specs.declared.typing.RegState.{RegState}
use Rattle.dv_typing.specs.RegTypes.{type_at}
use Rattle.dv_typing.specs.Transfer.{out}
use Rattle.law_gather.specs.Gathered.{gathered_flow}

-- no type of a value, or a class or an array of fewer dimensions than n
abbrev pub IsShallower : ℕ → RegType → Type 0
IsShallower n ty.Conflict = Unit {0}
IsShallower n (ty.Class c) = c.dims < n
IsShallower n t = ⊥

-- what is shallower has fewer than d dimensions, or else at most d
abbrev pub limit : Bool → ℕ → ℕ
limit true d = d
limit false d = suc d

-- an assignment has a state at the place, in which the register is shallower than n
pub record HasShallower (b : Assignment RegState) (place register n : ℕ) : Type 0 where
  pub state : RegState
  pub there : b place ≡ Some state
  pub shallower : IsShallower n (type_at state.regs register)

-- where a closed assignment has a class or an array in one register at one place, another is no deeper elsewhere, or shallower
abbrev pub IsBounded : Image → Code → ℕ → ℕ → ℕ → ℕ → Bool → Type 0
IsBounded image code first register place other fewer =
    (b : Assignment RegState) → IsClosed (gathered_flow image code) b →
    (s : RegState) → b first ≡ Some s → (c : Ty) → type_at s.regs register ≡ ty.Class c →
    HasShallower b place other (limit fewer c.dims)

-- no closed assignment has a class or an array in the register at the place
abbrev pub HasNoClass : Image → Code → ℕ → ℕ → Type 0
HasNoClass image code place register =
    (b : Assignment RegState) → IsClosed (gathered_flow image code) b →
    (s : RegState) → b place ≡ Some s → (c : Ty) → type_at s.regs register ≡ ty.Class c → ⊥

-- what bounds one register before an operation bounds another after it
abbrev pub Carries : Image → Code → ℕ → Op → ℕ → Bool → ℕ → Bool → Type 0
Carries image code at op register fewer other less =
    (s : RegState) (d : ℕ) → IsShallower (limit fewer d) (type_at s.regs register) → IsShallower (limit less d) (type_at (out image code.method at op s).regs other)
