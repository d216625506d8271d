-- What is above a shallow type is shallow.
use Rattle.std.proofs.Common.{◌≡◌, ◌≤◌, ℕ, true, arith, inl, inr, ap}
use Rattle.dv_defs.specs.declared.names.Ty.{Ty}
use Rattle.dv_defs.specs.Images.{Image}
use Rattle.dv_defs.specs.Order.{sub, extends}
use Rattle.dv_typing.specs.declared.typing.RegType.{RegType}
use Rattle.dv_typing.specs.declared.typing.RegType.TheVariants as ty
use Rattle.dv_typing.specs.declared.typing.RegState.{RegState}
use Rattle.dv_typing.specs.RegTypes.{under, type_at}
use Rattle.dv_types.specs.Under.{state_under}
use Rattle.dv_types.proofs.Below.{below_from}
use Rattle.law_types.proofs.Facts.{no}
use Rattle.law_types.proofs.Types.{type_is}
use Rattle.law_levels.specs.Levels.{IsShallower}

-- a type has at least as many dimensions as each above it
dims_above : (image : Image) (c d : Ty) → sub image c d ≡ true → d.dims ≤ c.dims
unfolding sub
dims_above image c d u =
    elim (type_is image (extends image) c d u) [
      | inl same ↦ (let e = ap (λ (t : Ty). t.dims) same in omega (arith, e))
      | inr is ↦ omega (arith, is.dims)
    ]

pub shallower_above : (image : Image) (n : ℕ) (t s : RegType) → under image s t ≡ true → IsShallower n s → IsShallower n t
shallower_above image n ty.Conflict s u h = tt
shallower_above image n (ty.Class d) (ty.Class c) u h = omega (arith, dims_above image c d u, h)
shallower_above image n (ty.Class d) ty.Conflict u h = no u
shallower_above image n t ty.Conflict u h = no u
shallower_above image n t (ty.Class c) u h = no u
shallower_above image n t s u h = absurd h

pub register_above : (image : Image) (n register : ℕ) (s t : RegState) → state_under image s t ≡ true → IsShallower n (type_at s.regs register) → IsShallower n (type_at t.regs register)
register_above image n register s t u h =
    shallower_above image n (type_at t.regs register) (type_at s.regs register) ((below_from image s t u).each register) h
