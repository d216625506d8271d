-- The laws of types, of states, of transfer and of demand, as statements.
use Rattle.std.specs.Prelude.{◌≡◌, ℕ, Bool, true, length, None, All, IfSome}
use Rattle.dv_defs.specs.Images.{Image}
use Rattle.dv_typing.specs.declared.typing.RegType.{RegType}
use Rattle.dv_typing.specs.declared.typing.RegType.TheVariants as ty
use Rattle.dv_typing.specs.declared.typing.RegState.{RegState}
use Rattle.dv_defs.specs.Types.{is_reference}
use Rattle.dv_defs.specs.Pools.{Method}
use Rattle.dv_defs.specs.Op.{Op}
use Rattle.dv_typing.specs.Statics.{At}
use Rattle.dv_typing.specs.RegTypes.{IsBelow}
use Rattle.dv_typing.specs.Demands.{ok}
use Rattle.dv_typing.specs.Transfer.{out}
use Rattle.dv_typing.specs.Joins.{join_state}
use Rattle.law_types.specs.Hierarchy.{IsHierarchy, IsOrder}

-- ---- order and join

-- subtype is an order, and what else the laws use of types holds
abbrev pub TypesAreOrdered : Type 0
TypesAreOrdered = (image : Image) → IsHierarchy image → IsOrder image

-- states are ordered as their types are
pub record IsStateOrder (image : Image) : Type 0 where
  pub same : (s : RegState) → IsBelow image s s
  pub trans : (s t u : RegState) → IsBelow image s t → IsBelow image t u → IsBelow image s u

abbrev pub StatesAreOrdered : Type 0
StatesAreOrdered = (image : Image) → IsHierarchy image → IsStateOrder image

-- what a type names is a class or an array
abbrev pub refers : RegType → Bool
refers (ty.Class t) = is_reference t
refers t = true

-- a state names no primitive type where a class or an array is due
pub record RefersRightly (s : RegState) : Type 0 where
  pub regs : All (λ t. refers t ≡ true) s.regs
  pub caught : IfSome s.caught (λ t. is_reference t ≡ true)

-- the least state above two
pub record IsJoin (image : Image) (s t j : RegState) : Type 0 where
  pub first : IsBelow image s j
  pub second : IsBelow image t j
  pub least : (u : RegState) → IsBelow image s u → IsBelow image t u → IsBelow image j u

abbrev pub JoinIsLeast : Type 0
JoinIsLeast =
    (image : Image) → IsHierarchy image → (s t : RegState) → RefersRightly s → RefersRightly t →
    length s.regs ≡ length t.regs → IsJoin image s t (join_state image s t)

-- ---- transfer and demand

-- a state above leads to a state above
abbrev pub TransferIsMonotone : Type 0
TransferIsMonotone =
    (image : Image) → IsHierarchy image → (m : Method) (at : ℕ) (op : Op) (s t : RegState) → IsBelow image s t →
    IsBelow image (out image m at op s) (out image m at op t)

-- what is satisfied with a state is satisfied with each below it
abbrev pub DemandIsAntitone : Type 0
DemandIsAntitone =
    (image : Image) → IsHierarchy image → (m : Method) (x : At) (s t : RegState) → IsBelow image s t →
    ok image m x t ≡ None → ok image m x s ≡ None
