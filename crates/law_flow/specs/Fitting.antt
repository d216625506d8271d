-- Which states may stand at an instruction of a method, and how often a state can still rise.
use Rattle.std.specs.Prelude.{◌≡◌, ◌≤◌, ℕ, suc, ◌+◌, ◌*◌, Bool, true, false, List, [], ◌∷◌, ◌++◌, length, map, flat_map, Option, Some, None, All, IfSome, option_to_list}
use Rattle.dv_defs.specs.declared.names.Base.{Base}
use Rattle.dv_defs.specs.declared.names.Ty.{Ty}
use Rattle.dv_defs.specs.declared.class.FieldDef.{FieldDef}
use Rattle.dv_defs.specs.declared.class.MethodDef.{MethodDef}
use Rattle.dv_defs.specs.declared.image.ClassInfo.{ClassInfo}
use Rattle.dv_defs.specs.Images.{Image}
use Rattle.dv_typing.specs.declared.typing.RegType.{RegType}
use Rattle.dv_typing.specs.declared.typing.RegType.TheVariants as ty
use Rattle.dv_typing.specs.declared.typing.PendingType.{PendingType}
use Rattle.dv_typing.specs.declared.typing.PendingType.TheVariants as pend
use Rattle.dv_typing.specs.declared.typing.RegState.{RegState}
use Rattle.dv_defs.specs.Types.{is_reference}
use Rattle.dv_defs.specs.Pools.{supers}
use Rattle.dv_defs.specs.Op.{Code, class_of_base}
use Rattle.dv_defs.specs.Tiling.{begins_insn}
use Rattle.dv_typing.specs.RegTypes.{Types}

-- ---- the types that a method can meet

abbrev pub dims_of : List Ty → ℕ
dims_of [] = 0
dims_of (t ∷ ts) = t.dims + dims_of ts

abbrev pub field_types : ClassInfo → List Ty
field_types c = map (λ (f : FieldDef). f.ty) c.def.fields

abbrev pub result_types : ClassInfo → List Ty
result_types c = flat_map (λ (m : MethodDef). option_to_list m.proto.ret) c.def.methods

-- the types of the body's pools, of the method's parameters, and of all fields and results of the image
abbrev pub types_met : Image → Code → List Ty
types_met image code =
    code.method.info.types ++ code.body.types ++ code.method.def.proto.params ++
    flat_map field_types image.classes ++ flat_map result_types image.classes

-- no type that stands in a state of the method has more dimensions
abbrev pub dims_met : Image → Code → ℕ
dims_met image code = dims_of (types_met image code)

-- ---- states that may stand at an instruction

-- a class or an array of at most so many dimensions
pub record TypeFits (most : ℕ) (t : Ty) : Type 0 where
  pub reference : is_reference t ≡ true
  pub dims : t.dims ≤ most

-- and the place of an uninitialised object is an instruction's
abbrev pub RegFits : ℕ → Code → RegType → Type 0
RegFits most code (ty.Class t) = TypeFits most t
RegFits most code (ty.Uninit a) = begins_insn code.tiles a ≡ true
RegFits most code t = Unit {0}

abbrev pub PendingFits : ℕ → Code → PendingType → Type 0
PendingFits most code (pend.One t) = RegFits most code t
PendingFits most code p = Unit {0}

-- a state of the body's registers
pub record StateFits (image : Image) (code : Code) (s : RegState) : Type 0 where
  pub count : length s.regs ≡ code.body.registers
  pub regs : All (RegFits (dims_met image code) code) s.regs
  pub result : PendingFits (dims_met image code) code s.result
  pub caught : IfSome s.caught (TypeFits (dims_met image code))

-- ---- how often a state can still rise

-- a class ranks by its depth, and a type whose class isn't there, or that names none, above all
abbrev pub base_rank : Image → Base → ℕ
base_rank image b = elim (class_of_base image b) [ None ↦ suc (length image.classes) | Some c ↦ length (supers image c) ]

abbrev pub type_rank : Image → Ty → ℕ
type_rank image t = t.dims * (length image.classes + 2) + base_rank image t.base

-- above each type of at most so many dimensions
abbrev pub ranks : Image → ℕ → ℕ
ranks image most = suc most * (length image.classes + 2)

abbrev pub reg_rank : Image → ℕ → RegType → ℕ
reg_rank image most ty.Conflict = 0
reg_rank image most ty.Zero = suc (ranks image most)
reg_rank image most (ty.Class t) = suc (type_rank image t)
reg_rank image most t = 1

abbrev pub regs_rank : Image → ℕ → Types → ℕ
regs_rank image most [] = 0
regs_rank image most (t ∷ ts) = reg_rank image most t + regs_rank image most ts

abbrev pub pending_rank : PendingType → ℕ
pending_rank pend.None = 0
pending_rank p = 1

abbrev pub caught_rank : Image → Option Ty → ℕ
caught_rank image None = 0
caught_rank image (Some t) = suc (type_rank image t)

-- `this` can become pending
abbrev pub this_rank : Bool → ℕ
this_rank true = 0
this_rank false = 1

abbrev pub state_rank : Image → ℕ → RegState → ℕ
state_rank image most s = regs_rank image most s.regs + pending_rank s.result + caught_rank image s.caught + this_rank s.this_pending

-- above each state of so many registers
abbrev pub state_ranks : Image → ℕ → ℕ → ℕ
state_ranks image most registers = registers * (ranks image most + 2) + ranks image most + 4
