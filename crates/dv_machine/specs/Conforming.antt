-- When values, registers and frames conform to what the verifier knows.
use Rattle.std.specs.Prelude.{◌≡◌, ◌↔◌, ℕ, zero, suc, Bool, true, ◌||◌, not, List, length, Option, Some, None, All, IfSome, bytes_eq}
use Rattle.dv_defs.specs.Pools.{class_type, name_at}
use Rattle.dv_defs.specs.Types.{is_array}
use Rattle.dv_defs.specs.Names.{class_name, string_name}
use Rattle.dv_typing.specs.RegTypes.{Types, type_at}
use Rattle.dv_defs.specs.Order.{sub, fits}
use Rattle.dv_machine.specs.Heap.{Heap, kind_of, kind_type}
use Rattle.dv_machine.specs.State.{reg_at}
use Rattle.dv_machine.specs.Calls.{object_of}
use Rattle.dv_defs.specs.declared.names.Ty.{Ty}
use Rattle.dv_defs.specs.Images.{Image}
use Rattle.dv_machine.specs.Value.{Value}
use Rattle.dv_machine.specs.Value as v
use Rattle.dv_machine.specs.Pending.{Pending}
use Rattle.dv_machine.specs.Pending as pending
use Rattle.dv_machine.specs.Frame.{Frame}
use Rattle.dv_machine.specs.Level.{Level}
use Rattle.dv_machine.specs.Level as level
use Rattle.dv_machine.specs.Kind.{Kind}
use Rattle.dv_machine.specs.Kind as kind
use Rattle.dv_typing.specs.declared.typing.RegType.{RegType}
use Rattle.dv_typing.specs.declared.typing.RegType.TheVariants as ty
use Rattle.dv_typing.specs.declared.typing.PendingType.{PendingType}
use Rattle.dv_typing.specs.declared.typing.PendingType.TheVariants as pend
use Rattle.dv_typing.specs.declared.typing.RegState.{RegState}

-- what a frame's own receiver is, its method's class, and what its new-instances make
pub record Own : Type 0 where
  pub this : Option ℕ
  pub class : Ty
  pub made : ℕ → Option ℕ

-- the classes whose objects are strings and Class objects
abbrev pub is_string_or_class : List ℕ → Bool
is_string_or_class name = bytes_eq name string_name || bytes_eq name class_name

-- an object of class String is a string, one of class Class a Class object; an array is of an array type
abbrev pub is_proper : Image → Kind → Bool
is_proper image (kind.Object c) = not (is_string_or_class (name_at image c.0))
is_proper image (kind.Array t) = is_array t
is_proper image k = true

-- an object of the heap, as the image lets one be
pub record IsObject (image : Image) (heap : Heap) (o : ℕ) : Type 0 where
  pub kind : Kind
  pub has_kind : kind_of heap o ≡ Some kind
  pub proper : is_proper image kind ≡ true

-- null, or an object of the heap
abbrev pub IsThere : Image → Heap → ℕ → Type 0
IsThere image heap zero = Unit {0}
IsThere image heap (suc o) = IsObject image heap (suc o)

-- an object that a type takes
pub record IsOf (image : Image) (heap : Heap) (o : ℕ) (t : Ty) : Type 0 where
  pub object : IsObject image heap o
  pub fits : fits image (kind_type image object.kind) t ≡ true

-- null fits every type
abbrev pub Fits : Image → Heap → ℕ → Ty → Type 0
Fits image heap zero t = Unit {0}
Fits image heap (suc o) t = IsOf image heap (suc o) t

-- the object of an uninitialised value: of the class that the new-instance at its address makes
pub record IsMade (image : Image) (heap : Heap) (own : Own) (a o : ℕ) : Type 0 where
  pub class : ℕ
  pub is_site : own.made a ≡ Some class
  pub has_kind : kind_of heap o ≡ Some (kind.Object (record { 0 = class }))

-- the frame's own receiver, of a class under its method's
pub record IsThis (image : Image) (heap : Heap) (own : Own) (o : ℕ) : Type 0 where
  pub is_own : own.this ≡ Some o
  pub class : ℕ
  pub has_kind : kind_of heap o ≡ Some (kind.Object (record { 0 = class }))
  pub under : sub image (class_type image class) own.class ≡ true

-- a value conforms to a register type
abbrev pub Conforms : Image → Heap → Own → Value → RegType → Type 0
Conforms image heap own x ty.Conflict = Unit {0}
Conforms image heap own v.Zero ty.Zero = Unit {0}
Conforms image heap own v.Zero ty.Int = Unit {0}
Conforms image heap own (v.Num n) ty.Int = Unit {0}
Conforms image heap own (v.Lo n) ty.LongLo = Unit {0}
Conforms image heap own (v.Hi n) ty.LongHi = Unit {0}
Conforms image heap own v.Zero (ty.Class t) = Unit {0}
Conforms image heap own (v.Ref o) (ty.Class t) = Fits image heap o t
Conforms image heap own (v.Uninit a o) (ty.Uninit b) = (a ≡ b) × IsMade image heap own a o
Conforms image heap own (v.UninitThis o) ty.UninitThis = IsThis image heap own o
Conforms image heap own x t = ⊥

-- register by register
abbrev pub RegsConform : Image → Heap → Own → List Value → Types → Type 0
RegsConform image heap own xs ts = (k : ℕ) → Conforms image heap own (reg_at xs k) (type_at ts k)

-- the types of uninitialised objects
abbrev pub IsUninit : RegType → Type 0
IsUninit (ty.Uninit a) = Unit {0}
IsUninit ty.UninitThis = Unit {0}
IsUninit t = ⊥

-- registers of one uninitialised type hold one object, those of two hold two
abbrev pub AreApart : List Value → Types → Type 0
AreApart xs ts =
    (j k : ℕ) → IsUninit (type_at ts j) → IsUninit (type_at ts k) →
    (type_at ts j ≡ type_at ts k) ↔ (object_of (reg_at xs j) ≡ object_of (reg_at xs k))

-- registers conform to a state's
pub record IsGood (image : Image) (heap : Heap) (own : Own) (xs : List Value) (ts : Types) : Type 0 where
  pub regs : RegsConform image heap own xs ts
  pub count : length xs ≡ length ts
  pub apart : AreApart xs ts

-- a pending result conforms to what the verifier knows of it
abbrev pub ResultConforms : Image → Heap → Own → Pending → PendingType → Type 0
ResultConforms image heap own p pend.None = Unit {0}
ResultConforms image heap own (pending.One x) (pend.One t) = Conforms image heap own x t
ResultConforms image heap own (pending.Two lo hi) pend.Long = Unit {0}
ResultConforms image heap own p t = ⊥

-- so does the exception that a handler was entered with
abbrev pub CaughtConforms : Image → Heap → Option ℕ → Option Ty → Type 0
CaughtConforms image heap o None = Unit {0}
CaughtConforms image heap (Some o) (Some t) = IsOf image heap o t
CaughtConforms image heap None (Some t) = ⊥

-- a frame conforms to a state
pub record Conform (image : Image) (heap : Heap) (own : Own) (f : Frame) (s : RegState) : Type 0 where
  pub good : IsGood image heap own f.regs s.regs
  pub result : ResultConforms image heap own f.result s.result
  pub caught : CaughtConforms image heap f.caught s.caught
  pub this_pending : f.this_pending ≡ true → s.this_pending ≡ true

-- ---- the references of a frame

-- a reference is null or to an object
abbrev pub RefFine : Image → Heap → Value → Type 0
RefFine image heap (v.Ref o) = IsThere image heap o
RefFine image heap x = Unit {0}

-- so is one that is a pending result
abbrev pub ResultFine : Image → Heap → Pending → Type 0
ResultFine image heap (pending.One x) = RefFine image heap x
ResultFine image heap p = Unit {0}

-- each is null or to an object, whatever the types say
abbrev pub RefsFine : Image → Heap → Level → Type 0
RefsFine image heap (level.Code f) = All (RefFine image heap) f.regs × ResultFine image heap f.result × IfSome f.caught (IsThere image heap)
RefsFine image heap (level.Init c r) = Unit {0}
