-- What the reads of a step give, where registers conform and the verifier's demand holds.
use Rattle.std.specs.Prelude.{◌≡◌, ℕ, zero, suc, true, Bool, List, Option, Some, None, All}
use Rattle.dv_defs.specs.declared.names.Ty.{Ty}
use Rattle.dv_defs.specs.Images.{Image}
use Rattle.dv_machine.specs.Value.{Value}
use Rattle.dv_machine.specs.Kind as kind
use Rattle.dv_machine.specs.Pending.{Pending}
use Rattle.dv_typing.specs.declared.typing.RegType.{RegType}
use Rattle.dv_typing.specs.declared.typing.RegType.TheVariants as ty
use Rattle.dv_typing.specs.declared.typing.PendingType.{PendingType}
use Rattle.dv_defs.specs.Parts.{Test, Suffix}
use Rattle.dv_defs.specs.Types.{component}
use Rattle.dv_defs.specs.Pools.{Method, method_at, class_type, own_type}
use Rattle.dv_defs.specs.Order.{sub, instance}
use Rattle.dv_defs.specs.Op.{Arg}
use Rattle.dv_typing.specs.Statics.{is_of_suffix}
use Rattle.dv_typing.specs.RegTypes.{Types, type_at, reg_types, all_types}
use Rattle.dv_typing.specs.Demands.{int, long, ref, ref_to, array, value_for, args_for, receiver_for, is_movable, arg_int, both_for, zero_for, is_fill_type, any_type}
use Rattle.dv_typing.specs.Transfer.{pending_of, result_int, result_ref}
use Rattle.dv_machine.specs.Heap.{Heap, kind_of}
use Rattle.dv_machine.specs.State.{reg_at, read_int, kept_int, read_two, read_long, read_any, read_ref, kept_object, read_array, read_value, read_args}
use Rattle.dv_machine.specs.Local.{read_arg, test_both, test_zero, pending_int, pending_object}
use Rattle.dv_machine.specs.Calls.{object_of, read_new, pending_words}
use Rattle.dv_machine.specs.Conforming.{Own, Conforms, RegsConform, IsGood, IsThere, Fits, ResultConforms, RefFine}
use Rattle.law_types.specs.Hierarchy.{IsOrder}
use Rattle.dv_machine.specs.Accepted.{Accepted}
use Rattle.law_machine.specs.Premises.{HoldsOf}
use Rattle.dv_machine.specs.WellTyped.{Typings, own_of}

-- nothing more is said of what is read
abbrev pub Anything : {A : Type 0} → A → Type 0
Anything x = Unit {0}

-- ---- numbers

-- a number is read where the verifier demanded one
abbrev pub ReadsInt : Type 0
ReadsInt =
    (image : Image) (heap : Heap) (own : Own) (xs : List Value) (ts : Types) (k : ℕ) →
    RegsConform image heap own xs ts → int ts k ≡ None → HoldsOf Anything (read_int (reg_at xs k))

-- the tag is kept
abbrev pub KeepsInt : Type 0
KeepsInt =
    (image : Image) (heap : Heap) (own : Own) (xs : List Value) (ts : Types) (k : ℕ) →
    RegsConform image heap own xs ts → int ts k ≡ None → HoldsOf (λ x. x ≡ reg_at xs k) (kept_int (reg_at xs k))

-- so is the second operand of an int operation
abbrev pub ReadsArgument : Type 0
ReadsArgument =
    (image : Image) (heap : Heap) (own : Own) (xs : List Value) (ts : Types) (a : Arg) →
    RegsConform image heap own xs ts → arg_int ts a ≡ None → HoldsOf Anything (read_arg xs a)

-- both words of a long are read where one was demanded
abbrev pub ReadsTwo : Type 0
ReadsTwo =
    (image : Image) (heap : Heap) (own : Own) (xs : List Value) (ts : Types) (k : ℕ) →
    RegsConform image heap own xs ts → long ts k ≡ None → HoldsOf Anything (read_two xs k)

-- and make a number
abbrev pub ReadsLong : Type 0
ReadsLong =
    (image : Image) (heap : Heap) (own : Own) (xs : List Value) (ts : Types) (k : ℕ) →
    RegsConform image heap own xs ts → long ts k ≡ None → HoldsOf Anything (read_long xs k)

-- ---- references

-- null or an object that is there
abbrev pub ReadsReference : Type 0
ReadsReference =
    (image : Image) (heap : Heap) (own : Own) (xs : List Value) (ts : Types) (k : ℕ) →
    RegsConform image heap own xs ts → ref ts k ≡ None → HoldsOf (IsThere image heap) (read_any heap (reg_at xs k))

-- of a type that the demanded one takes
abbrev pub ReadsReferenceTo : Type 0
ReadsReferenceTo =
    (image : Image) (heap : Heap) (own : Own) (xs : List Value) (ts : Types) (k : ℕ) (t : Ty) → IsOrder image →
    RegsConform image heap own xs ts → ref_to image ts k t ≡ None →
    HoldsOf (λ o. Fits image heap o t) (read_ref image heap t (reg_at xs k))

-- what move-object moves is kept as it is, uninitialised or not
abbrev pub KeepsObject : Type 0
KeepsObject =
    (image : Image) (heap : Heap) (own : Own) (xs : List Value) (ts : Types) (k : ℕ) →
    RegsConform image heap own xs ts → is_movable (type_at ts k) ≡ true →
    HoldsOf (λ x. x ≡ reg_at xs k) (kept_object (reg_at xs k))

-- ---- tests

-- two numbers, or two references
abbrev pub TestsBoth : Type 0
TestsBoth =
    (image : Image) (heap : Heap) (own : Own) (xs : List Value) (ts : Types) (t : Test) (a b : ℕ) →
    RegsConform image heap own xs ts → both_for t ts a b ≡ None →
    HoldsOf Anything (test_both t (reg_at xs a) (reg_at xs b))

-- a number, or a reference
abbrev pub TestsZero : Type 0
TestsZero =
    (image : Image) (heap : Heap) (own : Own) (xs : List Value) (ts : Types) (t : Test) (a : ℕ) →
    RegsConform image heap own xs ts → zero_for t ts a ≡ None → HoldsOf Anything (test_zero t (reg_at xs a))

-- ---- arrays

-- an array whose elements a test takes, and whose element type is an instance of the one that the verifier knows
pub record IsArrayOf (image : Image) (heap : Heap) (good : Ty → Bool) (t : RegType) (o : ℕ) : Type 0 where
  pub type : Ty
  pub has_kind : kind_of heap o ≡ Some (kind.Array type)
  pub takes : good (component type) ≡ true
  pub under : (c : Ty) → t ≡ ty.Class c → instance image (component type) (component c) ≡ true

-- null, or such an array
abbrev pub IsArrayOrNull : Image → Heap → (Ty → Bool) → RegType → ℕ → Type 0
IsArrayOrNull image heap good t zero = Unit {0}
IsArrayOrNull image heap good t (suc o) = IsArrayOf image heap good t (suc o)

-- what a test takes, it takes of each instance
abbrev pub GoesDown : Image → (Ty → Bool) → Type 0
GoesDown image good = (s t : Ty) → instance image s t ≡ true → good t ≡ true → good s ≡ true

-- null, or an array whose elements the test takes
abbrev pub ReadsArray : Type 0
ReadsArray =
    (image : Image) (heap : Heap) (own : Own) (xs : List Value) (ts : Types) (k : ℕ) (good : Ty → Bool) →
    IsOrder image → GoesDown image good → RegsConform image heap own xs ts → array ts k good ≡ None →
    HoldsOf (IsArrayOrNull image heap good (type_at ts k)) (read_array good heap (reg_at xs k))

-- the tests of array instructions do so
pub record ElementTestsGoDown (image : Image) : Type 0 where
  pub any : GoesDown image any_type
  pub suffix : (s : Suffix) → GoesDown image (is_of_suffix s)
  pub fill : (width : ℕ) → GoesDown image (is_fill_type width)

-- ---- values by a declared type, and arguments

-- words that conform to types, whatever the frame, and refer to what is there
pub record AreWords (image : Image) (heap : Heap) (xs : List Value) (ts : Types) : Type 0 where
  pub good : (own : Own) → IsGood image heap own xs ts
  pub refs : All (RefFine image heap) xs

-- the words of a value of a declared type
abbrev pub ReadsValue : Type 0
ReadsValue =
    (image : Image) (heap : Heap) (own : Own) (xs : List Value) (ts : Types) (k : ℕ) (t : Ty) → IsOrder image →
    RegsConform image heap own xs ts → value_for image ts k t ≡ None →
    HoldsOf (λ ys. AreWords image heap ys (reg_types t)) (read_value image heap xs k t)

-- the words of all arguments
abbrev pub ReadsArguments : Type 0
ReadsArguments =
    (image : Image) (heap : Heap) (own : Own) (xs : List Value) (ts : Types) (ps : List Ty) (ks : List ℕ) →
    IsOrder image → RegsConform image heap own xs ts → args_for image ts ps ks ≡ None →
    HoldsOf (λ ys. AreWords image heap ys (all_types ps)) (read_args image heap xs ps ks)

-- the words of a result are pending as that type's
abbrev pub WordsPend : Type 0
WordsPend =
    (image : Image) (heap : Heap) (own : Own) (xs : List Value) (t : Ty) → AreWords image heap xs (reg_types t) →
    ResultConforms image heap own (pending_words xs) (pending_of (Some t))

-- ---- the receiver of a constructor

-- an object of a class under a type
pub record IsUnder (image : Image) (heap : Heap) (t : Ty) (o : ℕ) : Type 0 where
  pub class : ℕ
  pub has_kind : kind_of heap o ≡ Some (kind.Object (record { 0 = class }))
  pub under : sub image (class_type image class) t ≡ true

-- the receiver of a constructor's call is an uninitialised object of a class under the constructor's
abbrev pub ReadsReceiver : Type 0
ReadsReceiver =
    (image : Image) (T : Typings) (heap : Heap) (this : Option ℕ) (n : ℕ) (own g : Method) (xs : List Value)
    (ts : Types) (k : ℕ) →
    Accepted image T → method_at image n ≡ Some own → RegsConform image heap (own_of image this own) xs ts →
    receiver_for image own g (type_at ts k) ≡ None →
    HoldsOf (λ o. (object_of (reg_at xs k) ≡ Some o) × IsUnder image heap (own_type image g) o)
    (read_new image heap own g (reg_at xs k))

-- ---- pending results

-- a pending result is a number where the verifier knows one
abbrev pub MovesInt : Type 0
MovesInt =
    (image : Image) (heap : Heap) (own : Own) (p : Pending) (r : PendingType) → ResultConforms image heap own p r →
    result_int r ≡ ty.Int → HoldsOf (λ x. Conforms image heap own x ty.Int) (pending_int p)

-- and a reference to the type that it knows
abbrev pub MovesReference : Type 0
MovesReference =
    (image : Image) (heap : Heap) (own : Own) (p : Pending) (r : PendingType) (t : Ty) →
    ResultConforms image heap own p r → result_ref r ≡ ty.Class t →
    HoldsOf (λ x. Conforms image heap own x (ty.Class t)) (pending_object p)
