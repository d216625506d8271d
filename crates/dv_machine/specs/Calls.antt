-- Invokes and returns.
use Rattle.std.specs.Prelude.{ℕ, ◌-◌, ◌++◌, Bool, true, false, ◌&&◌, not, List, [], ◌∷◌, length, map, replicate, Option, Some, None, Ok, Err, nat_eq, bytes_eq, codes, if◌then◌else◌}
use Rattle.dv_defs.specs.declared.names.Ty.{Ty}
use Rattle.dv_defs.specs.declared.names.Proto.{Proto}
use Rattle.dv_defs.specs.declared.names.Base.TheVariants as base
use Rattle.dv_defs.specs.declared.image.Select.{Select}
use Rattle.dv_defs.specs.declared.image.Select.TheVariants as select
use Rattle.dv_defs.specs.Types.{of_class, of_base}
use Rattle.dv_defs.specs.Parts.{Call, Width}
use Rattle.dv_defs.specs.Names.{object_name, class_name, string_name, thread_name, text_name, console_name}
use Rattle.dv_defs.specs.Pools.{Method, method_at, is_static, is_native, is_abstract, is_constructor, is_interface, is_of_object, own_type, class_named, name_at, parent_at}
use Rattle.dv_defs.specs.Selecting.{selected}
use Rattle.dv_defs.specs.Order.{instance}
use Rattle.dv_defs.specs.Op.{Op, Invoke}
use Rattle.dv_typing.specs.Statics.{At, fetch}
use Rattle.dv_typing.specs.Demands.{is_own_or_super, is_void, result_width, same_width}
use Rattle.dv_machine.specs.Heap.{Heap, kind_of}
use Rattle.dv_machine.specs.State.{Left, Did, Throws, IsStuck, Reads, reading, reg_at, read_ref, read_value, read_args, with_result, Here, left, pushed, type_of}
use Rattle.dv_machine.specs.Mem.{on_object}
use Rattle.dv_defs.specs.declared.code.Body.{Body}
use Rattle.dv_defs.specs.Images.{Image}
use Rattle.dv_machine.specs.Value.{Value}
use Rattle.dv_machine.specs.Value as v
use Rattle.dv_defs.specs.declared.run.Named.{Named}
use Rattle.dv_defs.specs.declared.run.Named.TheVariants as named
use Rattle.dv_machine.specs.Why as why
use Rattle.dv_defs.specs.declared.run.Native.{Native}
use Rattle.dv_defs.specs.declared.run.Native.TheVariants as native
use Rattle.dv_machine.specs.Pending.{Pending}
use Rattle.dv_machine.specs.Pending as pending
use Rattle.dv_machine.specs.Frame.{Frame}
use Rattle.dv_machine.specs.Level.{Level}
use Rattle.dv_machine.specs.Level as level
use Rattle.dv_machine.specs.Kind.{Kind}
use Rattle.dv_machine.specs.Kind as kind

-- the method on which a call lands, or what it throws
pub data Landing : Type 0 where
  Lands : (method : Method) → Landing
  Lacks : (named : Named) → Landing

-- an abstract method can't be run (JLS 12.3, 13.4.12)
abbrev pub unless_abstract : Method → Landing
unless_abstract m = if is_abstract m then Lacks named.AbstractMethod else Lands m

-- the method of a number
abbrev pub on_method : Option Method → Landing
on_method None = Lacks named.AbstractMethod
on_method (Some m) = Lands m

-- what a selection lands on (JVMS 6.5, "invokevirtual" and "invokeinterface")
abbrev pub landing : Image → Select → Landing
landing image (select.Found m) = on_method (method_at image m.0)
landing image select.Abstract = Lacks named.AbstractMethod
landing image select.Clash = Lacks named.ClassChange

-- an array's class is Object here
abbrev pub class_of_kind : Image → Option Kind → Option ℕ
class_of_kind image (Some (kind.Object c)) = Some c.0
class_of_kind image (Some (kind.Str s)) = class_named image string_name
class_of_kind image (Some (kind.ClassOf t)) = class_named image class_name
class_of_kind image k = class_named image object_name

-- a selection from a class
abbrev pub selected_from : Image → Option ℕ → List ℕ → Proto → Landing
selected_from image None name proto = Lacks named.AbstractMethod
selected_from image (Some c) name proto = landing image (selected image c name proto)

-- the object is of a class that implements the method's interface
abbrev pub implements_it : Image → Heap → Method → ℕ → Bool
implements_it image heap g o = instance image (type_of image heap o) (own_type image g)

-- the method's class is an interface that the object's class lacks
abbrev pub lacks_interface : Image → Heap → Method → ℕ → Bool
lacks_interface image heap g o = is_interface image g.info.class.0 && not (implements_it image heap g o)

-- a call by the object's class
abbrev pub by_object : Image → Heap → Method → ℕ → Landing
by_object image heap g o =
    if lacks_interface image heap g o then Lacks named.ClassChange
    else selected_from image (class_of_kind image (kind_of heap o)) g.def.name g.def.proto

-- the method that a call on an object that isn't null lands on (AOSP "invoke-kind"; JLS 15.12.4.4)
unfoldable pub dispatch : Image → Heap → Method → Call → Method → ℕ → Landing
dispatch image heap own Call.Static g o = unless_abstract g
dispatch image heap own Call.Direct g o = unless_abstract g
dispatch image heap own Call.Super g o = selected_from image (parent_at image own.info.class.0) g.def.name g.def.proto
dispatch image heap own Call.Virtual g o = by_object image heap g o
dispatch image heap own Call.Interface g o = by_object image heap g o

-- ---- the natives

-- how a native is declared
pub record Signature : Type 0 where
  pub class : List ℕ
  pub name : List ℕ
  pub is_static : Bool
  pub proto : Proto

abbrev pub signed : List ℕ → List ℕ → Bool → List Ty → Option Ty → Signature
signed class name is_static params ret =
    record { class = class; name = name; is_static = is_static; proto = record { params = params; ret = ret } }

abbrev pub string_type : Ty
string_type = of_class string_name

abbrev pub int_type : Ty
int_type = of_base base.I

abbrev pub chars_type : Ty
chars_type = record { dims = 1; base = base.C }

abbrev pub signature : Native → Signature
signature native.Wait = signed object_name (codes "wait") false [] None
signature native.Notify = signed object_name (codes "notify") false [] None
signature native.NotifyAll = signed object_name (codes "notifyAll") false [] None
signature native.Start = signed thread_name (codes "start") false [] None
signature native.Join = signed thread_name (codes "join") false [] None
signature native.CurrentThread = signed thread_name (codes "currentThread") true [] (Some (of_class thread_name))
signature native.Length = signed string_name (codes "length") false [] (Some int_type)
signature native.CharAt = signed string_name (codes "charAt") false (int_type ∷ []) (Some (of_base base.C))
signature native.Equals = signed string_name (codes "equals") false (of_class object_name ∷ []) (Some (of_base base.Z))
signature native.Concat = signed string_name (codes "concat") false (string_type ∷ []) (Some string_type)
signature native.OfLong = signed text_name (codes "ofLong") true (of_base base.J ∷ []) (Some string_type)
signature native.OfChars = signed text_name (codes "ofChars") true (chars_type ∷ int_type ∷ int_type ∷ []) (Some string_type)
signature native.Print = signed console_name (codes "print") true (string_type ∷ []) None
signature native.Println = signed console_name (codes "println") true (int_type ∷ []) None

-- no two of them have one class and name
abbrev pub all_natives : List Native
all_natives =
    native.Wait ∷ native.Notify ∷ native.NotifyAll ∷ native.Start ∷ native.Join ∷ native.CurrentThread ∷
    native.Length ∷ native.CharAt ∷ native.Equals ∷ native.Concat ∷ native.OfLong ∷ native.OfChars ∷ native.Print ∷
    native.Println ∷ []

abbrev pub is_signed : List ℕ → List ℕ → Signature → Bool
is_signed class name x = bytes_eq x.class class && bytes_eq x.name name

-- the one that is declared by a class under a name
abbrev pub native_among : List Native → List ℕ → List ℕ → Option Native
native_among [] class name = None
native_among (x ∷ xs) class name = elim (is_signed class name (signature x)) [ true ↦ Some x | false ↦ native_among xs class name ]

-- the native that a method is, where it is one
abbrev pub native_of : Image → Method → Option Native
native_of image m = elim (is_native m) [ true ↦ native_among all_natives (name_at image m.info.class.0) m.def.name | false ↦ None ]

-- the object that an uninitialised value is
abbrev pub object_of : Value → Option ℕ
object_of (v.Uninit a o) = Some o
object_of (v.UninitThis o) = Some o
object_of x = None

-- a constructor is called on an object that isn't initialised
abbrev pub where_fresh : Bool → ℕ → Reads ℕ
where_fresh true o = Ok o
where_fresh false o = Err why.Uninitialised

-- a new object of just this class
abbrev pub is_made_of : Option Kind → ℕ → Bool
is_made_of (Some (kind.Object c)) d = nat_eq c.0 d
is_made_of k d = false

-- the object that a constructor is called on
abbrev pub read_new : Image → Heap → Method → Method → Value → Reads ℕ
read_new image heap own g (v.Uninit a o) = where_fresh (is_made_of (kind_of heap o) g.info.class.0) o
read_new image heap own g (v.UninitThis o) = where_fresh (is_own_or_super image own g.info.class.0) o
read_new image heap own g x = Err why.Uninitialised

abbrev pub registers_in : Option Body → ℕ
registers_in None = 0
registers_in (Some b) = b.registers

-- a method without a body has none
abbrev pub registers_of : Method → ℕ
registers_of m = registers_in m.def.body

-- the first frame of a method, its argument words in the last registers
abbrev pub entered_frame : Method → List Value → Bool → Frame
entered_frame m xs pending_this =
    record {
      method = record { 0 = m.id };
      at = 0;
      regs = replicate (registers_of m - length xs) v.Undef ++ xs;
      result = pending.None;
      caught = None;
      this_pending = pending_this;
    }

-- a call's frame is pushed on the caller's, which stays at its invoke
abbrev pub enter : Here → Method → List Value → Bool → Did Left
enter h m xs p = pushed h h.shared (level.Code (entered_frame m xs p)) (level.Code h.frame ∷ h.rest)

-- a native is one step without a level
abbrev pub landed_on : Here → (Native → List Value → Did Left) → Method → List Value → Option Native → Did Left
landed_on h native m xs None = enter h m xs false
landed_on h native m xs (Some n) = native n xs

-- a call that lands, or throws
abbrev pub landed : Here → (Native → List Value → Did Left) → Landing → List Value → Did Left
landed h native (Lacks n) xs = Throws n
landed h native (Lands m) xs = landed_on h native m xs (native_of h.image m)

-- a constructor other than Object's begins with its receiver uninitialised
abbrev pub enter_constructor : Here → Method → ℕ → List Value → Did Left
enter_constructor h g o xs =
    if is_of_object h.image g then enter h g (v.Ref o ∷ xs) false else enter h g (v.UninitThis o ∷ xs) true

abbrev pub construct : Here → Method → ℕ → List Value → Did Left
construct h g o xs = if is_abstract g then Throws named.AbstractMethod else enter_constructor h g o xs

-- an invoke-super's receiver is also of the caller's class
abbrev pub read_super : Here → Call → Value → Reads ℕ
read_super h Call.Super x = read_ref h.image h.shared.heap (own_type h.image h.own) x
read_super h c x = Ok 0

-- a call on this object, which isn't null
abbrev pub call_object : Here → (Native → List Value → Did Left) → Call → Method → Value → List Value → ℕ → Did Left
call_object h native c g x xs o = landed h native (dispatch h.image h.shared.heap h.own c g o) (x ∷ xs)

-- the receiver, then the arguments, then null, then the method
abbrev pub call_instance : Here → (Native → List Value → Did Left) → Call → Method → Value → List ℕ → Did Left
call_instance h native c g x ks =
    reading (read_ref h.image h.shared.heap (own_type h.image g) x)
    (λ o.
    reading (read_super h c x)
    (λ p.
    reading (read_args h.image h.shared.heap h.frame.regs g.def.proto.params ks)
    (λ xs. on_object (call_object h native c g x xs) o)))

-- the receiver, then the arguments
abbrev pub call_constructor : Here → Method → Value → List ℕ → Did Left
call_constructor h g x ks =
    reading (read_new h.image h.shared.heap h.own g x)
    (λ o. reading (read_args h.image h.shared.heap h.frame.regs g.def.proto.params ks) (construct h g o))

-- the first argument register holds the receiver
abbrev pub with_receiver : Here → (Native → List Value → Did Left) → Call → Method → List ℕ → Did Left
with_receiver h native c g [] = IsStuck why.Instruction
with_receiver h native c g (k ∷ ks) =
    elim (is_constructor g) [
      | true ↦ call_constructor h g (reg_at h.frame.regs k) ks
      | false ↦ call_instance h native c g (reg_at h.frame.regs k) ks
    ]

-- an invoke; the second argument is what a native does
abbrev pub invoke : Here → (Native → List Value → Did Left) → Call → List ℕ → Method → Did Left
invoke h native c ks g =
    elim (is_static g) [
      | true ↦ reading (read_args h.image h.shared.heap h.frame.regs g.def.proto.params ks)
          (landed h native (unless_abstract g))
      | false ↦ with_receiver h native c g ks
    ]

-- ---- returns

-- the object of this number is initialised now
abbrev pub initialised : ℕ → Value → Value
initialised o (v.Uninit a p) = if nat_eq o p then v.Ref p else v.Uninit a p
initialised o (v.UninitThis p) = if nat_eq o p then v.Ref p else v.UninitThis p
initialised o x = x

-- once a constructor was called on `this` it isn't pending any more
abbrev pub still_pending : Value → Bool → Bool
still_pending (v.UninitThis o) b = false
still_pending x b = b

-- in every register that holds the object
abbrev pub initialised_in : Value → Option ℕ → List Value → List Value
initialised_in x None regs = regs
initialised_in x (Some o) regs = map (initialised o) regs

-- the caller's registers and pending `this` after a constructor on this value
abbrev pub constructed : Frame → ℕ → Pending → Value → Frame
constructed g next p x =
    record g {
      at = next;
      regs = initialised_in x (object_of x) g.regs;
      result = p;
      caught = None;
      this_pending = still_pending x g.this_pending;
    }

-- the register of an invoke's receiver
abbrev pub receiver_of : Op → Option ℕ
receiver_of (Invoke c (k ∷ ks) g) = if is_static g then None else Some k
receiver_of op = None

-- the receiver stands in this register; an invoke without one made nothing
abbrev pub constructed_at : Frame → ℕ → Pending → Option ℕ → Frame
constructed_at g next p None = with_result g next p
constructed_at g next p (Some k) = constructed g next p (reg_at g.regs k)

-- the caller's frame after a return; the first argument says whether a constructor returns
abbrev pub returned : Bool → Frame → At → Pending → Frame
returned false g x p = with_result g x.next p
returned true g x p = constructed_at g x.next p (receiver_of x.op)

-- the caller goes on after its invoke
abbrev pub back_to : Here → Pending → Frame → List Level → Option At → Did Left
back_to h p g ls None = IsStuck why.Instruction
back_to h p g ls (Some x) = left h h.shared (level.Code (returned (is_constructor h.own) g x p) ∷ ls)

-- the frame is dropped; a caller takes the result, a record takes none
abbrev pub back_on : Here → Pending → List Level → Did Left
back_on h p [] = left h h.shared []
back_on h p (level.Init c r ∷ ls) = left h h.shared (level.Init c r ∷ ls)
back_on h p (level.Code g ∷ ls) = back_to h p g ls (fetch h.image g.method.0 g.at)

abbrev pub back : Here → Pending → Did Left
back h p = back_on h p h.rest

-- a constructor doesn't return before the superclass's constructor was called
abbrev pub unless_pending : Here → Did Left → Did Left
unless_pending h go = if is_constructor h.own && h.frame.this_pending then IsStuck why.Uninitialised else go

-- the words of a result, none to two
abbrev pub pending_words : List Value → Pending
pending_words (v.Lo lo ∷ v.Hi hi ∷ xs) = pending.Two lo hi
pending_words (x ∷ xs) = pending.One x
pending_words [] = pending.None

-- the value of a register as the method's result
abbrev pub return_value : Here → ℕ → Option Ty → Did Left
return_value h a None = IsStuck why.Result
return_value h a (Some t) = reading (read_value h.image h.shared.heap h.frame.regs a t) (λ xs. back h (pending_words xs))

-- a return whose form is not the method's gives no result
abbrev pub return_form : Here → Width → ℕ → Did Left
return_form h w a =
    if not (is_void h.own.def.proto.ret) && same_width w (result_width h.own.def.proto.ret)
    then unless_pending h (return_value h a h.own.def.proto.ret) else IsStuck why.Result

abbrev pub return_void : Here → Did Left
return_void h = if is_void h.own.def.proto.ret then unless_pending h (back h pending.None) else IsStuck why.Result
