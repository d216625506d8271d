-- The state in which a run begins.
use Rattle.std.specs.Prelude.{ℕ, suc, Bool, true, false, ◌&&◌, List, [], ◌∷◌, length, ℤ, Option, Some, None, is_none, bytes_eq, codes, if◌then◌else◌}
use Rattle.dv_defs.specs.declared.flags.Flag.TheVariants as flag
use Rattle.dv_defs.specs.Flags.{has_flag}
use Rattle.dv_defs.specs.Names.{string_name, thread_name, out_of_memory_name, stack_overflow_name, system_name, stream_name}
use Rattle.dv_defs.specs.Types.{is_long}
use Rattle.dv_typing.specs.RegTypes.{reg_types}
use Rattle.dv_defs.specs.Pools.{Method, Field, field_at, name_at, initialiser}
use Rattle.dv_defs.specs.LookUp.{upward}
use Rattle.dv_defs.specs.Prior.{prior_at}
use Rattle.dv_defs.specs.Numbers.{lo_of, hi_of}
use Rattle.dv_machine.specs.Heap.{Heap, Cells, class_cells, fresh_cells, grown, newest, intern, Got, with_static}
use Rattle.dv_machine.specs.Classes.{Fresh, InProgress, Ready, Classes, with_state}
use Rattle.dv_machine.specs.Local.{const_value}
use Rattle.dv_machine.specs.State.{Thread, Machine}
use Rattle.dv_machine.specs.Calls.{entered_frame}
use Rattle.dv_machine.specs.Unwinding.{number_named}
use Rattle.dv_defs.specs.declared.names.Base.TheVariants as base
use Rattle.dv_defs.specs.declared.names.Ty.{Ty}
use Rattle.dv_defs.specs.Images.{Image}
use Rattle.dv_defs.specs.declared.image.ClassInfo.{ClassInfo}
use Rattle.dv_defs.specs.declared.image.FieldInfo.{FieldInfo}
use Rattle.dv_machine.specs.Value.{Value}
use Rattle.dv_machine.specs.Value as v
use Rattle.dv_defs.specs.declared.run.Limits.{Limits}
use Rattle.dv_defs.specs.declared.run.Preallocated.{Preallocated}
use Rattle.dv_machine.specs.Frame.{Frame}
use Rattle.dv_machine.specs.Level.{Level}
use Rattle.dv_machine.specs.Level as level
use Rattle.dv_machine.specs.Kind.{Kind}
use Rattle.dv_machine.specs.Kind as kind
use Rattle.dv_defs.specs.declared.machine.End.TheVariants as end
use Rattle.dv_defs.specs.declared.class.Init.{Init}
use Rattle.dv_defs.specs.declared.class.Init.TheVariants as init
use Rattle.dv_defs.specs.declared.class.FieldDef.{FieldDef}

-- the limits of a run for which the words ask nothing else
abbrev pub usual : Limits
usual = record { budget = 10000000; heap = 1048576; output = 16777216; threads = 64; levels = 1024; words = 16384 }

-- uncounted, so never full
abbrev pub made : Heap → Kind → Cells → Heap
made heap k cells = grown heap k cells 0

-- an object of the class of this name
abbrev pub object_made : Image → Heap → List ℕ → Heap
object_made image heap name =
    made heap (kind.Object (record { 0 = number_named image name }))
    (fresh_cells (class_cells image (number_named image name)))

-- a number, as a static field of this type keeps it
abbrev pub number_cells : Ty → ℤ → Cells
number_cells t n = if is_long t then v.Lo (lo_of n) ∷ v.Hi (hi_of n) ∷ [] else const_value n ∷ []

-- the cells of a static field before strings are made; an instance field has none
abbrev pub first_cells : FieldDef → Cells
first_cells x = if has_flag x.flags flag.Static then by_init x.init else []
  where
    by_init : Init → Cells
    by_init (init.Num n) = number_cells x.ty n
    by_init i = fresh_cells (reg_types x.ty)

abbrev pub cells_of : Option Field → Cells
cells_of None = []
cells_of (Some x) = first_cells x.def

-- by field
abbrev pub field_cells : Image → List FieldInfo → ℕ → List Cells
field_cells image [] k = []
field_cells image (i ∷ is) k = cells_of (field_at image k) ∷ field_cells image is (suc k)

-- the string with which a field is declared
abbrev pub string_of : Init → Option (List ℕ)
string_of (init.Str s) = Some s
string_of i = None

-- a static field holds the string that was interned
abbrev pub interned_here : Heap → ℕ → Option Got → Heap
interned_here heap k None = heap
interned_here heap k (Some g) = with_static g.heap k 0 (v.Ref g.object)

abbrev pub with_string : Heap → ℕ → Option (List ℕ) → Heap
with_string heap k None = heap
with_string heap k (Some s) = interned_here heap k (intern heap s)

-- the field's string, where it is declared with one
abbrev pub with_string_of : Heap → ℕ → Option Field → Heap
with_string_of heap k None = heap
with_string_of heap k (Some x) = with_string heap k (string_of x.def.init)

-- the strings of static fields, by class and field
abbrev pub with_strings : Image → List FieldInfo → ℕ → Heap → Heap
with_strings image [] k heap = heap
with_strings image (i ∷ is) k heap = with_strings image is (suc k) (with_string_of heap k (field_at image k))

-- the field System.out
abbrev pub is_out : Image → Field → Bool
is_out image x = bytes_eq (name_at image x.info.class.0) system_name && bytes_eq x.def.name (codes "out")

abbrev pub with_out_of : Image → Heap → ℕ → Option Field → Heap
with_out_of image heap k None = heap
with_out_of image heap k (Some x) = if is_out image x then with_static heap k 0 (v.Ref 1) else heap

-- System.out holds object 1
abbrev pub with_out : Image → List FieldInfo → ℕ → Heap → Heap
with_out image [] k heap = heap
with_out image (i ∷ is) k heap = with_out image is (suc k) (with_out_of image heap k (field_at image k))

-- no object, and the static fields
abbrev pub empty_heap : Image → Heap
empty_heap image =
    record {
      kinds = [];
      cells = [];
      statics = field_cells image image.fields 0;
      interned = [];
      class_objects = [];
      used = 0;
      limit = None;
    }

abbrev pub takes_any : List Ty → Bool
takes_any [] = false
takes_any (p ∷ ps) = true

-- main takes an array of strings, or nothing
abbrev pub takes_array : Method → Bool
takes_array m = takes_any m.def.proto.params

-- main's array, where it takes one
abbrev pub array_made : Method → Heap → Heap
array_made m heap =
    if takes_array m then made heap (kind.Array (record { dims = 1; base = base.Class string_name })) [] else heap

-- from here on room is counted
abbrev pub counted_from : Limits → Heap → Heap
counted_from l heap = record heap { used = 0; limit = Some l.heap }

-- in this order: the object of System.out, thread 0's, the strings of static fields, main's array
abbrev pub main_heap : Image → Method → Heap
main_heap image m =
    array_made m
    (with_strings image image.fields 0
    (with_out image image.fields 0
    (object_made image (object_made image (empty_heap image) stream_name) thread_name)))

-- the exception for want of words, then the one for want of a level's room: message and cause are null
abbrev pub with_out_of_memory : Image → Heap → Heap
with_out_of_memory image heap = object_made image heap out_of_memory_name

abbrev pub with_stack_overflow : Image → Heap → Heap
with_stack_overflow image heap = object_made image heap stack_overflow_name

-- these two are made last
abbrev pub opening_heap : Image → Method → Limits → Heap
opening_heap image m l = counted_from l (with_stack_overflow image (with_out_of_memory image (main_heap image m)))

-- their numbers, by what the heap has before them
abbrev pub preallocated_on : Image → Heap → Preallocated
preallocated_on image heap =
    record {
      out_of_memory = newest (with_out_of_memory image heap);
      stack_overflow = newest (with_stack_overflow image (with_out_of_memory image heap));
    }

-- none of these classes declares an initialiser
abbrev pub none_initialised : Image → List ℕ → Bool
none_initialised image [] = true
none_initialised image (c ∷ cs) = is_none (initialiser image c) && none_initialised image cs

-- a class is born initialised where neither it nor what is initialised before it, again and again, declares an initialiser
abbrev pub is_born : Image → ℕ → Bool
is_born image c = none_initialised image (upward (prior_at image) (length image.classes) c)

-- by class
abbrev pub first_states : Image → List ClassInfo → ℕ → Classes
first_states image [] k = []
first_states image (c ∷ cs) k = (if is_born image k then Ready else Fresh) ∷ first_states image cs (suc k)

-- main's argument word, where it takes one: the array that was made last
abbrev pub main_args : Method → Heap → List Value
main_args m heap = if takes_array m then v.Ref (newest heap) ∷ [] else []

-- above main's frame stands a record of its class, where that isn't born initialised
abbrev pub opening_levels : Method → Frame → Bool → List Level
opening_levels m f true = level.Code f ∷ []
opening_levels m f false = level.Init m.info.class false ∷ level.Code f ∷ []

-- thread 0 has main's class in progress, where that isn't born initialised
abbrev pub opening_states : Method → Classes → Bool → Classes
opening_states m cs true = cs
opening_states m cs false = with_state cs m.info.class.0 (InProgress 0)

-- thread 0, at main, with object 2
abbrev pub main_thread : Method → Heap → Bool → Thread
main_thread m heap born =
    record { levels = opening_levels m (entered_frame m (main_args m heap) false) born; end = end.Living; object = 2 }

abbrev pub opened : Image → Limits → Method → Bool → Machine
opened image l m born =
    record {
      threads = main_thread m (main_heap image m) born ∷ [];
      shared = record {
        heap = opening_heap image m l;
        classes = opening_states m (first_states image image.classes 0) born;
        monitors = record { held = []; waits = [] };
        output = [];
      };
      steps = 0;
      stop = None;
      limits = l;
      preallocated = preallocated_on image (main_heap image m);
    }

-- the state in which a run of a main method begins
abbrev pub opening : Image → Method → Limits → Machine
opening image m l = opened image l m (is_born image m.info.class.0)
