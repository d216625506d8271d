-- The state on words in which a run begins: as the tagged machine's.
use Rattle.std.specs.Prelude.{ℕ, suc, Bool, true, false, List, [], ◌∷◌, length, replicate, Option, Some, None, if◌then◌else◌}
use Rattle.dv_defs.specs.declared.image.FieldInfo.{FieldInfo}
use Rattle.dv_defs.specs.declared.machine.End.TheVariants as end
use Rattle.dv_defs.specs.declared.names.Base.TheVariants as base
use Rattle.dv_defs.specs.declared.run.Limits.{Limits}
use Rattle.dv_defs.specs.declared.run.Preallocated.{Preallocated}
use Rattle.dv_machine.specs.Heap.{class_cells}
use Rattle.dv_defs.specs.Images.{Image}
use Rattle.dv_defs.specs.Names.{out_of_memory_name, stack_overflow_name, stream_name, string_name, thread_name}
use Rattle.dv_defs.specs.Pools.{Field, Method, field_at}
use Rattle.dv_machine.specs.Opening.{first_states, is_born, is_out, opening_states, string_of, takes_array}
use Rattle.dv_machine.specs.Unwinding.{number_named}
use Rattle.dv_words.specs.declared.state.Frame.{Frame}
use Rattle.dv_words.specs.declared.state.Kind.{Kind}
use Rattle.dv_words.specs.declared.state.Kind.TheVariants as kind
use Rattle.dv_words.specs.declared.state.Level.{Level}
use Rattle.dv_words.specs.declared.state.Level.TheVariants as level
use Rattle.dv_words.specs.Heaps.{Got, counting, grown, intern, newest, uncounted, with_static}
use Rattle.dv_words.specs.State.{WordHeap, WordMachine, WordThread}
use Rattle.dv_words.specs.Calls.{entered_frame}

-- uncounted, so never full
abbrev pub made : WordHeap → Kind → List ℕ → WordHeap
made heap k ws = grown heap k ws 0

-- an object of the class of this name
abbrev pub object_made : Image → WordHeap → List ℕ → WordHeap
object_made image heap name =
    made heap (kind.Object (record { 0 = number_named image name })) (replicate (length (class_cells image (number_named image name))) 0)

-- a static field holds the string that was interned
abbrev pub interned_here : WordHeap → ℕ → Option Got → WordHeap
interned_here heap k None = heap
interned_here heap k (Some g) = with_static g.heap k 0 g.object

abbrev pub with_string : WordHeap → ℕ → Option (List ℕ) → WordHeap
with_string heap k None = heap
with_string heap k (Some s) = interned_here heap k (intern heap s)

-- the field's string, where it is declared with one
abbrev pub with_string_of : WordHeap → ℕ → Option Field → WordHeap
with_string_of heap k None = heap
with_string_of heap k (Some x) = with_string heap k (string_of x.def.init)

-- the strings of static fields, by class and field
abbrev pub with_strings : Image → List FieldInfo → ℕ → WordHeap → WordHeap
with_strings image [] k heap = heap
with_strings image (i ∷ is) k heap = with_strings image is (suc k) (with_string_of heap k (field_at image k))

abbrev pub with_out_of : Image → WordHeap → ℕ → Option Field → WordHeap
with_out_of image heap k None = heap
with_out_of image heap k (Some x) = if is_out image x then with_static heap k 0 1 else heap

-- System.out holds object 1
abbrev pub with_out : Image → List FieldInfo → ℕ → WordHeap → WordHeap
with_out image [] k heap = heap
with_out image (i ∷ is) k heap = with_out image is (suc k) (with_out_of image heap k (field_at image k))

-- main's array, where it takes one
abbrev pub array_made : Method → WordHeap → WordHeap
array_made m heap = if takes_array m then made heap (kind.Array (record { dims = 1; base = base.Class string_name })) [] else heap

-- in this order: the object of System.out, thread 0's, the strings of static fields, main's array
abbrev pub main_heap : Image → Method → WordHeap
main_heap image m =
    array_made m
    (with_strings image image.fields 0
    (with_out image image.fields 0
    (object_made image (object_made image (uncounted image) stream_name) thread_name)))

-- the exception for want of words, then the one for want of a level's room: message and cause are null
abbrev pub with_out_of_memory : Image → WordHeap → WordHeap
with_out_of_memory image heap = object_made image heap out_of_memory_name

abbrev pub with_stack_overflow : Image → WordHeap → WordHeap
with_stack_overflow image heap = object_made image heap stack_overflow_name

-- these two are made last; from here on room is counted
abbrev pub opening_heap : Image → Method → Limits → WordHeap
opening_heap image m l = counting (with_stack_overflow image (with_out_of_memory image (main_heap image m))) l.heap

-- their numbers, by what the heap has before them
abbrev pub preallocated_on : Image → WordHeap → Preallocated
preallocated_on image heap =
    record {
      out_of_memory = newest (with_out_of_memory image heap);
      stack_overflow = newest (with_stack_overflow image (with_out_of_memory image heap));
    }

-- main's argument word, where it takes one: the array that was made last
abbrev pub main_args : Method → WordHeap → List ℕ
main_args m heap = if takes_array m then newest heap ∷ [] else []

-- above main's frame stands a record of its class, where that isn't born initialised
abbrev pub opening_levels : Method → Frame → Bool → List Level
opening_levels m f true = level.Code f ∷ []
opening_levels m f false = level.Init m.info.class false ∷ level.Code f ∷ []

-- thread 0, at main, with object 2
abbrev pub main_thread : Method → WordHeap → Bool → WordThread
main_thread m heap born =
    record { levels = opening_levels m (entered_frame m (main_args m heap)) born; end = end.Living; object = 2 }

abbrev pub opened : Image → Limits → Method → Bool → WordMachine
opened image l m born =
    record {
      threads = main_thread m (main_heap image m) born ∷ [];
      shared = record {
        heap = opening_heap image m l;
        classes = opening_states m (first_states image image.classes 0) born;
        monitors = record { held = []; waits = [] };
        output = [];
      };
      steps = 0;
      stop = None;
      limits = l;
      preallocated = preallocated_on image (main_heap image m);
    }

-- the state in which a run of a main method begins
abbrev pub opening : Image → Method → Limits → WordMachine
opening image m l = opened image l m (is_born image m.info.class.0)
