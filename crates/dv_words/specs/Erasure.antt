-- Erasure: the tagged machine's state with each value as one word.
use Rattle.std.specs.Prelude.{ℕ, List, [], ◌∷◌, map}
use Rattle.dv_machine.specs.Value.{Value}
use Rattle.dv_machine.specs.Value as v
use Rattle.dv_machine.specs.Frame as tagged
use Rattle.dv_machine.specs.Kind as tagged_kind
use Rattle.dv_machine.specs.Level as tagged_level
use Rattle.dv_machine.specs.Pending.{Pending}
use Rattle.dv_machine.specs.Pending as pending
use Rattle.dv_machine.specs.Heap.{Heap}
use Rattle.dv_machine.specs.State.{Machine, Shared, Thread}
use Rattle.dv_words.specs.declared.state.Frame.{Frame}
use Rattle.dv_words.specs.declared.state.Kept.{Kept}
use Rattle.dv_words.specs.declared.state.Kept.TheVariants as kept
use Rattle.dv_words.specs.declared.state.Kind.{Kind}
use Rattle.dv_words.specs.declared.state.Kind.TheVariants as kind
use Rattle.dv_words.specs.declared.state.Level.{Level}
use Rattle.dv_words.specs.declared.state.Level.TheVariants as level
use Rattle.dv_words.specs.State.{WordHeap, WordMachine, WordShared, WordThread}
use Rattle.dv_words.specs.Words.{word_of}

-- what was never written is 0, and so are null and the int 0; a number and a half of a long are their bits; a reference is its object's number
abbrev pub erased : Value → ℕ
erased v.Undef = 0
erased v.Zero = 0
erased (v.Num n) = word_of n
erased (v.Lo n) = n
erased (v.Hi n) = n
erased (v.Ref o) = o
erased (v.Uninit a o) = o
erased (v.UninitThis o) = o

abbrev pub erased_values : List Value → List ℕ
erased_values xs = map erased xs

abbrev pub erased_pending : Pending → Kept
erased_pending pending.None = kept.None
erased_pending (pending.One x) = kept.One (erased x)
erased_pending (pending.Two lo hi) = kept.Two lo hi

-- whether the superclass's constructor is still to be called isn't kept
abbrev pub erased_frame : tagged.Frame → Frame
erased_frame f = record { method = f.method; at = f.at; regs = erased_values f.regs; result = erased_pending f.result; caught = f.caught }

abbrev pub erased_level : tagged_level.Level → Level
erased_level (tagged_level.Code f) = level.Code (erased_frame f)
erased_level (tagged_level.Init c r) = level.Init c r

abbrev pub erased_levels : List tagged_level.Level → List Level
erased_levels ls = map erased_level ls

abbrev pub erased_kind : tagged_kind.Kind → Kind
erased_kind (tagged_kind.Object c) = kind.Object c
erased_kind (tagged_kind.Array t) = kind.Array t
erased_kind (tagged_kind.Str s) = kind.Str
erased_kind (tagged_kind.ClassOf t) = kind.ClassOf t

-- the words of an object: a string's units, or its values
abbrev pub object_words : tagged_kind.Kind → List Value → List ℕ
object_words (tagged_kind.Str s) xs = s
object_words k xs = erased_values xs

-- object by object
abbrev pub all_words : List tagged_kind.Kind → List (List Value) → List (List ℕ)
all_words (k ∷ ks) (xs ∷ xss) = object_words k xs ∷ all_words ks xss
all_words ks xss = []

abbrev pub erased_heap : Heap → WordHeap
erased_heap h =
    record {
      kinds = map erased_kind h.kinds;
      cells = all_words h.kinds h.cells;
      statics = map erased_values h.statics;
      interned = h.interned;
      class_objects = h.class_objects;
      used = h.used;
      limit = h.limit;
    }

abbrev pub erased_thread : Thread → WordThread
erased_thread t = record { levels = erased_levels t.levels; end = t.end; object = t.object }

abbrev pub erased_shared : Shared → WordShared
erased_shared s = record { heap = erased_heap s.heap; classes = s.classes; monitors = s.monitors; output = s.output }

abbrev pub erased_machine : Machine → WordMachine
erased_machine m =
    record {
      threads = map erased_thread m.threads;
      shared = erased_shared m.shared;
      steps = m.steps;
      stop = m.stop;
      limits = m.limits;
      preallocated = m.preallocated;
    }
