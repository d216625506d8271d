-- The words in which a run begins stand for the tagged machine's opening state.
use Rattle.std.proofs.Common.{◌≡◌, ℕ, suc, ◌+◌, ◌<◌, ◌^◌, Bool, true, false, Option, Some, None, List, [], ◌∷◌, All, length, replicate, refl, arith}
use Rattle.std.specs.Prelude.{if◌then◌else◌}
use Rattle.std.specs.List.{AllZip}
use Rattle.dv_defs.specs.declared.image.FieldInfo.{FieldInfo}
use Rattle.dv_machine.specs.Kind.{Kind}
use Rattle.dv_machine.specs.Kind as kind_of_tagged
use Rattle.dv_defs.specs.declared.names.Base.TheVariants as base
use Rattle.dv_defs.specs.declared.run.Limits.{Limits}
use Rattle.dv_machine.specs.Value.{Value}
use Rattle.dv_machine.specs.Value as v
use Rattle.dv_machine.specs.Heap as tagged
use Rattle.dv_machine.specs.Heap.{Cells, Heap, class_cells, found_among}
use Rattle.dv_defs.specs.Images.{Image}
use Rattle.dv_defs.specs.Names.{out_of_memory_name, stack_overflow_name, stream_name, string_name, thread_name}
use Rattle.dv_defs.specs.Pools.{Field, Method, field_at}
use Rattle.dv_machine.specs.Calls as tagged_calls
use Rattle.dv_machine.specs.Opening as machine
use Rattle.dv_machine.specs.Opening.{is_born, is_out, string_of, takes_array}
use Rattle.dv_machine.specs.Unwinding.{number_named}
use Rattle.law_words.proofs.Erasing.{stand_lists}
use Rattle.dv_words.specs.Erasure.{erased_kind}
use Rattle.dv_words.specs.Heaps as words
use Rattle.dv_words.specs.Standing.{AreWords, HeapStands, IsWord, LevelsStand, MachineStands, ObjectStands}
use Rattle.dv_words.specs.State.{WordHeap}
use Rattle.law_words.specs.Laws.{IsBounded, IsShort, IsUnit}
use Rattle.dv_words.specs.Calls as calls
use Rattle.dv_words.specs.Opening as over
use Rattle.law_words.specs.StepLaws.{InitsAreTexts, OpeningStands, StaticsAreWhole}
use Rattle.law_words.proofs.Added.{GotStands, grown_stands, intern_stands, newest_is, zeros_stand}
use Rattle.law_words.proofs.Objects.{static_stands}
use Rattle.law_words.proofs.Short.{pushed}
use Rattle.law_words.proofs.ThreadSteps.{entered_stands}

-- strings and arrays of a heap are short, whether or not words are counted
abbrev AreShort : Heap → Type 0
AreShort h = AllZip IsShort h.kinds h.cells

record Good (w : WordHeap) (h : Heap) : Type 0 where
  pub stands : HeapStands w h
  pub short : AreShort h

made_good : (w : WordHeap) (h : Heap) (k : Kind) (ws : List ℕ) (xs : List Value) → Good w h → ObjectStands ws k xs → IsShort k xs → Good (over.made w (erased_kind k) ws) (machine.made h k xs)
made_good w h k ws xs good one short = record { stands = grown_stands w h k ws xs 0 good.stands one; short = pushed h.kinds h.cells k xs good.short short }

object_good : (image : Image) (w : WordHeap) (h : Heap) (name : List ℕ) → Good w h → Good (over.object_made image w name) (machine.object_made image h name)
object_good image w h name good =
    let c = number_named image name in
    made_good w h (kind_of_tagged.Object (record { 0 = c })) (replicate (length (class_cells image c)) 0) (tagged.fresh_cells (class_cells image c)) good (zeros_stand (class_cells image c)) tt

static_good : (w : WordHeap) (h : Heap) (k u : ℕ) (x : Value) → Good w h → IsWord u x → Good (words.with_static w k 0 u) (tagged.with_static h k 0 x)
static_good w h k u x good is = record { stands = static_stands u x is 0 w h k good.stands; short = good.short }

-- ---- strings

abbrev IsText : List ℕ → Type 0
IsText s = (length s < 2 ^ 31) × All IsUnit s

abbrev GotIsShort : Option tagged.Got → Type 0
GotIsShort None = Unit {0}
GotIsShort (Some g) = AreShort g.heap

interned_short : (b : Bool) (h : Heap) (s : List ℕ) → AreShort h → IsText s → GotIsShort (tagged.with_interned (elim b [ true ↦ Some (tagged.grown h (kind_of_tagged.Str s) [] (2 + length s)) | false ↦ None ]))
interned_short true h s short text = pushed h.kinds h.cells (kind_of_tagged.Str s) [] short text
interned_short false h s short text = tt

found_short : (found : Option ℕ) (h : Heap) (new : Option tagged.Got) → AreShort h → GotIsShort new → GotIsShort (elim found [ Some o ↦ Some (record { object = o; heap = h }) | None ↦ new ])
found_short None h new short made = made
found_short (Some o) h new short made = short

intern_short : (h : Heap) (s : List ℕ) → AreShort h → IsText s → GotIsShort (tagged.intern h s)
intern_short h s short text = found_short _ h _ short (interned_short (tagged.has_room h (2 + length s)) h s short text)

here_good : (w : WordHeap) (h : Heap) (k : ℕ) (g : Option words.Got) (x : Option tagged.Got) → Good w h → GotStands g x → GotIsShort x → Good (over.interned_here w k g) (machine.interned_here h k x)
here_good w h k None None good s short = good
here_good w h k None (Some x) good s short = absurd s
here_good w h k (Some g) None good s short = absurd s
here_good w h k (Some g) (Some x) good s short = static_good g.heap x.heap k g.object (v.Ref x.object) (record { stands = s.heap; short = short }) s.object

string_good : (w : WordHeap) (h : Heap) (k : ℕ) (s : Option (List ℕ)) → Good w h → ((u : List ℕ) → s ≡ Some u → IsText u) → Good (over.with_string w k s) (machine.with_string h k s)
string_good w h k None good text = good
string_good w h k (Some s) good text = here_good w h k (words.intern w s) (tagged.intern h s) good (intern_stands w h s good.stands) (intern_short h s good.short (text s refl))

field_good : (w : WordHeap) (h : Heap) (k : ℕ) (x : Option Field) → Good w h → ((y : Field) (u : List ℕ) → x ≡ Some y → string_of y.def.init ≡ Some u → IsText u) → Good (over.with_string_of w k x) (machine.with_string_of h k x)
field_good w h k None good text = good
field_good w h k (Some x) good text = string_good w h k (string_of x.def.init) good (λ u is. text x u refl is)

strings_good : (image : Image) (is : List FieldInfo) (k : ℕ) (w : WordHeap) (h : Heap) → InitsAreTexts image → Good w h → Good (over.with_strings image is k w) (machine.with_strings image is k h)
strings_good image [] k w h texts good = good
strings_good image (i ∷ is) k w h texts good = strings_good image is (suc k) _ _ texts (field_good w h k (field_at image k) good (λ y u found is. texts k y u found is))

-- ---- System.out

out_good : (image : Image) (w : WordHeap) (h : Heap) (k : ℕ) (x : Option Field) → Good w h → Good (over.with_out_of image w k x) (machine.with_out_of image h k x)
out_good image w h k None good = good
out_good image w h k (Some x) good = by (is_out image x)
  where
    by : (b : Bool) → Good (if b then words.with_static w k 0 1 else w) (if b then tagged.with_static h k 0 (v.Ref 1) else h)
    by true = static_good w h k 1 (v.Ref 1) good refl
    by false = good

outs_good : (image : Image) (is : List FieldInfo) (k : ℕ) (w : WordHeap) (h : Heap) → Good w h → Good (over.with_out image is k w) (machine.with_out image is k h)
outs_good image [] k w h good = good
outs_good image (i ∷ is) k w h good = outs_good image is (suc k) _ _ (out_good image w h k (field_at image k) good)

-- ---- the whole heap

empty_good : (image : Image) → StaticsAreWhole image → Good (words.uncounted image) (machine.empty_heap image)
empty_good image whole = record {
  stands = record { kinds = refl; cells = tt; statics = stand_lists (machine.field_cells image image.fields 0) whole; interned = refl; class_objects = refl; used = refl; limit = refl };
  short = tt;
}

array_good : (m : Method) (w : WordHeap) (h : Heap) → Good w h → Good (over.array_made m w) (machine.array_made m h)
array_good m w h good = by (takes_array m)
  where
    by : (b : Bool) → Good (if b then over.made w (erased_kind (kind_of_tagged.Array (record { dims = 1; base = base.Class string_name }))) [] else w) (if b then machine.made h (kind_of_tagged.Array (record { dims = 1; base = base.Class string_name })) [] else h)
    by true = made_good w h (kind_of_tagged.Array (record { dims = 1; base = base.Class string_name })) [] [] good tt (omega arith)
    by false = good

module _ (image : Image) (m : Method) (l : Limits) (whole : StaticsAreWhole image) (texts : InitsAreTexts image) (few : l.heap < 2 ^ 31) where
  main_good : Good (over.main_heap image m) (machine.main_heap image m)
  main_good = array_good m _ _ (strings_good image image.fields 0 _ _ texts (outs_good image image.fields 0 _ _ (object_good image _ _ thread_name (object_good image _ _ stream_name (empty_good image whole)))))

  memory_good : Good (over.with_out_of_memory image (over.main_heap image m)) (machine.with_out_of_memory image (machine.main_heap image m))
  memory_good = object_good image (over.main_heap image m) (machine.main_heap image m) out_of_memory_name main_good

  heap_good : Good (over.with_stack_overflow image (over.with_out_of_memory image (over.main_heap image m))) (machine.with_stack_overflow image (machine.with_out_of_memory image (machine.main_heap image m)))
  heap_good = object_good image _ _ stack_overflow_name memory_good

  heap_stands : HeapStands (over.opening_heap image m l) (machine.opening_heap image m l)
  heap_stands = let s = heap_good.stands in record { kinds = s.kinds; cells = s.cells; statics = s.statics; interned = s.interned; class_objects = s.class_objects; used = refl; limit = refl }

  bounded : IsBounded (machine.opening_heap image m l)
  bounded = record { short = heap_good.short; limit = l.heap; counted = refl; few = few }

  numbers_are : over.preallocated_on image (over.main_heap image m) ≡ machine.preallocated_on image (machine.main_heap image m)
  numbers_are = λ j. record {
    out_of_memory = newest_is (over.with_out_of_memory image (over.main_heap image m)) (machine.with_out_of_memory image (machine.main_heap image m)) memory_good.stands j;
    stack_overflow = newest_is (over.with_stack_overflow image (over.with_out_of_memory image (over.main_heap image m))) (machine.with_stack_overflow image (machine.with_out_of_memory image (machine.main_heap image m))) heap_good.stands j;
  }

  args_stand : AreWords (over.main_args m (over.main_heap image m)) (machine.main_args m (machine.main_heap image m))
  args_stand = by (takes_array m)
    where
      by : (b : Bool) → AreWords (if b then words.newest (over.main_heap image m) ∷ [] else []) (if b then v.Ref (tagged.newest (machine.main_heap image m)) ∷ [] else [])
      by true = (newest_is (over.main_heap image m) (machine.main_heap image m) main_good.stands, tt)
      by false = tt

  levels_stand : (b : Bool) → LevelsStand (over.opening_levels m (calls.entered_frame m (over.main_args m (over.main_heap image m))) b) (machine.opening_levels m (tagged_calls.entered_frame m (machine.main_args m (machine.main_heap image m)) false) b)
  levels_stand true = (entered_stands m _ _ false args_stand, tt)
  levels_stand false = ((refl, refl), (entered_stands m _ _ false args_stand, tt))

  opening_stands : MachineStands (over.opening image m l) (machine.opening image m l) × IsBounded (machine.opening image m l).shared.heap
  opening_stands = (
    record {
      threads = (record { levels = levels_stand (is_born image m.info.class.0); end = refl; object = refl }, tt);
      shared = record { heap = heap_stands; classes = refl; monitors = refl; output = refl };
      steps = refl;
      stop = refl;
      limits = refl;
      preallocated = numbers_are;
    },
    bounded,
  )

pub opening_stand : OpeningStands
opening_stand image m l whole texts few = opening_stands image m l whole texts few
