-- As long as a run's opening makes objects, no words are counted.
use Rattle.std.proofs.Common.{◌≡◌, ℕ, suc, ◌+◌, Bool, true, false, List, [], ◌∷◌, length, Option, Some, None, refl, ◌∙◌}
use Rattle.std.specs.Prelude.{if◌then◌else◌}
use Rattle.dv_defs.specs.declared.image.FieldInfo.{FieldInfo}
use Rattle.dv_defs.specs.declared.names.Base.TheVariants as base
use Rattle.dv_defs.specs.Images.{Image}
use Rattle.dv_defs.specs.Names.{stream_name, string_name, thread_name}
use Rattle.dv_defs.specs.Pools.{Field, Method, field_at}
use Rattle.dv_machine.specs.Heap.{found_among}
use Rattle.dv_machine.specs.Opening.{is_out, string_of, takes_array}
use Rattle.dv_words.specs.declared.state.Kind.TheVariants as kind
use Rattle.dv_words.specs.Heaps.{Got, grown, has_room, intern, is_text, uncounted, with_interned, with_static}
use Rattle.dv_words.specs.Opening.{array_made, interned_here, made, main_heap, object_made, with_out, with_out_of, with_string, with_string_of, with_strings}
use Rattle.dv_words.specs.State.{WordHeap}

out_of_keeps : (image : Image) (heap : WordHeap) (k : ℕ) (x : Option Field) → (with_out_of image heap k x).limit ≡ heap.limit
out_of_keeps image heap k None = refl
out_of_keeps image heap k (Some x) = by (is_out image x)
  where
    by : (b : Bool) → (let h : WordHeap = if b then with_static heap k 0 1 else heap in h).limit ≡ heap.limit
    by true = refl
    by false = refl

out_keeps : (image : Image) (is : List FieldInfo) (k : ℕ) (heap : WordHeap) → (with_out image is k heap).limit ≡ heap.limit
out_keeps image [] k heap = refl
out_keeps image (i ∷ is) k heap = out_keeps image is (suc k) (with_out_of image heap k (field_at image k)) ∙ out_of_keeps image heap k (field_at image k)

module _ (heap : WordHeap) (k : ℕ) (s : List ℕ) where
  by_room : (b : Bool) → (interned_here heap k (with_interned (elim b as (λ _. Option WordHeap) [ true ↦ Some (grown heap kind.Str s (2 + length s)) | false ↦ None ]))).limit ≡ heap.limit
  by_room true = refl
  by_room false = refl

  by_found : (f : Option ℕ) → (interned_here heap k (elim f as (λ _. Option Got) [
    | Some o ↦ Some (record { object = o; heap = heap })
    | None ↦ with_interned (elim (has_room heap (2 + length s)) as (λ _. Option WordHeap) [ true ↦ Some (grown heap kind.Str s (2 + length s)) | false ↦ None ])
  ])).limit ≡ heap.limit
  by_found (Some o) = refl
  by_found None = by_room (has_room heap (2 + length s))

  interned_keeps : (interned_here heap k (intern heap s)).limit ≡ heap.limit
  interned_keeps = by_found (found_among (is_text heap s) heap.interned)

string_keeps : (heap : WordHeap) (k : ℕ) (s : Option (List ℕ)) → (with_string heap k s).limit ≡ heap.limit
string_keeps heap k None = refl
string_keeps heap k (Some s) = interned_keeps heap k s

string_of_keeps : (heap : WordHeap) (k : ℕ) (x : Option Field) → (with_string_of heap k x).limit ≡ heap.limit
string_of_keeps heap k None = refl
string_of_keeps heap k (Some x) = string_keeps heap k (string_of x.def.init)

strings_keep : (image : Image) (is : List FieldInfo) (k : ℕ) (heap : WordHeap) → (with_strings image is k heap).limit ≡ heap.limit
strings_keep image [] k heap = refl
strings_keep image (i ∷ is) k heap = strings_keep image is (suc k) (with_string_of heap k (field_at image k)) ∙ string_of_keeps heap k (field_at image k)

array_keeps : (m : Method) (heap : WordHeap) → (array_made m heap).limit ≡ heap.limit
array_keeps m heap = by (takes_array m)
  where
    by : (b : Bool) → (let h : WordHeap = if b then made heap (kind.Array (record { dims = 1; base = base.Class string_name })) [] else heap in h).limit ≡ heap.limit
    by true = refl
    by false = refl

-- the heap before main's array
abbrev pub with_statics : Image → WordHeap
with_statics image = with_strings image image.fields 0 (with_out image image.fields 0 (object_made image (object_made image (uncounted image) stream_name) thread_name))

pub statics_uncounted : (image : Image) → (with_statics image).limit ≡ None
statics_uncounted image =
    strings_keep image image.fields 0 (with_out image image.fields 0 (object_made image (object_made image (uncounted image) stream_name) thread_name)) ∙
    out_keeps image image.fields 0 (object_made image (object_made image (uncounted image) stream_name) thread_name)

pub main_uncounted : (image : Image) (m : Method) → (main_heap image m).limit ≡ None
main_uncounted image m = array_keeps m (with_statics image) ∙ statics_uncounted image
