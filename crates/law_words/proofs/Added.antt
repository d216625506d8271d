-- A new object on words stands for the tagged heap's new object.
use Rattle.std.proofs.Common.{◌≡◌, ℕ, zero, suc, ◌+◌, ◌*◌, ◌++◌, Bool, true, false, List, [], ◌∷◌, Option, Some, None, length, map, replicate, refl, sym, ap, ◌∙◌, subst, arith}
use Rattle.std.specs.Prelude.{bytes_eq, nat_le}
use Rattle.std.specs.Option.{option_map}
use Rattle.dv_defs.specs.declared.names.Ty.{Ty}
use Rattle.dv_machine.specs.Kind as tagged_kind
use Rattle.dv_machine.specs.Value.{Value}
use Rattle.dv_machine.specs.Value as v
use Rattle.dv_typing.specs.declared.typing.RegType.{RegType}
use Rattle.dv_typing.specs.declared.typing.RegType.TheVariants as ty
use Rattle.dv_machine.specs.Heap as tagged
use Rattle.dv_machine.specs.Heap.{Heap, class_cells, copies, fresh_cells, fresh_elements, found_among, zero_cell}
use Rattle.dv_defs.specs.Images.{Image}
use Rattle.dv_typing.specs.RegTypes.{reg_types, single_type}
use Rattle.dv_defs.specs.Types.{component, is_long, words_of}
use Rattle.dv_words.specs.declared.state.Kind.TheVariants as kind
use Rattle.dv_words.specs.Erasure.{erased_kind}
use Rattle.dv_words.specs.Heaps as words
use Rattle.dv_words.specs.Standing.{AreWords, HeapStands, IsWord, ObjectStands, ObjectsStand}
use Rattle.dv_words.specs.State.{WordHeap}
use Rattle.law_words.proofs.Objects.{StandAt, kind_is, stands_at}

-- ---- a heap with one object more

map_pushed : (ks : List tagged_kind.Kind) (k : tagged_kind.Kind) → map erased_kind (ks ++ k ∷ []) ≡ map erased_kind ks ++ erased_kind k ∷ []
map_pushed [] k = refl
map_pushed (q ∷ ks) k = ap (λ qs. erased_kind q ∷ qs) (map_pushed ks k)

objects_pushed : (wss : List (List ℕ)) (ks : List tagged_kind.Kind) (xss : List (List Value)) (ws : List ℕ) (k : tagged_kind.Kind) (xs : List Value) → ObjectsStand wss ks xss → ObjectStands ws k xs → ObjectsStand (wss ++ ws ∷ []) (ks ++ k ∷ []) (xss ++ xs ∷ [])
objects_pushed [] [] [] ws k xs stand one = (one, tt)
objects_pushed [] [] (ys ∷ xss) ws k xs stand one = absurd stand
objects_pushed [] (q ∷ ks) [] ws k xs stand one = absurd stand
objects_pushed [] (q ∷ ks) (ys ∷ xss) ws k xs stand one = absurd stand
objects_pushed (us ∷ wss) [] [] ws k xs stand one = absurd stand
objects_pushed (us ∷ wss) [] (ys ∷ xss) ws k xs stand one = absurd stand
objects_pushed (us ∷ wss) (q ∷ ks) [] ws k xs stand one = absurd stand
objects_pushed (us ∷ wss) (q ∷ ks) (ys ∷ xss) ws k xs stand one = (stand.0, objects_pushed wss ks xss ws k xs stand.1 one)

counted_alike : (w : WordHeap) (h : Heap) (n : ℕ) (l : Option ℕ) → h.limit ≡ l → w.limit ≡ l → w.used ≡ h.used → words.counted_by w.limit w.used n ≡ tagged.counted h n
counted_alike w h n None a b e = rw (a, b) e
counted_alike w h n (Some m) a b e = rw (a, b) (ap (λ k. k + n) e)

pub grown_stands : (w : WordHeap) (h : Heap) (k : tagged_kind.Kind) (ws : List ℕ) (xs : List Value) (cost : ℕ) → HeapStands w h → ObjectStands ws k xs → HeapStands (words.grown w (erased_kind k) ws cost) (tagged.grown h k xs cost)
grown_stands w h k ws xs cost s one = record {
  kinds = ap (λ ks. ks ++ erased_kind k ∷ []) s.kinds ∙ sym (map_pushed h.kinds k);
  cells = objects_pushed w.cells h.kinds h.cells ws k xs s.cells one;
  statics = s.statics;
  interned = s.interned;
  class_objects = s.class_objects;
  used = counted_alike w h cost h.limit refl s.limit s.used;
  limit = s.limit;
}

pub room_is : (w : WordHeap) (h : Heap) (n : ℕ) → HeapStands w h → words.has_room w n ≡ tagged.has_room h n
room_is w h n s = by h.limit refl
  where
    by : (l : Option ℕ) → h.limit ≡ l → words.has_room w n ≡ tagged.has_room h n
    by None is = let e = s.limit ∙ is in rw (e, is) refl
    by (Some m) is = let e = s.limit ∙ is in rw (e, is) (ap (λ (k : ℕ). nat_le (k + n) m) s.used)

as_many : (ks : List tagged_kind.Kind) → length (map erased_kind ks) ≡ length ks
as_many [] = refl
as_many (k ∷ ks) = ap suc (as_many ks)

pub newest_is : (w : WordHeap) (h : Heap) → HeapStands w h → words.newest w ≡ tagged.newest h
newest_is w h s = ap length s.kinds ∙ as_many h.kinds

-- ---- new objects' words

zero_stands : (t : RegType) → IsWord 0 (zero_cell t)
zero_stands ty.LongLo = refl
zero_stands ty.LongHi = refl
zero_stands t = refl

pub zeros_stand : (ts : List RegType) → AreWords (replicate (length ts) 0) (fresh_cells ts)
zeros_stand [] = tt
zeros_stand (t ∷ ts) = (zero_stands t, zeros_stand ts)

element_of : (t : Ty) (n : ℕ) (xs : List Value) (m : ℕ) (ts : List RegType) → suc n * words_of t ≡ m → reg_types t ≡ ts → AreWords (replicate m 0) (fresh_cells ts ++ xs) → AreWords (replicate (suc n * words_of t) 0) (fresh_cells (reg_types t) ++ xs)
element_of t n xs m ts size types are = subst (λ (k : ℕ). AreWords (replicate k 0) (fresh_cells (reg_types t) ++ xs)) (sym size) (subst (λ us. AreWords (replicate m 0) (fresh_cells us ++ xs)) (sym types) are)

long_element : (b : Bool) (t : Ty) (n : ℕ) (xs : List Value) → is_long t ≡ b → AreWords (replicate (n * words_of t) 0) xs → AreWords (replicate (suc n * words_of t) 0) (fresh_cells (reg_types t) ++ xs)
long_element true t n xs is are =
    let two : words_of t ≡ 2 = ap (λ (b : Bool). elim b [ true ↦ 2 | false ↦ 1 ]) is in
    let types : reg_types t ≡ ty.LongLo ∷ ty.LongHi ∷ [] = ap (λ (b : Bool). elim b [ true ↦ ty.LongLo ∷ ty.LongHi ∷ [] | false ↦ single_type t ∷ [] ]) is in
    let one_more : suc n * 2 ≡ suc (suc (n * 2)) = omega arith in
    let size : suc n * words_of t ≡ suc (suc (n * words_of t)) = ap (λ (k : ℕ). suc n * k) two ∙ one_more ∙ sym (ap (λ (k : ℕ). suc (suc (n * k))) two) in
    let both : AreWords (0 ∷ 0 ∷ replicate (n * words_of t) 0) (v.Lo 0 ∷ v.Hi 0 ∷ xs) = (refl, (refl, are)) in
    element_of t n xs _ (ty.LongLo ∷ ty.LongHi ∷ []) size types both
long_element false t n xs is are =
    let one : words_of t ≡ 1 = ap (λ (b : Bool). elim b [ true ↦ 2 | false ↦ 1 ]) is in
    let types : reg_types t ≡ single_type t ∷ [] = ap (λ (b : Bool). elim b [ true ↦ ty.LongLo ∷ ty.LongHi ∷ [] | false ↦ single_type t ∷ [] ]) is in
    let one_more : suc n * 1 ≡ suc (n * 1) = omega arith in
    let size : suc n * words_of t ≡ suc (n * words_of t) = ap (λ (k : ℕ). suc n * k) one ∙ one_more ∙ sym (ap (λ (k : ℕ). suc (n * k)) one) in
    let both : AreWords (0 ∷ replicate (n * words_of t) 0) (zero_cell (single_type t) ∷ xs) = (zero_stands (single_type t), are) in
    element_of t n xs _ (single_type t ∷ []) size types both

pub elements_stand : (n : ℕ) (t : Ty) → AreWords (replicate (n * words_of (component t)) 0) (fresh_elements t n)
elements_stand zero t = let none : 0 * words_of (component t) ≡ 0 = omega arith in subst (λ (k : ℕ). AreWords (replicate k 0) []) (sym none) tt
elements_stand (suc n) t = long_element (is_long (component t)) (component t) n _ refl (elements_stand n t)

-- ---- allocations

-- both are full, or the new heaps stand
abbrev pub OptionStands : Option WordHeap → Option Heap → Type 0
OptionStands None None = Unit {0}
OptionStands (Some w) (Some h) = HeapStands w h
OptionStands w h = ⊥

within_stands : (a b : Bool) (w : WordHeap) (h : Heap) → a ≡ b → HeapStands w h → OptionStands (elim a [ true ↦ Some w | false ↦ None ]) (elim b [ true ↦ Some h | false ↦ None ])
within_stands true true w h e s = s
within_stands false false w h e s = tt
within_stands true false w h e s = absurd (cc)
within_stands false true w h e s = absurd (cc)

pub object_added : (image : Image) (w : WordHeap) (h : Heap) (c : ℕ) → HeapStands w h → OptionStands (words.alloc_object image w c) (tagged.alloc_object image h c)
object_added image w h c s = within_stands _ _ _ _ (room_is w h _ s) (grown_stands w h (tagged_kind.Object (record { 0 = c })) _ _ _ s (zeros_stand (class_cells image c)))

pub array_added : (w : WordHeap) (h : Heap) (t : Ty) (n : ℕ) → HeapStands w h → OptionStands (words.alloc_array w t n) (tagged.alloc_array h t n)
array_added w h t n s = within_stands _ _ _ _ (room_is w h _ s) (grown_stands w h (tagged_kind.Array t) _ _ _ s (elements_stand n t))

pub string_added : (w : WordHeap) (h : Heap) (u : List ℕ) → HeapStands w h → OptionStands (words.alloc_string w u) (tagged.alloc_string h u)
string_added w h u s = within_stands _ _ _ _ (room_is w h _ s) (grown_stands w h (tagged_kind.Str u) u [] _ s refl)

class_added : (w : WordHeap) (h : Heap) (t : Ty) → HeapStands w h → OptionStands (words.grown_within w (kind.ClassOf t) [] 2) (tagged.grown_within h (tagged_kind.ClassOf t) [] 2)
class_added w h t s = within_stands _ _ _ _ (room_is w h _ s) (grown_stands w h (tagged_kind.ClassOf t) [] [] _ s tt)

-- ---- objects that stand once

abbrev one_or : ℕ → Bool → Option ℕ → Option ℕ
one_or o b x = elim b [ true ↦ Some o | false ↦ x ]

found_by : (o : ℕ) (a b : Bool) (x y : Option ℕ) → a ≡ b → x ≡ y → one_or o a x ≡ one_or o b y
found_by o true true x y e f = refl
found_by o false false x y e f = f
found_by o true false x y e f = absurd (cc)
found_by o false true x y e f = absurd (cc)

same_found : (p q : ℕ → Bool) (os : List ℕ) → ((o : ℕ) → p o ≡ q o) → found_among p os ≡ found_among q os
same_found p q [] e = refl
same_found p q (o ∷ os) e = found_by o (p o) (q o) _ _ (e o) (same_found p q os e)

module _ (w : WordHeap) (h : Heap) (s : HeapStands w h) where
  text_is : (u : List ℕ) (o : ℕ) → words.is_text w u o ≡ tagged.is_text (tagged.kind_of h o) u
  text_is u zero = refl
  text_is u (suc o) = by (tagged.kind_of h (suc o)) refl
    where
      by : (k : Option tagged_kind.Kind) → tagged.kind_of h (suc o) ≡ k → words.is_text w u (suc o) ≡ tagged.is_text k u
      by None is = let e = kind_is w h (suc o) s ∙ ap (option_map erased_kind) is in rw e refl
      by (Some (tagged_kind.Object c)) is = let e = kind_is w h (suc o) s ∙ ap (option_map erased_kind) is in rw e refl
      by (Some (tagged_kind.Array t)) is = let e = kind_is w h (suc o) s ∙ ap (option_map erased_kind) is in rw e refl
      by (Some (tagged_kind.ClassOf t)) is = let e = kind_is w h (suc o) s ∙ ap (option_map erased_kind) is in rw e refl
      by (Some (tagged_kind.Str x)) is =
          let e = kind_is w h (suc o) s ∙ ap (option_map erased_kind) is in
          let at = subst (λ k. StandAt k (words.words_of_object w (suc o)) (tagged.cells_at h (suc o))) is (stands_at w h o s) in
          rw e (ap (λ us. bytes_eq us u) at)

  class_is : (t : Ty) (o : ℕ) → words.is_class_of w t o ≡ tagged.is_class_of (tagged.kind_of h o) t
  class_is t o = by (tagged.kind_of h o) refl
    where
      by : (k : Option tagged_kind.Kind) → tagged.kind_of h o ≡ k → words.is_class_of w t o ≡ tagged.is_class_of k t
      by None is = let e = kind_is w h o s ∙ ap (option_map erased_kind) is in rw e refl
      by (Some (tagged_kind.Object c)) is = let e = kind_is w h o s ∙ ap (option_map erased_kind) is in rw e refl
      by (Some (tagged_kind.Array u)) is = let e = kind_is w h o s ∙ ap (option_map erased_kind) is in rw e refl
      by (Some (tagged_kind.Str x)) is = let e = kind_is w h o s ∙ ap (option_map erased_kind) is in rw e refl
      by (Some (tagged_kind.ClassOf u)) is = let e = kind_is w h o s ∙ ap (option_map erased_kind) is in rw e refl

-- the same object, in heaps that stand
pub record GotOneStands (g : words.Got) (x : tagged.Got) : Type 0 where
  pub object : g.object ≡ x.object
  pub heap : HeapStands g.heap x.heap

abbrev pub GotStands : Option words.Got → Option tagged.Got → Type 0
GotStands None None = Unit {0}
GotStands (Some g) (Some x) = GotOneStands g x
GotStands g x = ⊥

interned_added : (a : Option WordHeap) (b : Option Heap) → OptionStands a b → GotStands (words.with_interned a) (tagged.with_interned b)
interned_added None None s = tt
interned_added None (Some h) s = absurd s
interned_added (Some w) None s = absurd s
interned_added (Some w) (Some h) s = record {
  object = newest_is w h s;
  heap = record { kinds = s.kinds; cells = s.cells; statics = s.statics; interned = ap (λ os. os ++ words.newest w ∷ []) s.interned ∙ ap (λ (o : ℕ). h.interned ++ o ∷ []) (newest_is w h s); class_objects = s.class_objects; used = s.used; limit = s.limit };
}

class_object_added : (a : Option WordHeap) (b : Option Heap) → OptionStands a b → GotStands (words.with_class_object a) (tagged.with_class_object b)
class_object_added None None s = tt
class_object_added None (Some h) s = absurd s
class_object_added (Some w) None s = absurd s
class_object_added (Some w) (Some h) s = record {
  object = newest_is w h s;
  heap = record { kinds = s.kinds; cells = s.cells; statics = s.statics; interned = s.interned; class_objects = ap (λ os. os ++ words.newest w ∷ []) s.class_objects ∙ ap (λ (o : ℕ). h.class_objects ++ o ∷ []) (newest_is w h s); used = s.used; limit = s.limit };
}

found_or : (a b : Option ℕ) (w : WordHeap) (h : Heap) (x : Option words.Got) (y : Option tagged.Got) → a ≡ b → HeapStands w h → GotStands x y → GotStands (elim a [ Some o ↦ Some (record { object = o; heap = w }) | None ↦ x ]) (elim b [ Some o ↦ Some (record { object = o; heap = h }) | None ↦ y ])
found_or None None w h x y e s new = new
found_or (Some o) (Some p) w h x y e s new = record { object = cc; heap = s }
found_or None (Some p) w h x y e s new = absurd (cc)
found_or (Some o) None w h x y e s new = absurd (cc)

pub intern_stands : (w : WordHeap) (h : Heap) (u : List ℕ) → HeapStands w h → GotStands (words.intern w u) (tagged.intern h u)
intern_stands w h u s =
    let same = same_found (words.is_text w u) (λ o. tagged.is_text (tagged.kind_of h o) u) w.interned (text_is w h s u) ∙ ap (found_among (λ o. tagged.is_text (tagged.kind_of h o) u)) s.interned in
    found_or _ _ w h _ _ same s (interned_added _ _ (string_added w h u s))

pub class_object_stands : (w : WordHeap) (h : Heap) (t : Ty) → HeapStands w h → GotStands (words.class_object w t) (tagged.class_object h t)
class_object_stands w h t s =
    let same = same_found (words.is_class_of w t) (λ o. tagged.is_class_of (tagged.kind_of h o) t) w.class_objects (class_is w h s t) ∙ ap (found_among (λ o. tagged.is_class_of (tagged.kind_of h o) t)) s.class_objects in
    found_or _ _ w h _ _ same s (class_object_added _ _ (class_added w h t s))
