-- Objects on words stand for the tagged heap's objects, before a write and after it.
use Rattle.std.proofs.Common.{◌≡◌, ℕ, zero, suc, ◌/◌, List, [], ◌∷◌, Option, Some, None, length, map, refl, sym, ap, ◌∙◌, subst}
use Rattle.std.specs.Prelude.{slice_get, slice_index_or, slice_set}
use Rattle.std.specs.Option.{option_map}
use Rattle.std.specs.List.{AllZip}
use Rattle.dv_machine.specs.Kind as tagged_kind
use Rattle.dv_machine.specs.Value.{Value}
use Rattle.dv_machine.specs.Heap as tagged
use Rattle.dv_machine.specs.Heap.{Heap}
use Rattle.dv_defs.specs.Images.{Image}
use Rattle.dv_defs.specs.Types.{component, words_of}
use Rattle.dv_machine.specs.State as machine
use Rattle.dv_machine.specs.Mem.{stored as machine_stored, static_stored as machine_static_stored}
use Rattle.dv_words.specs.Erasure.{erased_kind}
use Rattle.dv_words.specs.Heaps as words
use Rattle.dv_words.specs.Heaps.{with_static, with_word, word_in, words_of_object}
use Rattle.dv_words.specs.Standing.{AreWords, HeapStands, IsWord, ObjectStands, ObjectsStand}
use Rattle.dv_words.specs.State.{WordHeap}
use Rattle.law_words.specs.Laws.{IsPlain}
use Rattle.dv_words.specs.Mem as over
use Rattle.law_words.proofs.Registers.{is_word_at, words_set}

-- ---- kinds

get_map : (ks : List tagged_kind.Kind) (o : ℕ) → slice_get (map erased_kind ks) o ≡ option_map erased_kind (slice_get ks o)
get_map [] o = refl
get_map (k ∷ ks) zero = refl
get_map (k ∷ ks) (suc o) = get_map ks o

pub kind_is : (w : WordHeap) (h : Heap) (o : ℕ) → HeapStands w h → words.kind_of w o ≡ option_map erased_kind (tagged.kind_of h o)
kind_is w h zero stands = refl
kind_is w h (suc o) stands = ap (λ ks. slice_get ks o) stands.kinds ∙ get_map h.kinds o

type_by : (image : Image) (k : Option tagged_kind.Kind) → over.type_of_kind image (option_map erased_kind k) ≡ machine.type_of_kind image k
type_by image None = refl
type_by image (Some (tagged_kind.Object c)) = refl
type_by image (Some (tagged_kind.Array t)) = refl
type_by image (Some (tagged_kind.Str s)) = refl
type_by image (Some (tagged_kind.ClassOf t)) = refl

pub type_is : (image : Image) (w : WordHeap) (h : Heap) (o : ℕ) → HeapStands w h → over.type_of image w o ≡ machine.type_of image h o
type_is image w h o stands = ap (over.type_of_kind image) (kind_is w h o stands) ∙ type_by image (tagged.kind_of h o)

-- ---- words

-- the words of an object that isn't a string are its values; where there is none, neither has any
abbrev pub StandAt : Option tagged_kind.Kind → List ℕ → List Value → Type 0
StandAt None ws xs = (ws ≡ []) × (xs ≡ [])
StandAt (Some k) ws xs = ObjectStands ws k xs

object_at : (wss : List (List ℕ)) (ks : List tagged_kind.Kind) (xss : List (List Value)) (o : ℕ) → ObjectsStand wss ks xss → StandAt (slice_get ks o) (slice_index_or wss o []) (slice_index_or xss o [])
object_at [] [] [] o stand = (refl, refl)
object_at [] [] (xs ∷ xss) o stand = absurd stand
object_at [] (k ∷ ks) [] o stand = absurd stand
object_at [] (k ∷ ks) (xs ∷ xss) o stand = absurd stand
object_at (ws ∷ wss) [] [] o stand = absurd stand
object_at (ws ∷ wss) [] (xs ∷ xss) o stand = absurd stand
object_at (ws ∷ wss) (k ∷ ks) [] o stand = absurd stand
object_at (ws ∷ wss) (k ∷ ks) (xs ∷ xss) zero stand = stand.0
object_at (ws ∷ wss) (k ∷ ks) (xs ∷ xss) (suc o) stand = object_at wss ks xss o stand.1

pub stands_at : (w : WordHeap) (h : Heap) (o : ℕ) → HeapStands w h → StandAt (tagged.kind_of h (suc o)) (words_of_object w (suc o)) (tagged.cells_at h (suc o))
stands_at w h o stands = object_at w.cells h.kinds h.cells o stands.cells

pub same_length : (ws : List ℕ) (xs : List Value) → AreWords ws xs → length ws ≡ length xs
same_length [] [] are = refl
same_length [] (x ∷ xs) are = absurd are
same_length (w ∷ ws) [] are = absurd are
same_length (w ∷ ws) (x ∷ xs) are = ap suc (same_length ws xs are.1)

plain_words : (k : Option tagged_kind.Kind) (ws : List ℕ) (xs : List Value) → IsPlain k → StandAt k ws xs → AreWords ws xs
plain_words None ws xs plain at = rw (at.0, at.1) tt
plain_words (Some (tagged_kind.Object c)) ws xs plain at = at
plain_words (Some (tagged_kind.Array t)) ws xs plain at = at
plain_words (Some (tagged_kind.ClassOf t)) ws xs plain at = at
plain_words (Some (tagged_kind.Str s)) ws xs plain at = absurd plain

pub are_words : (w : WordHeap) (h : Heap) (o : ℕ) → HeapStands w h → IsPlain (tagged.kind_of h (suc o)) → AreWords (words_of_object w (suc o)) (tagged.cells_at h (suc o))
are_words w h o stands plain = plain_words (tagged.kind_of h (suc o)) _ _ plain (stands_at w h o stands)

pub is_word_in : (w : WordHeap) (h : Heap) (o k : ℕ) → HeapStands w h → IsPlain (tagged.kind_of h (suc o)) → IsWord (word_in w (suc o) k) (tagged.cell_at h (suc o) k)
is_word_in w h o k stands plain = is_word_at _ _ k (are_words w h o stands plain)

-- ---- lengths

module _ (w : WordHeap) (h : Heap) (o : ℕ) (stands : HeapStands w h) where
  plain_length : IsPlain (tagged.kind_of h (suc o)) → length (words_of_object w (suc o)) ≡ length (tagged.cells_at h (suc o))
  plain_length plain = same_length _ _ (are_words w h o stands plain)

  length_by : (k : Option tagged_kind.Kind) → tagged.kind_of h (suc o) ≡ k → words.length_of w (suc o) ≡ tagged.length_of h (suc o)
  length_by None is =
      let e = kind_is w h (suc o) stands ∙ ap (option_map erased_kind) is in
      let n = plain_length (subst IsPlain (sym is) tt) in
      rw (e, is) n
  length_by (Some (tagged_kind.Object c)) is =
      let e = kind_is w h (suc o) stands ∙ ap (option_map erased_kind) is in
      let n = plain_length (subst IsPlain (sym is) tt) in
      rw (e, is) n
  length_by (Some (tagged_kind.Array t)) is =
      let e = kind_is w h (suc o) stands ∙ ap (option_map erased_kind) is in
      let n = plain_length (subst IsPlain (sym is) tt) in
      rw (e, is) (ap (λ m. m / words_of (component t)) n)
  length_by (Some (tagged_kind.ClassOf t)) is =
      let e = kind_is w h (suc o) stands ∙ ap (option_map erased_kind) is in
      let n = plain_length (subst IsPlain (sym is) tt) in
      rw (e, is) n
  length_by (Some (tagged_kind.Str s)) is =
      let e = kind_is w h (suc o) stands ∙ ap (option_map erased_kind) is in
      let at = subst (λ k. StandAt k (words_of_object w (suc o)) (tagged.cells_at h (suc o))) is (stands_at w h o stands) in
      rw (e, is) (ap length at)

  pub length_is : words.length_of w (suc o) ≡ tagged.length_of h (suc o)
  length_is = length_by (tagged.kind_of h (suc o)) refl

-- ---- writes

module _ (u : ℕ) (x : Value) (is : IsWord u x) (k : ℕ) where
  plain_object : (ws : List ℕ) (q : tagged_kind.Kind) (xs : List Value) → IsPlain (Some q) → ObjectStands ws q xs → ObjectStands (slice_set ws k u) q (slice_set xs k x)
  plain_object ws (tagged_kind.Object c) xs plain at = words_set ws xs k u x at is
  plain_object ws (tagged_kind.Array t) xs plain at = words_set ws xs k u x at is
  plain_object ws (tagged_kind.ClassOf t) xs plain at = words_set ws xs k u x at is
  plain_object ws (tagged_kind.Str s) xs plain at = absurd plain

  objects_set : (wss : List (List ℕ)) (ks : List tagged_kind.Kind) (xss : List (List Value)) (o : ℕ) → IsPlain (slice_get ks o) → ObjectsStand wss ks xss → ObjectsStand (slice_set wss o (slice_set (slice_index_or wss o []) k u)) ks (slice_set xss o (slice_set (slice_index_or xss o []) k x))
  objects_set [] [] [] o plain stand = tt
  objects_set [] [] (xs ∷ xss) o plain stand = absurd stand
  objects_set [] (q ∷ ks) [] o plain stand = absurd stand
  objects_set [] (q ∷ ks) (xs ∷ xss) o plain stand = absurd stand
  objects_set (ws ∷ wss) [] [] o plain stand = absurd stand
  objects_set (ws ∷ wss) [] (xs ∷ xss) o plain stand = absurd stand
  objects_set (ws ∷ wss) (q ∷ ks) [] o plain stand = absurd stand
  objects_set (ws ∷ wss) (q ∷ ks) (xs ∷ xss) zero plain stand = (plain_object ws q xs plain stand.0, stand.1)
  objects_set (ws ∷ wss) (q ∷ ks) (xs ∷ xss) (suc o) plain stand = (stand.0, objects_set wss ks xss o plain stand.1)

  statics_set : (wss : List (List ℕ)) (xss : List (List Value)) (f : ℕ) → AllZip AreWords wss xss → AllZip AreWords (slice_set wss f (slice_set (slice_index_or wss f []) k u)) (slice_set xss f (slice_set (slice_index_or xss f []) k x))
  statics_set [] [] f are = tt
  statics_set [] (xs ∷ xss) f are = absurd are
  statics_set (ws ∷ wss) [] f are = absurd are
  statics_set (ws ∷ wss) (xs ∷ xss) zero are = (words_set ws xs k u x are.0 is, are.1)
  statics_set (ws ∷ wss) (xs ∷ xss) (suc f) are = (are.0, statics_set wss xss f are.1)

  pub cell_stands : (w : WordHeap) (h : Heap) (o : ℕ) → IsPlain (tagged.kind_of h (suc o)) → HeapStands w h → HeapStands (with_word w (suc o) k u) (tagged.with_cell h (suc o) k x)
  cell_stands w h o plain s = record { kinds = s.kinds; cells = objects_set w.cells h.kinds h.cells o plain s.cells; statics = s.statics; interned = s.interned; class_objects = s.class_objects; used = s.used; limit = s.limit }

  pub static_stands : (w : WordHeap) (h : Heap) (f : ℕ) → HeapStands w h → HeapStands (with_static w f k u) (tagged.with_static h f k x)
  static_stands w h f s = record { kinds = s.kinds; cells = s.cells; statics = statics_set w.statics h.statics f s.statics; interned = s.interned; class_objects = s.class_objects; used = s.used; limit = s.limit }

statics_at : (wss : List (List ℕ)) (xss : List (List Value)) (f : ℕ) → AllZip AreWords wss xss → AreWords (slice_index_or wss f []) (slice_index_or xss f [])
statics_at [] [] f are = tt
statics_at [] (xs ∷ xss) f are = absurd are
statics_at (ws ∷ wss) [] f are = absurd are
statics_at (ws ∷ wss) (xs ∷ xss) zero are = are.0
statics_at (ws ∷ wss) (xs ∷ xss) (suc f) are = statics_at wss xss f are.1

pub is_static_word : (w : WordHeap) (h : Heap) (f half : ℕ) → HeapStands w h → IsWord (words.static_in w f half) (tagged.static_at h f half)
is_static_word w h f half s = is_word_at _ _ half (statics_at w.statics h.statics f s.statics)

-- neighbouring words
pub words_stored : (w : WordHeap) (h : Heap) (o k : ℕ) (ws : List ℕ) (xs : List Value) → IsPlain (tagged.kind_of h (suc o)) → HeapStands w h → AreWords ws xs → HeapStands (over.stored w (suc o) k ws) (machine_stored h (suc o) k xs)
words_stored w h o k [] [] plain s are = s
words_stored w h o k [] (x ∷ xs) plain s are = absurd are
words_stored w h o k (u ∷ ws) [] plain s are = absurd are
words_stored w h o k (u ∷ ws) (x ∷ xs) plain s are = words_stored _ _ o (suc k) ws xs plain (cell_stands u x are.0 k w h o plain s) are.1

pub statics_stored : (w : WordHeap) (h : Heap) (f half : ℕ) (ws : List ℕ) (xs : List Value) → HeapStands w h → AreWords ws xs → HeapStands (over.static_stored w f half ws) (machine_static_stored h f half xs)
statics_stored w h f half [] [] s are = s
statics_stored w h f half [] (x ∷ xs) s are = absurd are
statics_stored w h f half (u ∷ ws) [] s are = absurd are
statics_stored w h f half (u ∷ ws) (x ∷ xs) s are = statics_stored _ _ f (suc half) ws xs (static_stands u x are.0 half w h f s) are.1
