-- Words that stand for a tagged frame and heap: the words of registers, of objects and of static fields.
use Rattle.std.proofs.Common.{◌≡◌, ℕ, zero, suc, List, [], ◌∷◌, length, map, Some, refl, sym, ap, ◌∙◌}
use Rattle.std.specs.Prelude.{slice_get, slice_index_or}
use Rattle.std.specs.List.{AllZip}
use Rattle.dv_machine.specs.Kind as tagged_kind
use Rattle.dv_defs.specs.declared.names.ClassId.{ClassId}
use Rattle.dv_machine.specs.Value.{Value}
use Rattle.dv_machine.specs.Heap.{Heap, cells_at, kind_of}
use Rattle.dv_machine.specs.State.{reg_at}
use Rattle.dv_words.specs.Erasure.{erased_kind}
use Rattle.dv_words.specs.Heaps as words
use Rattle.dv_words.specs.Heaps.{words_of_object}
use Rattle.dv_words.specs.Standing.{AreWords, HeapStands, IsWord, ObjectsStand}
use Rattle.dv_words.specs.State.{WordHeap}
use Rattle.dv_words.specs.Words.{word_at}

pub is_word_at : (ws : List ℕ) (xs : List Value) (k : ℕ) → AreWords ws xs → IsWord (word_at ws k) (reg_at xs k)
is_word_at [] [] k are = refl
is_word_at [] (x ∷ xs) k are = absurd are
is_word_at (w ∷ ws) [] k are = absurd are
is_word_at (w ∷ ws) (x ∷ xs) zero are = are.0
is_word_at (w ∷ ws) (x ∷ xs) (suc k) are = is_word_at ws xs k are.1

same_length : (ws : List ℕ) (xs : List Value) → AreWords ws xs → length ws ≡ length xs
same_length [] [] are = refl
same_length [] (x ∷ xs) are = absurd are
same_length (w ∷ ws) [] are = absurd are
same_length (w ∷ ws) (x ∷ xs) are = ap suc (same_length ws xs are.1)

statics_at : (wss : List (List ℕ)) (xss : List (List Value)) (f : ℕ) → AllZip AreWords wss xss → AreWords (slice_index_or wss f []) (slice_index_or xss f [])
statics_at [] [] f are = tt
statics_at [] (xs ∷ xss) f are = absurd are
statics_at (ws ∷ wss) [] f are = absurd are
statics_at (ws ∷ wss) (xs ∷ xss) zero are = are.0
statics_at (ws ∷ wss) (xs ∷ xss) (suc f) are = statics_at wss xss f are.1

-- ---- objects, in their order

kind_at : (ks : List tagged_kind.Kind) (o : ℕ) (k : tagged_kind.Kind) → slice_get ks o ≡ Some k → slice_get (map erased_kind ks) o ≡ Some (erased_kind k)
kind_at [] o k is = absurd (cc)
kind_at (q ∷ ks) zero k is = let same : q ≡ k = cc in ap (λ r. Some (erased_kind r)) same
kind_at (q ∷ ks) (suc o) k is = kind_at ks o k is

as_many : (wss : List (List ℕ)) (ks : List tagged_kind.Kind) (xss : List (List Value)) → ObjectsStand wss ks xss → length wss ≡ length (map erased_kind ks)
as_many [] [] [] stand = refl
as_many [] [] (xs ∷ xss) stand = absurd stand
as_many [] (k ∷ ks) [] stand = absurd stand
as_many [] (k ∷ ks) (xs ∷ xss) stand = absurd stand
as_many (ws ∷ wss) [] [] stand = absurd stand
as_many (ws ∷ wss) [] (xs ∷ xss) stand = absurd stand
as_many (ws ∷ wss) (k ∷ ks) [] stand = absurd stand
as_many (ws ∷ wss) (k ∷ ks) (xs ∷ xss) stand = ap suc (as_many wss ks xss stand.1)

-- an object of a class
size_at : (wss : List (List ℕ)) (ks : List tagged_kind.Kind) (xss : List (List Value)) (o : ℕ) (c : ClassId) → ObjectsStand wss ks xss → slice_get ks o ≡ Some (tagged_kind.Object c) → length (slice_index_or wss o []) ≡ length (slice_index_or xss o [])
size_at [] [] xss o c stand is = absurd (cc)
size_at [] (k ∷ ks) [] o c stand is = absurd stand
size_at [] (k ∷ ks) (xs ∷ xss) o c stand is = absurd stand
size_at (ws ∷ wss) [] xss o c stand is = absurd (cc)
size_at (ws ∷ wss) (k ∷ ks) [] o c stand is = absurd stand
size_at (ws ∷ wss) (tagged_kind.Object d ∷ ks) (xs ∷ xss) zero c stand is = same_length ws xs stand.0
size_at (ws ∷ wss) (tagged_kind.Array t ∷ ks) (xs ∷ xss) zero c stand is = absurd (cc)
size_at (ws ∷ wss) (tagged_kind.Str s ∷ ks) (xs ∷ xss) zero c stand is = absurd (cc)
size_at (ws ∷ wss) (tagged_kind.ClassOf t ∷ ks) (xs ∷ xss) zero c stand is = absurd (cc)
size_at (ws ∷ wss) (k ∷ ks) (xs ∷ xss) (suc o) c stand is = size_at wss ks xss o c stand.1 is

module _ (w : WordHeap) (heap : Heap) (stands : HeapStands w heap) where
  pub kind_stands : (o : ℕ) (k : tagged_kind.Kind) → kind_of heap (suc o) ≡ Some k → words.kind_of w (suc o) ≡ Some (erased_kind k)
  kind_stands o k is = ap (λ ks. slice_get ks o) stands.kinds ∙ kind_at heap.kinds o k is

  pub count_stands : length w.cells ≡ length w.kinds
  count_stands = as_many w.cells heap.kinds heap.cells stands.cells ∙ ap length (sym stands.kinds)

  pub size_stands : (o : ℕ) (c : ClassId) → kind_of heap (suc o) ≡ Some (tagged_kind.Object c) → length (words_of_object w (suc o)) ≡ length (cells_at heap (suc o))
  size_stands o c is = size_at w.cells heap.kinds heap.cells o c stands.cells is

  pub static_stands : (f : ℕ) → length (slice_index_or w.statics f []) ≡ length (slice_index_or heap.statics f [])
  static_stands f = same_length _ _ (statics_at w.statics heap.statics f stands.statics)
