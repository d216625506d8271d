-- Stores one after another; they leave kinds and sizes as they are.
use Rattle.std.proofs.Common.{◌≡◌, ◌≢◌, ℕ, zero, suc, pred, ◌+◌, ◌<◌, ◌++◌, List, [], ◌∷◌, length, get_or, take, map, refl, sym, ap, ◌∙◌, arith, add-zero, length-set, Some}
use Rattle.std.specs.Prelude.{slice_index_or, slice_set}
use Rattle.dv_words.specs.Heaps.{kind_of, with_word, words_of_object}
use Rattle.dv_words.specs.State.{WordHeap}
use Rattle.dv_words.specs.declared.state.Kind.TheVariants as kind
use Rattle.dv_heap.specs.Answers.{HasWord}
use Rattle.dv_words.specs.Mem.{stored}
use Rattle.dv_mem.specs.Operands.{AreWithin}

pub kind_stays : (h : WordHeap) (o k : ℕ) (xs : List ℕ) (p : ℕ) → kind_of (stored h o k xs) p ≡ kind_of h p
kind_stays h o k [] p = refl
kind_stays h o k (x ∷ xs) p = kind_stays (with_word h o k x) o (suc k) xs p ∙ by p
  where
    by : (p : ℕ) → kind_of (with_word h o k x) p ≡ kind_of h p
    by zero = refl
    by (suc p) = refl

-- a list among others is written
size_at : (xss : List (List ℕ)) (p k w : ℕ) → length (slice_index_or (slice_set xss p (slice_set (slice_index_or xss p []) k w)) p []) ≡ length (slice_index_or xss p [])
size_at [] p k w = refl
size_at (xs ∷ xss) zero k w = length-set xs k w
size_at (xs ∷ xss) (suc p) k w = size_at xss p k w

pub size_stays : (h : WordHeap) (o k : ℕ) (xs : List ℕ) → length (words_of_object (stored h o k xs) o) ≡ length (words_of_object h o)
size_stays h o k [] = refl
size_stays h o k (x ∷ xs) = size_stays (with_word h o k x) o (suc k) xs ∙ size_at h.cells (pred o) k x

pub stored_append : (h : WordHeap) (o k : ℕ) (xs ys : List ℕ) → stored h o k (xs ++ ys) ≡ stored (stored h o k xs) o (k + length xs) ys
stored_append h o k [] ys = ap (λ (n : ℕ). stored h o n ys) (sym (add-zero k))
stored_append h o k (x ∷ xs) ys =
    let same : suc k + length xs ≡ k + suc (length xs) = omega arith in
    stored_append (with_word h o k x) o (suc k) xs ys ∙ ap (λ (n : ℕ). stored (stored (with_word h o k x) o (suc k) xs) o n ys) same

-- one word more of a list
take_next : (ws : List ℕ) (k : ℕ) → k < length ws → take (suc k) ws ≡ take k ws ++ get_or ws k 0 ∷ []
take_next [] k l = absurd (omega (arith, l))
take_next (w ∷ ws) zero l = refl
take_next (w ∷ ws) (suc k) l = ap (λ (us : List ℕ). w ∷ us) (take_next ws k (omega (arith, l)))

length_take : (ws : List ℕ) (k : ℕ) → k < length ws → length (take k ws) ≡ k
length_take [] k l = absurd (omega (arith, l))
length_take (w ∷ ws) zero l = refl
length_take (w ∷ ws) (suc k) l = ap suc (length_take ws k (omega (arith, l)))

pub word_stored : (h : WordHeap) (o : ℕ) (ws : List ℕ) (k w : ℕ) → k < length ws → w ≡ get_or ws k 0 → with_word (stored h o 0 (take k ws)) o k w ≡ stored h o 0 (take (suc k) ws)
word_stored h o ws k w l e =
    let at : 0 + length (take k ws) ≡ k = omega (arith, length_take ws k l) in
    sym
    (ap (stored h o 0) (take_next ws k l) ∙ stored_append h o 0 (take k ws) (get_or ws k 0 ∷ []) ∙
    ap (λ (n : ℕ). with_word (stored h o 0 (take k ws)) o n (get_or ws k 0)) at ∙ ap (with_word (stored h o 0 (take k ws)) o k) (sym e))

pub get_map : (f : ℕ → ℕ) (xs : List ℕ) (k : ℕ) → k < length xs → get_or (map f xs) k 0 ≡ f (get_or xs k 0)
get_map f [] k l = absurd (omega (arith, l))
get_map f (x ∷ xs) zero l = refl
get_map f (x ∷ xs) (suc k) l = get_map f xs k (omega (arith, l))

pub length_map : (f : ℕ → ℕ) (xs : List ℕ) → length (map f xs) ≡ length xs
length_map f [] = refl
length_map f (x ∷ xs) = ap suc (length_map f xs)

take_length : (xs : List ℕ) → take (length xs) xs ≡ xs
take_length [] = refl
take_length (x ∷ xs) = ap (λ (us : List ℕ). x ∷ us) (take_length xs)

pub take_all : (xs : List ℕ) (n : ℕ) → n ≡ length xs → take n xs ≡ xs
take_all xs n e = ap (λ (m : ℕ). take m xs) e ∙ take_length xs

-- ---- what a store may write after others

pub has_stored : (h g : WordHeap) (o n k : ℕ) (xs : List ℕ) → AreWithin h o 0 n → g ≡ stored h o 0 xs → k < n → HasWord g o k
has_stored h g o n k xs are is l =
    let size : length (words_of_object g o) ≡ length (words_of_object h o) = ap (λ (f : WordHeap). length (words_of_object f o)) is ∙ size_stays h o 0 xs in
    record { positive = are.positive; within = omega (arith, are.within, size, l) }

pub no_string_stored : (h g : WordHeap) (o k : ℕ) (xs : List ℕ) → kind_of h o ≢ Some kind.Str → g ≡ stored h o k xs → kind_of g o ≢ Some kind.Str
no_string_stored h g o k xs plain is e = plain (sym (ap (λ (f : WordHeap). kind_of f o) is ∙ kind_stays h o k xs o) ∙ e)

pub size_after : (h g : WordHeap) (o k : ℕ) (xs : List ℕ) → g ≡ stored h o k xs → length (words_of_object g o) ≡ length (words_of_object h o)
size_after h g o k xs is = ap (λ (f : WordHeap). length (words_of_object f o)) is ∙ size_stays h o k xs
