-- Arrays stay as short as ints can say.
use Rattle.std.proofs.Common.{◌≡◌, ℕ, zero, suc, pred, ◌+◌, ◌*◌, ◌/◌, ◌<◌, ◌≤◌, ◌^◌, ◌++◌, Bool, true, false, List, [], ◌∷◌, Option, Some, None, All, length, refl, sym, ap, ◌∙◌, subst, arith}
use Rattle.std.specs.Prelude.{nat_le, slice_get, slice_index_or, slice_set}
use Rattle.std.specs.List.{AllZip}
use Rattle.std.proofs.lemmas.Bool.Decides.{nat_tests}
use Rattle.std.proofs.lemmas.List.{length-append, length-set}
use Rattle.dv_machine.specs.Kind.{Kind}
use Rattle.dv_machine.specs.Kind as kind
use Rattle.dv_defs.specs.declared.names.Ty.{Ty}
use Rattle.dv_machine.specs.Value.{Value}
use Rattle.dv_typing.specs.declared.typing.RegType.TheVariants as ty
use Rattle.dv_machine.specs.Heap.{Cells, Heap, alloc_array, alloc_object, alloc_string, cells_at, class_cells, class_object, Got, copies, fresh_cells, fresh_elements, grown, has_room, intern, kind_of, length_of, with_cell, with_class_object, with_interned, with_static}
use Rattle.dv_defs.specs.Images.{Image}
use Rattle.dv_typing.specs.RegTypes.{reg_types, single_type}
use Rattle.dv_defs.specs.Types.{component, is_long, words_of}
use Rattle.dv_machine.specs.Mem.{static_stored, stored}
use Rattle.law_words.specs.Laws.{IsBounded, IsShort, IsUnit}

-- ---- what an array's length is

short_at : (ks : List Kind) (xss : List Cells) (o : ℕ) (k : Kind) → AllZip IsShort ks xss → slice_get ks o ≡ Some k → IsShort k (slice_index_or xss o [])
short_at [] xss o k all is = absurd (cc)
short_at (q ∷ ks) [] o k all is = absurd all
short_at (q ∷ ks) (xs ∷ xss) zero k all is = let e : q ≡ k = cc in subst (λ r. IsShort r xs) e all.0
short_at (q ∷ ks) (xs ∷ xss) (suc o) k all is = short_at ks xss o k all.1 is

pub array_length : (heap : Heap) (o : ℕ) (t : Ty) → IsBounded heap → kind_of heap (suc o) ≡ Some (kind.Array t) → length_of heap (suc o) < 2 ^ 31
array_length heap o t b is = let s : length (cells_at heap (suc o)) / words_of (component t) < 2 ^ 31 = short_at heap.kinds heap.cells o (kind.Array t) b.short is in rw is s

pub string_length : (heap : Heap) (o : ℕ) (s : List ℕ) → IsBounded heap → kind_of heap (suc o) ≡ Some (kind.Str s) → (length s < 2 ^ 31) × All IsUnit s
string_length heap o s b is = short_at heap.kinds heap.cells o (kind.Str s) b.short is

-- what has room is less than ints can say
room_within : (heap : Heap) (n l : ℕ) → heap.limit ≡ Some l → has_room heap n ≡ nat_le (heap.used + n) l
room_within heap n l e = rw e refl

fits_within : (heap : Heap) (n : ℕ) → IsBounded heap → has_room heap n ≡ true → n < 2 ^ 31
fits_within heap n b is =
    let within : nat_le (heap.used + n) b.limit ≡ true = sym (room_within heap n b.limit b.counted) ∙ is in
    let below : heap.used + n ≤ b.limit = grind (arith, nat_tests, within) in
    omega (arith, below, b.few)

-- ---- writes

short_set : (k : Kind) (xs : Cells) (j : ℕ) (x : Value) → IsShort k xs → IsShort k (slice_set xs j x)
short_set (kind.Array t) xs j x s = subst (λ (n : ℕ). n / words_of (component t) < 2 ^ 31) (sym (length-set xs j x)) s
short_set (kind.Object c) xs j x s = tt
short_set (kind.Str u) xs j x s = s
short_set (kind.ClassOf t) xs j x s = tt

all_set : (ks : List Kind) (xss : List Cells) (o j : ℕ) (x : Value) → AllZip IsShort ks xss → AllZip IsShort ks (slice_set xss o (slice_set (slice_index_or xss o []) j x))
all_set [] [] o j x all = tt
all_set [] (xs ∷ xss) o j x all = absurd all
all_set (k ∷ ks) [] o j x all = absurd all
all_set (k ∷ ks) (xs ∷ xss) zero j x all = (short_set k xs j x all.0, all.1)
all_set (k ∷ ks) (xs ∷ xss) (suc o) j x all = (all.0, all_set ks xss o j x all.1)

pub stored_bounded : (heap : Heap) (o k : ℕ) (xs : List Value) → IsBounded heap → IsBounded (stored heap o k xs)
stored_bounded heap o k [] b = b
stored_bounded heap o k (x ∷ xs) b = stored_bounded (with_cell heap o k x) o (suc k) xs (record { short = all_set heap.kinds heap.cells (pred o) k x b.short; limit = b.limit; counted = b.counted; few = b.few })

pub static_bounded : (heap : Heap) (f half : ℕ) (xs : List Value) → IsBounded heap → IsBounded (static_stored heap f half xs)
static_bounded heap f half [] b = b
static_bounded heap f half (x ∷ xs) b = static_bounded (with_static heap f half x) f (suc half) xs (record { short = b.short; limit = b.limit; counted = b.counted; few = b.few })

-- ---- new objects

pub pushed : (ks : List Kind) (xss : List Cells) (k : Kind) (xs : Cells) → AllZip IsShort ks xss → IsShort k xs → AllZip IsShort (ks ++ k ∷ []) (xss ++ xs ∷ [])
pushed [] [] k xs all one = (one, tt)
pushed [] (ys ∷ xss) k xs all one = absurd all
pushed (q ∷ ks) [] k xs all one = absurd all
pushed (q ∷ ks) (ys ∷ xss) k xs all one = (all.0, pushed ks xss k xs all.1 one)

pub grown_bounded : (heap : Heap) (k : Kind) (xs : Cells) (cost : ℕ) → IsBounded heap → IsShort k xs → IsBounded (grown heap k xs cost)
grown_bounded heap k xs cost b one = record { short = pushed heap.kinds heap.cells k xs b.short one; limit = b.limit; counted = b.counted; few = b.few }

-- what an option holds is bounded
abbrev pub IsBoundedOption : Option Heap → Type 0
IsBoundedOption None = Unit {0}
IsBoundedOption (Some heap) = IsBounded heap

within : (b : Bool) (heap : Heap) → (b ≡ true → IsBounded heap) → IsBoundedOption (elim b [ true ↦ Some heap | false ↦ None ])
within true heap all = all refl
within false heap all = tt

pub object_bounded : (image : Image) (heap : Heap) (c : ℕ) → IsBounded heap → IsBoundedOption (alloc_object image heap c)
object_bounded image heap c b = within _ _ (λ room. grown_bounded heap (kind.Object (record { 0 = c })) _ (2 + length (class_cells image c)) b tt)

more : (n l m : ℕ) → m ≡ n * l → l + m ≡ suc n * l
more n l m e = grind (arith, e)

copies_length : (n : ℕ) (xs : Cells) → length (copies n xs) ≡ n * length xs
copies_length zero xs = omega arith
copies_length (suc n) xs = length-append xs (copies n xs) ∙ more n (length xs) (length (copies n xs)) (copies_length n xs)

by_width : (b : Bool) (t : Ty) (n : ℕ) → is_long t ≡ b → length (copies n (fresh_cells (reg_types t))) / words_of t ≡ n
by_width true t n is =
    let two : words_of t ≡ 2 = ap (λ (b : Bool). elim b [ true ↦ 2 | false ↦ 1 ]) is in
    let types : reg_types t ≡ ty.LongLo ∷ ty.LongHi ∷ [] = ap (λ (b : Bool). elim b [ true ↦ ty.LongLo ∷ ty.LongHi ∷ [] | false ↦ single_type t ∷ [] ]) is in
    let size : length (copies n (fresh_cells (reg_types t))) ≡ n * 2 = copies_length n (fresh_cells (reg_types t)) ∙ ap (λ ts. n * length (fresh_cells ts)) types in
    ap (λ (k : ℕ). k / words_of t) size ∙ ap (λ (k : ℕ). n * 2 / k) two ∙ halved n
  where
    halved : (n : ℕ) → n * 2 / 2 ≡ n
    halved n = omega arith
by_width false t n is =
    let one : words_of t ≡ 1 = ap (λ (b : Bool). elim b [ true ↦ 2 | false ↦ 1 ]) is in
    let types : reg_types t ≡ single_type t ∷ [] = ap (λ (b : Bool). elim b [ true ↦ ty.LongLo ∷ ty.LongHi ∷ [] | false ↦ single_type t ∷ [] ]) is in
    let size : length (copies n (fresh_cells (reg_types t))) ≡ n * 1 = copies_length n (fresh_cells (reg_types t)) ∙ ap (λ ts. n * length (fresh_cells ts)) types in
    ap (λ (k : ℕ). k / words_of t) size ∙ ap (λ (k : ℕ). n * 1 / k) one ∙ whole n
  where
    whole : (n : ℕ) → n * 1 / 1 ≡ n
    whole n = omega arith

words_more : (b : Bool) (t : Ty) (n : ℕ) → is_long t ≡ b → n ≤ n * words_of t
words_more true t n is = let two : words_of t ≡ 2 = ap (λ (b : Bool). elim b [ true ↦ 2 | false ↦ 1 ]) is in subst (λ (k : ℕ). n ≤ n * k) (sym two) (omega arith)
words_more false t n is = let one : words_of t ≡ 1 = ap (λ (b : Bool). elim b [ true ↦ 2 | false ↦ 1 ]) is in subst (λ (k : ℕ). n ≤ n * k) (sym one) (omega arith)

pub new_array_bounded : (heap : Heap) (t : Ty) (n : ℕ) → IsBounded heap → has_room heap (2 + n * words_of (component t)) ≡ true → IsBounded (grown heap (kind.Array t) (fresh_elements t n) (2 + n * words_of (component t)))
new_array_bounded heap t n b room =
    let all : 2 + n * words_of (component t) < 2 ^ 31 = fits_within heap (2 + n * words_of (component t)) b room in
    let more = words_more (is_long (component t)) (component t) n refl in
    let few : n < 2 ^ 31 = omega (arith, all, more) in
    grown_bounded heap (kind.Array t) (fresh_elements t n) (2 + n * words_of (component t)) b (subst (λ (m : ℕ). m < 2 ^ 31) (sym (by_width (is_long (component t)) (component t) n refl)) few)

pub array_bounded : (heap : Heap) (t : Ty) (n : ℕ) → IsBounded heap → IsBoundedOption (alloc_array heap t n)
array_bounded heap t n b = within (has_room heap _) _ (new_array_bounded heap t n b)

new_string : (heap : Heap) (s : List ℕ) → All IsUnit s → IsBounded heap → has_room heap (2 + length s) ≡ true → IsBounded (grown heap (kind.Str s) [] (2 + length s))
new_string heap s units b room =
    let all : 2 + length s < 2 ^ 31 = fits_within heap (2 + length s) b room in
    grown_bounded heap (kind.Str s) [] (2 + length s) b (omega (arith, all), units)

pub string_bounded : (heap : Heap) (s : List ℕ) → All IsUnit s → IsBounded heap → IsBoundedOption (alloc_string heap s)
string_bounded heap s units b = within (has_room heap _) _ (new_string heap s units b)

-- ---- objects that stand once

abbrev pub IsBoundedGot : Option Got → Type 0
IsBoundedGot None = Unit {0}
IsBoundedGot (Some g) = IsBounded g.heap

interned_bounded : (o : Option Heap) → IsBoundedOption o → IsBoundedGot (with_interned o)
interned_bounded None b = tt
interned_bounded (Some heap) b = record { short = b.short; limit = b.limit; counted = b.counted; few = b.few }

class_bounded : (o : Option Heap) → IsBoundedOption o → IsBoundedGot (with_class_object o)
class_bounded None b = tt
class_bounded (Some heap) b = record { short = b.short; limit = b.limit; counted = b.counted; few = b.few }

found_bounded : (found : Option ℕ) (heap : Heap) (new : Option Got) → IsBounded heap → IsBoundedGot new → IsBoundedGot (elim found [ Some o ↦ Some (record { object = o; heap = heap }) | None ↦ new ])
found_bounded None heap new all short = short
found_bounded (Some o) heap new all short = all

pub intern_bounded : (heap : Heap) (s : List ℕ) → All IsUnit s → IsBounded heap → IsBoundedGot (intern heap s)
intern_bounded heap s units b = found_bounded _ heap _ b (interned_bounded _ (string_bounded heap s units b))

pub class_object_bounded : (heap : Heap) (t : Ty) → IsBounded heap → IsBoundedGot (class_object heap t)
class_object_bounded heap t b = found_bounded _ heap _ b (class_bounded _ (within (has_room heap 2) _ (λ room. grown_bounded heap (kind.ClassOf t) [] 2 b tt)))
