-- What is made is the newest object of its heap.
use Rattle.std.proofs.Common.{◌≡◌, ◌<◌, ◌≤◌, ◌*◌, ◌++◌, ℕ, suc, ℤ, pos, negsuc, Bool, true, false, List, [], ◌∷◌, length, replicate, Option, Some, None, Result, refl, sym, ap, subst, arith, length-append, ◌∙◌, ◌≢◌}
use Rattle.std.specs.Prelude.{IsSome, is_some, slice_get, slice_index_or}
use Rattle.std.proofs.lemmas.List.{length-replicate}
use Rattle.dv_defs.specs.Types.{component, is_long, words_of}
use Rattle.std.proofs.lemmas.Option.{same_Some}
use Rattle.dv_defs.specs.declared.names.Ty.{Ty}
use Rattle.dv_defs.specs.declared.run.Named.TheVariants as named
use Rattle.dv_defs.specs.declared.run.Next.{Next}
use Rattle.dv_machine.specs.State.{Did, Throws, where_room}
use Rattle.dv_words.specs.declared.state.Kept.TheVariants as kept
use Rattle.dv_words.specs.declared.state.Kind.{Kind}
use Rattle.dv_words.specs.declared.state.Kind.TheVariants as kind
use Rattle.dv_words.specs.Heaps.{Got, alloc_array, cost_of_array, counted_by, has_room, kind_of, newest, words_of_object}
use Rattle.dv_words.specs.Stacks.{given, gone}
use Rattle.dv_words.specs.State.{WordHeap, WordStack}
use Rattle.dv_heap.specs.Answers.{grown_to, newest_of}
use Rattle.dv_words.specs.Mem.{WordHere, WordLeft, filled_array, got, new_array, onward, stored}
use Rattle.dv_words.specs.Stepping.{Answered}
use Rattle.dv_mem.specs.Elements.{count_of}

newest_room : (o : Option WordHeap) (go : Got → Did WordLeft) → where_room (newest_of o) go ≡ where_room o (λ heap. go (got heap))
newest_room None go = refl
newest_room (Some h) go = refl

pub made_goes : {E : Type 0} (r : Result Next E) (o : Option WordHeap) (go : Got → Did WordLeft) (s : WordStack) (h : WordHeap) (t : WordStack) (k : WordHeap) → Answered r (where_room (newest_of o) go) s h t k → Answered r (where_room o (λ heap. go (got heap))) s h t k
made_goes {E} r o go s h t k answered =
    let P : Did WordLeft → Type 0 = λ d. Answered r d s h t k in
    subst P (newest_room o go) answered

-- ---- sizes of arrays

pub count_is : (z : ℤ) (n : ℕ) → Some n ≡ count_of z → z ≡ pos n
count_is (pos m) n e = ap pos (sym (same_Some n m e))
count_is (negsuc m) n e = absurd (cc e)

pub none_counts : (h : WordHere) (a : ℕ) (t : Ty) (z : ℤ) → None ≡ count_of z → new_array h a t z ≡ Throws named.NegativeArraySize
none_counts h a t (pos m) e = absurd (cc e)
none_counts h a t (negsuc m) e = refl

-- ---- a new array with its elements

got_parts : (x y : Got) → (let o : Option Got = Some x in o) ≡ Some y → x ≡ y
got_parts x y e = same_Some x y e

pub filled_goes : (h : WordHere) (ws : List ℕ) (o : Option WordHeap) (array : ℕ) (g : WordHeap) → newest_of o ≡ Some (record { object = array; heap = g }) → where_room o (filled_array h ws) ≡ onward (stored g array 0 ws) (given (gone h.frame h.next) (kept.One array))
filled_goes h ws None array g e = absurd (cc e)
filled_goes h ws (Some made) array g e =
    let same = got_parts (record { object = newest made; heap = made }) (record { object = array; heap = g }) e in
    let F : Got → Did WordLeft = λ x. onward (stored x.heap x.object 0 ws) (given (gone h.frame h.next) (kept.One x.object)) in
    ap F same

last_kind : (ks : List Kind) (k : Kind) → slice_get (ks ++ k ∷ []) (length ks) ≡ Some k
last_kind [] k = refl
last_kind (x ∷ ks) k = last_kind ks k

last_words : (wss : List (List ℕ)) (ws : List ℕ) (n : ℕ) → n ≡ length wss → slice_index_or (wss ++ ws ∷ []) n [] ≡ ws
last_words [] ws n e = subst (λ (m : ℕ). slice_index_or (ws ∷ []) m [] ≡ ws) (sym e) refl
last_words (x ∷ wss) ws n e = subst (λ (m : ℕ). slice_index_or (x ∷ (wss ++ ws ∷ [])) m [] ≡ ws) (sym e) (last_words wss ws (length wss) refl)

-- the array is there, with its words
pub record IsFresh (g : WordHeap) (array : ℕ) (t : Ty) (n : ℕ) : Type 0 where
  pub positive : 0 < array
  pub kind : kind_of g array ≡ Some (kind.Array t)
  pub size : n ≤ length (words_of_object g array)

enough : (n : ℕ) (t : Ty) → n ≤ n * words_of (component t)
enough n t = by (is_long (component t))
  where
    by : (b : Bool) → n ≤ n * (elim b [ true ↦ 2 | false ↦ 1 ])
    by true = omega arith
    by false = omega arith

fresh : (h : WordHeap) (t : Ty) (n used : ℕ) → length h.cells ≡ length h.kinds → IsFresh (grown_to h (kind.Array t) (replicate (n * words_of (component t)) 0) used) (suc (length h.kinds)) t n
fresh h t n used same =
    record {
      positive = omega arith;
      kind = last_kind h.kinds (kind.Array t);
      size =
          let all = ap (λ (ws : List ℕ). length ws) (last_words h.cells (replicate (n * words_of (component t)) 0) (length h.kinds) (sym same)) in
          let count = length-replicate {A = ℕ} (n * words_of (component t)) 0 in
          omega (arith, all, count, enough n t);
    }

pub array_made : (h : WordHeap) (t : Ty) (n array : ℕ) (g : WordHeap) → length h.cells ≡ length h.kinds → newest_of (alloc_array h t n) ≡ Some (record { object = array; heap = g }) → IsFresh g array t n
array_made h t n array g same e = by (has_room h (cost_of_array t n)) e
  where
    made : WordHeap
    made = grown_to h (kind.Array t) (replicate (n * words_of (component t)) 0) (counted_by h.limit h.used (cost_of_array t n))

    by : (b : Bool) → newest_of (elim b [ true ↦ Some made | false ↦ None ]) ≡ Some (record { object = array; heap = g }) → IsFresh g array t n
    by true e =
        let got = got_parts (record { object = newest made; heap = made }) (record { object = array; heap = g }) e in
        let P : Got → Type 0 = λ x. IsFresh x.heap x.object t n in
        let number : suc (length h.kinds) ≡ newest made = omega (arith, length-append h.kinds (kind.Array t ∷ [])) in
        let Q : ℕ → Type 0 = λ m. IsFresh made m t n in
        subst P got (subst Q number (fresh h t n (counted_by h.limit h.used (cost_of_array t n)) same))
    by false e = absurd (cc e)

pub is_there : (h : WordHeap) (o : ℕ) (k : Kind) → kind_of h o ≡ Some k → IsSome (kind_of h o)
is_there h o k e = ap is_some e

pub other_kind : (h : WordHeap) (o : ℕ) (t : Ty) → kind_of h o ≡ Some (kind.Array t) → kind_of h o ≢ Some kind.Str
other_kind h o t e f = absurd (let both : (let k : Option Kind = Some (kind.Array t) in k) ≡ Some kind.Str = sym e ∙ f in cc both)
