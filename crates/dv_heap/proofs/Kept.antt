-- A heap is kept through each call, and found strings and Class objects are those that the definitions find.
use Rattle.std.proofs.Common.{◌≡◌, ◌≢◌, ℕ, zero, suc, ◌<◌, ◌^◌, ◌++◌, ◌⊎◌, inl, inr, Option, Some, List, [], ◌∷◌, length, map, refl, sym, ap, ◌∙◌, subst, arith, pred, length-append, Bool, true, false, cond, None}
use Rattle.std.specs.Prelude.{slice_set, slice_index, slice_get, IsSome, bytes_eq, slice_index_or}
use Rattle.std.proofs.lemmas.List.{get_or_append_left, get_or-set_other, get_or_at, length-set}
use Rattle.std.specs.Map.{lookup}
use Rattle.indexmap.specs.IndexMap.{insert_entry}
use Rattle.dv_defs.specs.contracts.names.TyPartialEq.TheImpl as of_type
use Rattle.dv_defs.proofs.Keys.{type_keys}
use Rattle.dv_defs.specs.declared.names.Ty.{Ty}
use Rattle.dv_machine.specs.Heap.{found_among}
use Rattle.dv_defs.specs.Types.{ty_eq}
use Rattle.law_types.proofs.Equal.{ty_is, ty_equal, names_are, names_equal}
use Rattle.dv_words.specs.declared.state.Kind.{Kind}
use Rattle.dv_words.specs.declared.state.Kind.TheVariants as kind
use Rattle.dv_words.specs.State.{WordHeap}
use Rattle.dv_words.specs.Heaps.{kind_of, words_of_object, with_static, is_text, is_class_of}
use Rattle.dv_heap.specs.Blocks.{Block, block_at, written}
use Rattle.dv_heap.specs.Objects.{Objects, kind_in, words_in, words_by, with_object, with_object_word}
use Rattle.dv_heap.specs.Keeping.{heap_in, found, AreTexts, AreClasses, AreUnits, HaveUnits, IsKept}
use Rattle.dv_heap.proofs.Tagging.{cells_written}

pub kind_seen : (x : Objects) (st : List Block) (ts : List (List ℕ × ℕ)) (cs : List (Ty × ℕ)) (u : ℕ) (l : Option ℕ) (h : WordHeap) (o : ℕ) → heap_in x st ts cs u l ≡ h → kind_in x o ≡ kind_of h o
kind_seen x st ts cs u l h zero e = refl
kind_seen x st ts cs u l h (suc o) e = ap (λ (g : WordHeap). slice_get g.kinds o) e

pub is_there : (x : Objects) (st : List Block) (ts : List (List ℕ × ℕ)) (cs : List (Ty × ℕ)) (u : ℕ) (l : Option ℕ) (h : WordHeap) (o : ℕ) → heap_in x st ts cs u l ≡ h → IsSome (kind_of h o) → IsSome (kind_in x o)
is_there x st ts cs u l h o e s = subst IsSome (sym (kind_seen x st ts cs u l h o e)) s

pub static_written : (x : Objects) (st st' : List Block) (ts : List (List ℕ × ℕ)) (cs : List (Ty × ℕ)) (u : ℕ) (l : Option ℕ) (h : WordHeap) (f half w : ℕ) → heap_in x st ts cs u l ≡ h → st' ≡ slice_set st f (written (block_at st f) half w) → heap_in x st' ts cs u l ≡ with_static h f half w
static_written x st st' ts cs u l h f half w e s =
    let P : WordHeap → Type 0 = λ g. heap_in x st' ts cs u l ≡ with_static g f half w in
    subst P e (λ j. record {
      kinds = x.kinds;
      cells = x.cells;
      statics = (ap (map words_by) s ∙ cells_written st f half w) j;
      interned = found ts;
      class_objects = found cs;
      used = u;
      limit = l;
    })

-- ---- a word written to an object that is no string

kind_still : (x : Objects) (o k w p : ℕ) → kind_in (with_object_word x o k w) p ≡ kind_in x p
kind_still x o k w zero = refl
kind_still x o k w (suc p) = refl

words_still : (x : Objects) (o k w p : ℕ) → 0 < o → kind_in x o ≢ Some kind.Str → kind_in x p ≡ Some kind.Str → words_in (with_object_word x o k w) p ≡ words_in x p
words_still x zero k w p l n s = absurd (omega (arith, l))
words_still x (suc o) k w zero l n s = absurd (cc)
words_still x (suc o) k w (suc p) l n s =
    get_or-set_other x.cells o p (slice_set (words_in x (suc o)) k w) [] (λ (e : p ≡ o). n (ap (λ (i : ℕ). slice_get x.kinds i) (sym e) ∙ s))

texts_still : (x : Objects) (o k w : ℕ) (es : List (List ℕ × ℕ)) → 0 < o → kind_in x o ≢ Some kind.Str → AreTexts x es → AreTexts (with_object_word x o k w) es
texts_still x o k w [] l n t = tt
texts_still x o k w (e ∷ es) l n t =
    (kind_still x o k w e.1 ∙ t.0, words_still x o k w e.1 l n t.0 ∙ t.1, texts_still x o k w es l n t.2)

classes_still : (x : Objects) (o k w : ℕ) (es : List (Ty × ℕ)) → AreClasses x es → AreClasses (with_object_word x o k w) es
classes_still x o k w [] t = tt
classes_still x o k w (e ∷ es) t = (kind_still x o k w e.1 ∙ t.0, classes_still x o k w es t.1)

pub kept_written : (x x' : Objects) (ts : List (List ℕ × ℕ)) (cs : List (Ty × ℕ)) (o k w : ℕ) → IsKept x ts cs → 0 < o → kind_in x o ≢ Some kind.Str → x' ≡ with_object_word x o k w → IsKept x' ts cs
kept_written x x' ts cs o k w h l n e =
    subst (λ (y : Objects). IsKept y ts cs) (sym e) (record {
      count = length-set x.cells (pred o) (slice_set (words_in x o) k w) ∙ h.count;
      strings = texts_still x o k w ts l n h.strings;
      types = classes_still x o k w cs h.types;
      units = units;
    })
  where
    units : HaveUnits (with_object_word x o k w)
    units p j s =
        let t : kind_in x p ≡ Some kind.Str = sym (kind_still x o k w p) ∙ s in
        subst (λ (ws : List ℕ). slice_index ws j < 2 ^ 16) (sym (words_still x o k w p l n t)) (h.units p j t)

-- ---- one object more

get_more : (ks : List Kind) (k y : Kind) (p : ℕ) → slice_get ks p ≡ Some y → slice_get (ks ++ k ∷ []) p ≡ Some y
get_more [] k y p e = absurd (cc)
get_more (x ∷ ks) k y zero e = e
get_more (x ∷ ks) k y (suc p) e = get_more ks k y p e

get_within : (ks : List Kind) (y : Kind) (p : ℕ) → slice_get ks p ≡ Some y → p < length ks
get_within [] y p e = absurd (cc)
get_within (x ∷ ks) y zero e = omega arith
get_within (x ∷ ks) y (suc p) e = let h = get_within ks y p e in omega (arith, h)

old_or_new : (ks : List Kind) (k y : Kind) (p : ℕ) → slice_get (ks ++ k ∷ []) p ≡ Some y → (slice_get ks p ≡ Some y) ⊎ ((p ≡ length ks) × (k ≡ y))
old_or_new [] k y zero e = inr (refl, cc)
old_or_new [] k y (suc p) e = absurd (cc)
old_or_new (x ∷ ks) k y zero e = inl e
old_or_new (x ∷ ks) k y (suc p) e = elim (old_or_new ks k y p e) [ inl f ↦ inl f | inr f ↦ inr (ap suc f.0, f.1) ]

kind_more : (x : Objects) (k y : Kind) (ws : List ℕ) (o : ℕ) → kind_in x o ≡ Some y → kind_in (with_object x k ws) o ≡ Some y
kind_more x k y ws zero e = absurd (cc)
kind_more x k y ws (suc o) e = get_more x.kinds k y o e

words_more : (x : Objects) (k y : Kind) (ws : List ℕ) (o : ℕ) → length x.cells ≡ length x.kinds → kind_in x o ≡ Some y → words_in (with_object x k ws) o ≡ words_in x o
words_more x k y ws zero c e = absurd (cc)
words_more x k y ws (suc o) c e = get_or_append_left x.cells (ws ∷ []) [] o (let h = get_within x.kinds y o e in omega (arith, c, h))

texts_more : (x : Objects) (k : Kind) (ws : List ℕ) (es : List (List ℕ × ℕ)) → length x.cells ≡ length x.kinds → AreTexts x es → AreTexts (with_object x k ws) es
texts_more x k ws [] c t = tt
texts_more x k ws (e ∷ es) c t =
    (kind_more x k kind.Str ws e.1 t.0, words_more x k kind.Str ws e.1 c t.0 ∙ t.1, texts_more x k ws es c t.2)

classes_more : (x : Objects) (k : Kind) (ws : List ℕ) (es : List (Ty × ℕ)) → AreClasses x es → AreClasses (with_object x k ws) es
classes_more x k ws [] t = tt
classes_more x k ws (e ∷ es) t = (kind_more x k (kind.ClassOf e.0) ws e.1 t.0, classes_more x k ws es t.1)

units_more : (x : Objects) (k : Kind) (ws : List ℕ) → length x.cells ≡ length x.kinds → AreUnits k ws → HaveUnits x → HaveUnits (with_object x k ws)
units_more x k ws c u h zero j s = absurd (cc)
units_more x k ws c u h (suc o) j s =
    elim (old_or_new x.kinds k kind.Str o s) [
      | inl f ↦ subst (λ (us : List ℕ). slice_index us j < 2 ^ 16) (sym (words_more x k kind.Str ws (suc o) c f)) (h (suc o) j f)
      | inr f ↦ subst (λ (us : List ℕ). slice_index us j < 2 ^ 16) (sym (get_or_at x.cells ws [] [] o (c ∙ sym f.0))) (u f.1 j)
    ]

pub kept_more : (x x' : Objects) (ts : List (List ℕ × ℕ)) (cs : List (Ty × ℕ)) (k : Kind) (ws : List ℕ) → IsKept x ts cs → AreUnits k ws → x' ≡ with_object x k ws → IsKept x' ts cs
kept_more x x' ts cs k ws h u e =
    subst (λ (y : Objects). IsKept y ts cs) (sym e) (record {
      count = (let z : length (x.cells ++ ws ∷ []) ≡ length (x.kinds ++ k ∷ []) = omega (arith, length-append x.cells (ws ∷ []), length-append x.kinds (k ∷ []), h.count) in z);
      strings = texts_more x k ws ts h.count h.strings;
      types = classes_more x k ws cs h.types;
      units = units_more x k ws h.count u h.units;
    })

-- ---- what is found by a key

same_bool : (b c : Bool) → (b ≡ true → c ≡ true) → (c ≡ true → b ≡ true) → b ≡ c
same_bool true true f g = refl
same_bool true false f g = sym (f refl)
same_bool false true f g = g refl
same_bool false false f g = refl

bytes_turned : (a b : List ℕ) → bytes_eq a b ≡ bytes_eq b a
bytes_turned a b = same_bool (bytes_eq a b) (bytes_eq b a) (λ e. names_equal b a (sym (names_are a b e))) (λ e. names_equal a b (sym (names_are b a e)))

types_turned : (a b : Ty) → ty_eq a b ≡ ty_eq b a
types_turned a b = same_bool (ty_eq a b) (ty_eq b a) (λ e. ty_equal b a (sym (ty_is a b e))) (λ e. ty_equal a b (sym (ty_is b a e)))

chosen : (b c : Bool) (a : Option ℕ) (d e : Option ℕ) → b ≡ c → d ≡ e → (let r : Option ℕ = elim b [ true ↦ a | false ↦ d ] in r) ≡ cond c a e
chosen true true a d e p q = refl
chosen true false a d e p q = absurd (cc)
chosen false true a d e p q = absurd (cc)
chosen false false a d e p q = q

is_text_there : (h : WordHeap) (s : List ℕ) (o : ℕ) → kind_of h o ≡ Some kind.Str → is_text h s o ≡ bytes_eq (words_of_object h o) s
is_text_there h s zero e = absurd (cc)
is_text_there h s (suc o) e = rw e refl

is_class_there : (h : WordHeap) (t u : Ty) (o : ℕ) → kind_of h o ≡ Some (kind.ClassOf u) → is_class_of h t o ≡ ty_eq u t
is_class_there h t u zero e = absurd (cc)
is_class_there h t u (suc o) e = rw e refl

-- objects as a heap has them
pub record AreSeen (x : Objects) (h : WordHeap) : Type 0 where
  pub kinds : x.kinds ≡ h.kinds
  pub cells : x.cells ≡ h.cells

seen_kind : (x : Objects) (h : WordHeap) (o : ℕ) → AreSeen x h → kind_in x o ≡ kind_of h o
seen_kind x h zero s = refl
seen_kind x h (suc o) s = ap (λ (ks : List Kind). slice_get ks o) s.kinds

seen_words : (x : Objects) (h : WordHeap) (o : ℕ) → AreSeen x h → words_in x o ≡ words_of_object h o
seen_words x h o s = ap (λ (xs : List (List ℕ)). slice_index_or xs (pred o) []) s.cells

text_found : (x : Objects) (h : WordHeap) (s : List ℕ) (es : List (List ℕ × ℕ)) → AreSeen x h → AreTexts x es → found_among (is_text h s) (found es) ≡ lookup (bytes_eq s) es
text_found x h s [] r t = refl
text_found x h s (e ∷ es) r t =
    chosen (is_text h s e.1) (bytes_eq s e.0) (Some e.1) (found_among (is_text h s) (found es)) (lookup (bytes_eq s) es)
    (is_text_there h s e.1 (sym (seen_kind x h e.1 r) ∙ t.0) ∙ ap (λ (ws : List ℕ). bytes_eq ws s) (sym (seen_words x h e.1 r) ∙ t.1) ∙ bytes_turned e.0 s)
    (text_found x h s es r t.2)

class_found : (x : Objects) (h : WordHeap) (u : Ty) (es : List (Ty × ℕ)) → AreSeen x h → AreClasses x es → found_among (is_class_of h u) (found es) ≡ lookup (ty_eq u) es
class_found x h u [] r t = refl
class_found x h u (e ∷ es) r t =
    chosen (is_class_of h u e.1) (ty_eq u e.0) (Some e.1) (found_among (is_class_of h u) (found es)) (lookup (ty_eq u) es)
    (is_class_there h u e.0 e.1 (sym (seen_kind x h e.1 r) ∙ t.0) ∙ types_turned e.0 u)
    (class_found x h u es r t.1)

-- ---- an entry more in a map

absent_entry : {K : Type 0} (eq : K → K → Bool) (es : List (K × ℕ)) (k : K) (n : ℕ) → lookup (eq k) es ≡ None → insert_entry eq es k n ≡ es ++ (k, n) ∷ []
absent_entry eq [] k n e = refl
absent_entry {K} eq (x ∷ es) k n e = by (eq k x.0) refl (λ f. absent_entry eq es k n f) e
  where
    by : (b : Bool) → eq k x.0 ≡ b → (lookup (eq k) es ≡ None → insert_entry eq es k n ≡ es ++ (k, n) ∷ []) → cond (eq k x.0) (Some x.1) (lookup (eq k) es) ≡ None → cond (eq k x.0) ((x.0, n) ∷ es) (x ∷ insert_entry eq es k n) ≡ x ∷ es ++ (k, n) ∷ []
    by true p more f = absurd (let g : Some x.1 ≡ None = ap (λ (b : Bool). cond b (Some x.1) (lookup (eq k) es)) (sym p) ∙ f in cc)
    by false p more f = ap (λ (b : Bool). cond b ((x.0, n) ∷ es) (x ∷ insert_entry eq es k n)) p ∙ ap (λ (xs : List (K × ℕ)). x ∷ xs) (more (ap (λ (b : Bool). cond b (Some x.1) (lookup (eq k) es)) (sym p) ∙ f))

pub entry_added : {K : Type 0} (eq : K → K → Bool) (es es' new : List (K × ℕ)) (k key : K) (n : ℕ) → lookup (eq k) es ≡ None → es' ≡ es → key ≡ k → new ≡ insert_entry eq es' key n → new ≡ es ++ (k, n) ∷ []
entry_added eq es es' new k key n e f g h = h ∙ (λ j. insert_entry eq (f j) (g j) n) ∙ absent_entry eq es k n e

pub class_added : (es es' new : List (Ty × ℕ)) (t key : Ty) (n : ℕ) → lookup (ty_eq t) es ≡ None → es' ≡ es → key ≡ t → new ≡ insert_entry (of_type.ghosts).eq es' key n → new ≡ es ++ (t, n) ∷ []
class_added es es' new t key n e f g h =
    entry_added (of_type.ghosts).eq es es' new t key n (ap (λ (same : Ty → Ty → Bool). lookup (same t) es) type_keys ∙ e) f g h

-- ---- look-ups of a heap

pub text_looked_up : (x : Objects) (st : List Block) (ts : List (List ℕ × ℕ)) (cs : List (Ty × ℕ)) (u : ℕ) (l : Option ℕ) (h : WordHeap) (s : List ℕ) → heap_in x st ts cs u l ≡ h → IsKept x ts cs → lookup (bytes_eq s) ts ≡ found_among (is_text h s) h.interned
text_looked_up x st ts cs u l h s e k =
    let P : WordHeap → Type 0 = λ g. lookup (bytes_eq s) ts ≡ found_among (is_text g s) g.interned in
    subst P e (sym (text_found x (heap_in x st ts cs u l) s ts (record { kinds = refl; cells = refl }) k.strings))

pub class_looked_up : (x : Objects) (st : List Block) (ts : List (List ℕ × ℕ)) (cs : List (Ty × ℕ)) (u : ℕ) (l : Option ℕ) (h : WordHeap) (t : Ty) → heap_in x st ts cs u l ≡ h → IsKept x ts cs → lookup (ty_eq t) cs ≡ found_among (is_class_of h t) h.class_objects
class_looked_up x st ts cs u l h t e k =
    let P : WordHeap → Type 0 = λ g. lookup (ty_eq t) cs ≡ found_among (is_class_of g t) g.class_objects in
    subst P e (sym (class_found x (heap_in x st ts cs u l) t cs (record { kinds = refl; cells = refl }) k.types))

-- ---- a new object that is found by a key

last_kind : (ks : List Kind) (k : Kind) → slice_get (ks ++ k ∷ []) (length ks) ≡ Some k
last_kind [] k = refl
last_kind (x ∷ ks) k = last_kind ks k

newest_is : (x : Objects) (k : Kind) (ws : List ℕ) (o : ℕ) → o ≡ length (with_object x k ws).kinds → o ≡ suc (length x.kinds)
newest_is x k ws o e = omega (arith, e, length-append x.kinds (k ∷ []))

newest_kind : (x : Objects) (k : Kind) (ws : List ℕ) (o : ℕ) → o ≡ length (with_object x k ws).kinds → kind_in (with_object x k ws) o ≡ Some k
newest_kind x k ws o e = ap (kind_in (with_object x k ws)) (newest_is x k ws o e) ∙ last_kind x.kinds k

newest_words : (x : Objects) (k : Kind) (ws : List ℕ) (o : ℕ) → length x.cells ≡ length x.kinds → o ≡ length (with_object x k ws).kinds → words_in (with_object x k ws) o ≡ ws
newest_words x k ws o c e = ap (words_in (with_object x k ws)) (newest_is x k ws o e) ∙ get_or_at x.cells ws [] [] (length x.kinds) c

texts_push : (x : Objects) (es : List (List ℕ × ℕ)) (e : List ℕ × ℕ) → AreTexts x es → kind_in x e.1 ≡ Some kind.Str → words_in x e.1 ≡ e.0 → AreTexts x (es ++ e ∷ [])
texts_push x [] e t k w = (k, w, tt)
texts_push x (f ∷ es) e t k w = (t.0, t.1, texts_push x es e t.2 k w)

classes_push : (x : Objects) (es : List (Ty × ℕ)) (e : Ty × ℕ) → AreClasses x es → kind_in x e.1 ≡ Some (kind.ClassOf e.0) → AreClasses x (es ++ e ∷ [])
classes_push x [] e t k = (k, tt)
classes_push x (f ∷ es) e t k = (t.0, classes_push x es e t.1 k)

pub kept_text : (x x' : Objects) (ts ts' : List (List ℕ × ℕ)) (cs : List (Ty × ℕ)) (s : List ℕ) (o : ℕ) → IsKept x ts cs → ((j : ℕ) → slice_index s j < 2 ^ 16) → x' ≡ with_object x kind.Str s → o ≡ length x'.kinds → ts' ≡ ts ++ (s, o) ∷ [] → IsKept x' ts' cs
kept_text x x' ts ts' cs s o h u e n f =
    subst (λ (y : Objects). IsKept y ts' cs) (sym e) (subst (λ (es : List (List ℕ × ℕ)). IsKept (with_object x kind.Str s) es cs) (sym f) made)
  where
    more : IsKept (with_object x kind.Str s) ts cs
    more = kept_more x (with_object x kind.Str s) ts cs kind.Str s h (λ same. u) refl

    count : o ≡ length (with_object x kind.Str s).kinds
    count = n ∙ ap (λ (y : Objects). length y.kinds) e

    made : IsKept (with_object x kind.Str s) (ts ++ (s, o) ∷ []) cs
    made = record {
      count = more.count;
      strings = texts_push (with_object x kind.Str s) ts (s, o) more.strings (newest_kind x kind.Str s o count) (newest_words x kind.Str s o h.count count);
      types = more.types;
      units = more.units;
    }

pub kept_class : (x x' : Objects) (ts : List (List ℕ × ℕ)) (cs cs' : List (Ty × ℕ)) (t : Ty) (o : ℕ) → IsKept x ts cs → x' ≡ with_object x (kind.ClassOf t) [] → o ≡ length x'.kinds → cs' ≡ cs ++ (t, o) ∷ [] → IsKept x' ts cs'
kept_class x x' ts cs cs' t o h e n f =
    subst (λ (y : Objects). IsKept y ts cs') (sym e) (subst (λ (es : List (Ty × ℕ)). IsKept (with_object x (kind.ClassOf t) []) ts es) (sym f) made)
  where
    more : IsKept (with_object x (kind.ClassOf t) []) ts cs
    more = kept_more x (with_object x (kind.ClassOf t) []) ts cs (kind.ClassOf t) [] h (λ same. absurd (cc)) refl

    count : o ≡ length (with_object x (kind.ClassOf t) []).kinds
    count = n ∙ ap (λ (y : Objects). length y.kinds) e

    made : IsKept (with_object x (kind.ClassOf t) []) ts (cs ++ (t, o) ∷ [])
    made = record {
      count = more.count;
      strings = more.strings;
      types = classes_push (with_object x (kind.ClassOf t) []) cs (t, o) more.types (newest_kind x (kind.ClassOf t) [] o count);
      units = more.units;
    }
