-- Objects as blocks whose tags say their kinds.
use Rattle.std.proofs.Common.{◌≡◌, ℕ, zero, suc, ◌+◌, ◌<◌, ◌≤◌, ◌++◌, Some, List, [], ◌∷◌, length, map, refl, sym, ap, ◌∙◌, subst, arith, pred, is_some, length-append, ltb-true, Result, Ok, Err}
use Rattle.std.specs.Prelude.{slice_set, slice_index_or, slice_get, nat_lt, IsSome, OnErr}
use Rattle.std.proofs.lemmas.List.{get_or_append_left, map-append, length-map}
use Rattle.dv_words.specs.declared.state.Kind.{Kind}
use Rattle.dv_words.specs.declared.state.Kind.TheVariants as kind
use Rattle.dv_heap.specs.Blocks.{Block, block_at, written}
use Rattle.dv_heap.specs.Objects.{Objects, kind_by, words_by, objects_in, AreTagged, IsContinued, kind_in, with_object, with_object_word}

-- ---- reading

pub words_of_block : (bs : List Block) (i : ℕ) → slice_index_or (map words_by bs) i [] ≡ (block_at bs i).words
words_of_block [] i = refl
words_of_block (b ∷ bs) zero = refl
words_of_block (b ∷ bs) (suc i) = words_of_block bs i

pub kind_of_block : (ks : List Kind) (bs : List Block) (i : ℕ) → i < length bs → slice_get (map (kind_by ks) bs) i ≡ Some (kind_by ks (block_at bs i))
kind_of_block ks [] i l = absurd (omega (arith, l))
kind_of_block ks (b ∷ bs) zero l = refl
kind_of_block ks (b ∷ bs) (suc i) l = kind_of_block ks bs i (omega (arith, l))

pub there_is : {X : Type 0} (f : Block → X) (bs : List Block) (i : ℕ) → is_some (slice_get (map f bs) i) ≡ nat_lt i (length bs)
there_is f [] i = grind arith
there_is f (b ∷ bs) zero = grind arith
there_is f (b ∷ bs) (suc i) = there_is f bs i ∙ grind arith

pub tag_within : (n : ℕ) (bs : List Block) (i : ℕ) → AreTagged n bs → i < length bs → (block_at bs i).tag < n
tag_within n [] i t l = absurd (omega (arith, l))
tag_within n (b ∷ bs) zero t l = t.0
tag_within n (b ∷ bs) (suc i) t l = tag_within n bs i t.1 (omega (arith, l))

found_or : (ks : List Kind) (i : ℕ) (k d : Kind) → slice_get ks i ≡ Some k → slice_index_or ks i d ≡ k
found_or [] i k d e = absurd (cc)
found_or (x ∷ ks) zero k d e = cc
found_or (x ∷ ks) (suc i) k d e = found_or ks i k d e

found_within : (ks : List Kind) (i : ℕ) (k : Kind) → slice_get ks i ≡ Some k → i < length ks
found_within [] i k e = absurd (cc)
found_within (x ∷ ks) zero k e = omega arith
found_within (x ∷ ks) (suc i) k e = let h = found_within ks i k e in omega (arith, h)

-- the kind at the tag of a block is the object's
pub kind_read : (ks : List Kind) (bs : List Block) (i : ℕ) (k : Kind) → i < length bs → slice_get ks (block_at bs i).tag ≡ Some k → slice_get (map (kind_by ks) bs) i ≡ Some k
kind_read ks bs i k l e = kind_of_block ks bs i l ∙ ap Some (found_or ks (block_at bs i).tag k kind.Str e)

-- ---- a word written

pub tagged_write : (n : ℕ) (bs : List Block) (i k w : ℕ) → AreTagged n bs → AreTagged n (slice_set bs i (written (block_at bs i) k w))
tagged_write n [] i k w t = t
tagged_write n (b ∷ bs) zero k w t = t
tagged_write n (b ∷ bs) (suc i) k w t = (t.0, tagged_write n bs i k w t.1)

kinds_same : (ks : List Kind) (bs : List Block) (i k w : ℕ) → map (kind_by ks) (slice_set bs i (written (block_at bs i) k w)) ≡ map (kind_by ks) bs
kinds_same ks [] i k w = refl
kinds_same ks (b ∷ bs) zero k w = refl
kinds_same ks (b ∷ bs) (suc i) k w = ap (λ (xs : List Kind). kind_by ks b ∷ xs) (kinds_same ks bs i k w)

pub cells_written : (bs : List Block) (i k w : ℕ) → map words_by (slice_set bs i (written (block_at bs i) k w)) ≡ slice_set (map words_by bs) i (slice_set (slice_index_or (map words_by bs) i []) k w)
cells_written [] i k w = refl
cells_written (b ∷ bs) zero k w = refl
cells_written (b ∷ bs) (suc i) k w = ap (λ (xs : List (List ℕ)). b.words ∷ xs) (cells_written bs i k w)

pub objects_written : (ks : List Kind) (bs : List Block) (x : Objects) (o k w : ℕ) → objects_in ks bs ≡ x → objects_in ks (slice_set bs (pred o) (written (block_at bs (pred o)) k w)) ≡ with_object_word x o k w
objects_written ks bs x o k w e =
    let P : Objects → Type 0 = λ y. objects_in ks (slice_set bs (pred o) (written (block_at bs (pred o)) k w)) ≡ with_object_word y o k w in
    subst P e (λ j. record { kinds = kinds_same ks bs (pred o) k w j; cells = cells_written bs (pred o) k w j })

-- ---- one object more

pub tagged_more : (n m : ℕ) (bs : List Block) (b : Block) → AreTagged n bs → n ≤ m → b.tag < m → AreTagged m (bs ++ b ∷ [])
tagged_more n m [] b t l h = (h, tt)
tagged_more n m (c ∷ bs) b t l h = (omega (arith, t.0, l), tagged_more n m bs b t.1 l h)

pub tagged_still : (n m : ℕ) (bs : List Block) → AreTagged n bs → n ≤ m → AreTagged m bs
tagged_still n m [] t l = tt
tagged_still n m (c ∷ bs) t l = (omega (arith, t.0, l), tagged_still n m bs t.1 l)

kinds_kept : (ks more : List Kind) (bs : List Block) → AreTagged (length ks) bs → map (kind_by (ks ++ more)) bs ≡ map (kind_by ks) bs
kinds_kept ks more [] t = refl
kinds_kept ks more (b ∷ bs) t = λ j. get_or_append_left ks more kind.Str b.tag t.0 j ∷ kinds_kept ks more bs t.1 j

pub longer : (ks ks' : List Kind) → IsContinued ks ks' → length ks ≤ length ks'
longer ks ks' c = omega (arith, ap length c.1, length-append ks c.0)

-- kinds that were added at the end, where no object is of them, change nothing
pub objects_still : (ks ks' : List Kind) (bs : List Block) (x : Objects) → objects_in ks bs ≡ x → AreTagged (length ks) bs → IsContinued ks ks' → objects_in ks' bs ≡ x
objects_still ks ks' bs x e t c =
    (λ j. record { kinds = (ap (λ (us : List Kind). map (kind_by us) bs) c.1 ∙ kinds_kept ks c.0 bs t) j; cells = map words_by bs }) ∙ e

pub within_more : (ks : List Kind) (tag : ℕ) (k : Kind) → slice_get ks tag ≡ Some k → tag < length ks
within_more ks tag k e = found_within ks tag k e

pub objects_more : (ks ks' : List Kind) (bs : List Block) (x : Objects) (tag : ℕ) (k : Kind) (ws : List ℕ) → objects_in ks bs ≡ x → AreTagged (length ks) bs → IsContinued ks ks' → slice_get ks' tag ≡ Some k → objects_in ks' (bs ++ record { tag = tag; words = ws } ∷ []) ≡ with_object x k ws
objects_more ks ks' bs x tag k ws e t c g =
    let b : Block = record { tag = tag; words = ws } in
    let P : Objects → Type 0 = λ y. objects_in ks' (bs ++ b ∷ []) ≡ with_object y k ws in
    let is : map (kind_by ks') bs ≡ map (kind_by ks) bs = ap (λ (us : List Kind). map (kind_by us) bs) c.1 ∙ kinds_kept ks c.0 bs t in
    let kinds : map (kind_by ks') (bs ++ b ∷ []) ≡ map (kind_by ks) bs ++ k ∷ [] = map-append (kind_by ks') bs (b ∷ []) ∙ (λ j. is j ++ found_or ks' tag k kind.Str g j ∷ []) in
    let cells : map words_by (bs ++ b ∷ []) ≡ map words_by bs ++ ws ∷ [] = map-append words_by bs (b ∷ []) in
    subst P e (λ j. record { kinds = kinds j; cells = cells j })

pub count_is : (ks : List Kind) (bs : List Block) (x : Objects) → objects_in ks bs ≡ x → length bs ≡ length x.kinds
count_is ks bs x e = sym (length-map bs (kind_by ks)) ∙ ap (λ (y : Objects). length y.kinds) e

-- ---- an object that is there

pub is_block : (ks : List Kind) (bs : List Block) (x : Objects) (o : ℕ) → objects_in ks bs ≡ x → IsSome (kind_in x o) → pred o < length bs
is_block ks bs x zero e s = absurd (cc)
is_block ks bs x (suc o) e s = ltb-true o (length bs) (sym (there_is (kind_by ks) bs o) ∙ ap (λ (y : Objects). is_some (kind_in y (suc o))) e ∙ s)

pub tag_is_place : (ks : List Kind) (bs : List Block) (x : Objects) (o block tag : ℕ) → objects_in ks bs ≡ x → AreTagged (length ks) bs → IsSome (kind_in x o) → block ≡ pred o → tag ≡ (block_at bs block).tag → tag < length ks
tag_is_place ks bs x o block tag e t s p q =
    let l : block < length bs = omega (arith, is_block ks bs x o e s, p) in
    let h = tag_within (length ks) bs block t l in
    omega (arith, h, q)

pub kind_is_read : (ks : List Kind) (bs : List Block) (x : Objects) (o block tag : ℕ) (k : Kind) → objects_in ks bs ≡ x → IsSome (kind_in x o) → block ≡ pred o → tag ≡ (block_at bs block).tag → slice_get ks tag ≡ Some k → kind_in x o ≡ Some k
kind_is_read ks bs x zero block tag k e s p q g = absurd (cc)
kind_is_read ks bs x (suc o) block tag k e s p q g =
    let l = is_block ks bs x (suc o) e s in
    let tagged : slice_get ks (block_at bs o).tag ≡ Some k = ap (λ (n : ℕ). slice_get ks n) (sym (q ∙ ap (λ (n : ℕ). (block_at bs n).tag) p)) ∙ g in
    ap (λ (y : Objects). kind_in y (suc o)) (sym e) ∙ kind_read ks bs o k l tagged

pub objects_after : (ks : List Kind) (bs bs' : List Block) (x : Objects) (o block k w : ℕ) → objects_in ks bs ≡ x → block ≡ pred o → bs' ≡ slice_set bs block (written (block_at bs block) k w) → objects_in ks bs' ≡ with_object_word x o k w
objects_after ks bs bs' x o block k w e p f =
    ap (objects_in ks) (f ∙ ap (λ (n : ℕ). slice_set bs n (written (block_at bs n) k w)) p) ∙ objects_written ks bs x o k w e

pub tagged_after : (n : ℕ) (bs bs' : List Block) (block k w : ℕ) → AreTagged n bs → bs' ≡ slice_set bs block (written (block_at bs block) k w) → AreTagged n bs'
tagged_after n bs bs' block k w t f = subst (AreTagged n) (sym f) (tagged_write n bs block k w t)

pub on_err : {T E : Type 0} (r : Result T E) (P : Type 0) → P → OnErr r P
on_err (Ok x) P p = tt
on_err (Err e) P p = p

-- all of an added object
pub objects_added : (ks ks' : List Kind) (bs bs' : List Block) (x : Objects) (tag : ℕ) (k : Kind) (ws : List ℕ) (n : ℕ) → objects_in ks bs ≡ x → AreTagged (length ks) bs → IsContinued ks ks' → slice_get ks' tag ≡ Some k → bs' ≡ bs ++ record { tag = tag; words = ws } ∷ [] → n ≡ length x.kinds + 1 → (objects_in ks' bs' ≡ with_object x k ws) × (n ≡ length (objects_in ks' bs').kinds)
objects_added ks ks' bs bs' x tag k ws n e t c g f m =
    let made : objects_in ks' bs' ≡ with_object x k ws = ap (objects_in ks') f ∙ objects_more ks ks' bs x tag k ws e t c g in
    let count : length (objects_in ks' bs').kinds ≡ length (x.kinds ++ k ∷ []) = ap (λ (y : Objects). length y.kinds) made in
    (made, omega (arith, m, count, length-append x.kinds (k ∷ [])))

pub tagged_added : (ks ks' : List Kind) (bs bs' : List Block) (tag : ℕ) (k : Kind) (ws : List ℕ) → AreTagged (length ks) bs → IsContinued ks ks' → slice_get ks' tag ≡ Some k → bs' ≡ bs ++ record { tag = tag; words = ws } ∷ [] → AreTagged (length ks') bs'
tagged_added ks ks' bs bs' tag k ws t c g f =
    subst (AreTagged (length ks')) (sym f) (tagged_more (length ks) (length ks') bs (record { tag = tag; words = ws }) t (longer ks ks' c) (within_more ks' tag k g))

pub tagged_kept : (ks ks' : List Kind) (bs bs' : List Block) → AreTagged (length ks) bs → IsContinued ks ks' → bs' ≡ bs → AreTagged (length ks') bs'
tagged_kept ks ks' bs bs' t c f =
    subst (AreTagged (length ks')) (sym f) (tagged_still (length ks) (length ks') bs t (longer ks ks' c))

pub objects_kept : (ks ks' : List Kind) (bs bs' : List Block) (x : Objects) → objects_in ks bs ≡ x → AreTagged (length ks) bs → IsContinued ks ks' → bs' ≡ bs → objects_in ks' bs' ≡ x
objects_kept ks ks' bs bs' x e t c f = ap (objects_in ks') f ∙ objects_still ks ks' bs x e t c
