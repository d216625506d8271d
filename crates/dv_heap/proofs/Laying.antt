-- Blocks that lie one after another: what stands where, what a write changes, and one block more.
use Rattle.std.proofs.Common.{◌≡◌, ℕ, zero, suc, ◌+◌, ◌<◌, ◌≤◌, ◌++◌, List, [], ◌∷◌, length, take, drop, get_or, map, refl, sym, ap, ◌∙◌, subst, arith, append_assoc, length-append}
use Rattle.std.specs.Prelude.{slice_set, slice_index, slice_index_or}
use Rattle.std.proofs.lemmas.List.{length-set, get_or_append_left, get_or-append-add, set-append_left, take_at, append-nil, get_or_read}
use Rattle.dv_heap.specs.Blocks.{Block, block_at, written, laid_block, laid, starts_from, read_at, read_all, AreLaid}

cons : {A : Type 0} (x y : A) (xs ys : List A) → x ≡ y → xs ≡ ys → x ∷ xs ≡ y ∷ ys
cons x y xs ys e f = rw (e, f) refl

block_is : (b : Block) (t : ℕ) (ws : List ℕ) → t ≡ b.tag → ws ≡ b.words → (let c : Block = record { tag = t; words = ws } in c) ≡ b
block_is b t ws e f = λ i. record { tag = e i; words = f i }

-- ---- reading back

past : (pre xs : List ℕ) (k : ℕ) → get_or (pre ++ xs) (length pre + k) 0 ≡ get_or xs k 0
past pre xs k = get_or-append-add pre xs k 0

dropped : (pre xs : List ℕ) (k : ℕ) → drop (length pre + k) (pre ++ xs) ≡ drop k xs
dropped [] xs k = ap (λ (n : ℕ). drop n xs) (omega arith)
dropped (p ∷ pre) xs k =
    let e : length (p ∷ pre) + k ≡ suc (length pre + k) = omega arith in
    ap (λ (n : ℕ). drop n (p ∷ pre ++ xs)) e ∙ dropped pre xs k

read_one : (pre rest : List ℕ) (b : Block) → read_at (pre ++ (laid_block b ++ rest)) (length pre) ≡ b
read_one pre rest b = block_is b _ _ tag words
  where
    tag : slice_index (pre ++ (laid_block b ++ rest)) (length pre) ≡ b.tag
    tag =
        let e : length pre ≡ length pre + 0 = omega arith in
        ap (λ (n : ℕ). get_or (pre ++ (laid_block b ++ rest)) n 0) e ∙ past pre (laid_block b ++ rest) 0

    words : take (slice_index (pre ++ (laid_block b ++ rest)) (length pre + 1)) (drop (length pre + 2) (pre ++ (laid_block b ++ rest))) ≡ b.words
    words =
        (λ i. take (past pre (laid_block b ++ rest) 1 i) (dropped pre (laid_block b ++ rest) 2 i)) ∙ take_at b.words rest (length b.words) refl

read_rest : (pre : List ℕ) (bs : List Block) → map (read_at (pre ++ laid bs)) (starts_from (length pre) bs) ≡ bs
read_rest pre [] = refl
read_rest pre (b ∷ bs) =
    cons _ _ _ _ (read_one pre (laid bs) b)
    ((λ i. map (read_at (sym (append_assoc pre (laid_block b) (laid bs)) i)) (starts_from (sym (length-append pre (laid_block b)) i) bs)) ∙ read_rest (pre ++ laid_block b) bs)

-- words that are laid so, from places that are theirs, are read as these blocks
pub read_back : (bs : List Block) (starts ws : List ℕ) → ws ≡ laid bs → starts ≡ starts_from 0 bs → read_all starts ws ≡ bs
read_back bs starts ws e f = (λ i. map (read_at (e i)) (f i)) ∙ read_rest [] bs

pub lie : (bs : List Block) (starts ws : List ℕ) → ws ≡ laid bs → starts ≡ starts_from 0 bs → AreLaid starts ws
lie bs starts ws e f =
    let back = sym (read_back bs starts ws e f) in
    record { as_laid = e ∙ ap laid back; in_order = f ∙ ap (starts_from 0) back }

-- ---- where a block stands

-- how many words lie before a block
abbrev before : List Block → ℕ → ℕ
before bs i = length (laid (take i bs))

start_is : (at : ℕ) (bs : List Block) (i : ℕ) → i < length bs → get_or (starts_from at bs) i 0 ≡ at + before bs i
start_is at [] i l = absurd (omega (arith, l))
start_is at (b ∷ bs) zero l = omega arith
start_is at (b ∷ bs) (suc i) l =
    let e = start_is (at + length (laid_block b)) bs i (omega (arith, l)) in
    omega (arith, e, length-append (laid_block b) (laid (take i bs)))

length_starts : (at : ℕ) (bs : List Block) → length (starts_from at bs) ≡ length bs
length_starts at [] = refl
length_starts at (b ∷ bs) = ap suc (length_starts (at + length (laid_block b)) bs)

block_ends : (bs : List Block) (i : ℕ) → i < length bs → before bs i + length (laid_block (block_at bs i)) ≤ length (laid bs)
block_ends [] i l = absurd (omega (arith, l))
block_ends (b ∷ bs) zero l = omega (arith, length-append (laid_block b) (laid bs))
block_ends (b ∷ bs) (suc i) l =
    let e = block_ends bs i (omega (arith, l)) in
    omega (arith, e, length-append (laid_block b) (laid bs), length-append (laid_block b) (laid (take i bs)))

laid_word : (bs : List Block) (i k : ℕ) → i < length bs → k < length (laid_block (block_at bs i)) → get_or (laid bs) (before bs i + k) 0 ≡ get_or (laid_block (block_at bs i)) k 0
laid_word [] i k l m = absurd (omega (arith, l))
laid_word (b ∷ bs) zero k l m =
    let e : 0 + k ≡ k = omega arith in
    ap (λ (n : ℕ). get_or (laid_block b ++ laid bs) n 0) e ∙ get_or_append_left (laid_block b) (laid bs) 0 k m
laid_word (b ∷ bs) (suc i) k l m =
    let e : length (laid_block b ++ laid (take i bs)) + k ≡ length (laid_block b) + (before bs i + k) = omega (arith, length-append (laid_block b) (laid (take i bs))) in
    ap (λ (n : ℕ). get_or (laid_block b ++ laid bs) n 0) e ∙ past (laid_block b) (laid bs) (before bs i + k) ∙ laid_word bs i k (omega (arith, l)) m

-- the block that begins at a place of the words
pub record Stands (ws : List ℕ) (start : ℕ) (b : Block) : Type 0 where
  pub tag : slice_index ws start ≡ b.tag
  pub size : slice_index ws (start + 1) ≡ length b.words
  pub ends : start + 2 + length b.words ≤ length ws
  pub words : take (length b.words) (drop (start + 2) ws) ≡ b.words

block_of_all : (starts ws : List ℕ) (i : ℕ) → i < length starts → block_at (read_all starts ws) i ≡ read_at ws (slice_index starts i)
block_of_all [] ws i l = absurd (omega (arith, l))
block_of_all (s ∷ ss) ws zero l = refl
block_of_all (s ∷ ss) ws (suc i) l = block_of_all ss ws i (omega (arith, l))

stands_in : (bs : List Block) (starts ws : List ℕ) (i : ℕ) → ws ≡ laid bs → starts ≡ starts_from 0 bs → i < length bs → Stands ws (slice_index starts i) (block_at bs i)
stands_in bs starts ws i e f l = record { tag = tag; size = size; ends = ends; words = words }
  where
    there : i < length starts
    there = omega (arith, l, ap length f, length_starts 0 bs)

    start : slice_index starts i ≡ before bs i
    start = ap (λ (ss : List ℕ). get_or ss i 0) f ∙ start_is 0 bs i l ∙ (let z : 0 + before bs i ≡ before bs i = omega arith in z)

    tag : slice_index ws (slice_index starts i) ≡ (block_at bs i).tag
    tag =
        let z : before bs i ≡ before bs i + 0 = omega arith in
        (λ j. get_or (e j) ((start ∙ z) j) 0) ∙ laid_word bs i 0 l (omega arith)

    size : slice_index ws (slice_index starts i + 1) ≡ length (block_at bs i).words
    size = (λ j. get_or (e j) (start j + 1) 0) ∙ laid_word bs i 1 l (omega arith)

    ends : slice_index starts i + 2 + length (block_at bs i).words ≤ length ws
    ends = omega (arith, start, ap length e, block_ends bs i l)

    words : take (length (block_at bs i).words) (drop (slice_index starts i + 2) ws) ≡ (block_at bs i).words
    words =
        (λ j. take (sym size j) (drop (slice_index starts i + 2) ws))
        ∙ ap (λ (c : Block). c.words) (sym (block_of_all starts ws i there))
        ∙ ap (λ (cs : List Block). (block_at cs i).words) (read_back bs starts ws e f)

-- the place is the one that the table has for the block
pub stands : (bs : List Block) (starts ws : List ℕ) (i start : ℕ) → read_all starts ws ≡ bs → AreLaid starts ws → i < length bs → start ≡ slice_index_or starts i start → Stands ws start (block_at bs i)
stands bs starts ws i start v r l at =
    subst (λ (n : ℕ). Stands ws n (block_at bs i)) (sym (get_or_read starts i start there at 0)) (stands_in bs starts ws i (r.as_laid ∙ ap laid v) (r.in_order ∙ ap (starts_from 0) v) l)
  where
    there : i < length starts
    there = omega (arith, l, ap length (r.in_order ∙ ap (starts_from 0) v), length_starts 0 bs)

-- what is read at its place and at the next one
pub tag_read : (ws : List ℕ) (start : ℕ) (b : Block) (x : ℕ) → Stands ws start b → x ≡ slice_index_or ws start x → x ≡ b.tag
tag_read ws start b x s e = get_or_read ws start x (omega (arith, s.ends)) e 0 ∙ s.tag

pub size_read : (ws : List ℕ) (start : ℕ) (b : Block) (x : ℕ) → Stands ws start b → x ≡ slice_index_or ws (start + 1) x → x ≡ length b.words
size_read ws start b x s e = get_or_read ws (start + 1) x (omega (arith, s.ends)) e 0 ∙ s.size

-- what has a word is a block that is there
pub is_there : (bs : List Block) (i k : ℕ) → k < length (block_at bs i).words → i < length bs
is_there [] i k l = absurd (omega (arith, l))
is_there (b ∷ bs) zero k l = omega arith
is_there (b ∷ bs) (suc i) k l = let h = is_there bs i k l in omega (arith, h)

-- ---- a write

laid_write : (bs : List Block) (i k w : ℕ) → i < length bs → k < length (block_at bs i).words → slice_set (laid bs) (before bs i + 2 + k) w ≡ laid (slice_set bs i (written (block_at bs i) k w))
laid_write [] i k w l m = absurd (omega (arith, l))
laid_write (b ∷ bs) zero k w l m =
    let e : 0 + 2 + k ≡ suc (suc k) = omega arith in
    ap (λ (n : ℕ). slice_set (laid_block b ++ laid bs) n w) e ∙ ap (λ (xs : List ℕ). b.tag ∷ length b.words ∷ xs) (set-append_left b.words (laid bs) k w m)
    ∙ ap (λ (n : ℕ). b.tag ∷ n ∷ (slice_set b.words k w ++ laid bs)) (sym (length-set b.words k w))
laid_write (b ∷ bs) (suc i) k w l m =
    let e : length (laid_block b ++ laid (take i bs)) + 2 + k ≡ length (laid_block b) + (before bs i + 2 + k) = omega (arith, length-append (laid_block b) (laid (take i bs))) in
    ap (λ (n : ℕ). slice_set (laid_block b ++ laid bs) n w) e ∙ set_past (laid_block b) (laid bs) (before bs i + 2 + k) w
    ∙ ap (λ (xs : List ℕ). laid_block b ++ xs) (laid_write bs i k w (omega (arith, l)) m)
  where
    set_past : (pre xs : List ℕ) (n v : ℕ) → slice_set (pre ++ xs) (length pre + n) v ≡ pre ++ slice_set xs n v
    set_past [] xs n v = ap (λ (j : ℕ). slice_set xs j v) (omega arith)
    set_past (p ∷ pre) xs n v =
        let z : length (p ∷ pre) + n ≡ suc (length pre + n) = omega arith in
        ap (λ (j : ℕ). slice_set (p ∷ pre ++ xs) j v) z ∙ ap (λ (ys : List ℕ). p ∷ ys) (set_past pre xs n v)

starts_same : (at : ℕ) (bs : List Block) (i k w : ℕ) → starts_from at (slice_set bs i (written (block_at bs i) k w)) ≡ starts_from at bs
starts_same at [] i k w = refl
starts_same at (b ∷ bs) zero k w = ap (λ (n : ℕ). at ∷ starts_from (at + suc (suc n)) bs) (length-set b.words k w)
starts_same at (b ∷ bs) (suc i) k w = ap (λ (ss : List ℕ). at ∷ ss) (starts_same (at + length (laid_block b)) bs i k w)

-- the words after a write
pub laid_after : (bs : List Block) (starts ws : List ℕ) (i start k w : ℕ) → read_all starts ws ≡ bs → AreLaid starts ws → k < length (block_at bs i).words → start ≡ slice_index_or starts i start → slice_set ws (start + 2 + k) w ≡ laid (slice_set bs i (written (block_at bs i) k w))
laid_after bs starts ws i start k w v r m p = (λ j. slice_set (f j) (place j) w) ∙ laid_write bs i k w l m
  where
    l : i < length bs
    l = is_there bs i k m

    f : ws ≡ laid bs
    f = r.as_laid ∙ ap laid v

    g : starts ≡ starts_from 0 bs
    g = r.in_order ∙ ap (starts_from 0) v

    there : i < length starts
    there = omega (arith, l, ap length g, length_starts 0 bs)

    first : slice_index starts i ≡ 0 + before bs i
    first = ap (λ (ss : List ℕ). get_or ss i 0) g ∙ start_is 0 bs i l

    place : start + 2 + k ≡ before bs i + 2 + k
    place = omega (arith, get_or_read starts i start there p 0, first)

pub starts_after : (bs : List Block) (starts ws : List ℕ) (i k w : ℕ) → read_all starts ws ≡ bs → AreLaid starts ws → starts ≡ starts_from 0 (slice_set bs i (written (block_at bs i) k w))
starts_after bs starts ws i k w v r = r.in_order ∙ ap (starts_from 0) v ∙ sym (starts_same 0 bs i k w)

-- ---- one block more

laid_push : (bs : List Block) (b : Block) → laid (bs ++ b ∷ []) ≡ laid bs ++ laid_block b
laid_push [] b = append-nil (laid_block b)
laid_push (c ∷ bs) b = ap (λ (ws : List ℕ). laid_block c ++ ws) (laid_push bs b) ∙ sym (append_assoc (laid_block c) (laid bs) (laid_block b))

starts_push : (at : ℕ) (bs : List Block) (b : Block) → starts_from at (bs ++ b ∷ []) ≡ starts_from at bs ++ (at + length (laid bs)) ∷ []
starts_push at [] b = ap (λ (n : ℕ). n ∷ []) (omega arith)
starts_push at (c ∷ bs) b =
    let e : at + length (laid_block c) + length (laid bs) ≡ at + length (laid_block c ++ laid bs) = omega (arith, length-append (laid_block c) (laid bs)) in
    ap (λ (ss : List ℕ). at ∷ ss) (starts_push (at + length (laid_block c)) bs b ∙ ap (λ (n : ℕ). starts_from (at + length (laid_block c)) bs ++ n ∷ []) e)

pub laid_more : (bs : List Block) (starts ws ws' : List ℕ) (b : Block) → read_all starts ws ≡ bs → AreLaid starts ws → ws' ≡ ws ++ laid_block b → ws' ≡ laid (bs ++ b ∷ [])
laid_more bs starts ws ws' b v r e =
    e ∙ ap (λ (us : List ℕ). us ++ laid_block b) (r.as_laid ∙ ap laid v) ∙ sym (laid_push bs b)

pub starts_more : (bs : List Block) (starts starts' ws : List ℕ) (b : Block) (n : ℕ) → read_all starts ws ≡ bs → AreLaid starts ws → n ≡ length ws → starts' ≡ starts ++ n ∷ [] → starts' ≡ starts_from 0 (bs ++ b ∷ [])
starts_more bs starts starts' ws b n v r l e =
    let m : n ≡ 0 + length (laid bs) = l ∙ ap length (r.as_laid ∙ ap laid v) ∙ (let z : length (laid bs) ≡ 0 + length (laid bs) = omega arith in z) in
    e ∙ (λ j. (r.in_order ∙ ap (starts_from 0) v) j ++ m j ∷ []) ∙ sym (starts_push 0 bs b)
