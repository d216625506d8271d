-- Texts that are written one after another.
use Rattle.std.proofs.Common.{◌≡◌, ◌++◌, ◌∙◌, ◌+◌, ◌<◌, ◌≤◌, ℕ, List, [], ◌∷◌, zero, suc, Option, Some, None, ap, append-nil, append_assoc, arith, drop, length, refl, subst, sym, take}
use Rattle.std.specs.List.{flat_map}
use Rattle.std.specs.Prelude.{slice_index_or}
use Rattle.std.proofs.lemmas.List.{take_all}
use Rattle.dv_io.specs.Io.{TookPart, after_write}

pub after_two : (a b : List ℕ) (old : Option (List ℕ)) → after_write b (after_write a old) ≡ after_write (a ++ b) old
after_two a b None = refl
after_two a b (Some bytes) = ap Some (append_assoc bytes a b)

pub after_none : (old : Option (List ℕ)) → old ≡ after_write [] old
after_none None = refl
after_none (Some bytes) = ap Some (sym (append-nil bytes))

-- the first n bytes of two texts are all of the first, and some of the second; or some of the first
take_behind : (a b : List ℕ) (n : ℕ) → a ++ take n b ≡ take (length a + n) (a ++ b)
take_behind [] b n = let same : n ≡ 0 + n = omega arith in ap (λ k. take k b) same
take_behind (x ∷ xs) b n =
    let same : suc (length xs + n) ≡ length (x ∷ xs) + n = omega arith in
    ap (λ ys. x ∷ ys) (take_behind xs b n) ∙ ap (λ k. take k (x ∷ (xs ++ b))) same

-- which of the first n bytes of a text are among those of this one and another
take_before : (a b : List ℕ) (n : ℕ) → (m : ℕ) × (take n a ≡ take m (a ++ b))
take_before [] b n = (0, refl_take n)
  where
    refl_take : (n : ℕ) → take n [] ≡ take 0 b
    refl_take zero = refl
    refl_take (suc n) = refl
take_before (x ∷ xs) b zero = (0, refl)
take_before (x ∷ xs) b (suc n) = let more = take_before xs b n in (suc more.0, ap (λ ys. x ∷ ys) more.1)

-- a part of what comes behind a text that was written whole
pub took_more : (old mid new : Option (List ℕ)) (a b : List ℕ) → mid ≡ after_write a old → TookPart mid new b → TookPart old new (a ++ b)
took_more old mid new a b whole part =
    (length a + part.0, part.1 ∙ (ap (after_write (take part.0 b)) whole ∙ (after_two a (take part.0 b) old ∙ ap (λ t. after_write t old) (take_behind a b part.0))))

-- a part of the front is a part of all
pub took_front : (old new : Option (List ℕ)) (a b : List ℕ) → TookPart old new a → TookPart old new (a ++ b)
took_front old new a b part =
    let more = take_before a b part.0 in
    (more.0, part.1 ∙ ap (λ t. after_write t old) more.1)

-- all of a text is a part of it
pub took_all : (old new : Option (List ℕ)) (a : List ℕ) → new ≡ after_write a old → TookPart old new a
took_all old new a whole = (length a, whole ∙ ap (λ t. after_write t old) (whole_of a))
  where
    whole_of : (xs : List ℕ) → xs ≡ take (length xs) xs
    whole_of [] = refl
    whole_of (x ∷ xs) = ap (λ ys. x ∷ ys) (whole_of xs)

-- ---- pieces, of which each is written in its turn

-- the pieces before one, that one, and those behind it
in_three : {X : Type 0} (f : X → List ℕ) (xs : List X) (i : ℕ) (x : X) → i < length xs → x ≡ slice_index_or xs i x → flat_map f xs ≡ (flat_map f (take i xs) ++ f x) ++ flat_map f (drop (suc i) xs)
in_three f [] i x inside is = absurd (omega (arith, inside))
in_three f (y ∷ ys) zero x inside is = ap (λ z. f z ++ flat_map f ys) (sym is)
in_three f (y ∷ ys) (suc i) x inside is =
    ap (λ l. f y ++ l) (in_three f ys i x (omega (arith, inside)) is) ∙
    (sym (append_assoc (f y) (flat_map f (take i ys) ++ f x) (flat_map f (drop (suc i) ys))) ∙ ap (λ l. l ++ flat_map f (drop (suc i) ys)) (sym (append_assoc (f y) (flat_map f (take i ys)) (f x))))

-- a part of one piece, behind those before it
pub took_among : {X : Type 0} (f : X → List ℕ) (xs : List X) (i : ℕ) (x : X) (old mid new : Option (List ℕ)) → i < length xs → x ≡ slice_index_or xs i x
    → mid ≡ after_write (flat_map f (take i xs)) old → TookPart mid new (f x) → TookPart old new (flat_map f xs)
took_among f xs i x old mid new inside is so_far part =
    let front = took_more old mid new (flat_map f (take i xs)) (f x) so_far part in
    subst (λ l. TookPart old new l) (sym (in_three f xs i x inside is)) (took_front old new (flat_map f (take i xs) ++ f x) (flat_map f (drop (suc i) xs)) front)

-- all pieces
pub took_each : {X : Type 0} (f : X → List ℕ) (xs : List X) (i : ℕ) (old new : Option (List ℕ)) → length xs ≤ i → new ≡ after_write (flat_map f (take i xs)) old → TookPart old new (flat_map f xs)
took_each f xs i old new past is = took_all old new (flat_map f xs) (is ∙ ap (λ ys. after_write (flat_map f ys) old) (take_all i xs past))
