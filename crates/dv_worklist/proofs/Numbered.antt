-- What goes on from a place, by the numbers of the states that do.
use Rattle.std.proofs.Common.{◌≡◌, ◌<◌, ℕ, zero, suc, List, [], ◌∷◌, ◌++◌, length, map, Some, refl, sym, ap, ◌∙◌, subst, arith, append_assoc, get_or}
use Rattle.std.specs.Prelude.{slice_get}
use Rattle.std.proofs.lemmas.List.{length_push}
use Rattle.std.proofs.lemmas.List.Elements.{All-head, All-tail, All-append, All-map, All-weaker}
use Rattle.std.proofs.lemmas.Option.{same_Some}
use Rattle.dv_worklist.specs.Flow.{Onward}
use Rattle.dv_worklist.specs.declared.onwards.Way.{Way}
use Rattle.dv_worklist.specs.Numbered.{way_to, goes, onwards_of, AreWithin}

abbrev is_within : ℕ → Way → Type 0
is_within n w = w.state < n

ways_within : (n state : ℕ) (tos : List ℕ) → state < n → AreWithin n (map (way_to state) tos)
ways_within n state tos lt = All-map (is_within n) (way_to state) tos (λ k d h. lt)

pub all_within : (n state : ℕ) (ws vs : List Way) (tos : List ℕ) → vs ≡ ws ++ map (way_to state) tos → AreWithin n ws → state < n → AreWithin n vs
all_within n state ws vs tos e h lt = rw e (All-append (is_within n) ws (map (way_to state) tos) h (ways_within n state tos lt))

pub state_within : (n : ℕ) (ws : List Way) → AreWithin n ws → (k : ℕ) (w : Way) → k < length ws → w ≡ get_or ws k w → w.state < n
state_within n ws h k w lt e = subst (is_within n) (sym e) (h k w lt)

module _ {S : Type 0} where
  -- ---- what is read at a number

  get_left : (xs ys : List S) (k : ℕ) → k < length xs → slice_get (xs ++ ys) k ≡ slice_get xs k
  get_left [] ys k h = absurd (omega arith)
  get_left (x ∷ xs) ys zero h = refl
  get_left (x ∷ xs) ys (suc k) h = get_left xs ys k (omega arith)

  get_last : (xs : List S) (s : S) → slice_get (xs ++ s ∷ []) (length xs) ≡ Some s
  get_last [] s = refl
  get_last (x ∷ xs) s = get_last xs s

  there : (xs : List S) (k : ℕ) → k < length xs → (s : S) × (slice_get xs k ≡ Some s)
  there [] k h = absurd (omega arith)
  there (x ∷ xs) zero h = (x, refl)
  there (x ∷ xs) (suc k) h = there xs k (omega arith)

  -- ---- what is added

  more_states : (xs ys : List S) (ws : List Way) → AreWithin (length xs) ws → onwards_of (xs ++ ys) ws ≡ onwards_of xs ws
  more_states xs ys [] h = refl
  more_states xs ys (w ∷ ws) h =
      let here = get_left xs ys w.state (All-head (is_within (length xs)) w ws h) in
      let rest = more_states xs ys ws (All-tail (is_within (length xs)) w ws h) in
      λ i. goes w.to (here i) ++ rest i

  more_ways : (xs : List S) (ws vs : List Way) → onwards_of xs (ws ++ vs) ≡ onwards_of xs ws ++ onwards_of xs vs
  more_ways xs [] vs = refl
  more_ways xs (w ∷ ws) vs =
      let first : List (Onward S) = goes w.to (slice_get xs w.state) in
      ap (λ os. first ++ os) (more_ways xs ws vs) ∙ sym (append_assoc first (onwards_of xs ws) (onwards_of xs vs))

  all_go : (xs : List S) (s : S) (n : ℕ) → slice_get xs n ≡ Some s → (tos : List ℕ) → onwards_of xs (map (way_to n) tos) ≡ map (λ to. record { to = to; state = s }) tos
  all_go xs s n is [] = refl
  all_go xs s n is (to ∷ tos) = let rest = all_go xs s n is tos in λ i. goes to (is i) ++ rest i

  pub added : (xs : List S) (s : S) (ws : List Way) (tos : List ℕ) → AreWithin (length xs) ws →
      onwards_of (xs ++ s ∷ []) (ws ++ map (way_to (length xs)) tos) ≡ onwards_of xs ws ++ map (λ to. record { to = to; state = s }) tos
  added xs s ws tos h =
      let old = more_states xs (s ∷ []) ws h in
      let new = all_go (xs ++ s ∷ []) s (length xs) (get_last xs s) tos in
      more_ways (xs ++ s ∷ []) ws (map (way_to (length xs)) tos) ∙ (λ i. old i ++ new i)

  pub added_within : (xs : List S) (s : S) (ws : List Way) (tos : List ℕ) → AreWithin (length xs) ws → AreWithin (length (xs ++ s ∷ [])) (ws ++ map (way_to (length xs)) tos)
  added_within xs s ws tos h =
      let long = length_push xs s in
      let n = length (xs ++ s ∷ []) in
      All-append (is_within n) ws (map (way_to (length xs)) tos) (All-weaker (is_within (length xs)) (is_within n) (λ w lt. omega (arith, long, lt)) ws h)
      (ways_within n (length xs) tos (omega (arith, long)))

  -- ---- what is read

  pub count : (xs : List S) (ws : List Way) → AreWithin (length xs) ws → length (onwards_of xs ws) ≡ length ws
  count xs [] h = refl
  count xs (w ∷ ws) h =
      let here = there xs w.state (All-head (is_within (length xs)) w ws h) in
      ap (λ o. length (goes w.to o ++ onwards_of xs ws)) here.1 ∙ ap suc (count xs ws (All-tail (is_within (length xs)) w ws h))

  pub read : (xs : List S) (ws : List Way) → AreWithin (length xs) ws → (k : ℕ) (w : Way) (s : S) → slice_get ws k ≡ Some w → slice_get xs w.state ≡ Some s →
      slice_get (onwards_of xs ws) k ≡ Some (record { to = w.to; state = s })
  read xs [] h k w s e is = absurd (cc)
  read xs (v ∷ ws) h zero w s e is =
      ap (λ (u : Way). slice_get (goes u.to (slice_get xs u.state) ++ onwards_of xs ws) 0) (same_Some v w e) ∙
      ap (λ o. slice_get (goes w.to o ++ onwards_of xs ws) 0) is
  read xs (v ∷ ws) h (suc k) w s e is =
      let here = there xs v.state (All-head (is_within (length xs)) v ws h) in
      ap (λ o. slice_get (goes v.to o ++ onwards_of xs ws) (suc k)) here.1 ∙ read xs ws (All-tail (is_within (length xs)) v ws h) k w s e is
