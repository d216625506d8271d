-- A vector of places that is sorted by a stable sort and rid of neighbours that are the same is `sorted`.
use Rattle.std.proofs.Common.{◌≡◌, inl, inr, ℕ, zero, suc, ◌+◌, ◌<◌, Bool, true, false, cond, List, [], ◌∷◌, length, get_or, refl, sym, ap, ◌∙◌, arith}
use Rattle.std.specs.Prelude.{Contains}
use Rattle.std.specs.List.{dedup, dedup_from}
use Rattle.std.specs.List.Sorted.{IsPermutation, IsSortedBy}
use Rattle.std.proofs.lemmas.List.Sorted.{Contains-permutation, IsPermutation-sym}
use Rattle.dv_typing.specs.Accepting as accepting
use Rattle.dv_typing.specs.Accepting.{is_before, sorted}
use Rattle.dv_static.specs.declared.places.Place.{Place}
use Rattle.dv_static.specs.Placed.{place_of, places_of}
use Rattle.dv_static.proofs.PlaceOrder.{trans, total}
use Rattle.dv_static.proofs.PlaceTests.{less, same, less_is, same_is, same_itself}
use Rattle.dv_static.proofs.Rising.{In, Leads, Rises, unique, rises_sorted, from_sorted, to_sorted}

-- ---- a list that doesn't fall

-- none is before the one that precedes it
abbrev Climbs : Place → List Place → Type 0
Climbs k [] = Unit
Climbs k (x ∷ xs) = (less x k ≡ false) × Climbs x xs

shifted : (k : Place) (xs : List Place) (i : ℕ) (d : Place) → less (get_or (k ∷ xs) (suc i + 1) d) (get_or (k ∷ xs) (suc i) d) ≡ false → less (get_or xs (i + 1) d) (get_or xs i d) ≡ false
shifted k xs i d h =
    let e : suc (i + 1) ≡ suc i + 1 = omega arith in
    ap (λ n. less (get_or (k ∷ xs) n d) (get_or xs i d)) e ∙ h

climbs : (k : Place) (xs : List Place) → IsSortedBy less (k ∷ xs) → Climbs k xs
climbs k [] s = tt
climbs k (x ∷ xs) s = (s 0 k (omega arith) (omega arith), climbs x xs (λ i d a b. shifted k (x ∷ xs) i d (s (suc i) d (omega arith) (omega arith))))

-- one that isn't before another and isn't the same is after it
after : (k x : Place) → less x k ≡ false → same x k ≡ false → is_before (place_of k) (place_of x) ≡ true
after k x e f = go (is_before (place_of k) (place_of x)) refl
  where
    go : (b : Bool) → is_before (place_of k) (place_of x) ≡ b → is_before (place_of k) (place_of x) ≡ true
    go true h = h
    go false h =
        let q = total (place_of x) (place_of k) (sym (less_is x k) ∙ e) h in
        let p : x ≡ k = ap (λ z. record { at = z.at; rule = z.broken }) q in
        absurd (cc (ap (λ z. same z k) p, same_itself k))

-- ---- what is left where neighbours that are the same are dropped

abbrev left_if : Bool → Place → Place → List Place → List Place
left_if b k x xs = cond b (dedup_from same k xs) (k ∷ dedup_from same x xs)

leads_left_by : (b : Bool) (o : accepting.Place) (k x : Place) (xs : List Place) → is_before o (place_of k) ≡ true → Leads o (places_of (dedup_from same k xs)) → Leads o (places_of (dedup_from same x xs)) → Leads o (places_of (left_if b k x xs))
leads_left_by true o k x xs e l m = l
leads_left_by false o k x xs e l m = (e, m)

-- one that is not before another, which a place is before
beyond : (o : accepting.Place) (k x : Place) → less x k ≡ false → is_before o (place_of k) ≡ true → is_before o (place_of x) ≡ true
beyond o k x e f = go (same x k) refl
  where
    go : (b : Bool) → same x k ≡ b → is_before o (place_of x) ≡ true
    go true h = let q = same_is x k h in ap (λ z. is_before o (place_of z)) q ∙ f
    go false h = trans o (place_of k) (place_of x) f (after k x e h)

-- the later ones of a list that doesn't fall don't come before the first
over : (k x y : Place) → less x k ≡ false → less y x ≡ false → less y k ≡ false
over k x y e f = go (less y k) refl
  where
    go : (b : Bool) → less y k ≡ b → less y k ≡ false
    go false h = h
    go true h = let z = beyond (place_of y) k x e (sym (less_is y k) ∙ h) in absurd (cc (less_is y x, z))

skipped : (k x : Place) (xs : List Place) → less x k ≡ false → Climbs x xs → Climbs k xs
skipped k x [] e c = tt
skipped k x (y ∷ ys) e c = (over k x y e c.0, c.1)

leads_left : (o : accepting.Place) (k : Place) (xs : List Place) → is_before o (place_of k) ≡ true → Climbs k xs → Leads o (places_of (dedup_from same k xs))
leads_left o k [] e c = (e, tt)
leads_left o k (x ∷ xs) e c =
    leads_left_by (same x k) o k x xs e (leads_left o k xs e (skipped k x xs c.0 c.1)) (leads_left o x xs (beyond o k x c.0 e) c.1)

rises_left_by : (b : Bool) (k x : Place) (xs : List Place) → same x k ≡ b → less x k ≡ false → Climbs x xs → Rises (places_of (dedup_from same k xs)) → Rises (places_of (dedup_from same x xs)) → Rises (places_of (left_if b k x xs))
rises_left_by true k x xs s e c l m = l
rises_left_by false k x xs s e c l m = (leads_left (place_of k) x xs (after k x e s) c, m)

rises_left : (k : Place) (xs : List Place) → Climbs k xs → Rises (places_of (dedup_from same k xs))
rises_left k [] c = (tt, tt)
rises_left k (x ∷ xs) c = rises_left_by (same x k) k x xs refl c.0 c.1 (rises_left k xs (skipped k x xs c.0 c.1)) (rises_left x xs c.1)

rises_deduped : (xs : List Place) → IsSortedBy less xs → Rises (places_of (dedup same xs))
rises_deduped [] s = tt
rises_deduped (x ∷ xs) s = rises_left x xs (climbs x xs s)

-- ---- the same members

from_left_by : (b : Bool) (r k x : Place) (xs : List Place) → (In r (dedup_from same k xs) → In r (k ∷ xs)) → (In r (dedup_from same x xs) → In r (x ∷ xs)) → In r (left_if b k x xs) → In r (k ∷ x ∷ xs)
from_left_by true r k x xs f g i = go (f i)
  where
    go : In r (k ∷ xs) → In r (k ∷ x ∷ xs)
    go (inl e) = inl e
    go (inr j) = inr (inr j)
from_left_by false r k x xs f g (inl e) = inl e
from_left_by false r k x xs f g (inr i) = inr (g i)

from_left : (r k : Place) (xs : List Place) → In r (dedup_from same k xs) → In r (k ∷ xs)
from_left r k [] i = i
from_left r k (x ∷ xs) i = from_left_by (same x k) r k x xs (from_left r k xs) (from_left r x xs) i

to_left_by : (b : Bool) (r k x : Place) (xs : List Place) → same x k ≡ b → (In r (k ∷ xs) → In r (dedup_from same k xs)) → (In r (x ∷ xs) → In r (dedup_from same x xs)) → In r (k ∷ x ∷ xs) → In r (left_if b k x xs)
to_left_by true r k x xs s f g (inl e) = f (inl e)
to_left_by true r k x xs s f g (inr (inl e)) = f (inl (e ∙ same_is x k s))
to_left_by true r k x xs s f g (inr (inr i)) = f (inr i)
to_left_by false r k x xs s f g (inl e) = inl e
to_left_by false r k x xs s f g (inr i) = inr (g i)

to_left : (r k : Place) (xs : List Place) → In r (k ∷ xs) → In r (dedup_from same k xs)
to_left r k [] i = i
to_left r k (x ∷ xs) i = to_left_by (same x k) r k x xs refl (to_left r k xs) (to_left r x xs) i

from_deduped : (r : Place) (xs : List Place) → In r (dedup same xs) → In r xs
from_deduped r [] i = i
from_deduped r (x ∷ xs) i = from_left r x xs i

to_deduped : (r : Place) (xs : List Place) → In r xs → In r (dedup same xs)
to_deduped r [] i = i
to_deduped r (x ∷ xs) i = to_left r x xs i

contained : (r : Place) (xs : List Place) → In r xs → Contains xs r
contained r [] i = absurd i
contained r (x ∷ xs) (inl e) = (0, omega arith, sym e)
contained r (x ∷ xs) (inr i) = let c = contained r xs i in (suc c.0, omega (arith, c.1), c.2)

is_in : (r : Place) (xs : List Place) (k : ℕ) → k < length xs → get_or xs k r ≡ r → In r xs
is_in r [] k h e = absurd (omega arith)
is_in r (x ∷ xs) zero h e = inl (sym e)
is_in r (x ∷ xs) (suc k) h e = inr (is_in r xs k (omega arith) e)

moved : (r : Place) (xs ys : List Place) → IsPermutation xs ys → In r xs → In r ys
moved r xs ys p i = let c = Contains-permutation xs ys r p (contained r xs i) in is_in r ys c.0 c.1 c.2

placed : (r : Place) (xs : List Place) → In r xs → In (place_of r) (places_of xs)
placed r [] i = i
placed r (x ∷ xs) (inl e) = inl (ap place_of e)
placed r (x ∷ xs) (inr i) = inr (placed r xs i)

abbrev unplaced : accepting.Place → Place
unplaced p = record { at = p.at; rule = p.broken }

taken : (p : accepting.Place) (xs : List Place) → In p (places_of xs) → In (unplaced p) xs
taken p [] i = i
taken p (x ∷ xs) (inl e) = inl (ap unplaced e)
taken p (x ∷ xs) (inr i) = inr (taken p xs i)

-- xs are the places as given, ys as sorted, and zs without repeats
pub ordered : (xs ys zs : List Place) → IsPermutation xs ys → IsSortedBy less ys → zs ≡ dedup same ys → places_of zs ≡ sorted (places_of xs)
ordered xs ys zs p s e =
    let back = IsPermutation-sym xs ys p in
    ap places_of e ∙
    unique (places_of (dedup same ys)) (sorted (places_of xs)) (rises_deduped ys s) (rises_sorted (places_of xs))
    (λ r i. to_sorted r (places_of xs) (placed (unplaced r) xs (moved (unplaced r) ys xs back (from_deduped (unplaced r) ys (taken r (dedup same ys) i)))))
    (λ r i. placed (unplaced r) (dedup same ys) (to_deduped (unplaced r) ys (moved (unplaced r) xs ys p (taken r xs (from_sorted r (places_of xs) i)))))
