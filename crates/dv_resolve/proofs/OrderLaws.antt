-- Laws of the orders of look-ups: one more class, and searches that begin behind the front.
use Rattle.std.specs.Prelude.{ℕ, zero, suc, ◌≡◌, ◌<◌, ◌≤◌, ◌+◌, ◌-◌, Bool, true, false, List, [], ◌∷◌, ◌++◌, length, drop, take, set, min, get_or, flat_map, slice_get, slice_index_or, Option, Some, None, is_some, option_map}
use Rattle.std.specs.Option.{option_or}
use Rattle.std.proofs.Common.{◌⊎◌, inl, inr, refl, ap, sym, subst, ◌∙◌, ⊎_elim, append_assoc, append-nil, arith}
use Rattle.std.proofs.lemmas.Bool.{cases_eq, cases_lt}
use Rattle.std.proofs.lemmas.List.{take_more, get_or-set_same, get_or-set_other, get_or_past, length-set}
use Rattle.dv_defs.specs.declared.names.ClassId.{ClassId}
use Rattle.dv_defs.specs.First.{first_in}
use Rattle.dv_defs.specs.Images.{Image}
use Rattle.dv_defs.specs.LookUp.{interfaces_above, method_classes, once}
use Rattle.dv_defs.specs.Order.{has_number, numbers}
use Rattle.dv_defs.specs.Pools.{class_number, parent_at, supers, walk}
use Rattle.law_linking.proofs.OnceNumbers.{first_in_once}
use Rattle.law_linking.specs.Ordered.{IsOrdered}
use Rattle.law_linking.specs.Stripped.{AreInRange}
use Rattle.law_linking.proofs.Reach.{above_in, number_first, number_cases}
use Rattle.law_linking.proofs.ReachPlaces.{IsAcyclic, place, place_bounded, place_rises}
use Rattle.law_linking.proofs.Upward.{first_in_append, first_in_flat, has_cases, has_left, has_right, parent_is_above, walk_same}
use Rattle.dv_resolve.specs.declared.members.Member.{Member}
use Rattle.dv_resolve.specs.declared.orders.Order.{Order}
use Rattle.dv_resolve.specs.declared.orders.Orders.{Orders}
use Rattle.dv_resolve.specs.Members.{AreAllOf}
use Rattle.dv_resolve.specs.Orders.{AreKnown, GoesOn, IsLookedUpIn, IsNoted, IsOrdersOf, KnowsRest, fields_through, listed_at, place_of}

-- ---- the first of what is found

or_nothing : {Y : Type 0} (o : Option Y) → option_or o None ≡ o
or_nothing None = refl
or_nothing (Some y) = refl

or_assoc : {Y : Type 0} (o p q : Option Y) → option_or (option_or o p) q ≡ option_or o (option_or p q)
or_assoc None p q = refl
or_assoc (Some y) p q = refl

-- a number gives nothing where none of those among which it is gives anything
none_of : {Y : Type 0} (f : ℕ → Option Y) (c : ℕ) (xs : List ℕ) → has_number c xs ≡ true → first_in f xs ≡ None → f c ≡ None
none_of f c [] there none = absurd (cc)
none_of f c (x ∷ xs) there none = ⊎_elim (λ same. ap f (sym same) ∙ front (f x) none) (λ later. none_of f c xs later (back (f x) none)) (number_cases c x xs there)
  where
    front : (o : Option _) → option_or o (first_in f xs) ≡ None → o ≡ None
    front None e = refl
    front (Some y) e = e

    back : (o : Option _) → option_or o (first_in f xs) ≡ None → first_in f xs ≡ None
    back None e = e
    back (Some y) e = absurd (cc)

-- a number that is there already changes nothing
once_more : {Y : Type 0} (f : ℕ → Option Y) (c : ℕ) (xs : List ℕ) (rest : Option Y) → has_number c xs ≡ true → option_or (first_in f xs) (option_or (f c) rest) ≡ option_or (first_in f xs) rest
once_more {Y} f c xs rest there = by (first_in f xs) (none_of f c xs there)
  where
    by : (o : Option Y) → (o ≡ None → f c ≡ None) → option_or o (option_or (f c) rest) ≡ option_or o rest
    by None none = ap (λ p. option_or p rest) (none refl)
    by (Some y) none = refl

-- ---- lists with one more number

numbers_last : (xs : List ClassId) (x : ClassId) → numbers (xs ++ x ∷ []) ≡ numbers xs ++ x.0 ∷ []
numbers_last [] x = refl
numbers_last (y ∷ ys) x = ap (λ ns. y.0 ∷ ns) (numbers_last ys x)

length-numbers : (xs : List ClassId) → length (numbers xs) ≡ length xs
length-numbers [] = refl
length-numbers (x ∷ xs) = ap suc (length-numbers xs)

numbers_drop : (n : ℕ) (xs : List ClassId) → numbers (drop n xs) ≡ drop n (numbers xs)
numbers_drop zero xs = refl
numbers_drop (suc n) [] = refl
numbers_drop (suc n) (x ∷ xs) = numbers_drop n xs

slice_get-number : (xs : List ClassId) (i : ℕ) (d : ClassId) → i < length xs → slice_get (numbers xs) i ≡ Some (get_or xs i d).0
slice_get-number [] i d within = absurd (omega arith)
slice_get-number (x ∷ xs) zero d within = refl
slice_get-number (x ∷ xs) (suc i) d within = slice_get-number xs i d (omega (arith, within))

-- what stands at a place of a longer list stood there before, or is the last
last_or_before : (xs : List ℕ) (x j c : ℕ) → slice_get (xs ++ x ∷ []) j ≡ Some c → (slice_get xs j ≡ Some c) ⊎ ((j ≡ length xs) × (x ≡ c))
last_or_before [] x zero c is = inr (refl, cc)
last_or_before [] x (suc j) c is = absurd (cc)
last_or_before (y ∷ ys) x zero c is = inl is
last_or_before (y ∷ ys) x (suc j) c is = ⊎_elim (λ before. inl before) (λ last. inr (ap suc last.0, last.1)) (last_or_before ys x j c is)

-- ---- places

place_set : (ps : List ℕ) (c v : ℕ) → place_of (set ps c v) c ≤ v
place_set ps c v = ⊎_elim inside beyond (cases_lt c (length ps))
  where
    inside : c < length ps → place_of (set ps c v) c ≤ v
    inside within = omega (arith, get_or-set_same ps c v 0 within)

    beyond : length ps ≤ c → place_of (set ps c v) c ≤ v
    beyond past = omega (arith, length-set ps c v, get_or_past (set ps c v) c 0 (omega (arith, past, length-set ps c v)))

place_set_other : (ps : List ℕ) (c d v : ℕ) → (c ≡ d → ⊥) → place_of (set ps c v) d ≡ place_of ps d
place_set_other ps c d v other = get_or-set_other ps c d v 0 (λ same. other (sym same))

place_beyond : (ps : List ℕ) (c : ℕ) → length ps ≤ c → place_of ps c ≡ 0
place_beyond ps c past = get_or_past ps c 0 past

-- ---- one more class

pub noted_length : (old new : List ℕ) (c place : ℕ) (b : Bool) → IsNoted old new c place b → length new ≡ length old
noted_length old new c place true noted = ap length noted.0 ∙ length-set old c (min place 65535)
noted_length old new c place false noted = ap length noted.0

pub one_more : (old new : Order) (class : ClassId) (place : ℕ) (rest whole : List ℕ) → GoesOn old (class.0 ∷ rest) whole → new.classes.items ≡ old.classes.items ++ class ∷ []
    → place ≡ length old.classes.items → IsNoted old.places.items new.places.items class.0 place true → GoesOn new rest whole
one_more old new class place rest whole before made last noted = record { first = first; there = there; least = least }
  where
    xs : List ℕ
    xs = numbers old.classes.items

    are : numbers new.classes.items ≡ xs ++ class.0 ∷ []
    are = ap numbers made ∙ numbers_last old.classes.items class

    first : (f : ℕ → Option Member) → option_or (first_in f (numbers new.classes.items)) (first_in f rest) ≡ first_in f whole
    first f =
        ap (λ (ns : List ℕ). option_or (first_in f ns) (first_in f rest)) are
        ∙ (ap (λ o. option_or o (first_in f rest)) (first_in_append f xs (class.0 ∷ []) ∙ ap (option_or (first_in f xs)) (or_nothing (f class.0)))
        ∙ (or_assoc (first_in f xs) (f class.0) (first_in f rest) ∙ before.first f))

    kept : (d : ℕ) → (class.0 ≡ d → ⊥) → place_of new.places.items d ≡ place_of old.places.items d
    kept d other = ap (λ (ps : List ℕ). place_of ps d) noted.0 ∙ place_set_other old.places.items class.0 d (min place 65535) other

    many : length new.places.items ≡ length old.places.items
    many = ap length noted.0 ∙ length-set old.places.items class.0 (min place 65535)

    low : place_of new.places.items class.0 ≤ min place 65535
    low = subst (λ (ps : List ℕ). place_of ps class.0 ≤ min place 65535) (sym noted.0) (place_set old.places.items class.0 (min place 65535))

    there : (d : ℕ) → d < length new.places.items → place_of new.places.items d < 65535 → has_number d (numbers new.classes.items) ≡ true
    there d within told = ap (has_number d) are ∙ ⊎_elim same other (cases_eq class.0 d)
      where
        same : class.0 ≡ d → has_number d (xs ++ class.0 ∷ []) ≡ true
        same e = has_right d xs (class.0 ∷ []) (ap (λ n. has_number n (class.0 ∷ [])) (sym e) ∙ number_first class.0 [])

        other : (class.0 ≡ d → ⊥) → has_number d (xs ++ class.0 ∷ []) ≡ true
        other ne = has_left d xs (class.0 ∷ []) (before.there d (omega (arith, within, many)) (omega (arith, told, kept d ne)))

    old_place : (j d : ℕ) → slice_get xs j ≡ Some d → place_of new.places.items d ≤ j
    old_place j d is = ⊎_elim same other (cases_eq class.0 d)
      where
        was : place_of old.places.items d ≤ j
        was = before.least j d is

        same : class.0 ≡ d → place_of new.places.items d ≤ j
        same e = subst (λ n. place_of new.places.items n ≤ j) e (⊎_elim inside beyond (cases_lt class.0 (length old.places.items)))
          where
            inside : class.0 < length old.places.items → place_of new.places.items class.0 ≤ j
            inside within =
                let none : 65535 ≤ place_of old.places.items class.0 = noted.1 within in
                let high : place_of old.places.items class.0 ≤ j = subst (λ n. place_of old.places.items n ≤ j) (sym e) was in
                omega (arith, none, high, low)

            beyond : length old.places.items ≤ class.0 → place_of new.places.items class.0 ≤ j
            beyond past = omega (arith, place_beyond new.places.items class.0 (omega (arith, past, many)))

        other : (class.0 ≡ d → ⊥) → place_of new.places.items d ≤ j
        other ne = omega (arith, was, kept d ne)

    least : (j d : ℕ) → slice_get (numbers new.classes.items) j ≡ Some d → place_of new.places.items d ≤ j
    least j d is =
        ⊎_elim (λ then. old_place j d then)
        (λ end. subst (λ n. place_of new.places.items n ≤ j) end.1 (omega (arith, end.0, low, last, length-numbers old.classes.items)))
        (last_or_before xs class.0 j d (ap (λ (ns : List ℕ). slice_get ns j) (sym are) ∙ is))

pub there_already : (old new : Order) (class : ClassId) (place : ℕ) (rest whole : List ℕ) → GoesOn old (class.0 ∷ rest) whole → new.classes.items ≡ old.classes.items
    → IsNoted old.places.items new.places.items class.0 place false → GoesOn new rest whole
there_already old new class place rest whole before same noted = record {
  first = λ f. ap (λ (cs : List ClassId). option_or (first_in f (numbers cs)) (first_in f rest)) same
      ∙ (sym (once_more f class.0 (numbers old.classes.items) (first_in f rest) (before.there class.0 noted.1 noted.2)) ∙ before.first f);
  there = λ d within told. ap (λ (cs : List ClassId). has_number d (numbers cs)) same
      ∙ before.there d (subst (λ (ps : List ℕ). d < length ps) noted.0 within) (subst (λ (ps : List ℕ). place_of ps d < 65535) noted.0 told);
  least = λ j d is. subst (λ (ps : List ℕ). place_of ps d ≤ j) (sym noted.0) (before.least j d (ap (λ (cs : List ClassId). slice_get (numbers cs) j) (sym same) ∙ is));
}

-- ---- up the superclasses

pub climbs : (image : Image) (many count : ℕ) (at next : Option ClassId) (id : ClassId) (up new : List ClassId) (aim : List ℕ) → count < many → at ≡ Some id → new ≡ up ++ id ∷ []
    → class_number next ≡ parent_at image id.0 → numbers up ++ walk image (many - count) (class_number at) ≡ aim → numbers new ++ walk image (many - (count + 1)) (class_number next) ≡ aim
climbs image many count at next id up new aim within is made parent before =
    let e : many - count ≡ suc (many - (count + 1)) = omega arith in
    ap (λ (xs : List ClassId). numbers xs ++ walk image (many - (count + 1)) (class_number next)) made
    ∙ (ap (λ (ns : List ℕ). ns ++ walk image (many - (count + 1)) (class_number next)) (numbers_last up id)
    ∙ (append_assoc (numbers up) (id.0 ∷ []) (walk image (many - (count + 1)) (class_number next))
    ∙ (ap (λ o. numbers up ++ id.0 ∷ walk image (many - (count + 1)) o) parent
    ∙ ((λ p. numbers up ++ walk image (sym e p) (class_number (sym is p))) ∙ before))))

no_more : (image : Image) (n : ℕ) → walk image n None ≡ []
no_more image zero = refl
no_more image (suc n) = refl

pub climbed : (image : Image) (n : ℕ) (at : Option ClassId) (up : List ClassId) (aim : List ℕ) → at ≡ None → numbers up ++ walk image n (class_number at) ≡ aim → numbers up ≡ aim
climbed image n at up aim none before =
    sym (append-nil (numbers up))
    ∙ (ap (λ (ns : List ℕ). numbers up ++ ns) (sym (no_more image n)) ∙ (ap (λ (o : Option ClassId). numbers up ++ walk image n (class_number o)) (sym none) ∙ before))

-- ---- whole orders

finds_same : (order : Order) (whole classes : List ℕ) → GoesOn order [] whole → ((f : ℕ → Option Member) → first_in f whole ≡ first_in f classes) → IsLookedUpIn order classes
finds_same order whole classes goes same = record {
  first = λ f. sym (or_nothing (first_in f (numbers order.classes.items))) ∙ (goes.first f ∙ same f);
  least = goes.least;
}

listed_through : (g h : ℕ → List ℕ) (cs : List ℕ) → ((c : ℕ) → g c ≡ h c) → flat_map g cs ≡ flat_map h cs
listed_through g h cs same = λ p. flat_map (λ c. same c p) cs

along : (image : Image) (interfaces : List (List ClassId)) (up : List ℕ) → ((d : ℕ) → numbers (slice_index_or interfaces d []) ≡ once (interfaces_above image d))
    → fields_through interfaces up ≡ flat_map (λ d. d ∷ once (interfaces_above image d)) up
along image interfaces up are = listed_through (λ d. d ∷ listed_at interfaces d) (λ d. d ∷ once (interfaces_above image d)) up (λ d. ap (λ (ns : List ℕ). d ∷ ns) (are d))

-- what the classes themselves give needn't be asked for again
own_apart : {Y : Type 0} (f : ℕ → Option Y) (g : ℕ → List ℕ) (up : List ℕ) → option_or (first_in f up) (first_in f (flat_map (λ d. d ∷ g d) up)) ≡ option_or (first_in f up) (first_in f (flat_map g up))
own_apart {Y} f g up = by (first_in f up) (λ none. first_in_flat f (λ d. d ∷ g d) g up (λ d there. ap (λ o. option_or o (first_in f (g d))) (none_of f d up there none)))
  where
    by : (o : Option Y) → (o ≡ None → first_in f (flat_map (λ d. d ∷ g d) up) ≡ first_in f (flat_map g up)) → option_or o (first_in f (flat_map (λ d. d ∷ g d) up)) ≡ option_or o (first_in f (flat_map g up))
    by None same = same refl
    by (Some y) same = refl

pub both_orders : (image : Image) (interfaces : List (List ClassId)) (up : List ℕ) (c : ℕ) (orders : Orders) → up ≡ supers image c
    → ((d : ℕ) → numbers (slice_index_or interfaces d []) ≡ once (interfaces_above image d))
    → GoesOn orders.fields [] (fields_through interfaces up) → GoesOn orders.methods [] (up ++ numbers orders.fields.classes.items) → IsOrdersOf image c orders
both_orders image interfaces up c orders is are fields methods = record {
  fields = finds_same orders.fields (fields_through interfaces up) _ fields (λ f. ap (first_in f) (along image interfaces up are ∙ ap (flat_map (λ d. d ∷ once (interfaces_above image d))) is));
  methods = finds_same orders.methods (up ++ numbers orders.fields.classes.items) (method_classes image c) methods beside;
}
  where
    whole : (f : ℕ → Option Member) → first_in f (numbers orders.fields.classes.items) ≡ first_in f (fields_through interfaces up)
    whole f = sym (or_nothing (first_in f (numbers orders.fields.classes.items))) ∙ fields.first f

    beside : (f : ℕ → Option Member) → first_in f (up ++ numbers orders.fields.classes.items) ≡ first_in f (method_classes image c)
    beside f =
        first_in_append f up (numbers orders.fields.classes.items)
        ∙ (ap (option_or (first_in f up)) (whole f)
        ∙ (own_apart f (listed_at interfaces) up
        ∙ (ap (option_or (first_in f up))
        (first_in_flat f (listed_at interfaces) (interfaces_above image) up (λ d there. ap (first_in f) (are d) ∙ first_in_once f (interfaces_above image d)))
        ∙ (sym (first_in_append f up (flat_map (interfaces_above image) up))
        ∙ ap (λ (ns : List ℕ). first_in f (ns ++ flat_map (interfaces_above image) ns)) is))))

-- what is left of the superclasses from one of them on is its own
from_one : (image : Image) → AreInRange image.classes → IsAcyclic image → (n : ℕ) (o : Option ℕ) (i d : ℕ) → ((c : ℕ) → o ≡ Some c → (c < length image.classes) × (place image c < n))
    → slice_get (walk image n o) i ≡ Some d → drop i (walk image n o) ≡ supers image d
from_one image range acyclic zero o i d low is = absurd (cc)
from_one image range acyclic (suc n) None i d low is = absurd (cc)
from_one image range acyclic (suc n) (Some c) zero d low is =
    let same : c ≡ d = cc in
    let here = low c refl in
    walk_same image range acyclic (suc n) (length image.classes) c here.1 (place_bounded image acyclic c here.0) ∙ ap (supers image) same
from_one image range acyclic (suc n) (Some c) (suc i) d low is =
    from_one image range acyclic n (parent_at image c) i d
    (λ p up. let above = parent_is_above image c p up in let less = place_rises image range acyclic c p above in let here = low c refl in (above_in image range c p above, omega (arith, less, here.1)))
    is

pub knows_rest : (image : Image) (interfaces : List (List ClassId)) (known : List Orders) (up : List ℕ) (c : ℕ) → IsOrdered image → c < length image.classes → up ≡ supers image c
    → ((d : ℕ) → numbers (slice_index_or interfaces d []) ≡ once (interfaces_above image d)) → AreKnown image known → KnowsRest known interfaces up
knows_rest image interfaces known up c ordered within is are all = λ i d orders at there f.
    let rest : drop i (supers image c) ≡ supers image d =
    from_one image ordered.range ordered.acyclic (length image.classes) (Some c) i d
    (λ e same. let like : c ≡ e = cc in subst (λ n. (n < length image.classes) × (place image n < length image.classes)) like (within, place_bounded image ordered.acyclic c within))
    (ap (λ (ns : List ℕ). slice_get ns i) (sym is) ∙ at) in
    (all d orders there).fields.first f
    ∙ ap (first_in f) (sym (along image interfaces (supers image d) are) ∙ ap (fields_through interfaces) (sym rest ∙ ap (drop i) (sym is)))

-- what is left is as an order that is known
pub taken_over : (order : Order) (known : List Orders) (interfaces : List (List ClassId)) (up : List ClassId) (i : ℕ) (d : ClassId) (orders : Orders) (whole : List ℕ) → KnowsRest known interfaces (numbers up)
    → i < length up → slice_get known (get_or up i d).0 ≡ Some orders → GoesOn order (fields_through interfaces (numbers (drop i up))) whole → GoesOn order (numbers orders.fields.classes.items ++ []) whole
taken_over order known interfaces up i d orders whole knows within there before = record {
  first = λ f. ap (option_or (first_in f (numbers order.classes.items)))
      (ap (first_in f) (append-nil (numbers orders.fields.classes.items))
      ∙ (knows i (get_or up i d).0 orders (slice_get-number up i d within) there f ∙ ap (λ (ns : List ℕ). first_in f (fields_through interfaces ns)) (sym (numbers_drop i up))))
      ∙ before.first f;
  there = before.there;
  least = before.least;
}

-- the orders of one more class
pub orders_more : (image : Image) (all new : List Orders) (class : ℕ) (last : Orders) → length all ≡ class → ((c : ℕ) (orders : Orders) → slice_get all c ≡ Some orders → IsOrdersOf image c orders)
    → new ≡ all ++ last ∷ [] → IsOrdersOf image class last → (c : ℕ) (orders : Orders) → slice_get new c ≡ Some orders → IsOrdersOf image c orders
orders_more image all new class last many before made right c orders is = go all c (ap (λ (os : List Orders). slice_get os c) (sym made) ∙ is) (before c orders) (λ at. at ∙ many)
  where
    go : (os : List Orders) (j : ℕ) → slice_get (os ++ last ∷ []) j ≡ Some orders → (slice_get os j ≡ Some orders → IsOrdersOf image c orders) → (j ≡ length os → c ≡ class) → IsOrdersOf image c orders
    go [] zero here old end =
        let same : last ≡ orders = cc in
        subst (λ n. IsOrdersOf image n orders) (sym (end refl)) (subst (λ (o : Orders). IsOrdersOf image class o) same right)
    go [] (suc j) here old end = absurd (cc)
    go (o ∷ os) zero here old end = old here
    go (o ∷ os) (suc j) here old end = go os j here old (λ at. end (ap suc at))

-- ---- the place of the first of some classes

pub place_taken : (cs : List ClassId) (i : ℕ) (d : ClassId) (places : List ℕ) (first next : ℕ) → i < length cs → ((c : ℕ) → has_number c (numbers (take i cs)) ≡ true → first ≤ place_of places c)
    → next ≤ first → next ≤ place_of places (get_or cs i d).0 → (c : ℕ) → has_number c (numbers (take (i + 1) cs)) ≡ true → next ≤ place_of places c
place_taken cs i d places first next within before low here c there =
    let are : numbers (take (i + 1) cs) ≡ numbers (take i cs) ++ (get_or cs i d).0 ∷ [] = ap numbers (take_more cs i d within) ∙ numbers_last (take i cs) (get_or cs i d) in
    ⊎_elim
    (λ left. let less : first ≤ place_of places c = before c left in omega (arith, less, low))
    (λ right. ⊎_elim (λ same. subst (λ n. next ≤ place_of places n) same here) (λ none. absurd (cc)) (number_cases c (get_or cs i d).0 [] right))
    (has_cases c (numbers (take i cs)) ((get_or cs i d).0 ∷ []) (ap (has_number c) (sym are) ∙ there))

-- ---- searches that begin behind the front

skipped : {Y : Type 0} (g : ℕ → Option Y) (xs : List ℕ) (from : ℕ) → ((j c : ℕ) → slice_get xs j ≡ Some c → j < from → g c ≡ None) → first_in g (drop from xs) ≡ first_in g xs
skipped g [] zero none = refl
skipped g [] (suc from) none = refl
skipped g (x ∷ xs) zero none = refl
skipped g (x ∷ xs) (suc from) none =
    skipped g xs from (λ j c is before. none (suc j) c is (omega (arith, before)))
    ∙ ap (λ o. option_or o (first_in g xs)) (sym (none 0 x refl (omega arith)))

mapped : {Y : Type 0} (of : Y → Member) (g : ℕ → Option Y) (xs : List ℕ) → first_in (λ c. option_map of (g c)) xs ≡ option_map of (first_in g xs)
mapped of g [] = refl
mapped of g (x ∷ xs) = ap (option_or (option_map of (g x))) (mapped of g xs) ∙ by (g x) (first_in g xs)
  where
    by : (o p : Option _) → option_or (option_map of o) (option_map of p) ≡ option_map of (option_or o p)
    by None p = refl
    by (Some y) p = refl

-- where no class stands before its place, a search from the place of the first that finds something is the whole search
pub from_first : {Y : Type 0} (of : Y → Member) (g : ℕ → Option Y) (order : Order) (classes : List ℕ) (declarers : List ClassId) (from : ℕ) → IsLookedUpIn order classes → AreAllOf g declarers
    → ((c : ℕ) → has_number c (numbers declarers) ≡ true → from ≤ place_of order.places.items c)
    → option_map of (first_in g (numbers (drop from order.classes.items))) ≡ option_map of (first_in g classes)
from_first {Y} of g order classes declarers from looked all first =
    ap (λ (ns : List ℕ). option_map of (first_in g ns)) (numbers_drop from order.classes.items)
    ∙ (ap (option_map of) (skipped g (numbers order.classes.items) from before)
    ∙ (sym (mapped of g (numbers order.classes.items)) ∙ (looked.first (λ c. option_map of (g c)) ∙ mapped of g classes)))
  where
    before : (j c : ℕ) → slice_get (numbers order.classes.items) j ≡ Some c → j < from → g c ≡ None
    before j c is early = by (g c) refl
      where
        by : (o : Option Y) → g c ≡ o → o ≡ None
        by None e = refl
        by (Some y) e =
            let low : place_of order.places.items c ≤ j = looked.least j c is in
            let high : from ≤ place_of order.places.items c = first c (all c (ap is_some e)) in
            absurd (omega (arith, low, high, early))
