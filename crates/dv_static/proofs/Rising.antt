-- A list of places that rises is told by its members, and `sorted` rises.
use Rattle.std.proofs.Common.{◌≡◌, ◌⊎◌, inl, inr, Bool, true, false, List, [], ◌∷◌, refl, sym, ap, ◌∙◌}
use Rattle.dv_typing.specs.Accepting.{Place, is_before, inserted, sorted}
use Rattle.dv_static.proofs.PlaceOrder.{asym, trans, total}

abbrev pub In : {X : Type 0} → X → List X → Type 0
In x [] = ⊥
In x (y ∷ ys) = (x ≡ y) ⊎ In x ys

-- a place is before each of a list
abbrev pub Leads : Place → List Place → Type 0
Leads p [] = Unit
Leads p (q ∷ qs) = (is_before p q ≡ true) × Leads p qs

-- each is before those after it
abbrev pub Rises : List Place → Type 0
Rises [] = Unit
Rises (p ∷ ps) = Leads p ps × Rises ps

-- ---- a rising list is told by its members

led : (p q : Place) (qs : List Place) → Leads p qs → In q qs → is_before p q ≡ true
led p q [] l i = absurd i
led p q (r ∷ qs) l (inl e) = ap (is_before p) e ∙ l.0
led p q (r ∷ qs) l (inr i) = led p q qs l.1 i

never : (p : Place) → is_before p p ≡ true → ⊥
never p e = asym p p e e

first_by : (p q : Place) (ps qs : List Place) → Leads p ps → Leads q qs → (p ≡ q) ⊎ In p qs → (q ≡ p) ⊎ In q ps → p ≡ q
first_by p q ps qs l m (inl e) j = e
first_by p q ps qs l m (inr i) (inl e) = sym e
first_by p q ps qs l m (inr i) (inr j) = absurd (asym p q (led p q ps l j) (led q p qs m i))

-- a member of the rest is one of the other's rest
rest_by : (p q r : Place) (ps qs : List Place) → p ≡ q → Leads p ps → In r ps → (r ≡ q) ⊎ In r qs → In r qs
rest_by p q r ps qs e l i (inr j) = j
rest_by p q r ps qs e l i (inl f) = absurd (never p (ap (is_before p) (e ∙ sym f) ∙ led p r ps l i))

pub unique : (ps qs : List Place) → Rises ps → Rises qs → ((r : Place) → In r ps → In r qs) → ((r : Place) → In r qs → In r ps) → ps ≡ qs
unique [] [] l m f g = refl
unique [] (q ∷ qs) l m f g = absurd (g q (inl refl))
unique (p ∷ ps) [] l m f g = absurd (f p (inl refl))
unique (p ∷ ps) (q ∷ qs) l m f g =
    let first = first_by p q ps qs l.0 m.0 (f p (inl refl)) (g q (inl refl)) in
    let rest = unique ps qs l.1 m.1
    (λ r i. rest_by p q r ps qs first l.0 i (f r (inr i)))
    (λ r i. rest_by q p r qs ps (sym first) m.0 i (g r (inr i))) in
    cc

-- ---- `sorted` rises and has the same members

abbrev insert_if : Bool → Bool → Place → Place → List Place → List Place
insert_if b c p q qs = elim b [ true ↦ p ∷ q ∷ qs | false ↦ elim c [ true ↦ q ∷ inserted p qs | false ↦ q ∷ qs ] ]

abbrev SplitsTo : Place → Place → List Place → List Place → Type 0
SplitsTo r p qs rs = In r rs → (r ≡ p) ⊎ In r qs

from_inserted_by : (b c : Bool) (r p q : Place) (qs : List Place) → (In r (inserted p qs) → (r ≡ p) ⊎ In r qs) → In r (insert_if b c p q qs) → (r ≡ p) ⊎ In r (q ∷ qs)
from_inserted_by true c r p q qs f i = i
from_inserted_by false true r p q qs f (inl e) = inr (inl e)
from_inserted_by false true r p q qs f (inr i) = go (f i)
  where
    go : (r ≡ p) ⊎ In r qs → (r ≡ p) ⊎ In r (q ∷ qs)
    go (inl e) = inl e
    go (inr j) = inr (inr j)
from_inserted_by false false r p q qs f i = inr i

from_inserted : (r p : Place) (qs : List Place) → In r (inserted p qs) → (r ≡ p) ⊎ In r qs
from_inserted r p [] i = i
from_inserted r p (q ∷ qs) i = from_inserted_by (is_before p q) (is_before q p) r p q qs (from_inserted r p qs) i

to_inserted_by : (b c : Bool) (r p q : Place) (qs : List Place) → is_before p q ≡ b → is_before q p ≡ c → ((r ≡ p) ⊎ In r qs → In r (inserted p qs)) → (r ≡ p) ⊎ In r (q ∷ qs) → In r (insert_if b c p q qs)
to_inserted_by true c r p q qs e f g i = i
to_inserted_by false true r p q qs e f g (inl h) = inr (g (inl h))
to_inserted_by false true r p q qs e f g (inr (inl h)) = inl h
to_inserted_by false true r p q qs e f g (inr (inr i)) = inr (g (inr i))
to_inserted_by false false r p q qs e f g (inl h) = inl (h ∙ total p q e f)
to_inserted_by false false r p q qs e f g (inr i) = i

to_inserted : (r p : Place) (qs : List Place) → (r ≡ p) ⊎ In r qs → In r (inserted p qs)
to_inserted r p [] i = i
to_inserted r p (q ∷ qs) i = to_inserted_by (is_before p q) (is_before q p) r p q qs refl refl (to_inserted r p qs) i

leads_inserted_by : (b c : Bool) (o p q : Place) (qs : List Place) → is_before o p ≡ true → Leads o (q ∷ qs) → Leads o (inserted p qs) → Leads o (insert_if b c p q qs)
leads_inserted_by true c o p q qs e l m = (e, l)
leads_inserted_by false true o p q qs e l m = (l.0, m)
leads_inserted_by false false o p q qs e l m = l

leads_inserted : (o p : Place) (qs : List Place) → is_before o p ≡ true → Leads o qs → Leads o (inserted p qs)
leads_inserted o p [] e l = (e, tt)
leads_inserted o p (q ∷ qs) e l = leads_inserted_by (is_before p q) (is_before q p) o p q qs e l (leads_inserted o p qs e l.1)

leads_on : (p q : Place) (qs : List Place) → is_before p q ≡ true → Leads q qs → Leads p qs
leads_on p q [] e l = tt
leads_on p q (r ∷ qs) e l = (trans p q r e l.0, leads_on p q qs e l.1)

rises_inserted_by : (b c : Bool) (p q : Place) (qs : List Place) → is_before p q ≡ b → is_before q p ≡ c → Rises (q ∷ qs) → Rises (inserted p qs) → Rises (insert_if b c p q qs)
rises_inserted_by true c p q qs e f l m = ((e, leads_on p q qs e l.0), l)
rises_inserted_by false true p q qs e f l m = (leads_inserted q p qs f l.0, m)
rises_inserted_by false false p q qs e f l m = l

rises_inserted : (p : Place) (qs : List Place) → Rises qs → Rises (inserted p qs)
rises_inserted p [] l = (tt, tt)
rises_inserted p (q ∷ qs) l = rises_inserted_by (is_before p q) (is_before q p) p q qs refl refl l (rises_inserted p qs l.1)

pub rises_sorted : (ps : List Place) → Rises (sorted ps)
rises_sorted [] = tt
rises_sorted (p ∷ ps) = rises_inserted p (sorted ps) (rises_sorted ps)

kept_or : {A B C : Type 0} → A ⊎ B → (B → C) → A ⊎ C
kept_or (inl a) f = inl a
kept_or (inr b) f = inr (f b)

pub from_sorted : (r : Place) (ps : List Place) → In r (sorted ps) → In r ps
from_sorted r [] i = i
from_sorted r (p ∷ ps) i = kept_or (from_inserted r p (sorted ps) i) (from_sorted r ps)

pub to_sorted : (r : Place) (ps : List Place) → In r ps → In r (sorted ps)
to_sorted r [] i = i
to_sorted r (p ∷ ps) (inl e) = to_inserted r p (sorted ps) (inl e)
to_sorted r (p ∷ ps) (inr i) = to_inserted r p (sorted ps) (inr (to_sorted r ps i))
