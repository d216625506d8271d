-- Laws of what is reached by going up from class to class.
use Rattle.std.specs.Prelude.{ℕ, zero, suc, ◌≡◌, ◌<◌, ◌≤◌, Bool, true, false, List, [], ◌∷◌, length, Option, Some, None, nat_eq, slice_get, All, IfSome, ◌⊎◌}
use Rattle.std.proofs.Common.{refl, sym, ◌∙◌, ap, subst, inl, inr, ⊎_elim, arith}
use Rattle.std.proofs.lemmas.Bool.{eqb-true, eq-eqb}
use Rattle.std.proofs.lemmas.List.Elements.{All-head, All-tail}
use Rattle.dv_defs.specs.declared.names.ClassId.{ClassId}
use Rattle.dv_defs.specs.declared.image.ClassInfo.{ClassInfo}
use Rattle.dv_defs.specs.Images.{Image}
use Rattle.dv_defs.specs.Pools.{class_number, parent_of}
use Rattle.dv_defs.specs.Order.{has_number, numbers, interfaces_of, with_parent, above, any_of, reaches, implements}
use Rattle.law_linking.specs.Stripped.{IsInRange, AreInRange}

less_or_same : (i n : ℕ) → i < suc n → (i < n) ⊎ (i ≡ n)
less_or_same i n within = grind arith

pub less_or_not : (m n : ℕ) → (m < n) ⊎ (n ≤ m)
less_or_not m n = grind arith

-- ---- lists of numbers

either : (b c : Bool) → elim b [ true ↦ true | false ↦ c ] ≡ true → (b ≡ true) ⊎ (c ≡ true)
either true c h = inl refl
either false c h = inr h

first : (b c : Bool) → b ≡ true → elim b [ true ↦ true | false ↦ c ] ≡ true
first true c h = refl
first false c h = absurd (cc)

second : (b c : Bool) → c ≡ true → elim b [ true ↦ true | false ↦ c ] ≡ true
second true c h = refl
second false c h = h

pub number_first : (c : ℕ) (cs : List ℕ) → has_number c (c ∷ cs) ≡ true
number_first c cs = first (nat_eq c c) (has_number c cs) (eq-eqb c c refl)

pub number_later : (d c : ℕ) (cs : List ℕ) → has_number d cs ≡ true → has_number d (c ∷ cs) ≡ true
number_later d c cs h = second (nat_eq c d) (has_number d cs) h

pub number_cases : (d c : ℕ) (cs : List ℕ) → has_number d (c ∷ cs) ≡ true → (c ≡ d) ⊎ (has_number d cs ≡ true)
number_cases d c cs h =
    ⊎_elim (λ same. inl (eqb-true c d same)) (λ later. inr later) (either (nat_eq c d) (has_number d cs) h)

-- a number of a list that passes
pub any_has : (p : ℕ → Bool) (c : ℕ) (cs : List ℕ) → has_number c cs ≡ true → p c ≡ true → any_of p cs ≡ true
any_has p c [] h passes = absurd (cc)
any_has p c (d ∷ cs) h passes =
    ⊎_elim (λ same. first (p d) (any_of p cs) (rw same passes)) (λ later. second (p d) (any_of p cs) (any_has p c cs later passes)) (number_cases c d cs h)

-- what follows from each number that passes
pub any_gives : {Y : Type 0} (p : ℕ → Bool) (cs : List ℕ) → ((c : ℕ) → has_number c cs ≡ true → p c ≡ true → Y) → any_of p cs ≡ true → Y
any_gives p [] h e = absurd (cc)
any_gives p (c ∷ cs) h e =
    ⊎_elim (λ here. h c (number_first c cs) here) (λ later. any_gives p cs (λ d has. h d (number_later d c cs has)) later) (either (p c) (any_of p cs) e)

-- ---- steps up

pub reaches_here : (image : Image) (n t : ℕ) → reaches image (suc n) t t ≡ true
reaches_here image n t = first (nat_eq t t) (any_of (reaches image n t) (above image t)) (eq-eqb t t refl)

pub reaches_up : (image : Image) (n t c d : ℕ) → has_number d (above image c) ≡ true → reaches image n t d ≡ true → reaches image (suc n) t c ≡ true
reaches_up image n t c d has h =
    second (nat_eq c t) (any_of (reaches image n t) (above image c)) (any_has (reaches image n t) d (above image c) has h)

-- what follows where the class itself is meant, and where one above it reaches
pub reaches_gives : {Y : Type 0} (image : Image) (n t c : ℕ) → (c ≡ t → Y) → ((d : ℕ) → has_number d (above image c) ≡ true → reaches image n t d ≡ true → Y) → reaches image (suc n) t c ≡ true → Y
reaches_gives image n t c here up e =
    ⊎_elim (λ same. here (eqb-true c t same)) (λ more. any_gives (reaches image n t) (above image c) up more) (either (nat_eq c t) (any_of (reaches image n t) (above image c)) e)

-- what holds of a class and of all directly above each of which it holds, holds of what is reached
pub reaches_keeps : (image : Image) (p : ℕ → Bool) → ((c d : ℕ) → p c ≡ true → has_number d (above image c) ≡ true → p d ≡ true) → (n t c : ℕ) → p c ≡ true → reaches image n t c ≡ true → p t ≡ true
reaches_keeps image p closed zero t c holds e = absurd (cc)
reaches_keeps image p closed (suc n) t c holds e =
    reaches_gives image n t c (λ same. rw (← same) holds) (λ d has more. reaches_keeps image p closed n t d (closed c d holds has) more) e

pub reaches_more : (image : Image) (n t c : ℕ) → reaches image n t c ≡ true → reaches image (suc n) t c ≡ true
reaches_more image zero t c e = absurd (cc)
reaches_more image (suc n) t c e =
    reaches_gives image n t c (λ same. rw (← same) (reaches_here image (suc n) c)) (λ d has more. reaches_up image (suc n) t c d has (reaches_more image n t d more)) e

-- one step beyond what is reached
pub reaches_beyond : (image : Image) (n t u c : ℕ) → has_number u (above image t) ≡ true → reaches image n t c ≡ true → reaches image (suc n) u c ≡ true
reaches_beyond image zero t u c has e = absurd (cc)
reaches_beyond image (suc n) t u c has e =
    reaches_gives image n t c (λ same. reaches_up image (suc n) u c u (rw same has) (reaches_here image n u)) (λ d up more. reaches_up image (suc n) u c d up (reaches_beyond image n t u d has more)) e

-- ---- all numbers are in range

numbers_in : (n : ℕ) (cs : List ClassId) → All (λ i. i.0 < n) cs → (d : ℕ) → has_number d (numbers cs) ≡ true → d < n
numbers_in n [] range d h = absurd (cc)
numbers_in n (c ∷ cs) range d h =
    ⊎_elim (λ same. subst (λ x. x < n) same (All-head (λ i. i.0 < n) c cs range)) (λ later. numbers_in n cs (All-tail (λ i. i.0 < n) c cs range) d later) (number_cases d c.0 (numbers cs) h)

-- those directly above a class
pub info_in : (n : ℕ) (info : ClassInfo) → IsInRange n info → (d : ℕ) → has_number d (with_parent (class_number info.parent) (numbers info.interfaces)) ≡ true → d < n
info_in n info range d h = parent_in n info.parent info.interfaces range.parent range.interfaces d h
  where
    parent_in : (n : ℕ) (parent : Option ClassId) (cs : List ClassId) → IfSome parent (λ p. p.0 < n) → All (λ i. i.0 < n) cs → (d : ℕ) → has_number d (with_parent (class_number parent) (numbers cs)) ≡ true → d < n
    parent_in n None cs range below d h = numbers_in n cs below d h
    parent_in n (Some p) cs range below d h =
        ⊎_elim (λ same. subst (λ x. x < n) same range) (λ later. numbers_in n cs below d later) (number_cases d p.0 (numbers cs) h)

above_at : (cs : List ClassInfo) (o : Option ClassInfo) (n d : ℕ) → IfSome o (IsInRange n) → has_number d (with_parent (parent_of o) (interfaces_of o)) ≡ true → d < n
above_at cs None n d range h = absurd (cc)
above_at cs (Some info) n d range h = info_in n info range d h

at_in : (P : ClassInfo → Type 0) (cs : List ClassInfo) → All P cs → (c : ℕ) → IfSome (slice_get cs c) P
at_in P [] all c = tt
at_in P (x ∷ xs) all zero = All-head P x xs all
at_in P (x ∷ xs) all (suc c) = at_in P xs (All-tail P x xs all) c

pub above_in : (image : Image) → AreInRange image.classes → (c d : ℕ) → has_number d (above image c) ≡ true → d < length image.classes
above_in image range c d h =
    above_at image.classes (slice_get image.classes c) (length image.classes) d (at_in (IsInRange (length image.classes)) image.classes range c) h

-- ---- so many steps do

-- how many numbers below a bound pass
pub count : (ℕ → Bool) → ℕ → ℕ
count p zero = 0
count p (suc n) = elim (p n) [ true ↦ suc (count p n) | false ↦ count p n ]

more_at : (b : Bool) (n : ℕ) → elim b [ true ↦ suc n | false ↦ n ] ≤ suc n
more_at true n = omega arith
more_at false n = omega arith

pub count_most : (p : ℕ → Bool) (n : ℕ) → count p n ≤ n
unfolding count
count_most p zero = omega arith
count_most p (suc n) =
    let before = count_most p n in
    let here = more_at (p n) (count p n) in
    omega arith

-- where one test implies the other, the counts are the same only where the tests are
turn_same : (a b : Bool) (m n : ℕ) → (a ≡ true → b ≡ true) → m ≤ n → elim a [ true ↦ suc m | false ↦ m ] ≤ elim b [ true ↦ suc n | false ↦ n ]
turn_same true true m n h le = omega arith
turn_same true false m n h le = absurd (let e : false ≡ true = h refl in cc)
turn_same false true m n h le = omega arith
turn_same false false m n h le = le

turn_back : (a b : Bool) (m n : ℕ) → (a ≡ true → b ≡ true) → m ≤ n → elim b [ true ↦ suc n | false ↦ n ] ≤ elim a [ true ↦ suc m | false ↦ m ] → (n ≤ m) × (b ≡ true → a ≡ true)
turn_back true true m n h le e = (omega arith, λ _. refl)
turn_back true false m n h le e = absurd (let e : false ≡ true = h refl in cc)
turn_back false true m n h le e = absurd (omega arith)
turn_back false false m n h le e = (e, λ f. f)

pub count_le : (p q : ℕ → Bool) (n : ℕ) → ((d : ℕ) → d < n → p d ≡ true → q d ≡ true) → count p n ≤ count q n
unfolding count
count_le p q zero h = omega arith
count_le p q (suc n) h =
    turn_same (p n) (q n) (count p n) (count q n) (h n (omega arith)) (count_le p q n (λ d below. h d (omega arith)))

pub count_same : (p q : ℕ → Bool) (n : ℕ) → ((d : ℕ) → d < n → p d ≡ true → q d ≡ true) → count q n ≤ count p n → (d : ℕ) → d < n → q d ≡ true → p d ≡ true
unfolding count
count_same p q zero h le d below = absurd (omega arith)
count_same p q (suc n) h le d below =
    let fewer = count_le p q n (λ d below. h d (omega arith)) in
    let parts = turn_back (p n) (q n) (count p n) (count q n) (h n (omega arith)) fewer le in
    ⊎_elim (λ less. count_same p q n (λ d below. h d (omega arith)) parts.0 d less) (λ same. subst (λ x. q x ≡ true → p x ≡ true) (sym same) parts.1) (less_or_same d n below)

-- one step more reaches nothing more, from classes in range
abbrev IsStable : Image → ℕ → ℕ → Type 0
IsStable image t k = (c : ℕ) → c < length image.classes → reaches image (suc k) t c ≡ true → reaches image k t c ≡ true

stable_on : (image : Image) → AreInRange image.classes → (t k : ℕ) → IsStable image t k → IsStable image t (suc k)
stable_on image range t k stable c within e =
    reaches_gives image (suc k) t c (λ same. rw (← same) (reaches_here image k c)) (λ d has more. reaches_up image k t c d has (stable d (above_in image range c d has) more)) e

stable_or_many : (image : Image) → AreInRange image.classes → (t k : ℕ) → (k ≤ count (reaches image k t) (length image.classes)) ⊎ IsStable image t k
stable_or_many image range t zero = inl (omega arith)
stable_or_many image range t (suc k) =
    ⊎_elim
    (λ many.
    ⊎_elim
    (λ less. inl (omega arith))
    (λ same. inr (stable_on image range t k (count_same (reaches image k t) (reaches image (suc k) t) (length image.classes) (λ c _ e. reaches_more image k t c e) same)))
    (less_or_not (count (reaches image k t) (length image.classes)) (count (reaches image (suc k) t) (length image.classes))))
    (λ stable. inr (stable_on image range t k stable))
    (stable_or_many image range t k)

stable_at_last : (image : Image) → AreInRange image.classes → (t : ℕ) → IsStable image t (suc (length image.classes))
stable_at_last image range t =
    ⊎_elim
    (λ many. absurd (let most = count_most (reaches image (suc (length image.classes)) t) (length image.classes) in omega arith))
    (λ stable. stable)
    (stable_or_many image range t (suc (length image.classes)))

-- what is reached from a class in range is reached in at most so many steps as there are classes
pub reaches_bounded : (image : Image) → AreInRange image.classes → (n t c : ℕ) → c < length image.classes → reaches image n t c ≡ true → implements image c t ≡ true
reaches_bounded image range zero t c within e = absurd (cc)
reaches_bounded image range (suc n) t c within e =
    reaches_gives image n t c
    (λ same. rw (← same) (reaches_here image (length image.classes) c))
    (λ d has more. stable_at_last image range t c within (reaches_up image (suc (length image.classes)) t c d has (reaches_bounded image range n t d (above_in image range c d has) more)))
    e

-- ---- what depends on itself

fails : (b : Bool) → (b ≡ true → ⊥) → b ≡ false
fails true h = absurd (h refl)
fails false h = refl

same_truth : (a b : Bool) → (a ≡ true → b ≡ true) → (b ≡ true → a ≡ true) → a ≡ b
same_truth true b to back = sym (to refl)
same_truth false true to back = back refl
same_truth false false to back = refl

abbrev IsClosed : Image → (ℕ → Bool) → Type 0
IsClosed image p = (c d : ℕ) → p c ≡ true → has_number d (above image c) ≡ true → p d ≡ true

-- beyond classes that are not it, and those above them
pub apart_from_closed : (image : Image) (p : ℕ → Bool) → IsClosed image p → (c : ℕ) → p c ≡ false → ((d : ℕ) → has_number d (above image c) ≡ true → p d ≡ true) → any_of (λ d. implements image d c) (above image c) ≡ false
apart_from_closed image p closed c not_it begun =
    fails (any_of (λ d. implements image d c) (above image c))
    (any_gives (λ d. implements image d c) (above image c) (λ d has e. absurd (let it = reaches_keeps image p closed (suc (length image.classes)) c d (begun d has) e in cc)))

-- the classes that are reached from those directly above one, with all that stands above each
pub decided_by_closed : (image : Image) (p : ℕ → Bool) → IsClosed image p → (c : ℕ) → ((d : ℕ) → has_number d (above image c) ≡ true → p d ≡ true) → (p c ≡ true → any_of (λ d. implements image d c) (above image c) ≡ true) → p c ≡ any_of (λ d. implements image d c) (above image c)
decided_by_closed image p closed c begun reached =
    same_truth (p c) (any_of (λ d. implements image d c) (above image c)) reached
    (any_gives (λ d. implements image d c) (above image c) (λ d has e. reaches_keeps image p closed (suc (length image.classes)) c d (begun d has) e))

-- what stands directly above what is reached is reached
pub reached_beyond : (image : Image) → AreInRange image.classes → (c d e : ℕ) → any_of (λ b. implements image b d) (above image c) ≡ true → has_number e (above image d) ≡ true → any_of (λ b. implements image b e) (above image c) ≡ true
reached_beyond image range c d e reached has =
    any_gives (λ b. implements image b d) (above image c)
    (λ b up more. any_has (λ b. implements image b e) b (above image c) up (reaches_bounded image range (suc (suc (length image.classes))) e b (above_in image range c b up) (reaches_beyond image (suc (length image.classes)) d e b has more)))
    reached

pub reached_at_once : (image : Image) (c d : ℕ) → has_number d (above image c) ≡ true → any_of (λ b. implements image b d) (above image c) ≡ true
reached_at_once image c d has = any_has (λ b. implements image b d) d (above image c) has (reaches_here image (length image.classes) d)

-- ---- images of the same classes

above_same : (a b : Image) → a.classes ≡ b.classes → (c : ℕ) → above a c ≡ above b c
above_same a b same c = ap (λ cs. with_parent (parent_of (slice_get cs c)) (interfaces_of (slice_get cs c))) same

abbrev or_else : Bool → Bool → Bool
or_else b c = elim b [ true ↦ true | false ↦ c ]

any_same : (p q : ℕ → Bool) → ((c : ℕ) → p c ≡ q c) → (cs : List ℕ) → any_of p cs ≡ any_of q cs
any_same p q h [] = refl
any_same p q h (c ∷ cs) = ap (λ b. or_else b (any_of p cs)) (h c) ∙ ap (or_else (q c)) (any_same p q h cs)

pub reaches_same : (a b : Image) → a.classes ≡ b.classes → (n t c : ℕ) → reaches a n t c ≡ reaches b n t c
reaches_same a b same zero t c = refl
reaches_same a b same (suc n) t c =
    ap (or_else (nat_eq c t))
    (any_same (reaches a n t) (reaches b n t) (reaches_same a b same n t) (above a c) ∙ ap (any_of (reaches b n t)) (above_same a b same c))

pub depends_same : (a b : Image) → a.classes ≡ b.classes → (c : ℕ) → any_of (λ d. implements a d c) (above a c) ≡ any_of (λ d. implements b d c) (above b c)
depends_same a b same c =
    any_same (λ d. implements a d c) (λ d. implements b d c) (λ d. reaches_same a b same (suc (length a.classes)) c d ∙ ap (λ cs. reaches b (suc (length cs)) c d) same) (above a c) ∙ ap (any_of (λ d. implements b d c)) (above_same a b same c)
