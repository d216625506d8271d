-- Monitors and waits as lists: what holds of each, and that none stands twice.
use Rattle.std.proofs.Common.{◌≡◌, ◌≢◌, ℕ, zero, suc, ◌+◌, ◌-◌, ◌≤◌, List, [], ◌∷◌, ◌++◌, Bool, true, false, Some, refl, sym, ap, ◌∙◌, subst, arith}
use Rattle.std.specs.Prelude.{slice_get, nat_eq, nat_le, All}
use Rattle.std.proofs.lemmas.Bool.{leb-false, eqb-true, eqb-false}
use Rattle.std.proofs.lemmas.List.Elements.{All-nil, All-cons, All-head, All-tail, All-weaker}
use Rattle.std.proofs.lemmas.Option.{same_Some}
use Rattle.dv_machine.specs.Monitors.{Held, Wait, entered_in, less_one, exited_in, given_up, as_notified, notify_first, notify_each, without}
use Rattle.law_machine.proofs.lemmas.Common.Lists.{all_at, all_from}

-- ---- what holds of each

pub all_entered : (P Q : Held → Type 0) → ((h : Held) → P h → Q h) → (o t n : ℕ) → Q (record { object = o; thread = t; count = n }) → ((h : Held) → P h → Q (record { object = o; thread = t; count = h.count + n })) → (hs : List Held) → All P hs → All Q (entered_in hs o t n)
all_entered P Q keep o t n new more [] a = All-cons Q _ [] new (All-nil Q)
all_entered P Q keep o t n new more (h ∷ hs) a = go (nat_eq h.object o) (all_entered P Q keep o t n new more hs (All-tail P h hs a))
  where
    go : (b : Bool) → All Q (entered_in hs o t n) → All Q (elim b [ true ↦ record { object = o; thread = t; count = h.count + n } ∷ hs | false ↦ h ∷ entered_in hs o t n ])
    go true r = All-cons Q _ hs (more h (All-head P h hs a)) (All-weaker P Q keep hs (All-tail P h hs a))
    go false r = All-cons Q h _ (keep h (All-head P h hs a)) r

all_less : (P : Held → Type 0) → ((h : Held) → 2 ≤ h.count → P h → P (record { object = h.object; thread = h.thread; count = h.count - 1 })) → (h : Held) (hs : List Held) → P h → All P hs → All P (less_one h hs)
all_less P less h hs p a = go (nat_le h.count 1) refl
  where
    go : (b : Bool) → nat_le h.count 1 ≡ b → All P (elim b [ true ↦ hs | false ↦ record { object = h.object; thread = h.thread; count = h.count - 1 } ∷ hs ])
    go true e = a
    go false e = All-cons P _ hs (less h (omega (arith, leb-false h.count 1 e)) p) a

pub all_exited : (P : Held → Type 0) (o : ℕ) → ((h : Held) → 2 ≤ h.count → P h → P (record { object = h.object; thread = h.thread; count = h.count - 1 })) → (hs : List Held) → All P hs → All P (exited_in hs o)
all_exited P o less [] a = a
all_exited P o less (h ∷ hs) a = go (nat_eq h.object o) (all_exited P o less hs (All-tail P h hs a))
  where
    go : (b : Bool) → All P (exited_in hs o) → All P (elim b [ true ↦ less_one h hs | false ↦ h ∷ exited_in hs o ])
    go true r = all_less P less h hs (All-head P h hs a) (All-tail P h hs a)
    go false r = All-cons P h _ (All-head P h hs a) r

pub all_given_up : (P : Held → Type 0) (o : ℕ) (hs : List Held) → All P hs → All P (given_up hs o)
all_given_up P o [] a = a
all_given_up P o (h ∷ hs) a = go (nat_eq h.object o) (all_given_up P o hs (All-tail P h hs a))
  where
    go : (b : Bool) → All P (given_up hs o) → All P (elim b [ true ↦ hs | false ↦ h ∷ given_up hs o ])
    go true r = All-tail P h hs a
    go false r = All-cons P h _ (All-head P h hs a) r

pub all_notified_first : (P : Wait → Type 0) (o : ℕ) → ((w : Wait) → P w → P (as_notified w)) → (ws : List Wait) → All P ws → All P (notify_first o ws)
all_notified_first P o f [] a = a
all_notified_first P o f (w ∷ ws) a = go _ (all_notified_first P o f ws (All-tail P w ws a))
  where
    go : (b : Bool) → All P (notify_first o ws) → All P (elim b [ true ↦ as_notified w ∷ ws | false ↦ w ∷ notify_first o ws ])
    go true r = All-cons P _ ws (f w (All-head P w ws a)) (All-tail P w ws a)
    go false r = All-cons P w _ (All-head P w ws a) r

pub all_notified_each : (P : Wait → Type 0) (o : ℕ) → ((w : Wait) → P w → P (as_notified w)) → (ws : List Wait) → All P ws → All P (notify_each o ws)
all_notified_each P o f [] a = a
all_notified_each P o f (w ∷ ws) a = go (nat_eq w.object o) (all_notified_each P o f ws (All-tail P w ws a))
  where
    go : (b : Bool) → All P (notify_each o ws) → All P (elim b [ true ↦ as_notified w ∷ notify_each o ws | false ↦ w ∷ notify_each o ws ])
    go true r = All-cons P _ _ (f w (All-head P w ws a)) r
    go false r = All-cons P w _ (All-head P w ws a) r

pub all_without : (P : Wait → Type 0) (t : ℕ) (ws : List Wait) → All P ws → All P (without t ws)
all_without P t [] a = a
all_without P t (w ∷ ws) a = go (nat_eq w.thread t) (all_without P t ws (All-tail P w ws a))
  where
    go : (b : Bool) → All P (without t ws) → All P (elim b [ true ↦ ws | false ↦ w ∷ without t ws ])
    go true r = All-tail P w ws a
    go false r = All-cons P w _ (All-head P w ws a) r

-- ---- none stands twice

-- no two have one key
abbrev pub AreOnce : {A : Type 0} → (A → ℕ) → List A → Type 0
AreOnce key [] = Unit {0}
AreOnce key (x ∷ xs) = All (λ y. key y ≢ key x) xs × AreOnce key xs

abbrev pub OnePlace : {A : Type 0} → (A → ℕ) → List A → Type 0
OnePlace {A} key xs = (i j : ℕ) (x y : A) → slice_get xs i ≡ Some x → slice_get xs j ≡ Some y → key x ≡ key y → i ≡ j

pub once_from : {A : Type 0} (key : A → ℕ) (xs : List A) → OnePlace key xs → AreOnce key xs
once_from key [] h = tt
once_from {A} key (x ∷ xs) h = (all_from (λ y. key y ≢ key x) xs (λ k y e s. absurd (clash k (h (suc k) zero y x e refl s))), once_from key xs (λ i j y z e f s. same _ _ (h (suc i) (suc j) y z e f s)))
  where
    clash : (k : ℕ) → suc k ≡ zero → ⊥
    clash k e = omega arith

    same : (i j : ℕ) → suc i ≡ suc j → i ≡ j
    same i j e = omega arith

pub place_from : {A : Type 0} (key : A → ℕ) (xs : List A) → AreOnce key xs → OnePlace key xs
place_from key [] h i j x y e f s = absurd (cc)
place_from key (z ∷ zs) h zero zero x y e f s = refl
place_from key (z ∷ zs) h zero (suc j) x y e f s = absurd (all_at (λ w. key w ≢ key z) zs j y h.0 f (sym s ∙ ap key (sym (same_Some z x e))))
place_from key (z ∷ zs) h (suc i) zero x y e f s = absurd (all_at (λ w. key w ≢ key z) zs i x h.0 e (s ∙ ap key (sym (same_Some z y f))))
place_from key (z ∷ zs) h (suc i) (suc j) x y e f s = ap suc (place_from key zs h.1 i j x y e f s)

abbrev pub object_key : Held → ℕ
object_key h = h.object

abbrev pub thread_key : Wait → ℕ
thread_key w = w.thread

pub once_entered : (o t n : ℕ) (hs : List Held) → AreOnce object_key hs → AreOnce object_key (entered_in hs o t n)
once_entered o t n [] a = (All-nil (λ (y : Held). y.object ≢ o), tt)
once_entered o t n (h ∷ hs) a = go (nat_eq h.object o) refl (once_entered o t n hs a.1)
  where
    go : (b : Bool) → nat_eq h.object o ≡ b → AreOnce object_key (entered_in hs o t n) → AreOnce object_key (elim b [ true ↦ record { object = o; thread = t; count = h.count + n } ∷ hs | false ↦ h ∷ entered_in hs o t n ])
    go true e r = (subst (λ (x : ℕ). All (λ (y : Held). y.object ≢ x) hs) (eqb-true h.object o e) a.0, a.1)
    go false e r = (all_entered (λ (y : Held). y.object ≢ h.object) (λ (y : Held). y.object ≢ h.object) (λ x p. p) o t n (λ f. eqb-false h.object o e (sym f)) (λ x p f. eqb-false h.object o e (sym f)) hs a.0, r)

pub once_exited : (o : ℕ) (hs : List Held) → AreOnce object_key hs → AreOnce object_key (exited_in hs o)
once_exited o [] a = tt
once_exited o (h ∷ hs) a = go (nat_eq h.object o) (once_exited o hs a.1)
  where
    less : (b : Bool) → AreOnce object_key (elim b [ true ↦ hs | false ↦ record { object = h.object; thread = h.thread; count = h.count - 1 } ∷ hs ])
    less true = a.1
    less false = a

    go : (b : Bool) → AreOnce object_key (exited_in hs o) → AreOnce object_key (elim b [ true ↦ less_one h hs | false ↦ h ∷ exited_in hs o ])
    go true r = less (nat_le h.count 1)
    go false r = (all_exited (λ (y : Held). y.object ≢ h.object) o (λ x g p. p) hs a.0, r)

pub once_given_up : (o : ℕ) (hs : List Held) → AreOnce object_key hs → AreOnce object_key (given_up hs o)
once_given_up o [] a = tt
once_given_up o (h ∷ hs) a = go (nat_eq h.object o) (once_given_up o hs a.1)
  where
    go : (b : Bool) → AreOnce object_key (given_up hs o) → AreOnce object_key (elim b [ true ↦ hs | false ↦ h ∷ given_up hs o ])
    go true r = a.1
    go false r = (all_given_up (λ (y : Held). y.object ≢ h.object) o hs a.0, r)

pub once_notified_first : (o : ℕ) (ws : List Wait) → AreOnce thread_key ws → AreOnce thread_key (notify_first o ws)
once_notified_first o [] a = tt
once_notified_first o (w ∷ ws) a = go _ (once_notified_first o ws a.1)
  where
    go : (b : Bool) → AreOnce thread_key (notify_first o ws) → AreOnce thread_key (elim b [ true ↦ as_notified w ∷ ws | false ↦ w ∷ notify_first o ws ])
    go true r = a
    go false r = (all_notified_first (λ (y : Wait). y.thread ≢ w.thread) o (λ x p. p) ws a.0, r)

pub once_notified_each : (o : ℕ) (ws : List Wait) → AreOnce thread_key ws → AreOnce thread_key (notify_each o ws)
once_notified_each o [] a = tt
once_notified_each o (w ∷ ws) a = go (nat_eq w.object o) (all_notified_each (λ (y : Wait). y.thread ≢ w.thread) o (λ x p. p) ws a.0) (once_notified_each o ws a.1)
  where
    go : (b : Bool) → All (λ (y : Wait). y.thread ≢ w.thread) (notify_each o ws) → AreOnce thread_key (notify_each o ws) → AreOnce thread_key (elim b [ true ↦ as_notified w ∷ notify_each o ws | false ↦ w ∷ notify_each o ws ])
    go true s r = (s, r)
    go false s r = (s, r)

pub once_without : (t : ℕ) (ws : List Wait) → AreOnce thread_key ws → AreOnce thread_key (without t ws)
once_without t [] a = tt
once_without t (w ∷ ws) a = go (nat_eq w.thread t) (once_without t ws a.1)
  where
    go : (b : Bool) → AreOnce thread_key (without t ws) → AreOnce thread_key (elim b [ true ↦ ws | false ↦ w ∷ without t ws ])
    go true r = a.1
    go false r = (all_without (λ (y : Wait). y.thread ≢ w.thread) t ws a.0, r)

pub once_push : {A : Type 0} (key : A → ℕ) (xs : List A) (x : A) → All (λ y. key y ≢ key x) xs → AreOnce key xs → AreOnce key (xs ++ x ∷ [])
once_push key [] x d a = (All-nil (λ y. key y ≢ key x), tt)
once_push {A} key (z ∷ xs) x d a = (pushed xs a.0, once_push key xs x (All-tail (λ y. key y ≢ key x) z xs d) a.1)
  where
    apart : key x ≢ key z
    apart e = All-head (λ y. key y ≢ key x) z xs d (sym e)

    pushed : (ys : List A) → All (λ y. key y ≢ key z) ys → All (λ y. key y ≢ key z) (ys ++ x ∷ [])
    pushed [] b = All-cons (λ y. key y ≢ key z) x [] apart (All-nil (λ y. key y ≢ key z))
    pushed (y ∷ ys) b = All-cons (λ y. key y ≢ key z) y _ (All-head (λ y. key y ≢ key z) y ys b) (pushed ys (All-tail (λ y. key y ≢ key z) y ys b))
