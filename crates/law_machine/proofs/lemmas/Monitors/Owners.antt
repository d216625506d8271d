-- Who has an entry among those that wait, and who owns a monitor.
use Rattle.std.proofs.Common.{◌≡◌, ◌≢◌, ◌⊎◌, inl, inr, ℕ, ◌+◌, ◌-◌, List, [], ◌∷◌, Bool, true, false, Option, Some, None, refl, sym, ap, ◌∙◌, subst}
use Rattle.std.specs.Prelude.{nat_eq, nat_le, All}
use Rattle.std.proofs.lemmas.Bool.{cases_eq, eqb-true, eqb-false, eq-eqb, ne_eqb}
use Rattle.std.proofs.lemmas.List.Elements.{All-nil, All-cons, All-head, All-tail}
use Rattle.std.proofs.lemmas.Option.{same_Some, none-some}
use Rattle.dv_machine.specs.Monitors.{Held, Wait, held_in, entered_in, less_one, exited_in, given_up, wait_in, without}
use Rattle.law_machine.proofs.lemmas.Monitors.Lists.{AreOnce, object_key, thread_key}

-- ---- entries

abbrev entry_with : Wait → List Wait → ℕ → Bool → Option Wait
entry_with w ws t b = elim b [ true ↦ Some w | false ↦ wait_in t ws ]

-- a thread without an entry is in none
pub quiet_from : (t : ℕ) (ws : List Wait) → wait_in t ws ≡ None → All (λ w. w.thread ≢ t) ws
quiet_from t [] e = All-nil (λ (w : Wait). w.thread ≢ t)
quiet_from t (w ∷ ws) e = go (nat_eq w.thread t) refl e (quiet_from t ws)
  where
    go : (b : Bool) → nat_eq w.thread t ≡ b → entry_with w ws t b ≡ None → (wait_in t ws ≡ None → All (λ w. w.thread ≢ t) ws) → All (λ w. w.thread ≢ t) (w ∷ ws)
    go true s e r = absurd (none-some w (sym e))
    go false s e r = All-cons (λ w. w.thread ≢ t) w ws (eqb-false w.thread t s) (r e)

pub entry_none : (t : ℕ) (ws : List Wait) → All (λ w. w.thread ≢ t) ws → wait_in t ws ≡ None
entry_none t [] a = refl
entry_none t (w ∷ ws) a = ap (entry_with w ws t) (ne_eqb w.thread t (All-head (λ w. w.thread ≢ t) w ws a)) ∙ entry_none t ws (All-tail (λ w. w.thread ≢ t) w ws a)

-- an entry that is found is of the thread, and what holds of each holds of it
pub entry_thread : (t : ℕ) (ws : List Wait) (w : Wait) → wait_in t ws ≡ Some w → w.thread ≡ t
entry_thread t [] w e = absurd (cc)
entry_thread t (v ∷ ws) w e = go (nat_eq v.thread t) refl e (entry_thread t ws w)
  where
    go : (b : Bool) → nat_eq v.thread t ≡ b → entry_with v ws t b ≡ Some w → (wait_in t ws ≡ Some w → w.thread ≡ t) → w.thread ≡ t
    go true s e r = sym (ap thread_key (same_Some v w e)) ∙ eqb-true v.thread t s
    go false s e r = r e

pub entry_all : (P : Wait → Type 0) (t : ℕ) (ws : List Wait) (w : Wait) → All P ws → wait_in t ws ≡ Some w → P w
entry_all P t [] w a e = absurd (cc)
entry_all P t (v ∷ ws) w a e = go (nat_eq v.thread t) e (entry_all P t ws w (All-tail P v ws a))
  where
    go : (b : Bool) → entry_with v ws t b ≡ Some w → (wait_in t ws ≡ Some w → P w) → P w
    go true e r = subst P (same_Some v w e) (All-head P v ws a)
    go false e r = r e

-- once its entry is taken away a thread has none
pub without_quiet : (t : ℕ) (ws : List Wait) → AreOnce thread_key ws → All (λ w. w.thread ≢ t) (without t ws)
without_quiet t [] a = All-nil (λ (w : Wait). w.thread ≢ t)
without_quiet t (w ∷ ws) a = go (nat_eq w.thread t) refl (without_quiet t ws a.1)
  where
    go : (b : Bool) → nat_eq w.thread t ≡ b → All (λ w. w.thread ≢ t) (without t ws) → All (λ w. w.thread ≢ t) (elim b [ true ↦ ws | false ↦ w ∷ without t ws ])
    go true s r = subst (λ (x : ℕ). All (λ (y : Wait). y.thread ≢ x) ws) (eqb-true w.thread t s) a.0
    go false s r = All-cons (λ w. w.thread ≢ t) w _ (eqb-false w.thread t s) r

-- ---- owners

abbrev pub owner_in : List Held → ℕ → Option ℕ
owner_in hs o = elim (held_in hs o) [ None ↦ None | Some h ↦ Some h.thread ]

abbrev held_with : Held → List Held → ℕ → Bool → Option Held
held_with h hs p b = elim b [ true ↦ Some h | false ↦ held_in hs p ]

abbrev owner_with : Held → List Held → ℕ → Bool → Option ℕ
owner_with h hs p b = elim (held_with h hs p b) [ None ↦ None | Some x ↦ Some x.thread ]

owner_here : (h : Held) (hs : List Held) (p : ℕ) → h.object ≡ p → owner_in (h ∷ hs) p ≡ Some h.thread
owner_here h hs p e = ap (owner_with h hs p) (eq-eqb h.object p e)

owner_past : (h : Held) (hs : List Held) (p : ℕ) → h.object ≢ p → owner_in (h ∷ hs) p ≡ owner_in hs p
owner_past h hs p d = ap (owner_with h hs p) (ne_eqb h.object p d)

pub owner_none : (p : ℕ) (hs : List Held) → All (λ (y : Held). y.object ≢ p) hs → owner_in hs p ≡ None
owner_none p [] a = refl
owner_none p (h ∷ hs) a = owner_past h hs p (All-head (λ (y : Held). y.object ≢ p) h hs a) ∙ owner_none p hs (All-tail (λ (y : Held). y.object ≢ p) h hs a)

pub not_owner : (p u : ℕ) (hs : List Held) → All (λ (y : Held). y.object ≢ p) hs → owner_in hs p ≢ Some u
not_owner p u hs a e = none-some u (sym (owner_none p hs a) ∙ e)

-- a thread that doesn't become the owner in a list doesn't with one more monitor in front
more_owner : (h : Held) (hs ks : List Held) (p u : ℕ) → (h.object ≡ p) ⊎ (h.object ≢ p) → owner_in (h ∷ hs) p ≢ Some u → (owner_in hs p ≢ Some u → owner_in ks p ≢ Some u) → owner_in (h ∷ ks) p ≢ Some u
more_owner h hs ks p u (inl e) q r f = q (owner_here h hs p e ∙ sym (owner_here h ks p e) ∙ f)
more_owner h hs ks p u (inr d) q r f = r (λ g. q (owner_past h hs p d ∙ g)) (sym (owner_past h ks p d) ∙ f)

-- a monitor that another thread enters is not owned by this one
pub entered_owner : (o t n p u : ℕ) → u ≢ t → (hs : List Held) → owner_in hs p ≢ Some u → owner_in (entered_in hs o t n) p ≢ Some u
entered_owner o t n p u d [] q = go (cases_eq o p)
  where
    go : (o ≡ p) ⊎ (o ≢ p) → owner_in (record { object = o; thread = t; count = n } ∷ []) p ≢ Some u
    go (inl e) f = d (same_Some u t (sym f ∙ owner_here (record { object = o; thread = t; count = n }) [] p e))
    go (inr e) f = none-some u (sym (owner_past (record { object = o; thread = t; count = n }) [] p e) ∙ f)
entered_owner o t n p u d (h ∷ hs) q = go (nat_eq h.object o) refl (cases_eq o p) (entered_owner o t n p u d hs)
  where
    go : (b : Bool) → nat_eq h.object o ≡ b → (o ≡ p) ⊎ (o ≢ p) → (owner_in hs p ≢ Some u → owner_in (entered_in hs o t n) p ≢ Some u) → owner_in (elim b [ true ↦ record { object = o; thread = t; count = h.count + n } ∷ hs | false ↦ h ∷ entered_in hs o t n ]) p ≢ Some u
    go true s (inl e) r f = d (same_Some u t (sym f ∙ owner_here (record { object = o; thread = t; count = h.count + n }) hs p e))
    go true s (inr e) r f = q (owner_past h hs p (λ g. e (sym (eqb-true h.object o s) ∙ g)) ∙ sym (owner_past (record { object = o; thread = t; count = h.count + n }) hs p e) ∙ f)
    go false s c r f = more_owner h hs (entered_in hs o t n) p u (cases_eq h.object p) q r f

pub exited_owner : (o p u : ℕ) (hs : List Held) → AreOnce object_key hs → owner_in hs p ≢ Some u → owner_in (exited_in hs o) p ≢ Some u
exited_owner o p u [] a q = q
exited_owner o p u (h ∷ hs) a q = go (nat_eq h.object o) (exited_owner o p u hs a.1)
  where
    less : (b : Bool) → (h.object ≡ p) ⊎ (h.object ≢ p) → owner_in (elim b [ true ↦ hs | false ↦ record { object = h.object; thread = h.thread; count = h.count - 1 } ∷ hs ]) p ≢ Some u
    less true (inl e) f = not_owner p u hs (subst (λ (x : ℕ). All (λ (y : Held). y.object ≢ x) hs) e a.0) f
    less true (inr e) f = q (owner_past h hs p e ∙ f)
    less false (inl e) f = q (owner_here h hs p e ∙ sym (owner_here (record { object = h.object; thread = h.thread; count = h.count - 1 }) hs p e) ∙ f)
    less false (inr e) f = q (owner_past h hs p e ∙ sym (owner_past (record { object = h.object; thread = h.thread; count = h.count - 1 }) hs p e) ∙ f)

    go : (b : Bool) → (owner_in hs p ≢ Some u → owner_in (exited_in hs o) p ≢ Some u) → owner_in (elim b [ true ↦ less_one h hs | false ↦ h ∷ exited_in hs o ]) p ≢ Some u
    go true r = less (nat_le h.count 1) (cases_eq h.object p)
    go false r = more_owner h hs (exited_in hs o) p u (cases_eq h.object p) q r

pub given_up_owner : (o p u : ℕ) (hs : List Held) → AreOnce object_key hs → owner_in hs p ≢ Some u → owner_in (given_up hs o) p ≢ Some u
given_up_owner o p u [] a q = q
given_up_owner o p u (h ∷ hs) a q = go (nat_eq h.object o) (cases_eq h.object p) (given_up_owner o p u hs a.1)
  where
    go : (b : Bool) → (h.object ≡ p) ⊎ (h.object ≢ p) → (owner_in hs p ≢ Some u → owner_in (given_up hs o) p ≢ Some u) → owner_in (elim b [ true ↦ hs | false ↦ h ∷ given_up hs o ]) p ≢ Some u
    go true (inl e) r f = not_owner p u hs (subst (λ (x : ℕ). All (λ (y : Held). y.object ≢ x) hs) e a.0) f
    go true (inr e) r f = q (owner_past h hs p e ∙ f)
    go false c r f = more_owner h hs (given_up hs o) p u c q r f

-- what was given up is owned by nobody
pub given_up_free : (o : ℕ) (hs : List Held) → AreOnce object_key hs → All (λ (y : Held). y.object ≢ o) (given_up hs o)
given_up_free o [] a = All-nil (λ (y : Held). y.object ≢ o)
given_up_free o (h ∷ hs) a = go (nat_eq h.object o) refl (given_up_free o hs a.1)
  where
    go : (b : Bool) → nat_eq h.object o ≡ b → All (λ (y : Held). y.object ≢ o) (given_up hs o) → All (λ (y : Held). y.object ≢ o) (elim b [ true ↦ hs | false ↦ h ∷ given_up hs o ])
    go true s r = subst (λ (x : ℕ). All (λ (y : Held). y.object ≢ x) hs) (eqb-true h.object o s) a.0
    go false s r = All-cons (λ (y : Held). y.object ≢ o) h _ (eqb-false h.object o s) r

-- a monitor that is held is one of the list
pub held_all : (P : Held → Type 0) (o : ℕ) (hs : List Held) (h : Held) → All P hs → held_in hs o ≡ Some h → P h
held_all P o [] h a e = absurd (cc)
held_all P o (x ∷ hs) h a e = go (nat_eq x.object o) e (held_all P o hs h (All-tail P x hs a))
  where
    go : (b : Bool) → held_with x hs o b ≡ Some h → (held_in hs o ≡ Some h → P h) → P h
    go true e r = subst P (same_Some x h e) (All-head P x hs a)
    go false e r = r e

-- a monitor without an owner is not in the list
pub free_from : (o : ℕ) (hs : List Held) → owner_in hs o ≡ None → All (λ (y : Held). y.object ≢ o) hs
free_from o [] e = All-nil (λ (y : Held). y.object ≢ o)
free_from o (h ∷ hs) e = go (cases_eq h.object o) (free_from o hs)
  where
    go : (h.object ≡ o) ⊎ (h.object ≢ o) → (owner_in hs o ≡ None → All (λ (y : Held). y.object ≢ o) hs) → All (λ (y : Held). y.object ≢ o) (h ∷ hs)
    go (inl s) r = absurd (none-some h.thread (sym e ∙ owner_here h hs o s))
    go (inr d) r = All-cons (λ (y : Held). y.object ≢ o) h hs d (r (sym (owner_past h hs o d) ∙ e))

-- so entering it adds it
pub all_entered_free : (P : Held → Type 0) (o t n : ℕ) → P (record { object = o; thread = t; count = n }) → (hs : List Held) → All (λ (y : Held). y.object ≢ o) hs → All P hs → All P (entered_in hs o t n)
all_entered_free P o t n new [] d a = All-cons P _ [] new (All-nil P)
all_entered_free P o t n new (h ∷ hs) d a = go (nat_eq h.object o) refl (all_entered_free P o t n new hs (All-tail (λ (y : Held). y.object ≢ o) h hs d) (All-tail P h hs a))
  where
    go : (b : Bool) → nat_eq h.object o ≡ b → All P (entered_in hs o t n) → All P (elim b [ true ↦ record { object = o; thread = t; count = h.count + n } ∷ hs | false ↦ h ∷ entered_in hs o t n ])
    go true s r = absurd (All-head (λ (y : Held). y.object ≢ o) h hs d (eqb-true h.object o s))
    go false s r = All-cons P h _ (All-head P h hs a) r
