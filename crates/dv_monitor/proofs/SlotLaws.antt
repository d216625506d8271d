-- What the monitors in slots are, by the slot of one object.
use Rattle.std.proofs.Common.{◌≡◌, ℕ, zero, suc, ◌+◌, ◌-◌, ◌<◌, ◌≤◌, List, [], ◌∷◌, ◌++◌, Option, Some, None, refl, ap, sym, ◌∙◌, arith, set}
use Rattle.std.proofs.lemmas.Bool.{eq-eqb, ne_eqb, lt-leb, le-leb}
use Rattle.std.proofs.lemmas.Option.{none-some, same_Some}
use Rattle.dv_machine.specs.Monitors.{Held, held_in, entered_in, exited_in, given_up, less_one}
use Rattle.dv_monitor.specs.declared.holding.Holding.{Holding}
use Rattle.dv_monitor.specs.Slots.{held_value, object_in, present, slot_at}

-- no other slot has the object
abbrev pub StandsOnly : List (Option Holding) → ℕ → ℕ → Type 0
StandsOnly slots place object = (other : ℕ) → object_in (slot_at slots other) ≡ Some object → other ≡ place

-- no slot has it
abbrev pub StandsNowhere : List (Option Holding) → ℕ → Type 0
StandsNowhere slots object = (place : ℕ) → object_in (slot_at slots place) ≡ Some object → ⊥

only-rest : (s : Option Holding) (slots : List (Option Holding)) (place object : ℕ) → StandsOnly (s ∷ slots) (suc place) object → StandsOnly slots place object
only-rest s slots place object only = λ other e. let q : suc other ≡ suc place = only (suc other) e in omega arith

only-first : (g : Holding) (slots : List (Option Holding)) (place object : ℕ) → StandsOnly (Some g ∷ slots) (suc place) object → g.object ≡ object → ⊥
only-first g slots place object only e = let q : 0 ≡ suc place = only 0 (ap (λ n. Some n) e) in omega arith

-- ---- the first of a list is the object's, or isn't

held_in-here : (h : Held) (hs : List Held) (o : ℕ) → h.object ≡ o → held_in (h ∷ hs) o ≡ Some h
held_in-here h hs o e = rw (eq-eqb h.object o e, held_in)

held_in-past : (h : Held) (hs : List Held) (o : ℕ) → (h.object ≡ o → ⊥) → held_in (h ∷ hs) o ≡ held_in hs o
held_in-past h hs o ne = rw (ne_eqb h.object o ne, held_in)

entered_in-here : (h : Held) (hs : List Held) (o t n : ℕ) → h.object ≡ o → entered_in (h ∷ hs) o t n ≡ record { object = o; thread = t; count = h.count + n } ∷ hs
entered_in-here h hs o t n e = rw (eq-eqb h.object o e, entered_in)

entered_in-past : (h : Held) (hs : List Held) (o t n : ℕ) → (h.object ≡ o → ⊥) → entered_in (h ∷ hs) o t n ≡ h ∷ entered_in hs o t n
entered_in-past h hs o t n ne = rw (ne_eqb h.object o ne, entered_in)

exited_in-here : (h : Held) (hs : List Held) (o : ℕ) → h.object ≡ o → exited_in (h ∷ hs) o ≡ less_one h hs
exited_in-here h hs o e = rw (eq-eqb h.object o e, exited_in)

exited_in-past : (h : Held) (hs : List Held) (o : ℕ) → (h.object ≡ o → ⊥) → exited_in (h ∷ hs) o ≡ h ∷ exited_in hs o
exited_in-past h hs o ne = rw (ne_eqb h.object o ne, exited_in)

given_up-here : (h : Held) (hs : List Held) (o : ℕ) → h.object ≡ o → given_up (h ∷ hs) o ≡ hs
given_up-here h hs o e = rw (eq-eqb h.object o e, given_up)

given_up-past : (h : Held) (hs : List Held) (o : ℕ) → (h.object ≡ o → ⊥) → given_up (h ∷ hs) o ≡ h ∷ given_up hs o
given_up-past h hs o ne = rw (ne_eqb h.object o ne, given_up)

less_one-last : (h : Held) (hs : List Held) → h.count ≤ 1 → less_one h hs ≡ hs
less_one-last h hs l = rw (le-leb h.count 1 l, less_one)

less_one-more : (h : Held) (hs : List Held) → 1 < h.count → less_one h hs ≡ record { object = h.object; thread = h.thread; count = h.count - 1 } ∷ hs
less_one-more h hs l = rw (lt-leb h.count 1 l, less_one)

-- ---- by the slot of the object

pub held_in-present : (slots : List (Option Holding)) (place : ℕ) (h : Holding) → slot_at slots place ≡ Some h → StandsOnly slots place h.object
    → held_in (present slots) h.object ≡ Some (held_value h)
held_in-present [] place h at only = absurd (none-some h at)
held_in-present (None ∷ slots) zero h at only = absurd (none-some h at)
held_in-present (None ∷ slots) (suc place) h at only = held_in-present slots place h at (only-rest None slots place h.object only)
held_in-present (Some g ∷ slots) zero h at only =
    let e : g ≡ h = same_Some g h at in held_in-here (held_value g) (present slots) h.object (ap (λ (x : Holding). x.object) e) ∙ ap (λ (x : Holding). Some (held_value x)) e
held_in-present (Some g ∷ slots) (suc place) h at only =
    held_in-past (held_value g) (present slots) h.object (only-first g slots place h.object only) ∙ held_in-present slots place h at (only-rest (Some g) slots place h.object only)

pub held_in-absent : (slots : List (Option Holding)) (o : ℕ) → StandsNowhere slots o → held_in (present slots) o ≡ None
held_in-absent [] o nowhere = refl
held_in-absent (None ∷ slots) o nowhere = held_in-absent slots o (λ place e. nowhere (suc place) e)
held_in-absent (Some g ∷ slots) o nowhere =
    held_in-past (held_value g) (present slots) o (λ e. nowhere 0 (ap (λ n. Some n) e)) ∙ held_in-absent slots o (λ place e. nowhere (suc place) e)

pub entered_in-present : (slots : List (Option Holding)) (place : ℕ) (h : Holding) (t n : ℕ) → slot_at slots place ≡ Some h → StandsOnly slots place h.object
    → entered_in (present slots) h.object t n ≡ present (set slots place (Some (record { object = h.object; thread = t; count = h.count + n })))
entered_in-present [] place h t n at only = absurd (none-some h at)
entered_in-present (None ∷ slots) zero h t n at only = absurd (none-some h at)
entered_in-present (None ∷ slots) (suc place) h t n at only = entered_in-present slots place h t n at (only-rest None slots place h.object only)
entered_in-present (Some g ∷ slots) zero h t n at only =
    let e : g ≡ h = same_Some g h at in
    entered_in-here (held_value g) (present slots) h.object t n (ap (λ (x : Holding). x.object) e)
    ∙ ap (λ (x : Holding). held_value (record { object = h.object; thread = t; count = x.count + n }) ∷ present slots) e
entered_in-present (Some g ∷ slots) (suc place) h t n at only =
    entered_in-past (held_value g) (present slots) h.object t n (only-first g slots place h.object only)
    ∙ ap (λ hs. held_value g ∷ hs) (entered_in-present slots place h t n at (only-rest (Some g) slots place h.object only))

pub entered_in-absent : (slots : List (Option Holding)) (o t n : ℕ) → StandsNowhere slots o
    → entered_in (present slots) o t n ≡ present (slots ++ Some (record { object = o; thread = t; count = n }) ∷ [])
entered_in-absent [] o t n nowhere = refl
entered_in-absent (None ∷ slots) o t n nowhere = entered_in-absent slots o t n (λ place e. nowhere (suc place) e)
entered_in-absent (Some g ∷ slots) o t n nowhere =
    entered_in-past (held_value g) (present slots) o t n (λ e. nowhere 0 (ap (λ m. Some m) e))
    ∙ ap (λ hs. held_value g ∷ hs) (entered_in-absent slots o t n (λ place e. nowhere (suc place) e))

pub given_up-present : (slots : List (Option Holding)) (place : ℕ) (h : Holding) → slot_at slots place ≡ Some h → StandsOnly slots place h.object
    → given_up (present slots) h.object ≡ present (set slots place None)
given_up-present [] place h at only = absurd (none-some h at)
given_up-present (None ∷ slots) zero h at only = absurd (none-some h at)
given_up-present (None ∷ slots) (suc place) h at only = given_up-present slots place h at (only-rest None slots place h.object only)
given_up-present (Some g ∷ slots) zero h at only =
    let e : g ≡ h = same_Some g h at in given_up-here (held_value g) (present slots) h.object (ap (λ (x : Holding). x.object) e)
given_up-present (Some g ∷ slots) (suc place) h at only =
    given_up-past (held_value g) (present slots) h.object (only-first g slots place h.object only)
    ∙ ap (λ hs. held_value g ∷ hs) (given_up-present slots place h at (only-rest (Some g) slots place h.object only))

pub given_up-absent : (slots : List (Option Holding)) (o : ℕ) → StandsNowhere slots o → given_up (present slots) o ≡ present slots
given_up-absent [] o nowhere = refl
given_up-absent (None ∷ slots) o nowhere = given_up-absent slots o (λ place e. nowhere (suc place) e)
given_up-absent (Some g ∷ slots) o nowhere =
    given_up-past (held_value g) (present slots) o (λ e. nowhere 0 (ap (λ n. Some n) e))
    ∙ ap (λ hs. held_value g ∷ hs) (given_up-absent slots o (λ place e. nowhere (suc place) e))

pub exited_in-counted : (slots : List (Option Holding)) (place : ℕ) (h : Holding) → slot_at slots place ≡ Some h → StandsOnly slots place h.object → 1 < h.count
    → exited_in (present slots) h.object ≡ present (set slots place (Some (record { object = h.object; thread = h.thread; count = h.count - 1 })))
exited_in-counted [] place h at only l = absurd (none-some h at)
exited_in-counted (None ∷ slots) zero h at only l = absurd (none-some h at)
exited_in-counted (None ∷ slots) (suc place) h at only l = exited_in-counted slots place h at (only-rest None slots place h.object only) l
exited_in-counted (Some g ∷ slots) zero h at only l =
    let e : g ≡ h = same_Some g h at in
    exited_in-here (held_value g) (present slots) h.object (ap (λ (x : Holding). x.object) e)
    ∙ ap (λ (x : Holding). less_one (held_value x) (present slots)) e ∙ less_one-more (held_value h) (present slots) l
exited_in-counted (Some g ∷ slots) (suc place) h at only l =
    exited_in-past (held_value g) (present slots) h.object (only-first g slots place h.object only)
    ∙ ap (λ hs. held_value g ∷ hs) (exited_in-counted slots place h at (only-rest (Some g) slots place h.object only) l)

pub exited_in-last : (slots : List (Option Holding)) (place : ℕ) (h : Holding) → slot_at slots place ≡ Some h → StandsOnly slots place h.object → h.count ≤ 1
    → exited_in (present slots) h.object ≡ given_up (present slots) h.object
exited_in-last [] place h at only l = absurd (none-some h at)
exited_in-last (None ∷ slots) zero h at only l = absurd (none-some h at)
exited_in-last (None ∷ slots) (suc place) h at only l = exited_in-last slots place h at (only-rest None slots place h.object only) l
exited_in-last (Some g ∷ slots) zero h at only l =
    let e : g ≡ h = same_Some g h at in
    let o : g.object ≡ h.object = ap (λ (x : Holding). x.object) e in
    exited_in-here (held_value g) (present slots) h.object o
    ∙ ap (λ (x : Holding). less_one (held_value x) (present slots)) e ∙ less_one-last (held_value h) (present slots) l
    ∙ sym (given_up-here (held_value g) (present slots) h.object o)
exited_in-last (Some g ∷ slots) (suc place) h at only l =
    exited_in-past (held_value g) (present slots) h.object (only-first g slots place h.object only)
    ∙ ap (λ hs. held_value g ∷ hs) (exited_in-last slots place h at (only-rest (Some g) slots place h.object only) l)
    ∙ sym (given_up-past (held_value g) (present slots) h.object (only-first g slots place h.object only))

-- ---- slots that are the same, but for empty ones at the end; a monitor moved down over empty slots

all-empty : (slots : List (Option Holding)) → ((place : ℕ) → slot_at slots place ≡ None) → present slots ≡ []
all-empty [] empty = refl
all-empty (None ∷ slots) empty = all-empty slots (λ place. empty (suc place))
all-empty (Some g ∷ slots) empty = absurd (none-some g (sym (empty 0)))

pub present-same : (xs ys : List (Option Holding)) → ((place : ℕ) → slot_at xs place ≡ slot_at ys place) → present xs ≡ present ys
present-same [] ys same = sym (all-empty ys (λ place. sym (same place)))
present-same (x ∷ xs) [] same = all-empty (x ∷ xs) same
present-same (None ∷ xs) (None ∷ ys) same = present-same xs ys (λ place. same (suc place))
present-same (None ∷ xs) (Some h ∷ ys) same = absurd (none-some h (same 0))
present-same (Some g ∷ xs) (None ∷ ys) same = absurd (none-some g (sym (same 0)))
present-same (Some g ∷ xs) (Some h ∷ ys) same =
    ap (λ (x : Holding). held_value x ∷ present xs) (same_Some g h (same 0)) ∙ ap (λ hs. held_value h ∷ hs) (present-same xs ys (λ place. same (suc place)))

present-first : (slots : List (Option Holding)) (from : ℕ) (h : Holding) → slot_at slots from ≡ Some h → ((place : ℕ) → place < from → slot_at slots place ≡ None)
    → held_value h ∷ present (set slots from None) ≡ present slots
present-first [] from h at empty = absurd (none-some h at)
present-first (None ∷ slots) zero h at empty = absurd (none-some h at)
present-first (Some g ∷ slots) zero h at empty = ap (λ (x : Holding). held_value x ∷ present slots) (sym (same_Some g h at))
present-first (None ∷ slots) (suc from) h at empty = present-first slots from h at (λ place l. empty (suc place) (omega arith))
present-first (Some g ∷ slots) (suc from) h at empty = absurd (none-some g (sym (empty 0 (omega arith))))

pub present-moved : (slots : List (Option Holding)) (to from : ℕ) (h : Holding) → to ≤ from → slot_at slots from ≡ Some h
    → ((place : ℕ) → to ≤ place → place < from → slot_at slots place ≡ None) → present (set (set slots from None) to (Some h)) ≡ present slots
present-moved [] to from h l at empty = absurd (none-some h at)
present-moved (s ∷ slots) zero zero h l at empty = ap (λ (x : Option Holding). present (x ∷ slots)) (sym at)
present-moved (None ∷ slots) zero (suc from) h l at empty = present-first slots from h at (λ place b. empty (suc place) (omega arith) (omega arith))
present-moved (Some g ∷ slots) zero (suc from) h l at empty = absurd (none-some g (sym (empty 0 (omega arith) (omega arith))))
present-moved (s ∷ slots) (suc to) zero h l at empty = absurd (omega arith)
present-moved (None ∷ slots) (suc to) (suc from) h l at empty = present-moved slots to from h (omega arith) at (λ place a b. empty (suc place) (omega arith) (omega arith))
present-moved (Some g ∷ slots) (suc to) (suc from) h l at empty =
    ap (λ hs. held_value g ∷ hs) (present-moved slots to from h (omega arith) at (λ place a b. empty (suc place) (omega arith) (omega arith)))
