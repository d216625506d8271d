-- Monitors as a value, with what each call makes of them (JLS 17.1, 17.2).
use Rattle.std.specs.Prelude.{ℕ, ◌+◌, ◌-◌, ◌++◌, Bool, true, false, ◌&&◌, not, List, [], ◌∷◌, Option, Some, None, nat_eq, nat_le}

-- a monitor that a thread owns, and how often
pub record Held : Type 0 where
  pub object : ℕ
  pub thread : ℕ
  pub count : ℕ

-- a thread that waits for an object
pub record Wait : Type 0 where
  pub thread : ℕ
  pub object : ℕ
  pub kept : ℕ
  pub notified : Bool

-- the owned monitors in the order of their first entering, the waiting threads in the order of waiting
pub record Monitors : Type 0 where
  pub held : List Held
  pub waits : List Wait

abbrev pub held_in : List Held → ℕ → Option Held
held_in [] o = None
held_in (h ∷ hs) o = elim (nat_eq h.object o) [ true ↦ Some h | false ↦ held_in hs o ]

abbrev pub held_of : Monitors → ℕ → Option Held
held_of m o = held_in m.held o

abbrev pub owner_of : Monitors → ℕ → Option ℕ
owner_of m o = elim (held_of m o) [ None ↦ None | Some h ↦ Some h.thread ]

abbrev pub entered_in : List Held → ℕ → ℕ → ℕ → List Held
entered_in [] o t n = record { object = o; thread = t; count = n } ∷ []
entered_in (h ∷ hs) o t n =
    elim (nat_eq h.object o) [
      | true ↦ record { object = o; thread = t; count = h.count + n } ∷ hs
      | false ↦ h ∷ entered_in hs o t n
    ]

-- so many times more; where no other thread owns it
abbrev pub entered : Monitors → ℕ → ℕ → ℕ → Monitors
entered m o t n = record { held = entered_in m.held o t n; waits = m.waits }

abbrev pub less_one : Held → List Held → List Held
less_one h hs = elim (nat_le h.count 1) [ true ↦ hs | false ↦ record { object = h.object; thread = h.thread; count = h.count - 1 } ∷ hs ]

abbrev pub exited_in : List Held → ℕ → List Held
exited_in [] o = []
exited_in (h ∷ hs) o = elim (nat_eq h.object o) [ true ↦ less_one h hs | false ↦ h ∷ exited_in hs o ]

abbrev pub exited : Monitors → ℕ → Monitors
exited m o = record { held = exited_in m.held o; waits = m.waits }

abbrev pub given_up : List Held → ℕ → List Held
given_up [] o = []
given_up (h ∷ hs) o = elim (nat_eq h.object o) [ true ↦ hs | false ↦ h ∷ given_up hs o ]

-- a thread that owns it so many times gives it up and waits
abbrev pub waiting : Monitors → ℕ → ℕ → ℕ → Monitors
waiting m o t n = record { held = given_up m.held o; waits = m.waits ++ record { thread = t; object = o; kept = n; notified = false } ∷ [] }

abbrev pub as_notified : Wait → Wait
as_notified w = record { thread = w.thread; object = w.object; kept = w.kept; notified = true }

abbrev pub notify_first : ℕ → List Wait → List Wait
notify_first o [] = []
notify_first o (w ∷ ws) = elim (nat_eq w.object o && not w.notified) [ true ↦ as_notified w ∷ ws | false ↦ w ∷ notify_first o ws ]

abbrev pub notify_each : ℕ → List Wait → List Wait
notify_each o [] = []
notify_each o (w ∷ ws) = elim (nat_eq w.object o) [ true ↦ as_notified w ∷ notify_each o ws | false ↦ w ∷ notify_each o ws ]

abbrev pub notified_one : Monitors → ℕ → Monitors
notified_one m o = record { held = m.held; waits = notify_first o m.waits }

abbrev pub notified_all : Monitors → ℕ → Monitors
notified_all m o = record { held = m.held; waits = notify_each o m.waits }

abbrev pub wait_in : ℕ → List Wait → Option Wait
wait_in t [] = None
wait_in t (w ∷ ws) = elim (nat_eq w.thread t) [ true ↦ Some w | false ↦ wait_in t ws ]

abbrev pub wait_of : Monitors → ℕ → Option Wait
wait_of m t = wait_in t m.waits

abbrev pub without : ℕ → List Wait → List Wait
without t [] = []
without t (w ∷ ws) = elim (nat_eq w.thread t) [ true ↦ ws | false ↦ w ∷ without t ws ]

-- a notified thread takes a free monitor back, as often as it had it
abbrev pub resumed : Monitors → Wait → Monitors
resumed m w = entered (record { held = m.held; waits = without w.thread m.waits }) w.object w.thread w.kept
