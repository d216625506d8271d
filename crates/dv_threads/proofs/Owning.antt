-- What the owner of a monitor may do.
use Rattle.std.proofs.Common.{◌≡◌, ℕ, zero, suc, ◌-◌, ◌^◌, ◌<◌, Bool, true, false, cond, Option, Some, None, refl, sym, ap, ◌∙◌, subst, arith}
use Rattle.std.specs.Prelude.{IfSome, is_none, is_some, nat_eq, nat_lt, if◌then◌else◌}
use Rattle.std.specs.Option.{ForSome}
use Rattle.std.proofs.lemmas.Bool.{both_ways, eqb-true, lt-ltb}
use Rattle.std.proofs.lemmas.Bool.Decides.{nat_tests}
use Rattle.std.proofs.lemmas.Option.{none-some, same_Some}
use Rattle.dv_defs.specs.declared.machine.Blocked.TheVariants as blocked
use Rattle.dv_defs.specs.declared.run.Named.TheVariants as named
use Rattle.dv_machine.specs.Monitors.{Held, Monitors, Wait, entered, held_of, owner_of, resumed, wait_of}
use Rattle.dv_machine.specs.Mem.{on_object}
use Rattle.dv_machine.specs.State.{Did, Throws, where_true}
use Rattle.dv_machine.specs.Running.{by_owner}
use Rattle.dv_monitor.specs.declared.entry.Entry.{Entry}
use Rattle.dv_monitor.specs.declared.entry.Entry.TheVariants.{Entered, Full, Taken}
use Rattle.dv_monitor.specs.Entering.{entry_again, entry_for}
use Rattle.dv_monitor.specs.State.{count_of}
use Rattle.dv_words.specs.Running.{blocked_enter}
use Rattle.dv_words.specs.Steps.{At, Left, goes, stays, with_monitors}
use Rattle.dv_words.specs.Threads.{free_or_mine, holding, holding_it, monitor_enter, taken_back, wait_on, wait_step}

pub on_some : {A : Type 0} (go : ℕ → Did A) (o : ℕ) → 0 < o → on_object go o ≡ go o
on_some go zero some = absurd (omega arith)
on_some go (suc o) some = refl

pub on_null : {A : Type 0} (go : ℕ → Did A) (o : ℕ) → o ≡ 0 → on_object go o ≡ Throws named.NullPointer
on_null go o null = ap (on_object go) null

same_number : (a b : ℕ) → a ≡ b → nat_eq a b ≡ true
same_number a b e = grind (arith, nat_tests)

other_number : (a b : ℕ) → (a ≡ b → ⊥) → nat_eq a b ≡ false
other_number a b e = by (nat_eq a b) refl
  where
    by : (c : Bool) → nat_eq a b ≡ c → nat_eq a b ≡ false
    by true is = absurd (e (grind (arith, nat_tests)))
    by false is = is

-- ---- what a thread is told that tries to enter a monitor

abbrev thread_in : Option Held → Option ℕ
thread_in x = elim x [ None ↦ None | Some y ↦ Some y.thread ]

abbrev count_in : Option Held → ℕ
count_in x = elim x [ None ↦ 0 | Some y ↦ y.count ]

abbrev entry_in : ℕ → Option Held → Entry
entry_in t x = elim x [ None ↦ Entered | Some y ↦ entry_again t y ]

-- the owner's own, by whether it can be counted
abbrev entry_by : Bool → Bool → Entry
entry_by mine few = if mine then (if few then Entered else Full) else Taken

entered_mine : (mine few : Bool) → Entered ≡ entry_by mine few → mine ≡ true
entered_mine true few e = refl
entered_mine false few e = absurd (cc e)

taken_other : (mine few : Bool) → Taken ≡ entry_by mine few → mine ≡ false
taken_other false few e = refl
taken_other true true e = absurd (cc e)
taken_other true false e = absurd (cc e)

full_many : (mine few : Bool) → Full ≡ entry_by mine few → few ≡ false
full_many true false e = refl
full_many true true e = absurd (cc e)
full_many false few e = absurd (cc e)

entered_owner : (t : ℕ) (x : Option Held) → Entered ≡ entry_in t x → ForSome (thread_in x) (λ owner. owner ≡ t)
entered_owner t None e = λ owner is. absurd (none-some owner is)
entered_owner t (Some y) e = λ owner is. sym (same_Some y.thread owner is) ∙ eqb-true y.thread t (entered_mine (nat_eq y.thread t) (nat_lt y.count (2 ^ 64 - 1)) e)

entered_free : (t : ℕ) (x : Option Held) → Entered ≡ entry_in t x → is_none (by_owner t (thread_in x)) ≡ true
entered_free t None e = refl
entered_free t (Some y) e = rw (entered_mine (nat_eq y.thread t) (nat_lt y.count (2 ^ 64 - 1)) e)

taken_held : (t : ℕ) (x : Option Held) → Taken ≡ entry_in t x → is_none (by_owner t (thread_in x)) ≡ false
taken_held t None e = absurd (cc e)
taken_held t (Some y) e = rw (taken_other (nat_eq y.thread t) (nat_lt y.count (2 ^ 64 - 1)) e)

full_count : (t : ℕ) (x : Option Held) → Full ≡ entry_in t x → count_in x < 2 ^ 64 - 1 → ⊥
full_count t None e few = absurd (cc e)
full_count t (Some y) e few =
    both_ways (nat_lt y.count (2 ^ 64 - 1)) (full_many (nat_eq y.thread t) (nat_lt y.count (2 ^ 64 - 1)) e) (lt-ltb y.count (2 ^ 64 - 1) few)

pub taken_apart : Taken ≡ Entered → ⊥
taken_apart e = cc e

pub entered_for : (m : Monitors) (o t : ℕ) → Entered ≡ entry_for m o t → ForSome (owner_of m o) (λ owner. owner ≡ t)
entered_for m o t e = entered_owner t (held_of m o) e

pub full_for : (m : Monitors) (o t : ℕ) → Full ≡ entry_for m o t → count_of m o < 2 ^ 64 - 1 → ⊥
full_for m o t e few = full_count t (held_of m o) e few

enter_some : (m : Monitors) (t o : ℕ) → 0 < o → blocked_enter m t o ≡ by_owner t (owner_of m o)
enter_some m t zero some = absurd (omega arith)
enter_some m t (suc o) some = refl

-- ---- a thread that is held up stays

shut_by : (mine : Bool) → is_none (if mine then None else Some blocked.Monitor) ≡ false → mine ≡ false
shut_by false e = refl
shut_by true e = absurd (cc e)

shut : (h : At) (x : Option ℕ) → is_none (by_owner h.thread x) ≡ false → free_or_mine h x ≡ false
shut h None e = absurd (cc e)
shut h (Some u) e = shut_by (nat_eq u h.thread) e

pub waits : (h : At) (o : ℕ) → is_none (blocked_enter h.shared.monitors h.thread o) ≡ false → on_object (monitor_enter h) o ≡ stays h
waits h zero e = absurd (cc e)
waits h (suc o) e =
    ap (λ b. cond b (goes h (with_monitors h.shared (entered h.shared.monitors (suc o) h.thread 1))) (stays h)) (shut h (owner_of h.shared.monitors (suc o)) e)

module _ (h : At) (o : ℕ) (m : Monitors) (t : ℕ) (monitors : h.shared.monitors ≡ m) (thread : h.thread ≡ t) where
  open_by : (x : Option ℕ) → ForSome x (λ owner. owner ≡ t) → free_or_mine h x ≡ true
  open_by None own = refl
  open_by (Some u) own = same_number u h.thread (own u refl ∙ sym thread)

  abbrev entering : Bool → Did Left
  entering b = cond b (goes h (with_monitors h.shared (entered h.shared.monitors o h.thread 1))) (stays h)

  -- nothing holds up a thread that entered; another owner does
  pub free_entered : 0 < o → Entered ≡ entry_for m o t → is_none (blocked_enter h.shared.monitors h.thread o) ≡ true
  free_entered some e = (λ j. is_none (blocked_enter (monitors j) (thread j) o)) ∙ (ap is_none (enter_some m t o some) ∙ entered_free t (held_of m o) e)

  pub held_up : 0 < o → Taken ≡ entry_for m o t → is_none (blocked_enter h.shared.monitors h.thread o) ≡ false
  held_up some e = (λ j. is_none (blocked_enter (monitors j) (thread j) o)) ∙ (ap is_none (enter_some m t o some) ∙ taken_held t (held_of m o) e)

  pub enters : ForSome (owner_of m o) (λ owner. owner ≡ t) → monitor_enter h o ≡ goes h (with_monitors h.shared (entered m o t 1))
  enters own =
      let P : Monitors → Type 0 = λ k. ForSome (owner_of k o) (λ owner. owner ≡ t) in
      ap entering (open_by (owner_of h.shared.monitors o) (subst P (sym monitors) own)) ∙
      (λ j. goes h (with_monitors h.shared (entered (monitors j) o (thread j) 1)))

  module _ (go : ℕ → Did Left) where
    owned_by : (x : Option Held) → thread_in x ≡ Some t → holding_it h go x ≡ go (count_in x)
    owned_by None own = absurd (cc)
    owned_by (Some y) own =
        let mine : y.thread ≡ t = cc in
        ap (λ b. where_true b named.IllegalMonitorState (go y.count)) (same_number y.thread h.thread (mine ∙ sym thread))

    other_by : (x : Option Held) → (thread_in x ≡ Some t → ⊥) → holding_it h go x ≡ Throws named.IllegalMonitorState
    other_by None other = refl
    other_by (Some y) other =
        ap (λ b. where_true b named.IllegalMonitorState (go y.count)) (other_number y.thread h.thread (λ e. other (ap Some (e ∙ thread))))

    -- the owner does it, as often as it has entered
    pub owned : owner_of m o ≡ Some t → holding h o go ≡ go (count_of m o)
    owned own = owned_by (held_of h.shared.monitors o) (ap (λ k. owner_of k o) monitors ∙ own) ∙ ap (λ k. go (count_of k o)) monitors

    pub not_owned : (owner_of m o ≡ Some t → ⊥) → holding h o go ≡ Throws named.IllegalMonitorState
    not_owned other = other_by (held_of h.shared.monitors o) (λ own. other (ap (λ k. owner_of k o) (sym monitors) ∙ own))

  -- ---- the second step of a wait

  stays_by : (w : Wait) (b : Bool) (x : Option ℕ) → b ≡ false → taken_back h w b x ≡ stays h
  stays_by w false x e = refl
  stays_by w true x e = absurd (cc e)

  pub not_told : (w : Wait) → w.notified ≡ false → wait_step h o (Some w) ≡ stays h
  not_told w e = stays_by w w.notified (owner_of h.shared.monitors w.object) e

  taken_by : (w : Wait) (b : Bool) (x : Option ℕ) → is_some x ≡ true → taken_back h w b x ≡ stays h
  taken_by w b None e = absurd (cc e)
  taken_by w true (Some u) e = refl
  taken_by w false (Some u) e = refl

  pub not_free : (w : Wait) → is_some (owner_of m w.object) ≡ true → wait_step h o (Some w) ≡ stays h
  not_free w e = taken_by w w.notified (owner_of h.shared.monitors w.object) (ap (λ k. is_some (owner_of k w.object)) monitors ∙ e)

  back_with : (w : Wait) (b : Bool) (x : Option ℕ) → b ≡ true → is_some x ≡ false → taken_back h w b x ≡ goes h (with_monitors h.shared (resumed h.shared.monitors w))
  back_with w true None e f = refl
  back_with w false x e f = absurd (cc e)
  back_with w true (Some u) e f = absurd (cc f)

  pub back : (w : Wait) → w.notified ≡ true → is_some (owner_of m w.object) ≡ false → wait_step h o (Some w) ≡ goes h (with_monitors h.shared (resumed m w))
  back w e f =
      back_with w w.notified (owner_of h.shared.monitors w.object) e (ap (λ k. is_some (owner_of k w.object)) monitors ∙ f) ∙
      ap (λ k. goes h (with_monitors h.shared (resumed k w))) monitors

  pub wait_is : (x : Option Wait) → x ≡ wait_of m t → wait_on h o ≡ wait_step h o x
  wait_is x e = (λ j. wait_step h o (wait_of (monitors j) (thread j))) ∙ ap (wait_step h o) (sym e)

pub resumes : (m : Monitors) (t : ℕ) (w : Wait) (k : Monitors) → wait_of m t ≡ Some w → IfSome (wait_of m t) (λ v. k ≡ resumed m v) → k ≡ resumed m w
resumes m t w k is does = by (wait_of m t) is does
  where
    by : (x : Option Wait) → x ≡ Some w → IfSome x (λ v. k ≡ resumed m v) → k ≡ resumed m w
    by None e f = absurd (cc e)
    by (Some v) e f = let same : v ≡ w = cc e in f ∙ ap (resumed m) same
