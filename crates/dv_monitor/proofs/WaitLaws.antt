-- The threads that wait, by the place of one.
use Rattle.std.proofs.Common.{◌≡◌, ℕ, zero, suc, ◌<◌, ◌&&◌, not, cond, Bool, true, false, List, [], ◌∷◌, Option, Some, None, refl, ap, sym, ◌∙◌, arith, get_or, set, length, nat_eq, inl, inr, IfSome, IsSome, IsSomeAnd, IsTrue, rules}
use Rattle.std.specs.List.{find, position, position_or_len, remove}
use Rattle.std.specs.Option.{option_map}
use Rattle.std.proofs.lemmas.Bool.{cases_lt, eqb-true, lt-ltb}
use Rattle.std.proofs.lemmas.List.Quantifiers.{position-Some}
use Rattle.std.proofs.lemmas.List.Sums.{fails_before_first}
use Rattle.std.proofs.lemmas.Option.{none-some, same_Some}
use Rattle.dv_machine.specs.Monitors.{Held, Monitors, Wait, as_notified, entered_in, notify_each, notify_first, resumed, wait_in, wait_of, without}
use Rattle.dv_monitor.specs.declared.wait.Wait as kept
use Rattle.dv_monitor.specs.Waits.{wait_value, wait_values}

-- ---- a list whose first passes a test, or doesn't

found-by : (b : Bool) (w : kept.Wait) (o : Option kept.Wait) (p : Option Wait) → option_map wait_value o ≡ p
    → option_map wait_value (cond b (Some w) o) ≡ elim b [ true ↦ Some (wait_value w) | false ↦ p ]
found-by true w o p e = refl
found-by false w o p e = e

pub wait_in-find : (t : ℕ) (ws : List kept.Wait) → option_map wait_value (find (λ w. nat_eq w.thread t) ws) ≡ wait_in t (wait_values ws)
wait_in-find t [] = refl
wait_in-find t (w ∷ ws) = found-by (nat_eq w.thread t) w (find (λ w. nat_eq w.thread t) ws) (wait_in t (wait_values ws)) (wait_in-find t ws)

pub position-None : {X : Type 0} (p : X → Bool) (xs : List X) → position p xs ≡ None → (k : ℕ) (d : X) → k < length xs → p (get_or xs k d) ≡ false
position-None {X} p xs none k d l =
    elim (cases_lt (position_or_len p xs) (length xs)) [
      | inl b ↦ absurd (none-some (position_or_len p xs) (sym none ∙ rw (lt-ltb (position_or_len p xs) (length xs) b)))
      | inr a ↦ fails_before_first p xs k d (omega arith)
    ]

-- ---- by the place of the first that passes

abbrev pub no_wait : kept.Wait
no_wait = record { thread = 0; object = 0; kept = 0; notified = false }

pub wait_in-none : (t : ℕ) (ws : List kept.Wait) → ((k : ℕ) (d : kept.Wait) → k < length ws → nat_eq (get_or ws k d).thread t ≡ false) → wait_in t (wait_values ws) ≡ None
wait_in-none t [] fails = refl
wait_in-none t (w ∷ ws) fails = rw (fails 0 w (omega arith), wait_in) (wait_in-none t ws (λ k d l. fails (suc k) d (omega arith)))

pub place-some : (t : ℕ) (ws : List kept.Wait) (place : Option ℕ) → place ≡ position (λ (w : kept.Wait). nat_eq w.thread t) ws → IsSome (wait_in t (wait_values ws)) → IsSome place
place-some t ws (Some i) e s = search rules
place-some t ws None e s =
    let none : wait_in t (wait_values ws) ≡ None = wait_in-none t ws (position-None (λ (w : kept.Wait). nat_eq w.thread t) ws (sym e)) in
    rw none at s

pub wait_in-at : (t : ℕ) (ws : List kept.Wait) (i : ℕ) (d : kept.Wait) → i < length ws → nat_eq (get_or ws i d).thread t ≡ true
    → ((k : ℕ) → k < i → nat_eq (get_or ws k d).thread t ≡ false) → wait_in t (wait_values ws) ≡ Some (wait_value (get_or ws i d))
wait_in-at t [] i d l passes fails = absurd (omega arith)
wait_in-at t (w ∷ ws) zero d l passes fails = rw (passes, wait_in)
wait_in-at t (w ∷ ws) (suc i) d l passes fails = rw (fails 0 (omega arith), wait_in) (wait_in-at t ws i d (omega arith) passes (λ k b. fails (suc k) (omega arith)))

pub without-at : (t : ℕ) (ws : List kept.Wait) (i : ℕ) (d : kept.Wait) → i < length ws → nat_eq (get_or ws i d).thread t ≡ true
    → ((k : ℕ) → k < i → nat_eq (get_or ws k d).thread t ≡ false) → wait_values (remove ws i) ≡ without t (wait_values ws)
without-at t [] i d l passes fails = absurd (omega arith)
without-at t (w ∷ ws) zero d l passes fails = rw (passes, without)
without-at t (w ∷ ws) (suc i) d l passes fails =
    rw (fails 0 (omega arith), without) (ap (λ vs. wait_value w ∷ vs) (without-at t ws i d (omega arith) passes (λ k b. fails (suc k) (omega arith))))

pub taken-at : (t : ℕ) (ws xs : List kept.Wait) (place : Option ℕ) (i : ℕ) (w : kept.Wait) → place ≡ position (λ (w : kept.Wait). nat_eq w.thread t) xs → xs ≡ ws
    → place ≡ Some i → w ≡ get_or ws i w → (wait_in t (wait_values ws) ≡ Some (wait_value w)) × (wait_values (remove ws i) ≡ without t (wait_values ws))
taken-at t ws xs place i w first same found is =
    let at : position (λ (w : kept.Wait). nat_eq w.thread t) ws ≡ Some i = ap (λ (vs : List kept.Wait). position (λ (w : kept.Wait). nat_eq w.thread t) vs) (sym same) ∙ sym first ∙ found in
    let h = position-Some (λ (w : kept.Wait). nat_eq w.thread t) ws i w at in
    (wait_in-at t ws i w h.0 h.1 h.2 ∙ ap (λ (v : kept.Wait). Some (wait_value v)) (sym is), without-at t ws i w h.0 h.1 h.2)

abbrev pub is_next : ℕ → kept.Wait → Bool
is_next o w = nat_eq w.object o && not w.notified

abbrev pub told : kept.Wait → kept.Wait
told w = record w { notified = true }

pub notify_first-none : (o : ℕ) (ws : List kept.Wait) → ((k : ℕ) (d : kept.Wait) → k < length ws → is_next o (get_or ws k d) ≡ false)
    → wait_values ws ≡ notify_first o (wait_values ws)
notify_first-none o [] fails = refl
notify_first-none o (w ∷ ws) fails = rw (fails 0 w (omega arith), notify_first) (ap (λ vs. wait_value w ∷ vs) (notify_first-none o ws (λ k d l. fails (suc k) d (omega arith))))

pub notify_first-at : (o : ℕ) (ws : List kept.Wait) (i : ℕ) (d : kept.Wait) → i < length ws → is_next o (get_or ws i d) ≡ true
    → ((k : ℕ) → k < i → is_next o (get_or ws k d) ≡ false) → wait_values (set ws i (told (get_or ws i d))) ≡ notify_first o (wait_values ws)
notify_first-at o [] i d l passes fails = absurd (omega arith)
notify_first-at o (w ∷ ws) zero d l passes fails = rw (passes, notify_first)
notify_first-at o (w ∷ ws) (suc i) d l passes fails =
    rw (fails 0 (omega arith), notify_first) (ap (λ vs. wait_value w ∷ vs) (notify_first-at o ws i d (omega arith) passes (λ k b. fails (suc k) (omega arith))))

-- ---- all that wait for the object

abbrev pub told_of : ℕ → kept.Wait → kept.Wait
told_of o w = cond (nat_eq w.object o) (told w) w

told-by : (b : Bool) (w : kept.Wait) (vs : List Wait)
    → wait_value (cond b (told w) w) ∷ vs ≡ elim b [ true ↦ as_notified (wait_value w) ∷ vs | false ↦ wait_value w ∷ vs ]
told-by true w vs = refl
told-by false w vs = refl

pub notify_each-all : (o : ℕ) (ws xs : List kept.Wait) → length xs ≡ length ws → ((k : ℕ) (d : kept.Wait) → k < length ws → get_or xs k d ≡ told_of o (get_or ws k d))
    → wait_values xs ≡ notify_each o (wait_values ws)
notify_each-all o [] [] e all = refl
notify_each-all o [] (x ∷ xs) e all = absurd (omega arith)
notify_each-all o (w ∷ ws) [] e all = absurd (omega arith)
notify_each-all o (w ∷ ws) (x ∷ xs) e all =
    ap (λ (y : kept.Wait). wait_value y ∷ wait_values xs) (all 0 w (omega arith))
    ∙ ap (λ vs. wait_value (told_of o w) ∷ vs) (notify_each-all o ws xs (omega arith) (λ k d l. all (suc k) d (omega arith)))
    ∙ told-by (nat_eq w.object o) w (notify_each o (wait_values ws))

-- ---- a thread that takes its monitor back

same-thread : (b : Bool) (t : ℕ) (v w : Wait) (o : Option Wait) → (b ≡ true → v.thread ≡ t) → (o ≡ Some w → w.thread ≡ t) → elim b [ true ↦ Some v | false ↦ o ] ≡ Some w → w.thread ≡ t
same-thread true t v w o here past e = ap (λ (x : Wait). x.thread) (sym (same_Some v w e)) ∙ here refl
same-thread false t v w o here past e = past e

pub wait_in-thread : (t : ℕ) (ws : List Wait) (w : Wait) → wait_in t ws ≡ Some w → w.thread ≡ t
wait_in-thread t [] w e = absurd (none-some w e)
wait_in-thread t (v ∷ ws) w e = same-thread (nat_eq v.thread t) t v w (wait_in t ws) (eqb-true v.thread t) (wait_in-thread t ws w) e

pub taken-back : (ms : Monitors) (o t : ℕ) (w : Wait) (held : List Held) (waits : List Wait) → wait_in t ms.waits ≡ Some w
    → IsSomeAnd (wait_of ms t) (λ (v : Wait). (v.object ≡ o) × IsTrue v.notified) → held ≡ entered_in ms.held o t w.kept → waits ≡ without t ms.waits
    → IfSome (wait_of ms t) (λ v. ◌≡◌ {A = Monitors} (record { held = held; waits = waits }) (resumed ms v))
taken-back ms o t w held waits found notified entered left =
    let thread : w.thread ≡ t = wait_in-thread t ms.waits w found in
    let about = rw found at notified in
    let object : w.object ≡ o = about.0 in
    let make : List Held → List Wait → Monitors = λ hs ws. record { held = hs; waits = ws } in
    rw found
    (ap (λ hs. make hs waits) (entered ∙ ap (λ x. entered_in ms.held x t w.kept) (sym object) ∙ ap (λ x. entered_in ms.held w.object x w.kept) (sym thread))
    ∙ ap (λ ws. make (entered_in ms.held w.object w.thread w.kept) ws) (left ∙ ap (λ x. without x ms.waits) (sym thread)))
