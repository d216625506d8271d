-- What words ask for can be done: its limits are usable, its workers are few, and a demo is small.
use Rattle.std.proofs.Common.{◌≡◌, ℕ, ◌≤◌, Bool, true, false, List, [], ◌∷◌, Option, Some, None, refl, ap, sym, subst, ◌∙◌, arith}
use Rattle.std.specs.Prelude.{◌&&◌, nat_le, is_some, unwrap_or, option_and_then, option_map, bytes_eq, codes, if◌then◌else◌, IfSome}
use Rattle.std.proofs.lemmas.Bool.{and_parts, leb-true}
use Rattle.dv_defs.specs.declared.run.Limits.{Limits}
use Rattle.dv_console.specs.declared.command.Cmd.{Cmd}
use Rattle.dv_console.specs.declared.command.Cmd.TheVariants as cmd
use Rattle.dv_console.specs.declared.keys.Key.{Key}
use Rattle.dv_console.specs.declared.keys.Key.TheVariants as key
use Rattle.dv_console.specs.Words.{alone, command_in, demo_in, greatest, in_range, is_java_name, least, limits_in, limits_of, named, number_in, replay_in, run_in, run_of, set_by, setting, texts_of, value_in, descriptor_of}
use Rattle.dv_sound.specs.Moves.{AreUsable}
use Rattle.dv_top.specs.Words.{IsUsable}

-- ---- numbers

abbrev IsWithin : ℕ → ℕ → ℕ → Type 0
IsWithin low high m = (low ≤ m) × (m ≤ high)

within : (low high n m : ℕ) (b : Bool) → (nat_le low n && nat_le n high) ≡ b → (if b then Some n else None) ≡ Some m → IsWithin low high m
within low high n m true is e =
    let same : n ≡ m = cc in
    let parts = and_parts (nat_le low n) (nat_le n high) is in
    subst (IsWithin low high) same (leb-true low n parts.0, leb-true n high parts.1)
within low high n m false is e = absurd (cc)

value_within : (k : Key) (o : Option ℕ) (m : ℕ) → option_and_then (in_range k) o ≡ Some m → IsWithin (least k) (greatest k) m
value_within k None m e = absurd (cc)
value_within k (Some n) m e = within (least k) (greatest k) n m (nat_le (least k) n && nat_le n (greatest k)) refl e

-- what words set a key to that is a number
module _ (k : Key) (number : (text : List ℕ) → value_in k text ≡ option_and_then (in_range k) (number_in text)) where
  set_within : (texts : List (List ℕ)) (n : ℕ) → set_by k texts ≡ Some (Some n) → IsWithin (least k) (greatest k) n
  set_within [] n e = absurd (cc)
  set_within (text ∷ []) n e = by (value_in k text) refl e
    where
      by : (o : Option ℕ) → value_in k text ≡ o → option_map Some o ≡ Some (Some n) → IsWithin (least k) (greatest k) n
      by None is e = absurd (cc)
      by (Some m) is e = let same : m ≡ n = cc in value_within k (number_in text) n (sym (number text) ∙ (is ∙ ap Some same))
  set_within (text ∷ other ∷ texts) n e = absurd (cc)

-- one to eight
few_workers : (workers : Option ℕ) (texts : List (List ℕ)) → set_by key.Workers texts ≡ Some workers → IsWithin 1 8 (unwrap_or workers 1)
few_workers None texts is = (omega arith, omega arith)
few_workers (Some n) texts is = set_within key.Workers (λ _. refl) texts n is

-- ---- limits

usable_of : (budget heap : Option ℕ) → unwrap_or heap 1048576 ≤ 8388608 → AreUsable (limits_of budget heap)
usable_of budget heap small = record { threads = omega arith; levels = omega arith; words = omega arith; heap = omega (arith, small) }

usable_heap : (budget heap : Option ℕ) (texts : List (List ℕ)) → set_by key.Heap texts ≡ Some heap → AreUsable (limits_of budget heap)
usable_heap budget None texts is = usable_of budget None (omega arith)
usable_heap budget (Some n) texts is = usable_of budget (Some n) (set_within key.Heap (λ _. refl) texts n is).1

limits_usable : (words : List (List ℕ)) (l : Limits) → limits_in words ≡ Some l → AreUsable l
limits_usable words l e = by (setting key.Budget words) (setting key.Heap words) refl e
  where
    by : (b h : Option (Option ℕ)) → setting key.Heap words ≡ h → option_and_then (λ budget. option_and_then (λ heap. Some (limits_of budget heap)) h) b ≡ Some l → AreUsable l
    by None h is e = absurd (cc)
    by (Some budget) None is e = absurd (cc)
    by (Some budget) (Some heap) is e =
        let same : limits_of budget heap ≡ l = cc in
        subst AreUsable same (usable_heap budget heap (texts_of key.Heap words) is)

-- ---- commands

-- whatever command it is, it is usable
abbrev Good : Option Cmd → Type 0
Good o = (c : Cmd) → o ≡ Some c → IsUsable c

good_none : Good None
good_none c e = absurd (cc)

good_if : (b : Bool) (x y : Option Cmd) → Good x → Good y → Good (if b then x else y)
good_if true x y gx gy = gx
good_if false x y gx gy = gy

good_then : {A : Type 0} (o : Option A) (f : A → Option Cmd) → ((x : A) → o ≡ Some x → Good (f x)) → Good (option_and_then f o)
good_then None f each c e = absurd (cc)
good_then (Some x) f each c e = each x refl c e

good_map : {A : Type 0} (o : Option A) (f : A → Cmd) → ((x : A) → o ≡ Some x → IsUsable (f x)) → Good (option_map f o)
good_map None f each c e = absurd (cc)
good_map (Some x) f each c e = let same : f x ≡ c = cc in subst IsUsable same (each x refl)

good_run : (class : List ℕ) (workers seed : Option ℕ) (limits : Limits) (log : Option ℕ) → AreUsable limits → IsWithin 1 8 (unwrap_or workers 1) → Good (run_of class workers seed limits log)
good_run class workers seed limits log usable few =
    good_if (is_some workers && is_some seed) None (Some (cmd.Run class (unwrap_or workers 1) seed limits (is_some log))) good_none
    (λ c e.
    let same : cmd.Run class (unwrap_or workers 1) seed limits (is_some log) ≡ c = cc in
    subst IsUsable same (record { limits = usable; workers = few; demo = tt }))

good_runs : (class : List ℕ) (words : List (List ℕ)) → Good (run_in class words)
good_runs class words =
    good_if _ _ None
    (good_then (setting key.Workers words) _
    (λ workers set.
    good_then (setting key.Seed words) _
    (λ seed _.
    good_then (limits_in words) _
    (λ limits is.
    good_then (setting key.Log words) _
    (λ log _. good_run class workers seed limits log (limits_usable words limits is) (few_workers workers (texts_of key.Workers words) set))))))
    good_none

good_replays : (class : List ℕ) (words : List (List ℕ)) → Good (replay_in class words)
good_replays class words = good_if _ _ None (good_map (limits_in words) (cmd.Replay class) (λ limits is. record { limits = limits_usable words limits is; workers = tt; demo = tt })) good_none

good_named : (of : List ℕ → List (List ℕ) → Option Cmd) (words : List (List ℕ)) → ((class : List ℕ) (rest : List (List ℕ)) → Good (of class rest)) → Good (named of words)
good_named of [] each = good_none
good_named of (name ∷ words) each = good_if (is_java_name name) (of (descriptor_of name) words) None (each (descriptor_of name) words) good_none

good_alone : (c : Cmd) (words : List (List ℕ)) → IsUsable c → Good (alone c words)
good_alone c [] usable d e = let same : c ≡ d = cc in subst IsUsable same usable
good_alone c (word ∷ words) usable d e = good_none d e

-- a number that words must set
set_number : (k : Key) (number : (text : List ℕ) → value_in k text ≡ option_and_then (in_range k) (number_in text)) (words : List (List ℕ)) (o : Option ℕ) (n : ℕ) → setting k words ≡ Some o → o ≡ Some n → IsWithin (least k) (greatest k) n
set_number k number words o n set is = set_within k number (texts_of k words) n (set ∙ ap Some is)

good_demo : (words : List (List ℕ)) → Good (demo_in words)
good_demo words =
    good_if _ _ None
    (good_then (setting key.Number words) _
    (λ n _.
    good_then n _
    (λ number _.
    good_then (setting key.Classes words) _
    (λ c some.
    good_then c _
    (λ classes many.
    good_then (setting key.Threads words) _
    (λ t others.
    good_then t _
    (λ threads more.
    good_then (setting key.Workers words) _
    (λ workers set d e.
    demo number classes threads (unwrap_or workers 1) (few_workers workers (texts_of key.Workers words) set)
    (set_number key.Classes (λ _. refl) words c classes some many).1 (set_number key.Threads (λ _. refl) words t threads others more).1 d e))))))))
    good_none
  where
    demo : (number classes threads workers : ℕ) → IsWithin 1 8 workers → classes ≤ 1000 → threads ≤ 60 → Good (Some (cmd.Demo number classes threads workers))
    demo number classes threads workers few some others d e =
        let same : cmd.Demo number classes threads workers ≡ d = cc in
        subst IsUsable same (record { limits = tt; workers = few; demo = (some, others) })

good_commands : (words : List (List ℕ)) → Good (command_in words)
good_commands [] = good_none
good_commands (verb ∷ words) =
    good_if (bytes_eq verb (codes "run")) _ _ (good_named run_in words good_runs)
    (good_if (bytes_eq verb (codes "replay")) _ _ (good_named replay_in words good_replays)
    (good_if (bytes_eq verb (codes "verify")) _ _ (good_alone cmd.Verify words (record { limits = tt; workers = tt; demo = tt }))
    (good_if (bytes_eq verb (codes "list")) _ _ (good_alone cmd.List words (record { limits = tt; workers = tt; demo = tt })) (good_if (bytes_eq verb (codes "demo")) _ None (good_demo words) good_none))))

-- what words ask for is usable
pub asked_usable : (words : List (List ℕ)) → IfSome (command_in words) IsUsable
asked_usable words = by (command_in words) refl
  where
    by : (o : Option Cmd) → command_in words ≡ o → IfSome o IsUsable
    by None is = tt
    by (Some c) is = good_commands words c is
