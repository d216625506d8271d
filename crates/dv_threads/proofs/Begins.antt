-- Threads that begin, and threads by their objects.
use Rattle.std.proofs.Common.{◌≡◌, ℕ, zero, suc, ◌+◌, ◌<◌, ◌≤◌, Bool, true, false, cond, List, [], ◌∷◌, length, Option, Some, None, refl, sym, ap, ◌∙◌, arith, add-one}
use Rattle.std.specs.Prelude.{◌==◌, is_some, nat_eq, nat_lt, position, slice_get}
use Rattle.std.specs.List.{position_from}
use Rattle.std.proofs.lemmas.Bool.Decides.{nat_tests}
use Rattle.std.proofs.lemmas.Iterator.Adapters.{position_from-zero}
use Rattle.dv_defs.specs.declared.machine.End.{End}
use Rattle.dv_words.specs.declared.state.Frame.{Frame}
use Rattle.dv_words.specs.declared.state.Level.TheVariants as level
use Rattle.dv_words.specs.Stacks.{empty, has_room, pushed, size_of, with_levels}
use Rattle.dv_words.specs.State.{WordStack, WordThread}
use Rattle.dv_defs.specs.declared.run.Named.TheVariants as named
use Rattle.dv_machine.specs.State.{Did, Throws, where_true}
use Rattle.dv_words.specs.Steps.{At, Left, goes, stays}
use Rattle.dv_words.specs.Threads.{is_alive, is_living, join_with, start_unless, started_on, thread_from, thread_with}
use Rattle.dv_threads.specs.declared.threads.Threads.{Threads}
use Rattle.dv_threads.specs.Starting.{other_lives, run_of}
use Rattle.dv_threads.proofs.Leaving.{zip_length}
use Rattle.dv_threads.specs.Kept.{IsThreadOf, zipped}

-- ---- the stack of a new thread

first_by : (s : WordStack) (f : Frame) (t : WordStack) (b : Bool) → elim b as (λ _. Option WordStack) [ true ↦ Some (with_levels s (level.Code f ∷ s.levels)) | false ↦ None ] ≡ Some t → t ≡ with_levels s (level.Code f ∷ s.levels)
first_by s f t true e = (let same : with_levels s (level.Code f ∷ s.levels) ≡ t = cc in sym same)
first_by s f t false e = absurd (cc)

pub first_is : (l w : ℕ) (f : Frame) (t : WordStack) → pushed (empty l w) (level.Code f) ≡ Some t → t ≡ with_levels (empty l w) (level.Code f ∷ [])
first_is l w f t e = first_by (empty l w) f t (has_room (empty l w) (size_of (level.Code f))) e

-- ---- a thread by its object

by_object : (k o : ℕ) (ts : List WordThread) (os : List ℕ) (b : Bool) → thread_from ts (suc k) o ≡ position_from (λ x. x == o) (suc k) os
    → elim b as (λ _. Option ℕ) [ true ↦ Some k | false ↦ thread_from ts (suc k) o ] ≡ cond b (Some k) (position_from (λ x. x == o) (k + 1) os)
by_object k o ts os true rest = refl
by_object k o ts os false rest = rest ∙ ap (λ n. position_from (λ x. x == o) n os) (sym (add-one k))

pub found_from : (ss : List WordStack) (es : List End) (os : List ℕ) (k o : ℕ) → length es ≡ length ss → length os ≡ length ss → thread_from (zipped ss es os) k o ≡ position_from (λ x. x == o) k os
found_from [] [] [] k o es_long os_long = refl
found_from [] (f ∷ es) os k o es_long os_long = absurd (omega arith)
found_from [] [] (p ∷ os) k o es_long os_long = absurd (omega arith)
found_from (x ∷ ss) [] os k o es_long os_long = absurd (omega arith)
found_from (x ∷ ss) (f ∷ es) [] k o es_long os_long = absurd (omega arith)
found_from (x ∷ ss) (f ∷ es) (p ∷ os) k o es_long os_long = by_object k o (zipped ss es os) os (nat_eq p o) (found_from ss es os (suc k) o (omega arith) (omega arith))

abbrev pub alive_in : Option End → Bool
alive_in None = false
alive_in (Some e) = is_alive e

pub living_at : (ss : List WordStack) (es : List End) (os : List ℕ) (u : ℕ) → length es ≡ length ss → length os ≡ length ss → is_living (slice_get (zipped ss es os) u) ≡ alive_in (slice_get es u)
living_at [] [] [] u es_long os_long = refl
living_at [] (f ∷ es) os u es_long os_long = absurd (omega arith)
living_at [] [] (p ∷ os) u es_long os_long = absurd (omega arith)
living_at (x ∷ ss) [] os u es_long os_long = absurd (omega arith)
living_at (x ∷ ss) (f ∷ es) [] u es_long os_long = absurd (omega arith)
living_at (x ∷ ss) (f ∷ es) (p ∷ os) zero es_long os_long = refl
living_at (x ∷ ss) (f ∷ es) (p ∷ os) (suc u) es_long os_long = living_at ss es os u (omega arith) (omega arith)

pub object_at : (ss : List WordStack) (es : List End) (os : List ℕ) (u : ℕ) (own : WordThread) → slice_get (zipped ss es os) u ≡ Some own → slice_get os u ≡ Some own.object
object_at [] es os u own is = absurd (cc)
object_at (x ∷ ss) [] os u own is = absurd (cc)
object_at (x ∷ ss) (f ∷ es) [] u own is = absurd (cc)
object_at (x ∷ ss) (f ∷ es) (p ∷ os) zero own is =
    let kept : record { levels = x.levels; end = f; object = p } ≡ own = cc in
    ap (λ (t : WordThread). Some t.object) kept
object_at (x ∷ ss) (f ∷ es) (p ∷ os) (suc u) own is = object_at ss es os u own is

module _ (old : Threads) (thread next : ℕ) (own : WordThread) (h : At) (is : IsThreadOf old thread next own h) (o : ℕ) where
  -- the thread of an object, by the objects
  pub thread_is : thread_with h.threads o ≡ position (λ x. x == o) old.objects.items
  thread_is = ap (λ ts. thread_with ts o) is.threads ∙
      (found_from old.stacks.items old.ends.items old.objects.items 0 o is.aligned.ends is.aligned.objects ∙ sym (position_from-zero (λ x. x == o) old.objects.items))

  pub count_is : length h.threads ≡ length old.objects.items
  count_is = ap (λ (ts : List WordThread). length ts) is.threads ∙ zip_length old.stacks.items old.ends.items old.objects.items is.aligned.ends is.aligned.objects

  lives_by : (x : Option ℕ) → other_lives h x ≡ elim x as (λ _. Bool) [ None ↦ false | Some u ↦ alive_in (slice_get old.ends.items u) ]
  lives_by None = refl
  lives_by (Some u) = ap (λ ts. is_living (slice_get ts u)) is.threads ∙ living_at old.stacks.items old.ends.items old.objects.items u is.aligned.ends is.aligned.objects

  pub no_other : (x : Option ℕ) → x ≡ position (λ y. y == o) old.objects.items → x ≡ None → false ≡ other_lives h (thread_with h.threads o)
  no_other x e none = sym (ap (other_lives h) (thread_is ∙ (sym e ∙ none)))

  pub other_is : (u : ℕ) → Some u ≡ position (λ y. y == o) old.objects.items → other_lives h (thread_with h.threads o) ≡ alive_in (slice_get old.ends.items u)
  other_is u e = ap (other_lives h) (thread_is ∙ sym e) ∙ lives_by (Some u)

module _ (h : At) where
  pub join_stays : (x : Option ℕ) → true ≡ other_lives h x → join_with h x ≡ stays h
  join_stays None e = absurd (cc e)
  join_stays (Some u) e = ap (λ b. cond b (stays h) (goes h h.shared)) (sym e)

  pub join_goes : (x : Option ℕ) → false ≡ other_lives h x → join_with h x ≡ goes h h.shared
  join_goes None e = refl
  join_goes (Some u) e = ap (λ b. cond b (stays h) (goes h h.shared)) (sym e)

  pub start_taken : (o : ℕ) (x : Option ℕ) → is_some x ≡ true → start_unless h o x ≡ Throws named.IllegalThreadState
  start_taken o None e = absurd (cc e)
  start_taken o (Some u) e = refl

  pub start_free : (o : ℕ) (x : Option ℕ) → is_some x ≡ false → start_unless h o x ≡ where_true (nat_lt (length h.threads) h.limits.threads) named.OutOfMemory (started_on h o (run_of h o))
  start_free o None e = refl
  start_free o (Some u) e = absurd (cc e)

  pub too_many : (n m : ℕ) (go : Did Left) → m ≤ n → where_true (nat_lt n m) named.OutOfMemory go ≡ Throws named.OutOfMemory
  too_many n m go many = let e : nat_lt n m ≡ false = grind (arith, nat_tests) in ap (λ b. where_true b named.OutOfMemory go) e

  pub few_enough : (n m : ℕ) (go : Did Left) → n < m → where_true (nat_lt n m) named.OutOfMemory go ≡ go
  few_enough n m go few = let e : nat_lt n m ≡ true = grind (arith, nat_tests) in ap (λ b. where_true b named.OutOfMemory go) e
