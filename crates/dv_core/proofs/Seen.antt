-- The stack of the thread that steps, and what a write of it leaves.
use Rattle.std.proofs.Common.{◌≡◌, ℕ, zero, suc, ◌<◌, ◌≤◌, ◌++◌, List, [], ◌∷◌, All, length, Option, Some, None, Result, Ok, Err, vec_len, refl, sym, ap, ◌∙◌, subst, arith}
use Rattle.std.specs.Prelude.{slice_get, slice_index_or, slice_set}
use Rattle.std.specs.Option.{option_to_list}
use Rattle.std.proofs.lemmas.Option.{same_Some}
use Rattle.dv_defs.specs.declared.machine.End.{End}
use Rattle.dv_defs.specs.declared.run.Limits.{Limits}
use Rattle.dv_defs.specs.declared.run.Next.{Next}
use Rattle.dv_defs.specs.declared.run.Next.TheVariants as next
use Rattle.dv_machine.specs.Classes.{ask_of}
use Rattle.dv_defs.specs.Images.{Image}
use Rattle.dv_machine.specs.State.{Did, Go, NoOutput, NoRoom, NoWords, Throws, ThrowsRef}
use Rattle.dv_words.specs.declared.state.Level.{Level}
use Rattle.dv_words.specs.declared.state.Level.TheVariants as level
use Rattle.dv_words.specs.State.{WordShared, WordStack, WordThread}
use Rattle.dv_words.specs.Answering.{IsStackOf, Leads, LeavesStack}
use Rattle.dv_words.specs.Steps.{At, Left, leaves}
use Rattle.dv_threads.specs.Kept.{bounds, threads_of, zipped}
use Rattle.dv_core.specs.declared.guest.Guest.{Guest}
use Rattle.dv_core.specs.Guests.{IsOrdered, IsSeen, Leaves, Stays, shared_of}

-- ---- lists

pub no_more : {X : Type 0} (xs : List X) → xs ++ [] ≡ xs
no_more [] = refl
no_more (x ∷ xs) = ap (λ ys. x ∷ ys) (no_more xs)

pub got_within : {X : Type 0} (xs : List X) (t : ℕ) (x : X) → slice_get xs t ≡ Some x → t < length xs
got_within [] t x has = absurd (cc)
got_within (y ∷ xs) zero x has = omega arith
got_within (y ∷ xs) (suc t) x has = let less = got_within xs t x has in omega (arith, less)

-- what is read of a Vec inside its bounds
pub got_there : {X : Type 0} (xs : List X) (t : ℕ) (x d : X) → t < length xs → x ≡ slice_index_or xs t d → slice_get xs t ≡ Some x
got_there [] t x d within is = absurd (omega arith)
got_there (y ∷ xs) zero x d within is = ap Some (sym is)
got_there (y ∷ xs) (suc t) x d within is = got_there xs t x d (omega arith) is

pub set_length : {X : Type 0} (xs : List X) (t : ℕ) (x : X) → length (slice_set xs t x) ≡ length xs
set_length [] t x = refl
set_length (y ∷ xs) zero x = refl
set_length (y ∷ xs) (suc t) x = ap suc (set_length xs t x)

pub set_same : {X : Type 0} (xs : List X) (t : ℕ) (x : X) → slice_get xs t ≡ Some x → slice_set xs t x ≡ xs
set_same [] t x has = refl
set_same (y ∷ xs) zero x has = ap (λ z. z ∷ xs) (sym (same_Some y x has))
set_same (y ∷ xs) (suc t) x has = ap (λ ys. y ∷ ys) (set_same xs t x has)

pub all_more : {X : Type 0} (P : X → Type 0) (y : X) (xs : List X) → P y → All P xs → All P (y ∷ xs)
all_more P y xs is all zero d less = is
all_more P y xs is all (suc k) d less = all k d (omega (arith, less))

pub all_first : {X : Type 0} (P : X → Type 0) (y : X) (xs : List X) → All P (y ∷ xs) → P y
all_first P y xs all = all 0 y (omega arith)

pub all_rest : {X : Type 0} (P : X → Type 0) (y : X) (xs : List X) → All P (y ∷ xs) → All P xs
all_rest P y xs all k d less = all (suc k) d (omega (arith, less))

pub all_at : {X : Type 0} (P : X → Type 0) (xs : List X) (t : ℕ) (x : X) → All P xs → slice_get xs t ≡ Some x → P x
all_at P [] t x all has = absurd (cc)
all_at P (y ∷ xs) zero x all has = subst P (same_Some y x has) (all_first P y xs all)
all_at P (y ∷ xs) (suc t) x all has = all_at P xs t x (all_rest P y xs all) has

pub all_set : {X : Type 0} (P : X → Type 0) (xs : List X) (t : ℕ) (x : X) → All P xs → P x → All P (slice_set xs t x)
all_set P [] t x all is = all
all_set P (y ∷ xs) zero x all is = all_more P x xs is (all_rest P y xs all)
all_set P (y ∷ xs) (suc t) x all is = all_more P y (slice_set xs t x) (all_first P y xs all) (all_set P xs t x (all_rest P y xs all) is)

-- ---- threads

pub record HasLevels (ss : List WordStack) (t : ℕ) (ls : List Level) : Type 0 where
  pub stack : WordStack
  pub there : slice_get ss t ≡ Some stack
  pub levels : stack.levels ≡ ls

pub zip_has : (ss : List WordStack) (es : List End) (os : List ℕ) (t : ℕ) (own : WordThread) → slice_get (zipped ss es os) t ≡ Some own → HasLevels ss t own.levels
zip_has [] es os t own is = absurd (cc)
zip_has (x ∷ ss) [] os t own is = absurd (cc)
zip_has (x ∷ ss) (e ∷ es) [] t own is = absurd (cc)
zip_has (x ∷ ss) (e ∷ es) (o ∷ os) zero own is =
    record { stack = x; there = refl; levels = ap (λ (t : WordThread). t.levels) (same_Some (record { levels = x.levels; end = e; object = o }) own is) }
zip_has (x ∷ ss) (e ∷ es) (o ∷ os) (suc t) own is =
    let rest = zip_has ss es os t own is in
    record { stack = rest.stack; there = rest.there; levels = rest.levels }

set_own : (own : WordThread) (e : End) (o : ℕ) (ls ms : List Level) → (let q : Option WordThread = Some (record { levels = ls; end = e; object = o }) in q) ≡ Some own
    → (let r : WordThread = record { levels = ms; end = e; object = o } in r) ≡ record { levels = ms; end = own.end; object = own.object }
set_own own e o ls ms is =
    let kept : record { levels = ls; end = e; object = o } ≡ own = same_Some (record { levels = ls; end = e; object = o }) own is in
    λ j. record { levels = ms; end = (kept j).end; object = (kept j).object }

pub zip_set : (ss : List WordStack) (es : List End) (os : List ℕ) (t : ℕ) (own : WordThread) (r : WordStack) → slice_get (zipped ss es os) t ≡ Some own
    → zipped (slice_set ss t r) es os ≡ slice_set (zipped ss es os) t (record { levels = r.levels; end = own.end; object = own.object })
zip_set [] es os t own r is = absurd (cc)
zip_set (x ∷ ss) [] os t own r is = absurd (cc)
zip_set (x ∷ ss) (e ∷ es) [] t own r is = absurd (cc)
zip_set (x ∷ ss) (e ∷ es) (o ∷ os) zero own r is = ap (λ y. y ∷ zipped ss es os) (set_own own e o x.levels r.levels is)
zip_set (x ∷ ss) (e ∷ es) (o ∷ os) (suc t) own r is = ap (λ ys. record { levels = x.levels; end = e; object = o } ∷ ys) (zip_set ss es os t own r is)

-- ---- answers

-- an answer of the same outcome, from what is weaker
pub led : {E : Type 0} (r : Result Next E) (d : Did Left) (P Q : Left → Type 0) (S T : Type 0) → ((l : Left) → P l → Q l) → (S → T) → Leads r d P S → Leads r d Q T
led (Ok next.On) (Go l) P Q S T on off x = on l x
led (Ok (next.Throw n)) (Throws m) P Q S T on off x = (x.0, off x.1)
led (Ok (next.ThrowRef o)) (ThrowsRef p) P Q S T on off x = (x.0, off x.1)
led (Ok next.NoWords) NoWords P Q S T on off x = off x
led (Ok next.NoRoom) NoRoom P Q S T on off x = off x
led (Ok next.NoOutput) NoOutput P Q S T on off x = off x
led (Err memory) d P Q S T on off x = off x
led r d P Q S T on off x = absurd x

-- ---- the stack of the thread that steps

pub record HasStack (g : Guest) (thread : ℕ) (h : At) : Type 0 where
  pub stack : WordStack
  pub there : slice_get g.threads.stacks.items thread ≡ Some stack
  pub is : IsStackOf stack h

module _ (i : Image) (lim : Limits) (old : Guest) (thread : ℕ) (own : WordThread) (h : At) (seen : IsSeen i lim old thread own h) where
  has_levels : HasLevels old.threads.stacks.items thread own.levels
  has_levels = zip_has old.threads.stacks.items old.threads.ends.items old.threads.objects.items thread own seen.there

  pub has_bounds : (s : WordStack) → slice_get old.threads.stacks.items thread ≡ Some s → bounds s ≡ (lim.levels, lim.words)
  has_bounds s there = all_at (λ (s : WordStack). bounds s ≡ (lim.levels, lim.words)) old.threads.stacks.items thread s seen.ordered.bounded there

  pub has_stack : own.levels ≡ level.Code h.frame ∷ h.rest → HasStack old thread h
  has_stack levels =
      let room = has_bounds has_levels.stack has_levels.there in
      record {
        stack = has_levels.stack;
        there = has_levels.there;
        is = record {
          levels = has_levels.levels ∙ levels;
          most_levels = ap (λ (b : ℕ × ℕ). b.0) room ∙ ap (λ (k : Limits). k.levels) (sym seen.limits);
          most_words = ap (λ (b : ℕ × ℕ). b.1) room ∙ ap (λ (k : Limits). k.words) (sym seen.limits);
        };
      }

  pub is_there : thread < length old.threads.stacks.items
  is_there = got_within old.threads.stacks.items thread has_levels.stack has_levels.there

  -- so it isn't past the last one
  pub past : {A : Type 0} (n : ℕ) → n ≡ vec_len old.threads.stacks → n ≤ thread → A
  past n long beyond = absurd (let less = is_there in omega (arith, less, long, beyond, old.threads.stacks.ok.0))

  -- and what is read at its number is its stack
  pub read_there : (s d : WordStack) → s ≡ slice_index_or old.threads.stacks.items thread d → slice_get old.threads.stacks.items thread ≡ Some s
  read_there s d is = got_there old.threads.stacks.items thread s d is_there is

  pub is_stack : own.levels ≡ level.Code h.frame ∷ h.rest → (s : WordStack) → slice_get old.threads.stacks.items thread ≡ Some s → IsStackOf s h
  is_stack levels s there =
      let has = has_stack levels in
      let same : has.stack ≡ s = same_Some has.stack s (sym has.there ∙ there) in
      subst (λ (k : WordStack). IsStackOf k h) same has.is

  module _ (new : Guest) (ends : new.threads.ends.items ≡ old.threads.ends.items) (objects : new.threads.objects.items ≡ old.threads.objects.items) where
    -- the lists after a write of the thread's stack
    pub is_ordered : (r : WordStack) → new.threads.stacks.items ≡ slice_set old.threads.stacks.items thread r → bounds r ≡ (lim.levels, lim.words) → IsOrdered lim new
    is_ordered r stacks room =
        let long : length new.threads.stacks.items ≡ length old.threads.stacks.items = ap (λ (ss : List WordStack). length ss) stacks ∙ set_length old.threads.stacks.items thread r in
        record {
          aligned = record {
            ends = ap (λ (es : List End). length es) ends ∙ (seen.ordered.aligned.ends ∙ sym long);
            objects = ap (λ (os : List ℕ). length os) objects ∙ (seen.ordered.aligned.objects ∙ sym long);
          };
          bounded =
              let P : WordStack → Type 0 = λ s. bounds s ≡ (lim.levels, lim.words) in
              subst (All P) (sym stacks) (all_set P old.threads.stacks.items thread r seen.ordered.bounded room);
        }

    -- the thread goes on with these levels
    pub wrote : (r : WordStack) (l : Left) → new.threads.stacks.items ≡ slice_set old.threads.stacks.items thread r → bounds r ≡ (lim.levels, lim.words) → r.levels ≡ l.levels → l.shared ≡ shared_of new → l.started ≡ None
        → Leaves old new own h l
    wrote r l stacks room levels shared started = record {
      threads =
          (λ j. zipped (stacks j) (ends j) (objects j)) ∙
          (zip_set old.threads.stacks.items old.threads.ends.items old.threads.objects.items thread own r seen.there ∙
          ((λ j. slice_set (threads_of old.threads) (sym seen.number j) (record { levels = levels j; end = own.end; object = own.object })) ∙
          (sym (no_more _) ∙
          (λ j. slice_set (threads_of old.threads) h.thread (record { levels = l.levels; end = own.end; object = own.object }) ++ option_to_list (sym started j)))));
      shared = shared;
      ordered = subst (λ (k : Limits). IsOrdered k new) (sym seen.limits) (is_ordered r stacks room);
    }

    -- nothing was written
    pub stayed : new.threads.stacks.items ≡ old.threads.stacks.items → shared_of new ≡ shared_of old → Stays lim old new
    stayed stacks shared = record {
      threads = λ j. zipped (stacks j) (ends j) (objects j);
      shared = shared;
      ordered =
          let s = has_levels.stack in
          is_ordered s (stacks ∙ sym (set_same old.threads.stacks.items thread s has_levels.there)) (has_bounds s has_levels.there);
    }

    -- the stack was written by a call that leaves it
    pub left_stack : (s r : WordStack) (after : WordShared) (l : Left) → slice_get old.threads.stacks.items thread ≡ Some s → new.threads.stacks.items ≡ slice_set old.threads.stacks.items thread r → after ≡ shared_of new → LeavesStack after s r l → Leaves old new own h l
    left_stack s r after l there stacks shared x =
        wrote r l stacks (ap bounds x.levels ∙ has_bounds s there) (ap (λ (k : WordStack). k.levels) x.levels) (x.shared ∙ shared) x.started

    -- or that leaves it as it was
    pub kept_stack : (s r : WordStack) → slice_get old.threads.stacks.items thread ≡ Some s → new.threads.stacks.items ≡ slice_set old.threads.stacks.items thread r → shared_of new ≡ shared_of old → r ≡ s → Stays lim old new
    kept_stack s r there stacks shared same =
        stayed (stacks ∙ (ap (slice_set old.threads.stacks.items thread) same ∙ set_same old.threads.stacks.items thread s there)) shared

    -- an answer of a call on the stack
    pub led_stack : {E : Type 0} (r : Result Next E) (d : Did Left) (s t : WordStack) → slice_get old.threads.stacks.items thread ≡ Some s → new.threads.stacks.items ≡ slice_set old.threads.stacks.items thread t → shared_of new ≡ shared_of old
        → Leads r d (LeavesStack h.shared s t) (t ≡ s) → Leads r d (Leaves old new own h) (Stays lim old new)
    led_stack r d s t there stacks shared =
        led r d (LeavesStack h.shared s t) (Leaves old new own h) (t ≡ s) (Stays lim old new)
        (λ l. left_stack s t h.shared l there stacks (seen.shared ∙ sym shared))
        (kept_stack s t there stacks shared)

-- nothing has changed, and the thread stays where it is
pub unmoved : (i : Image) (lim : Limits) (old : Guest) (thread : ℕ) (own : WordThread) (h : At) → IsSeen i lim old thread own h → own.levels ≡ level.Code h.frame ∷ h.rest → Leaves old old own h (leaves h.shared (level.Code h.frame ∷ h.rest))
unmoved i lim old thread own h seen levels =
    let has = has_stack i lim old thread own h seen levels in
    wrote i lim old thread own h seen old refl refl has.stack (leaves h.shared (level.Code h.frame ∷ h.rest)) (sym (set_same old.threads.stacks.items thread has.stack has.there))
    (has_bounds i lim old thread own h seen has.stack has.there) has.is.levels seen.shared refl

-- what stays
pub unchanged : (i : Image) (lim : Limits) (old : Guest) (thread : ℕ) (own : WordThread) (h : At) → IsSeen i lim old thread own h → Stays lim old old
unchanged i lim old thread own h seen = stayed i lim old thread own h seen old refl refl refl refl

-- what the thread sees, by its own image and limits
pub seen_here : (i : Image) (lim : Limits) (old : Guest) (thread : ℕ) (own : WordThread) (h : At) → IsSeen i lim old thread own h → IsSeen h.image h.limits old thread own h
seen_here i lim old thread own h seen = record {
  image = refl;
  limits = refl;
  number = seen.number;
  threads = seen.threads;
  shared = seen.shared;
  there = seen.there;
  ordered = subst (λ (k : Limits). IsOrdered k old) (sym seen.limits) seen.ordered;
}

-- what it asks for
pub ask_is : (i : Image) (lim : Limits) (old : Guest) (thread : ℕ) (own : WordThread) (h : At) → IsSeen i lim old thread own h → (c : ℕ) → ask_of h.shared.classes c h.thread ≡ ask_of old.classes c thread
ask_is i lim old thread own h seen c = λ j. ask_of (seen.shared j).classes c (seen.number j)
