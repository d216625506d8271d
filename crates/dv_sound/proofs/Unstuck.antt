-- No turn of an accepted image is stuck, and so no seeded run.
use Rattle.std.proofs.Common.{◌≡◌, ℕ, zero, suc, ◌+◌, ◌%◌, Bool, true, false, Option, Some, None, Ok, Err, List, [], refl, sym, ap, ◌∙◌, subst, arith}
use Rattle.std.specs.Prelude.{◌&&◌, nat_eq, not, slice_get, if◌then◌else◌}
use Rattle.std.proofs.lemmas.Bool.{and_parts, eqb-true}
use Rattle.dv_machine.specs.Frame.{Frame}
use Rattle.dv_defs.specs.declared.run.Ending.{Ending}
use Rattle.dv_defs.specs.declared.run.Entry.{Entry}
use Rattle.dv_defs.specs.Images.{Image}
use Rattle.dv_defs.specs.Op.{Enter, Exit, Invoke, Op, Return, ReturnVoid, is_local}
use Rattle.dv_machine.specs.Accepted.{Accepted}
use Rattle.dv_machine.specs.Local.{local}
use Rattle.dv_machine.specs.Mem.{mem}
use Rattle.law_machine.specs.Premises.{HoldsOf}
use Rattle.dv_machine.specs.Replaying.{Turned, last_step, logged, next_is_local, one_more, picked, runnable_from, seeded_from, turn}
use Rattle.dv_machine.specs.Running.{ending_of, runnable}
use Rattle.dv_machine.specs.State.{Here, Machine, Reads, Thread, on_next, onward, reading}
use Rattle.dv_machine.specs.Step.{act, here, local_left, settled, step, step_at, step_code, step_of, with_ready}
use Rattle.dv_machine.specs.WellTyped.{Typings, WellTyped}
use Rattle.law_types.proofs.Facts.{no}
use Rattle.law_machine.proofs.lemmas.Steps.Sound.{steps_are_sound}
use Rattle.law_words.proofs.Slices.{needs_none}
use Rattle.law_engine.proofs.Going.{IsAtLocal, at_local, goes_on, may_step, topped}
use Rattle.law_engine.proofs.LastSteps.{last_by}
use Rattle.dv_sound.specs.Laws.{SeedsNeverStick, TurnsNeverStick}

-- ---- reads one after another

on_holds : {A B : Type 0} (P : A → Type 0) (Q : B → Type 0) (r : Reads A) (go : A → Reads B) → HoldsOf P r → ((x : A) → P x → HoldsOf Q (go x)) → HoldsOf Q (on_next r go)
on_holds P Q (Ok x) go holds next = next x holds
on_holds P Q (Err y) go holds next = holds

-- what is read
read : {A : Type 0} (P : A → Type 0) (r : Reads A) → HoldsOf P r → (x : A) × (r ≡ Ok x) × P x
read P (Ok x) holds = (x, refl, holds)
read P (Err y) holds = absurd holds

-- ---- a local step, whatever the run has come to

act_local : (h : Here) (op : Op) → is_local op ≡ true → act h op ≡ local_left h op
act_local h (Invoke c ks g) e = no e
act_local h ReturnVoid e = no e
act_local h (Return w a) e = no e
act_local h (Enter a) e = no e
act_local h (Exit a) e = no e
act_local h op e = ap (λ z. (if z then local_left h op else mem h op)) e

one_more_differs : (n : ℕ) → nat_eq n (suc n) ≡ false
one_more_differs n = by (nat_eq n (suc n)) refl
  where
    by : (b : Bool) → nat_eq n (suc n) ≡ b → b ≡ false
    by false e = refl
    by true e = absurd (let same = eqb-true n (suc n) e in omega (arith, same))

module _ (image : Image) (T : Typings) (m : Machine) (t : ℕ) (h : IsAtLocal image m t) where
  abbrev thread : Thread
  thread = topped h.frame h.rest h.object

  abbrev sees : Machine → Here
  sees k = here image k t h.own h.frame h.rest h.at.next

  abbrev after : Machine → Reads Frame → Reads Machine
  after k r = settled image k t thread (Some h.at) (reading r (onward (sees k) k.shared))

  step_is : (k : Machine) → slice_get k.threads t ≡ Some thread → step image k t ≡ after k (local h.at.op h.frame h.at.next)
  step_is k there =
      ap (step_of image k t) there ∙ ap (step_code image k t thread h.frame h.rest) h.has_own ∙ ap (step_at image k t thread h.own h.frame h.rest) h.has_at ∙
      ap (λ (o : Option ℕ). settled image k t thread (Some h.at) (with_ready (sees k) h.at.op o)) (needs_none h.at.op h.local) ∙
      ap (settled image k t thread (Some h.at)) (act_local (sees k) h.at.op h.local)

  -- the same state in a run that nothing stopped and that has a step left
  abbrev going : Machine
  going =
      let l = m.limits in
      record {
        threads = m.threads;
        shared = m.shared;
        steps = m.steps;
        stop = None;
        limits = record l { budget = suc m.steps };
        preallocated = m.preallocated;
      }

  going_typed : WellTyped image T m → WellTyped image T going
  going_typed typed = record {
    each = typed.each;
    objects = typed.objects;
    refs = typed.refs;
    heap = typed.heap;
    monitors = typed.monitors;
    class_states = typed.class_states;
    in_progress = typed.in_progress;
    preallocated = typed.preallocated;
  }

  after_typed : (r : Reads Frame) → HoldsOf (WellTyped image T) (after going r) → HoldsOf (WellTyped image T) (after m r)
  after_typed (Err y) stuck = stuck
  after_typed (Ok f) typed = record {
    each = typed.each;
    objects = typed.objects;
    refs = typed.refs;
    heap = typed.heap;
    monitors = typed.monitors;
    class_states = typed.class_states;
    in_progress = typed.in_progress;
    preallocated = typed.preallocated;
  }

  local_typed : Accepted image T → WellTyped image T m → HoldsOf (WellTyped image T) (step image m t)
  local_typed accepted typed =
      let at : IsAtLocal image going t = record { frame = h.frame; rest = h.rest; object = h.object; there = h.there; own = h.own; has_own = h.has_own; at = h.at; has_at = h.has_at; local = h.local } in
      let sound = steps_are_sound image T going t accepted (going_typed typed) (goes_on image going t at refl (one_more_differs m.steps)) (may_step image going t at) in
      subst (HoldsOf (WellTyped image T)) (sym (step_is m h.there)) (after_typed (local h.at.op h.frame h.at.next) (subst (HoldsOf (WellTyped image T)) (step_is going h.there) sound))

-- ---- turns

module _ (image : Image) (T : Typings) (accepted : Accepted image T) (t : ℕ) where
  abbrev IsTyped : Turned → Type 0
  IsTyped x = WellTyped image T x.machine

  last_typed : (m : Machine) → WellTyped image T m → HoldsOf IsTyped (last_step image t m)
  last_typed m typed = by (ending_of image m) refl (runnable image m t) refl
    where
      by : (o : Option Ending) → ending_of image m ≡ o → (b : Bool) → runnable image m t ≡ b → HoldsOf IsTyped (last_by o b (step image m t) m)
      by (Some e) is b may = typed
      by None is false may = typed
      by None is true may = on_holds (WellTyped image T) IsTyped (step image m t) (λ n. Ok (record { count = 1; machine = n })) (steps_are_sound image T m t accepted typed is may) (λ n fine. fine)

  turn_typed : (most : ℕ) (m : Machine) → WellTyped image T m → HoldsOf IsTyped (turn image t most m)
  turn_typed zero m typed = typed
  turn_typed (suc most) m typed = by (next_is_local image m t && not (nat_eq m.steps m.limits.budget)) refl (λ n fine. turn_typed most n fine)
    where
      one_typed : (r : Reads Turned) → HoldsOf IsTyped r → HoldsOf IsTyped (one_more r)
      one_typed (Ok x) fine = fine
      one_typed (Err y) stuck = stuck

      by : (b : Bool) → (next_is_local image m t && not (nat_eq m.steps m.limits.budget)) ≡ b → ((n : Machine) → WellTyped image T n → HoldsOf IsTyped (turn image t most n)) →
          HoldsOf IsTyped (elim b as (λ z. Reads Turned) [ true ↦ on_next (step image m t) (λ n. one_more (turn image t most n)) | false ↦ last_step image t m ])
      by false is rest = last_typed m typed
      by true is rest =
          let local = (and_parts (next_is_local image m t) (not (nat_eq m.steps m.limits.budget)) is).0 in
          on_holds (WellTyped image T) IsTyped (step image m t) (λ n. one_more (turn image t most n)) (local_typed image T m t (at_local image m t local) accepted typed) (λ n fine. one_typed (turn image t most n) (rest n fine))

pub turns_never_stick : TurnsNeverStick
turns_never_stick image T m t most accepted typed = read (λ (x : Turned). WellTyped image T x.machine) (turn image t most m) (turn_typed image T accepted t most m typed)

-- ---- seeded runs

module _ (word : ℕ → ℕ) (image : Image) (T : Typings) (accepted : Accepted image T) where
  abbrev IsRead : List Entry → Type 0
  IsRead es = Unit {0}

  -- the thread that a word picks, and how long its turn is
  abbrev taken : ℕ → Machine → ℕ
  taken k m = picked (runnable_from image m m.threads 0) (word k)

  abbrev turned : ℕ → Machine → Reads Turned
  turned k m = turn image (taken k m) (1 + word k % 256) m

  abbrev further : ℕ → ℕ → Machine → Turned → Reads (List Entry)
  further fuel k m x = on_next (seeded_from word image fuel (suc k) x.machine) (λ es. Ok (logged (taken k m) x.count es))

  seeded_read : (fuel k : ℕ) (m : Machine) → WellTyped image T m → HoldsOf IsRead (seeded_from word image fuel k m)
  seeded_read zero k m typed = tt
  seeded_read (suc fuel) k m typed = by (ending_of image m) (λ n fine. seeded_read fuel (suc k) n fine)
    where
      by : (o : Option Ending) → ((n : Machine) → WellTyped image T n → HoldsOf IsRead (seeded_from word image fuel (suc k) n)) →
          HoldsOf IsRead (elim o as (λ z. Reads (List Entry)) [ Some e ↦ Ok [] | None ↦ on_next (turned k m) (further fuel k m) ])
      by (Some e) rest = tt
      by None rest =
          on_holds (λ x. WellTyped image T x.machine) IsRead (turned k m) (further fuel k m) (turn_typed image T accepted (taken k m) (1 + word k % 256) m typed)
          (λ x fine. on_holds IsRead IsRead (seeded_from word image fuel (suc k) x.machine) (λ es. Ok (logged (taken k m) x.count es)) (rest x.machine fine) (λ es is. tt))

pub seeds_never_stick : SeedsNeverStick
seeds_never_stick word image T m fuel k accepted typed =
    let found = read (λ (es : List Entry). Unit {0}) (seeded_from word image fuel k m) (seeded_read word image T accepted fuel k m typed) in
    (found.0, found.1)
