-- One thread's stack among all, and what steps on it alone leave.
use Rattle.std.proofs.Common.{◌≡◌, ℕ, zero, suc, ◌<◌, ◌++◌, List, [], ◌∷◌, length, get_or, Option, Some, Result, Ok, Err, refl, sym, ap, ◌∙◌, arith}
use Rattle.std.specs.Prelude.{All, slice_get, slice_set}
use Rattle.std.specs.Option.{option_to_list}
use Rattle.std.specs.Vec.{with_item}
use Rattle.std.proofs.lemmas.List.Elements.{All-set}
use Rattle.std.specs.declared.alloc.AllocError.{AllocError}
use Rattle.dv_defs.specs.declared.machine.End.{End}
use Rattle.dv_defs.specs.declared.run.Limits.{Limits}
use Rattle.dv_defs.specs.declared.run.Next.{Next}
use Rattle.dv_defs.specs.declared.run.Next.TheVariants as next
use Rattle.dv_machine.specs.Classes.{Classes}
use Rattle.dv_defs.specs.Images.{Image}
use Rattle.dv_machine.specs.State.{Did, Go, NoOutput, NoRoom, NoWords, Throws, ThrowsRef}
use Rattle.dv_words.specs.State.{WordHeap, WordShared, WordStack, WordThread}
use Rattle.dv_words.specs.Answering.{Leads, LeavesStack}
use Rattle.dv_words.specs.Steps.{At, Left, with_classes}
use Rattle.dv_threads.specs.Kept.{bounds, threads_of, zipped}
use Rattle.dv_threads.proofs.Leaving.{no_more}
use Rattle.dv_core.specs.declared.guest.Guest.{Guest}
use Rattle.dv_core.specs.Guests.{IsOrdered, IsSeen, Leaves, Stays, shared_of}
use Rattle.dv_core.specs.Recording.{AreKept, IsBeside, LeavesBoth}

-- ---- lists

same_levels : (own : WordThread) (x : WordStack) (e : End) (o : ℕ) → (let q : Option WordThread = Some (record { levels = x.levels; end = e; object = o }) in q) ≡ Some own → x.levels ≡ own.levels
same_levels own x e o is =
    let kept : record { levels = x.levels; end = e; object = o } ≡ own = cc in
    ap (λ (th : WordThread). th.levels) kept

with_stack : (own : WordThread) (x : WordStack) (e : End) (o : ℕ) (s : WordStack) → (let q : Option WordThread = Some (record { levels = x.levels; end = e; object = o }) in q) ≡ Some own
    → (let r : WordThread = record { levels = s.levels; end = e; object = o } in r) ≡ record { levels = s.levels; end = own.end; object = own.object }
with_stack own x e o s is =
    let kept : record { levels = x.levels; end = e; object = o } ≡ own = cc in
    λ j. record { levels = s.levels; end = (kept j).end; object = (kept j).object }

zip_has : (ss : List WordStack) (es : List End) (os : List ℕ) (t : ℕ) (own : WordThread) (d : WordStack) → slice_get (zipped ss es os) t ≡ Some own → (get_or ss t d).levels ≡ own.levels
zip_has [] es os t own d is = absurd (cc)
zip_has (x ∷ ss) [] os t own d is = absurd (cc)
zip_has (x ∷ ss) (e ∷ es) [] t own d is = absurd (cc)
zip_has (x ∷ ss) (e ∷ es) (o ∷ os) zero own d is = same_levels own x e o is
zip_has (x ∷ ss) (e ∷ es) (o ∷ os) (suc t) own d is = zip_has ss es os t own d is

zip_within : (ss : List WordStack) (es : List End) (os : List ℕ) (t : ℕ) (own : WordThread) → slice_get (zipped ss es os) t ≡ Some own → t < length ss
zip_within [] es os t own is = absurd (cc)
zip_within (x ∷ ss) [] os t own is = absurd (cc)
zip_within (x ∷ ss) (e ∷ es) [] t own is = absurd (cc)
zip_within (x ∷ ss) (e ∷ es) (o ∷ os) zero own is = omega arith
zip_within (x ∷ ss) (e ∷ es) (o ∷ os) (suc t) own is = let less = zip_within ss es os t own is in omega (arith, less)

zip_set : (ss : List WordStack) (es : List End) (os : List ℕ) (t : ℕ) (own : WordThread) (s : WordStack) → slice_get (zipped ss es os) t ≡ Some own
    → zipped (slice_set ss t s) es os ≡ slice_set (zipped ss es os) t (record { levels = s.levels; end = own.end; object = own.object })
zip_set [] es os t own s is = absurd (cc)
zip_set (x ∷ ss) [] os t own s is = absurd (cc)
zip_set (x ∷ ss) (e ∷ es) [] t own s is = absurd (cc)
zip_set (x ∷ ss) (e ∷ es) (o ∷ os) zero own s is = ap (λ r. r ∷ zipped ss es os) (with_stack own x e o s is)
zip_set (x ∷ ss) (e ∷ es) (o ∷ os) (suc t) own s is = ap (λ rs. record { levels = x.levels; end = e; object = o } ∷ rs) (zip_set ss es os t own s is)

set_length : (ss : List WordStack) (t : ℕ) (s : WordStack) → length (slice_set ss t s) ≡ length ss
set_length [] t s = refl
set_length (x ∷ ss) zero s = refl
set_length (x ∷ ss) (suc t) s = ap suc (set_length ss t s)

set_same : (ss : List WordStack) (t : ℕ) (s d : WordStack) → s ≡ get_or ss t d → slice_set ss t s ≡ ss
set_same [] t s d is = refl
set_same (x ∷ ss) zero s d is = ap (λ y. y ∷ ss) is
set_same (x ∷ ss) (suc t) s d is = ap (λ ys. x ∷ ys) (set_same ss t s d is)

-- ---- answers

-- what is left and what stays, said otherwise
pub leads_on : {E : Type 0} (r : Result Next E) (d : Did Left) (L M : Left → Type 0) (S T : Type 0) → ((l : Left) → L l → M l) → (S → T) → Leads r d L S → Leads r d M T
leads_on (Ok next.On) (Go l) L M S T f g x = f l x
leads_on (Ok next.On) d L M S T f g x = absurd x
leads_on (Ok (next.Throw n)) (Throws m) L M S T f g x = (x.0, g x.1)
leads_on (Ok (next.Throw n)) d L M S T f g x = absurd x
leads_on (Ok (next.ThrowRef o)) (ThrowsRef p) L M S T f g x = (x.0, g x.1)
leads_on (Ok (next.ThrowRef o)) d L M S T f g x = absurd x
leads_on (Ok next.NoWords) NoWords L M S T f g x = g x
leads_on (Ok next.NoWords) d L M S T f g x = absurd x
leads_on (Ok next.NoRoom) NoRoom L M S T f g x = g x
leads_on (Ok next.NoRoom) d L M S T f g x = absurd x
leads_on (Ok next.NoOutput) NoOutput L M S T f g x = g x
leads_on (Ok next.NoOutput) d L M S T f g x = absurd x
leads_on (Err e) d L M S T f g x = g x

-- ---- one thread's stack

-- this thread has this stack, and the heap and the classes are these
abbrev pub written : Guest → ℕ → WordStack → WordHeap → Classes → Guest
written g thread t heap' classes' =
    record {
      threads = record { stacks = with_item g.threads.stacks thread t; ends = g.threads.ends; objects = g.threads.objects; monitors = g.threads.monitors };
      heap = heap';
      classes = classes';
      output = g.output;
    }

module _ (i : Image) (l : Limits) (old : Guest) (thread : ℕ) (own : WordThread) (h : At) (seen : IsSeen i l old thread own h) where
  pub within : thread < length old.threads.stacks.items
  within = zip_within old.threads.stacks.items old.threads.ends.items old.threads.objects.items thread own seen.there

  module _ (s : WordStack) (here : s ≡ get_or old.threads.stacks.items thread s) where
    pub levels_are : s.levels ≡ own.levels
    levels_are = ap (λ (x : WordStack). x.levels) here ∙ zip_has old.threads.stacks.items old.threads.ends.items old.threads.objects.items thread own s seen.there

    bounds_are : bounds s ≡ (h.limits.levels, h.limits.words)
    bounds_are = ap bounds here ∙ (seen.ordered.bounded thread s within ∙ ap (λ (x : Limits). (x.levels, x.words)) (sym seen.limits))

    pub beside : IsBeside s old.classes thread h
    beside = record {
      number = seen.number;
      states = ap (λ (x : WordShared). x.classes) seen.shared;
      most_levels = ap (λ (p : ℕ × ℕ). p.0) bounds_are;
      most_words = ap (λ (p : ℕ × ℕ). p.1) bounds_are;
    }

    module _ (t : WordStack) (heap' : WordHeap) (classes' : Classes) where
      long : length (slice_set old.threads.stacks.items thread t) ≡ length old.threads.stacks.items
      long = set_length old.threads.stacks.items thread t

      bounded_before : All (λ (x : WordStack). bounds x ≡ (h.limits.levels, h.limits.words)) old.threads.stacks.items
      bounded_before k d less = seen.ordered.bounded k d less ∙ ap (λ (x : Limits). (x.levels, x.words)) (sym seen.limits)

      ordered : bounds t ≡ bounds s → IsOrdered h.limits (written old thread t heap' classes')
      ordered same = record {
        aligned = record { ends = seen.ordered.aligned.ends ∙ sym long; objects = seen.ordered.aligned.objects ∙ sym long };
        bounded = All-set (λ (x : WordStack). bounds x ≡ (h.limits.levels, h.limits.words)) old.threads.stacks.items thread t (same ∙ bounds_are) bounded_before;
      }

      pub leaves_it : (after : WordShared) (x : Left) → after ≡ shared_of (written old thread t heap' classes') → LeavesStack after s t x → Leaves old (written old thread t heap' classes') own h x
      leaves_it after x shared is = record {
        threads =
            zip_set old.threads.stacks.items old.threads.ends.items old.threads.objects.items thread own t seen.there ∙
            ((λ j. slice_set (threads_of old.threads) (sym seen.number j) (record { levels = (is.levels j).levels; end = own.end; object = own.object })) ∙
            (sym (no_more _) ∙ ap (λ (o : Option WordThread). slice_set (threads_of old.threads) h.thread (record { levels = x.levels; end = own.end; object = own.object }) ++ option_to_list o) (sym is.started)));
        shared = is.shared ∙ shared;
        ordered = ordered (ap bounds is.levels);
      }

      pub stays_so : t ≡ s → heap' ≡ old.heap → classes' ≡ old.classes → Stays h.limits old (written old thread t heap' classes')
      stays_so same heap classes = record {
        threads = ap (λ (ss : List WordStack). zipped ss old.threads.ends.items old.threads.objects.items) (set_same old.threads.stacks.items thread t s (same ∙ here));
        shared = λ j. record { heap = heap j; classes = classes j; monitors = old.threads.monitors.monitors; output = old.output.items };
        ordered = ordered (ap bounds same);
      }

    -- what a step of the record leaves of the stack and the classes, it leaves of the guest
    pub records_lead : (t : WordStack) (classes' : Classes) (r : Next) (d : Did Left) → Leads {E = AllocError} (Ok r) d (LeavesBoth h classes' s t) (AreKept s t old.classes classes')
        → Leads {E = AllocError} (Ok r) d (Leaves old (written old thread t old.heap classes') own h) (Stays h.limits old (written old thread t old.heap classes'))
    records_lead t classes' r d does =
        leads_on {E = AllocError} (Ok r) d (LeavesBoth h classes' s t) (Leaves old (written old thread t old.heap classes') own h) (AreKept s t old.classes classes') (Stays h.limits old (written old thread t old.heap classes'))
        (λ x is. leaves_it t old.heap classes' (with_classes h.shared classes') x (ap (λ (sh : WordShared). with_classes sh classes') seen.shared) is)
        (λ kept. stays_so t old.heap classes' kept.stack_stays refl kept.classes_stay) does
