-- What a step of an exception in flight on one thread's stack leaves of the guest.
use Rattle.std.proofs.Common.{◌≡◌, ℕ, get_or, Result, Ok, Err, ap}
use Rattle.std.specs.declared.alloc.AllocError.{AllocError}
use Rattle.dv_defs.specs.declared.run.Limits.{Limits}
use Rattle.dv_defs.specs.declared.run.Next.{Next}
use Rattle.dv_defs.specs.declared.run.Next.TheVariants as next
use Rattle.dv_machine.specs.Classes.{Classes}
use Rattle.dv_defs.specs.Images.{Image}
use Rattle.dv_words.specs.State.{WordHeap, WordShared, WordStack, WordThread}
use Rattle.dv_words.specs.Answering.{LeavesStack}
use Rattle.dv_words.specs.Steps.{At, Left}
use Rattle.dv_words.specs.Unwinding.{Caught, Flies, Lacking, Unwound}
use Rattle.dv_throw.specs.Answers as throw
use Rattle.dv_throw.specs.Answers.{Unwinds, sharing}
use Rattle.dv_core.specs.declared.guest.Guest.{Guest}
use Rattle.dv_core.specs.Guests.{IsSeen, Leaves, Stays}
use Rattle.dv_core.proofs.RecordStacks.{leaves_it, stays_so, written}

-- what is left and what stays, said otherwise
unwinds_on : (r : Result Next AllocError) (u : Unwound) (L M : Left → Type 0) (S T : Type 0) → ((l : Left) → L l → M l) → (S → T) → Unwinds r u L S → Unwinds r u M T
unwinds_on (Ok next.On) (Caught l) L M S T f g x = f l x
unwinds_on (Ok next.On) u L M S T f g x = absurd x
unwinds_on (Ok (next.ThrowRef o)) (Flies p l) L M S T f g x = (x.0, f l x.1)
unwinds_on (Ok (next.ThrowRef o)) u L M S T f g x = absurd x
unwinds_on (Ok next.NoWords) (Lacking l) L M S T f g x = f l x
unwinds_on (Ok next.NoWords) u L M S T f g x = absurd x
unwinds_on (Ok (next.Throw n)) u L M S T f g x = absurd x
unwinds_on (Ok next.NoRoom) u L M S T f g x = absurd x
unwinds_on (Ok next.NoOutput) u L M S T f g x = absurd x
unwinds_on (Err e) u L M S T f g x = g x

module _ (i : Image) (l : Limits) (old : Guest) (thread : ℕ) (own : WordThread) (h : At) (seen : IsSeen i l old thread own h) where
  pub throw_sees : throw.IsSeenByThrows i old.heap old.classes thread h
  throw_sees = record {
    image_is = seen.image;
    heap_is = ap (λ (sh : WordShared). sh.heap) seen.shared;
    classes_are = ap (λ (sh : WordShared). sh.classes) seen.shared;
    thread_is = seen.number;
  }

  pub flights_lead : (s : WordStack) (here : s ≡ get_or old.threads.stacks.items thread s) (t : WordStack) (heap' : WordHeap) (classes' : Classes) (r : Result Next AllocError) (u : Unwound)
      → Unwinds r u (LeavesStack (sharing h.shared heap' classes') s t) (throw.Stays s t old.heap heap' old.classes classes')
      → Unwinds r u (Leaves old (written old thread t heap' classes') own h) (Stays h.limits old (written old thread t heap' classes'))
  flights_lead s here t heap' classes' r u does =
      unwinds_on r u (LeavesStack (sharing h.shared heap' classes') s t) (Leaves old (written old thread t heap' classes') own h) (throw.Stays s t old.heap heap' old.classes classes') (Stays h.limits old (written old thread t heap' classes'))
      (λ x is. leaves_it i l old thread own h seen s here t heap' classes' (sharing h.shared heap' classes') x (ap (λ (sh : WordShared). sharing sh heap' classes') seen.shared) is)
      (λ kept. stays_so i l old thread own h seen s here t heap' classes' kept.stack_stays kept.heap_stays kept.classes_stay) does
