-- What is settled of each outcome.
use Rattle.std.proofs.Common.{◌≡◌, ℕ, Option, Some, None, Ok, refl, ap, sym, ◌∙◌, subst}
use Rattle.std.specs.Prelude.{slice_set}
use Rattle.dv_defs.specs.declared.run.Ending.{Ending}
use Rattle.dv_defs.specs.declared.run.Ending.TheVariants as ending
use Rattle.dv_defs.specs.declared.run.Limits.{Limits}
use Rattle.dv_defs.specs.declared.run.Preallocated.{Preallocated}
use Rattle.dv_defs.specs.declared.run.Named.{Named}
use Rattle.dv_defs.specs.declared.run.Next.{Next}
use Rattle.dv_defs.specs.declared.run.Next.TheVariants as next
use Rattle.dv_defs.specs.Images.{Image}
use Rattle.dv_typing.specs.Statics as statics
use Rattle.dv_machine.specs.State.{Did, Go, NoOutput, NoRoom, NoWords, Throws, ThrowsRef}
use Rattle.dv_words.specs.Heaps.{newest}
use Rattle.dv_words.specs.State.{WordHeap, WordMachine, WordShared, WordThread}
use Rattle.dv_words.specs.Answering.{Leads}
use Rattle.dv_words.specs.Step.{end_flying, flown, gone_on, moved_on, out_of_memory, settled, settled_flight, stack_overflow, stopped, thrown}
use Rattle.dv_words.specs.Steps.{At, Left, leaves, with_heap}
use Rattle.dv_words.specs.Unwinding.{Caught, Flies, Lacking, Unwound, made_object}
use Rattle.dv_throw.specs.Answers.{ThrowsMade, Unwinds}
use Rattle.std.specs.declared.alloc.AllocError.{AllocError}
use Rattle.dv_threads.specs.Kept.{threads_of}
use Rattle.dv_core.specs.declared.guest.Guest.{Guest}
use Rattle.dv_core.specs.Guests.{IsOrdered, IsSeen, Leaves, Stays, shared_of}
use Rattle.dv_core.specs.Machines.{counted, machine_with}
use Rattle.dv_core.proofs.Counted.{counts}
use Rattle.dv_core.proofs.Seen.{no_more, set_same}

-- where all stays, the thread's own levels are left
pub stays_left : (i : Image) (lim : Limits) (g k : Guest) (t : ℕ) (own : WordThread) (h : At) → IsSeen i lim g t own h → Stays lim g k → Leaves g k own h (leaves h.shared own.levels)
stays_left i lim g k t own h seen stays = record {
  threads =
      stays.threads ∙
      (sym (set_same (threads_of g.threads) t own seen.there) ∙
      (ap (λ n. slice_set (threads_of g.threads) n own) (sym seen.number) ∙ sym (no_more (slice_set (threads_of g.threads) h.thread own))));
  shared = seen.shared ∙ sym stays.shared;
  ordered = subst (λ (l : Limits). IsOrdered l k) (sym seen.limits) stays.ordered;
}

-- an exception flies on over its levels
pub flies_on : (i : Image) (lim : Limits) (g k : Guest) (steps : ℕ) (stop : Option Ending) (limits : Limits) (p : Preallocated) (t : ℕ) (own : WordThread) (h : At) (o : ℕ) → IsSeen i lim g t own h → Stays lim g k
    → counted (machine_with k steps stop limits p) t (end_flying o) ≡ flown (machine_with g steps stop limits p) t own o (leaves (shared_of g) own.levels)
flies_on i lim g k steps stop limits p t own h o seen stays =
    counts g k steps stop limits p t own h (leaves h.shared own.levels) (end_flying o) seen.number seen.there (stays_left i lim g k t own h seen stays) ∙
    ap (λ (s : WordShared). flown (machine_with g steps stop limits p) t own o (leaves s own.levels)) seen.shared

module _ (i : Image) (m n : WordMachine) (t : ℕ) (own : WordThread) (x : Option statics.At) (P : Left → Type 0) (S : Type 0) where
  pub settled_on : (d : Did Left) → Leads {E = AllocError} (Ok next.On) d P S → ((l : Left) → P l → n ≡ gone_on m t own l) → n ≡ settled i m t own x d
  settled_on (Go l) led f = f l led
  settled_on d led f = absurd led

  pub settled_throw : (d : Did Left) (k : Named) → Leads {E = AllocError} (Ok (next.Throw k)) d P S → (S → n ≡ thrown m t own x (made_object i m.shared.heap k)) → n ≡ settled i m t own x d
  settled_throw (Throws j) k led f = f led.1 ∙ ap (λ (q : Named). thrown m t own x (made_object i m.shared.heap q)) led.0
  settled_throw d k led f = absurd led

  pub settled_ref : (d : Did Left) (o : ℕ) → Leads {E = AllocError} (Ok (next.ThrowRef o)) d P S → (S → n ≡ flown m t own o (leaves m.shared own.levels)) → n ≡ settled i m t own x d
  settled_ref (ThrowsRef p) o led f = f led.1 ∙ ap (λ (q : ℕ). flown m t own q (leaves m.shared own.levels)) led.0
  settled_ref d o led f = absurd led

  pub settled_words : (d : Did Left) → Leads {E = AllocError} (Ok next.NoWords) d P S → (S → n ≡ out_of_memory m t own own.levels) → n ≡ settled i m t own x d
  settled_words NoWords led f = f led
  settled_words d led f = absurd led

  pub settled_room : (d : Did Left) → Leads {E = AllocError} (Ok next.NoRoom) d P S → (S → n ≡ stack_overflow m t own) → n ≡ settled i m t own x d
  settled_room NoRoom led f = f led
  settled_room d led f = absurd led

  pub settled_output : (d : Did Left) → Leads {E = AllocError} (Ok next.NoOutput) d P S → (S → n ≡ stopped m ending.Output) → n ≡ settled i m t own x d
  settled_output NoOutput led f = f led
  settled_output d led f = absurd led

module _ (m n : WordMachine) (t : ℕ) (own : WordThread) (P : Left → Type 0) (S : Type 0) where
  pub settled_caught : (u : Unwound) → Unwinds (Ok next.On) u P S → ((l : Left) → P l → n ≡ gone_on m t own l) → n ≡ settled_flight m t own u
  settled_caught (Caught l) led f = f l led
  settled_caught u led f = absurd led

  pub settled_flies : (u : Unwound) (o : ℕ) → Unwinds (Ok (next.ThrowRef o)) u P S → ((l : Left) → P l → n ≡ flown m t own o l) → n ≡ settled_flight m t own u
  settled_flies (Flies p l) o led f = f l led.1 ∙ ap (λ (q : ℕ). flown m t own q l) led.0
  settled_flies u o led f = absurd led

  -- an answer that neither goes on nor throws a reference lacks words
  pub settled_lacking : (a : Next) (u : Unwound) → (a ≡ next.On → ⊥) → ((o : ℕ) → a ≡ next.ThrowRef o → ⊥) → Unwinds (Ok a) u P S → ((l : Left) → P l → n ≡ flown m t own m.preallocated.out_of_memory l)
      → n ≡ settled_flight m t own u
  settled_lacking next.On u on flies led f = absurd (on refl)
  settled_lacking (next.ThrowRef o) u on flies led f = absurd (flies o refl)
  settled_lacking next.NoWords (Lacking l) on flies led f = f l led
  settled_lacking a u on flies led f = absurd led

-- ---- a new exception

pub lacks : (a : Next) (made : Option WordHeap) (old new : WordHeap) → ((o : ℕ) → a ≡ next.ThrowRef o → ⊥) → ThrowsMade (Ok a) made old new → (made ≡ None) × (new ≡ old)
lacks (next.ThrowRef o) made old new flies threw = absurd (flies o refl)
lacks next.NoWords made old new flies threw = threw
lacks a made old new flies threw = absurd threw

module _ (m : WordMachine) (t : ℕ) (own : WordThread) (x : Option statics.At) (made : Option WordHeap) (heap : WordHeap) (o : ℕ) where
  abbrev flies : WordMachine
  flies = flown m t own o (leaves (with_heap m.shared heap) (moved_on x own.levels))

  pub thrown_new : made ≡ Some heap → o ≡ newest heap → flies ≡ thrown m t own x made
  thrown_new is same =
      ap (λ (q : ℕ). flown m t own q (leaves (with_heap m.shared heap) (moved_on x own.levels))) same ∙ ap (thrown m t own x) (sym is)

  pub thrown_lacking : made ≡ None → heap ≡ m.shared.heap → o ≡ m.preallocated.out_of_memory → flies ≡ thrown m t own x made
  thrown_lacking is stays same =
      (λ j. flown m t own (same j) (leaves (with_heap m.shared (stays j)) (moved_on x own.levels))) ∙ ap (thrown m t own x) (sym is)
