-- The machine after a step is settled.
use Rattle.std.proofs.Common.{All, ◌≡◌, ℕ, suc, ◌++◌, List, Option, Some, None, ap, sym, ◌∙◌, subst}
use Rattle.std.specs.Prelude.{slice_get, slice_set}
use Rattle.std.specs.Option.{option_to_list}
use Rattle.dv_defs.specs.declared.machine.End.{End}
use Rattle.dv_defs.specs.declared.run.Ending.{Ending}
use Rattle.dv_defs.specs.declared.run.Limits.{Limits}
use Rattle.dv_defs.specs.declared.run.Preallocated.{Preallocated}
use Rattle.dv_defs.specs.Images.{Image}
use Rattle.dv_words.specs.declared.state.Level.{Level}
use Rattle.dv_words.specs.State.{WordHeap, WordShared, WordStack, WordThread}
use Rattle.dv_words.specs.Step.{with_thread}
use Rattle.dv_words.specs.Steps.{At, Left}
use Rattle.dv_threads.specs.declared.threads.Threads.{Threads}
use Rattle.dv_threads.specs.Kept.{AreAligned, bounds, threads_of}
use Rattle.dv_core.specs.declared.guest.Guest.{Guest}
use Rattle.dv_typing.specs.Statics as statics
use Rattle.dv_core.specs.Guests.{IsSeen, Leaves, IsAtLevel, Stays}
use Rattle.dv_core.specs.Machines.{counted, ended_at, machine_with}
use Rattle.dv_core.proofs.Settled.{ended_left, left_there}

-- the thread that stepped, with the levels that are left
abbrev pub kept : WordThread → List Level → WordThread
kept own ls = record { levels = ls; end = own.end; object = own.object }

-- it is there after the step
pub there_left : (g k : Guest) (t : ℕ) (own : WordThread) (h : At) (l : Left) → h.thread ≡ t → slice_get (threads_of g.threads) t ≡ Some own → Leaves g k own h l
    → slice_get (threads_of k.threads) t ≡ Some (kept own l.levels)
there_left g k t own h l number there leaves =
    ap (λ ts. slice_get ts t) (leaves.threads ∙ ap (λ n. slice_set (threads_of g.threads) n (kept own l.levels) ++ option_to_list l.started) number) ∙
    left_there (threads_of g.threads) t own (kept own l.levels) (option_to_list l.started) there

-- and stands as its levels tell
pub counts : (g k : Guest) (steps : ℕ) (stop : Option Ending) (limits : Limits) (p : Preallocated) (t : ℕ) (own : WordThread) (h : At) (l : Left) (f : List Level → End) → h.thread ≡ t → slice_get (threads_of g.threads) t ≡ Some own → Leaves g k own h l
    → counted (machine_with k steps stop limits p) t f ≡ with_thread (machine_with g steps stop limits p) t (record { levels = l.levels; end = f l.levels; object = own.object }) l
counts g k steps stop limits p t own h l f number there leaves =
    let threads : ended_at (threads_of k.threads) t f ≡ slice_set (threads_of g.threads) t (record { levels = l.levels; end = f l.levels; object = own.object }) ++ option_to_list l.started =
    ap (λ ts. ended_at ts t f) (leaves.threads ∙ ap (λ n. slice_set (threads_of g.threads) n (kept own l.levels) ++ option_to_list l.started) number) ∙
    ended_left (threads_of g.threads) t own l.levels f (option_to_list l.started) there in
    λ j. record { threads = threads j; shared = sym leaves.shared j; steps = suc steps; stop = stop; limits = limits; preallocated = p }

-- a machine in which nothing has changed
pub same_machine : (g k : Guest) (lim : Limits) (steps : ℕ) (stop : Option Ending) (limits : Limits) (p : Preallocated) → Stays lim g k → machine_with k steps stop limits p ≡ machine_with g steps stop limits p
same_machine g k lim steps stop limits p stays = λ j. record { threads = stays.threads j; shared = stays.shared j; steps = steps; stop = stop; limits = limits; preallocated = p }

-- a step sees it as before
pub same_seen : (i : Image) (lim : Limits) (g k : Guest) (t : ℕ) (own : WordThread) (h : At) → IsSeen i lim g t own h → Stays lim g k → IsSeen i lim k t own h
same_seen i lim g k t own h seen stays = record {
  image = seen.image;
  limits = seen.limits;
  number = seen.number;
  threads = seen.threads ∙ sym stays.threads;
  shared = seen.shared ∙ sym stays.shared;
  there = ap (λ ts. slice_get ts t) stays.threads ∙ seen.there;
  ordered = stays.ordered;
}

-- with another heap
abbrev pub with_heap_of : At → WordHeap → At
with_heap_of h heap = record h { shared = record h.shared { heap = heap } }

pub heap_seen : (i : Image) (lim : Limits) (g k : Guest) (t : ℕ) (own : WordThread) (h : At) → IsSeen i lim g t own h → k.threads ≡ g.threads → k.classes ≡ g.classes → k.output ≡ g.output → IsSeen i lim k t own (with_heap_of h k.heap)
heap_seen i lim g k t own h seen threads classes output = record {
  image = seen.image;
  limits = seen.limits;
  number = seen.number;
  threads = seen.threads ∙ ap threads_of (sym threads);
  shared =
      ap (λ (s : WordShared). let r : WordShared = record s { heap = k.heap } in r) seen.shared ∙
      (λ j. record { heap = k.heap; classes = sym classes j; monitors = (sym threads j).monitors.monitors; output = (sym output j).items });
  there = ap (λ ts. slice_get (threads_of ts) t) threads ∙ seen.there;
  ordered = record {
    aligned = subst (λ ts. AreAligned ts) (sym threads) seen.ordered.aligned;
    bounded = subst (λ (ts : Threads). All (λ (s : WordStack). bounds s ≡ (lim.levels, lim.words)) ts.stacks.items) (sym threads) seen.ordered.bounded;
  };
}

-- it stands where it stood
pub stands_with : (own : WordThread) (h : At) (heap : WordHeap) (x : Option statics.At) → IsAtLevel own h x → IsAtLevel own (with_heap_of h heap) x
stands_with own h heap None at = at
stands_with own h heap (Some x) at = record { levels = at.levels; method = at.method; fetched = at.fetched; next = at.next }
