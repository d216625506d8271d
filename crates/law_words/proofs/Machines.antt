-- Machines on words are the erasures of those that they stand for.
use Rattle.std.proofs.Common.{◌≡◌, ℕ, List, [], ◌∷◌, All, Option, length, map, refl, sym, ap, subst, ◌∙◌}
use Rattle.std.specs.List.{AllZip}
use Rattle.std.proofs.lemmas.List.Elements.{All-head, All-tail}
use Rattle.dv_defs.specs.declared.machine.End.{End}
use Rattle.dv_defs.specs.declared.run.Ending.{Ending}
use Rattle.dv_defs.specs.declared.run.Limits.{Limits}
use Rattle.dv_defs.specs.declared.run.Preallocated.{Preallocated}
use Rattle.dv_machine.specs.Classes.{Classes}
use Rattle.dv_machine.specs.Monitors.{Monitors}
use Rattle.dv_machine.specs.State.{Machine, Shared, Thread}
use Rattle.dv_words.specs.declared.state.Level.{Level}
use Rattle.dv_words.specs.Erasure.{erased_heap, erased_levels, erased_machine, erased_shared, erased_thread}
use Rattle.law_words.specs.ErasureLaws.{MachinesAreErased}
use Rattle.dv_words.specs.Standing.{HeapFits, IsWholeHeap, IsWholeMachine, IsWholeThread, MachineFits, MachineStands, SharedStands, ThreadFits, ThreadStands}
use Rattle.dv_words.specs.State.{WordHeap, WordMachine, WordShared, WordThread}
use Rattle.law_words.proofs.Frames.{levels_are_erased}
use Rattle.law_words.proofs.Heaps.{heaps_are_erased}

abbrev thread_of : List Level → End → ℕ → WordThread
thread_of ls e o = record { levels = ls; end = e; object = o }

same_thread : (w : WordThread) (t : Thread) → ThreadFits w → IsWholeThread t → ThreadStands w t → w ≡ erased_thread t
same_thread w t fits whole stands =
    ap (λ ls. thread_of ls w.end w.object) ((levels_are_erased w.levels t.levels fits whole).0 stands.levels)
    ∙ (ap (λ e. thread_of (erased_levels t.levels) e w.object) stands.end ∙ ap (thread_of (erased_levels t.levels) t.end) stands.object)

thread_stands : (t : Thread) → ThreadFits (erased_thread t) → IsWholeThread t → ThreadStands (erased_thread t) t
thread_stands t fits whole = record { levels = (levels_are_erased (erased_levels t.levels) t.levels fits whole).1 refl; end = refl; object = refl }

same_threads : (ws : List WordThread) (ts : List Thread) → All ThreadFits ws → All IsWholeThread ts → AllZip ThreadStands ws ts → ws ≡ map erased_thread ts
same_threads [] [] fits whole stand = refl
same_threads [] (t ∷ ts) fits whole stand = absurd stand
same_threads (w ∷ ws) [] fits whole stand = absurd stand
same_threads (w ∷ ws) (t ∷ ts) fits whole stand =
    ap (λ u. u ∷ ws) (same_thread w t (All-head ThreadFits w ws fits) (All-head IsWholeThread t ts whole) stand.0)
    ∙ ap (λ us. erased_thread t ∷ us) (same_threads ws ts (All-tail ThreadFits w ws fits) (All-tail IsWholeThread t ts whole) stand.1)

threads_stand : (ts : List Thread) → All ThreadFits (map erased_thread ts) → All IsWholeThread ts → AllZip ThreadStands (map erased_thread ts) ts
threads_stand [] fits whole = tt
threads_stand (t ∷ ts) fits whole =
    (thread_stands t (All-head ThreadFits (erased_thread t) (map erased_thread ts) fits) (All-head IsWholeThread t ts whole), threads_stand ts (All-tail ThreadFits (erased_thread t) (map erased_thread ts) fits) (All-tail IsWholeThread t ts whole))

abbrev shared_of : WordHeap → Classes → Monitors → List ℕ → WordShared
shared_of h c m o = record { heap = h; classes = c; monitors = m; output = o }

same_shared : (w : WordShared) (s : Shared) → length s.heap.cells ≡ length s.heap.kinds → HeapFits w.heap → IsWholeHeap s.heap → SharedStands w s → w ≡ erased_shared s
same_shared w s same fits whole stands =
    ap (λ h. shared_of h w.classes w.monitors w.output) ((heaps_are_erased w.heap s.heap same fits whole).0 stands.heap)
    ∙ (ap (λ c. shared_of (erased_heap s.heap) c w.monitors w.output) stands.classes
    ∙ (ap (λ m. shared_of (erased_heap s.heap) s.classes m w.output) stands.monitors
    ∙ ap (shared_of (erased_heap s.heap) s.classes s.monitors) stands.output))

abbrev machine_of : List WordThread → WordShared → ℕ → Option Ending → Limits → Preallocated → WordMachine
machine_of ts s n e l p = record { threads = ts; shared = s; steps = n; stop = e; limits = l; preallocated = p }

same_machine : (w : WordMachine) (m : Machine) → length m.shared.heap.cells ≡ length m.shared.heap.kinds → MachineFits w → IsWholeMachine m → MachineStands w m → w ≡ erased_machine m
same_machine w m same fits whole stands =
    let ts = map erased_thread m.threads in
    let s = erased_shared m.shared in
    ap (λ x. machine_of x w.shared w.steps w.stop w.limits w.preallocated) (same_threads w.threads m.threads fits.0 whole.0 stands.threads)
    ∙ (ap (λ x. machine_of ts x w.steps w.stop w.limits w.preallocated) (same_shared w.shared m.shared same fits.1 whole.1 stands.shared)
    ∙ (ap (λ x. machine_of ts s x w.stop w.limits w.preallocated) stands.steps
    ∙ (ap (λ x. machine_of ts s m.steps x w.limits w.preallocated) stands.stop
    ∙ (ap (λ x. machine_of ts s m.steps m.stop x w.preallocated) stands.limits ∙ ap (machine_of ts s m.steps m.stop m.limits) stands.preallocated))))

machine_stands : (m : Machine) → length m.shared.heap.cells ≡ length m.shared.heap.kinds → MachineFits (erased_machine m) → IsWholeMachine m → MachineStands (erased_machine m) m
machine_stands m same fits whole =
    record {
      threads = threads_stand m.threads fits.0 whole.0;
      shared = record { heap = (heaps_are_erased (erased_heap m.shared.heap) m.shared.heap same fits.1 whole.1).1 refl; classes = refl; monitors = refl; output = refl };
      steps = refl;
      stop = refl;
      limits = refl;
      preallocated = refl;
    }

pub machines_are_erased : MachinesAreErased
machines_are_erased w m same fits whole =
    (same_machine w m same fits whole, λ is. subst (λ x. MachineStands x m) (sym is) (machine_stands m same (subst MachineFits is fits) whole))
