-- A well-typed state stays so where the heap has grown, and where only the count or the stop changes.
use Rattle.std.proofs.Common.{ℕ, suc, ◌≤◌, List, arith}
use Rattle.std.specs.Prelude.{All}
use Rattle.std.proofs.lemmas.List.Elements.{All-weaker}
use Rattle.dv_defs.specs.Images.{Image}
use Rattle.dv_defs.specs.declared.run.Ending.{Ending}
use Rattle.dv_defs.specs.Names.{thread_name}
use Rattle.dv_defs.specs.Types.{of_class}
use Rattle.dv_machine.specs.Heap.{Heap}
use Rattle.dv_machine.specs.Monitors.{Wait}
use Rattle.dv_machine.specs.State.{Thread, Shared, Machine, with_heap}
use Rattle.dv_machine.specs.Step.{stopped}
use Rattle.dv_machine.specs.Conforming.{IsOf, RefsFine}
use Rattle.dv_machine.specs.WellTyped.{Typings, HeldFine, WaitFine, MonitorsFine, WellTyped}
use Rattle.law_machine.specs.Premises.{KeepsKinds}
use Rattle.law_machine.specs.StepLaws.{GrowthKeeps}
use Rattle.law_machine.proofs.lemmas.Common.Lists.{all_at}
use Rattle.law_machine.proofs.lemmas.Growth.Kinds.{is_of_grown, all_refs_grown, thread_grown, preallocated_grown}
use Rattle.law_machine.proofs.lemmas.Monitors.Moved.{AllRefs, waiting_grown}

monitors_grown : (image : Image) (threads : List Thread) (sh : Shared) (after : Heap) (n : ℕ) → KeepsKinds sh.heap after → AllRefs image sh.heap threads → MonitorsFine image threads sh n → MonitorsFine image threads (with_heap sh after) n
monitors_grown image threads sh after n g refs m = record { waits = All-weaker (WaitFine image threads sh) (WaitFine image threads (with_heap sh after)) again sh.monitors.waits m.waits; held = m.held; kept = m.kept; once = m.once; one_owner = m.one_owner }
  where
    again : (w : Wait) → WaitFine image threads sh w → WaitFine image threads (with_heap sh after) w
    again w f = record { thread = f.thread; has_thread = f.has_thread; waits = waiting_grown image sh.heap after g f.thread.levels f.thread.end w.object (all_at (λ th. All (RefsFine image sh.heap) th.levels) threads w.thread f.thread refs f.has_thread) f.waits; not_owner = f.not_owner }

pub growth_keeps : GrowthKeeps
growth_keeps image T m after acc w g fine = record {
  each = λ t th e. thread_grown image m.shared.heap after g T t th.levels th.end (w.each t th e);
  objects = All-weaker (λ th. IsOf image m.shared.heap th.object (of_class thread_name)) (λ th. IsOf image after th.object (of_class thread_name)) (λ th i. is_of_grown image m.shared.heap after g th.object (of_class thread_name) i) m.threads w.objects;
  refs = All-weaker (λ th. All (RefsFine image m.shared.heap) th.levels) (λ th. All (RefsFine image after) th.levels) (λ th a. all_refs_grown image m.shared.heap after g th.levels a) m.threads w.refs;
  heap = fine;
  monitors = monitors_grown image m.threads m.shared after m.steps g w.refs w.monitors;
  class_states = w.class_states;
  in_progress = w.in_progress;
  preallocated = preallocated_grown image m.shared.heap after g m.preallocated w.preallocated;
}

pub monitors_later : (image : Image) (threads : List Thread) (sh : Shared) (n : ℕ) → MonitorsFine image threads sh n → MonitorsFine image threads sh (suc n)
monitors_later image threads sh n m = record { waits = m.waits; held = All-weaker (HeldFine threads n) (HeldFine threads (suc n)) (λ h f. record { owner = f.owner; low = f.low; high = omega (arith, f.high) }) sh.monitors.held m.held; kept = All-weaker (λ (w : Wait). (1 ≤ w.kept) × (w.kept ≤ n)) (λ (w : Wait). (1 ≤ w.kept) × (w.kept ≤ suc n)) (λ w k. (k.0, omega (arith, k.1))) sh.monitors.waits m.kept; once = m.once; one_owner = m.one_owner }

-- a step that only stops the run
pub stopped_typed : (image : Image) (T : Typings) (m : Machine) (e : Ending) → WellTyped image T m → WellTyped image T (stopped m e)
stopped_typed image T m e w = record { each = w.each; objects = w.objects; refs = w.refs; heap = w.heap; monitors = monitors_later image m.threads m.shared m.steps w.monitors; class_states = w.class_states; in_progress = w.in_progress; preallocated = w.preallocated }
