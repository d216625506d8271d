-- A well-typed state stays so after a step that lets an exception fly.
use Rattle.std.proofs.Common.{◌≡◌, ◌≢◌, ℕ, suc, List, [], ◌∷◌, length, Bool, true, false, Option, Some, None, refl, sym, ap, ◌∙◌, subst, arith}
use Rattle.std.specs.Prelude.{slice_get, All, if◌then◌else◌}
use Rattle.std.proofs.lemmas.List.Elements.{All-head, All-tail, All-cons}
use Rattle.dv_defs.specs.Images.{Image}
use Rattle.dv_defs.specs.declared.run.Ending.TheVariants as ending
use Rattle.dv_machine.specs.Frame.{Frame}
use Rattle.dv_machine.specs.Level.{Level}
use Rattle.dv_machine.specs.Level as level
use Rattle.dv_defs.specs.declared.machine.End.{End}
use Rattle.dv_defs.specs.declared.machine.End.TheVariants as end
use Rattle.dv_typing.specs.declared.typing.RegState.{RegState}
use Rattle.dv_defs.specs.Op.{can_throw}
use Rattle.dv_typing.specs.Statics.{At}
use Rattle.dv_typing.specs.Flow.{is_exit}
use Rattle.dv_machine.specs.Heap.{Heap, newest}
use Rattle.dv_machine.specs.Monitors.{wait_of}
use Rattle.dv_machine.specs.Classes.{state_at}
use Rattle.dv_machine.specs.State.{Thread, Shared, Machine, Go, Throws, ThrowsRef, NoWords, NoRoom, NoOutput, IsStuck, Here, with_heap}
use Rattle.dv_machine.specs.Unwinding.{made_object, leaves}
use Rattle.dv_machine.specs.Step.{end_flying, flown, moved_on, thrown}
use Rattle.dv_machine.specs.Conforming.{RefsFine}
use Rattle.dv_machine.specs.WellTyped.{Typings, this_above, IsHandled, IsThrowable, CodeFine, StackFine, lowest, IsCode, ThreadFine, HeapFine, records, owed, levels_in, WellTyped}
use Rattle.law_machine.specs.Premises.{MayStep, IsAt, IsAtRecord, KeepsKinds}
use Rattle.law_machine.specs.StepLaws.{SettledIsWellTyped, SettledRecordIsWellTyped}
use Rattle.law_types.proofs.Facts.{nothing}
use Rattle.law_machine.proofs.lemmas.Common.Lists.{all_at}
use Rattle.law_machine.proofs.lemmas.Growth.Kinds.{all_refs_grown, stack_grown}
use Rattle.law_machine.proofs.lemmas.Growth.Keeps.{stopped_typed}
use Rattle.law_machine.proofs.lemmas.Growth.Threads.{records_after, after_typed, object_after, left_is_well_typed}
use Rattle.law_machine.proofs.lemmas.Monitors.Moved.{quiet_moved}
use Rattle.law_machine.proofs.lemmas.Exceptions.Made.{BothThrown, both_thrown, made_exception}
use Rattle.law_machine.proofs.lemmas.Exceptions.Callers.{below_throws, thrown_below, thrower_at, thrower_moved, sees_shared}

-- what flies leaves in order: the object, the levels that are left, and their records
pub record FlownFine (image : Image) (T : Typings) (m : Machine) (t : ℕ) (thread : Thread) (o : ℕ) (sh : Shared) (ls : List Level) : Type 0 where
  pub keeps : KeepsKinds m.shared.heap sh.heap
  pub heap : HeapFine image sh.heap
  pub monitors : sh.monitors ≡ m.shared.monitors
  pub fine : ThreadFine image T sh.heap t ls (end_flying o ls)
  pub refs : All (RefsFine image sh.heap) ls
  pub class_states : length sh.classes ≡ length image.classes
  pub mine : (c : ℕ) → records c ls ≡ owed t (state_at sh.classes c)
  pub others : (u c : ℕ) → u ≢ t → owed u (state_at sh.classes c) ≡ owed u (state_at m.shared.classes c)

pub flown_typed : (image : Image) (T : Typings) (m : Machine) (t : ℕ) (thread : Thread) (o : ℕ) (sh : Shared) (ls : List Level) → WellTyped image T m → slice_get m.threads t ≡ Some thread → wait_of m.shared.monitors t ≡ None → FlownFine image T m t thread o sh ls → WellTyped image T (flown m t thread o (leaves sh ls))
flown_typed image T m t thread o sh ls w has quiet f = after_typed image T m t thread (record { levels = ls; end = end_flying o ls; object = thread.object }) (leaves sh ls) w has (record {
  keeps = f.keeps;
  fine = f.fine;
  refs = f.refs;
  object = object_after image T m t thread sh.heap w has f.keeps;
  heap = f.heap;
  class_states = f.class_states;
  monitors = quiet_moved image m.threads t thread _ [] m.shared sh m.steps (suc m.steps) f.keeps f.monitors (omega arith) has w.refs quiet w.monitors;
  in_progress = records_after m.threads t thread _ None has m.shared.classes sh.classes w.in_progress f.mine f.others (λ x e. nothing ((c : ℕ) → records c x.levels ≡ 0) x e);
  started = λ x e. nothing _ x e;
})

-- the lowest level is code still with another frame on top
pub lowest_top : (l : Level) (f : Frame) (ls : List Level) → IsCode (lowest (l ∷ ls)) → IsCode (lowest (level.Code f ∷ ls))
lowest_top l f [] c = tt
lowest_top l f (k ∷ ls) c = c

-- and without the top one
pub lowest_rest : (l k : Level) (ls : List Level) → IsCode (lowest (l ∷ k ∷ ls)) → IsCode (lowest (k ∷ ls))
lowest_rest l k ls c = c

-- what is known of a living thread
pub living_fine : (image : Image) (T : Typings) (m : Machine) (t : ℕ) (thread : Thread) (ls : List Level) → WellTyped image T m → slice_get m.threads t ≡ Some thread → thread.end ≡ end.Living → thread.levels ≡ ls → ThreadFine image T m.shared.heap t ls end.Living
living_fine image T m t thread ls w has living levels = subst (λ (k : List Level). ThreadFine image T m.shared.heap t k end.Living) levels (subst (λ (e : End). ThreadFine image T m.shared.heap t thread.levels e) living (w.each t thread has))

pub refs_of : (image : Image) (T : Typings) (m : Machine) (t : ℕ) (thread : Thread) (ls : List Level) → WellTyped image T m → slice_get m.threads t ≡ Some thread → thread.levels ≡ ls → All (RefsFine image m.shared.heap) ls
refs_of image T m t thread ls w has levels = subst (λ (k : List Level). All (RefsFine image m.shared.heap) k) levels (all_at (λ x. All (RefsFine image m.shared.heap) x.levels) m.threads t thread w.refs has)

pub records_of : (image : Image) (T : Typings) (m : Machine) (t : ℕ) (thread : Thread) (ls : List Level) → WellTyped image T m → slice_get m.threads t ≡ Some thread → thread.levels ≡ ls → (c : ℕ) → records c ls ≡ owed t (state_at m.shared.classes c)
records_of image T m t thread ls w has levels c = ap (records c) (sym levels) ∙ ap (λ (x : Option Thread). records c (levels_in x)) (sym has) ∙ w.in_progress t c

-- the two exceptions that the opening made can be thrown
preallocated_thrown : (image : Image) (T : Typings) (m : Machine) {t : ℕ} → MayStep image T m t → BothThrown image m.shared.heap m.preallocated
preallocated_thrown image T m may = both_thrown image T may.accepted m.shared.heap m.preallocated may.typed.preallocated

-- an instruction throws an object of a heap that has grown
module _ (image : Image) (T : Typings) (m : Machine) (t : ℕ) (thread : Thread) (h : Here) (x : At) (s : RegState) (i : IsAt image T m t thread h x s) (can : can_throw x.op ≡ true) (quiet : wait_of m.shared.monitors t ≡ None) (after : Heap) (g : KeepsKinds m.shared.heap after) (fine : HeapFine image after) (o : ℕ) (flies : IsThrowable image after o) where
  -- by the frame on top, which may have moved on
  raised_with : (f : Frame) → ((ls : List Level) → CodeFine image T after h.frame ls → CodeFine image T after f ls) → (RefsFine image after (level.Code h.frame) → RefsFine image after (level.Code f)) → IsHandled image T after (this_above image h.rest) o f → WellTyped image T (flown m t thread o (leaves (with_heap m.shared after) (level.Code f ∷ h.rest)))
  raised_with f code refs handled = flown_typed image T m t thread o _ _ i.may.typed i.has_thread quiet (record {
    keeps = g;
    heap = fine;
    monitors = refl;
    fine = (lowest_top (level.Code h.frame) f h.rest living.0, flies, (code h.rest stack.0, handled, thrown_below image T i.may.accepted after t o flies h.rest (below_throws image stack.0.frame.code.method h.rest stack.0.below) stack.3));
    refs = All-cons (RefsFine image after) (level.Code f) h.rest (refs (All-head (RefsFine image after) (level.Code h.frame) h.rest all)) (All-tail (RefsFine image after) (level.Code h.frame) h.rest all);
    class_states = i.may.typed.class_states;
    mine = records_of image T m t thread _ i.may.typed i.has_thread i.levels;
    others = λ u c d. refl;
  })
    where
      living : ThreadFine image T m.shared.heap t (level.Code h.frame ∷ h.rest) end.Living
      living = living_fine image T m t thread _ i.may.typed i.has_thread i.living i.levels

      stack : StackFine image T after t None (level.Code h.frame ∷ h.rest)
      stack = stack_grown image m.shared.heap after g T t (level.Code h.frame ∷ h.rest) living.1

      all : All (RefsFine image after) (level.Code h.frame ∷ h.rest)
      all = all_refs_grown image m.shared.heap after g (level.Code h.frame ∷ h.rest) (refs_of image T m t thread _ i.may.typed i.has_thread i.levels)

  seen : KeepsKinds h.shared.heap after
  seen = subst (λ (sh : Shared). KeepsKinds sh.heap after) (sym (sees_shared image T m t thread h x s i)) g

  raised_at : is_exit x.op ≡ false → WellTyped image T (flown m t thread o (leaves (with_heap m.shared after) (level.Code h.frame ∷ h.rest)))
  raised_at e = raised_with h.frame (λ ls c. c) (λ r. r) (thrower_at image T m t thread h x s after o i can seen flies e)

  raised_moved : is_exit x.op ≡ true → WellTyped image T (flown m t thread o (leaves (with_heap m.shared after) (level.Code (record { method = h.frame.method; at = x.next; regs = h.frame.regs; result = h.frame.result; caught = h.frame.caught; this_pending = h.frame.this_pending }) ∷ h.rest)))
  raised_moved e = raised_with _ (λ ls c. record { frame = record { code = c.frame.code; has_code = c.frame.has_code; registers = c.frame.registers }; below = c.below }) (λ r. r) (thrower_moved image T m t thread h x s after o i can seen flies e)

  pub raised_typed : WellTyped image T (flown m t thread o (leaves (with_heap m.shared after) (moved_on (Some x) thread.levels)))
  raised_typed = subst (λ (ls : List Level). WellTyped image T (flown m t thread o (leaves (with_heap m.shared after) (moved_on (Some x) ls)))) (sym i.levels) (go (is_exit x.op) refl)
    where
      go : (b : Bool) → is_exit x.op ≡ b → WellTyped image T (flown m t thread o (leaves (with_heap m.shared after) (if b then level.Code (record { method = h.frame.method; at = x.next; regs = h.frame.regs; result = h.frame.result; caught = h.frame.caught; this_pending = h.frame.this_pending }) ∷ h.rest else level.Code h.frame ∷ h.rest)))
      go true e = raised_moved e
      go false e = raised_at e

  pub raised_here : is_exit x.op ≡ false → WellTyped image T (flown m t thread o (leaves (with_heap m.shared after) thread.levels))
  raised_here e = subst (λ (ls : List Level). WellTyped image T (flown m t thread o (leaves (with_heap m.shared after) ls))) (sym i.levels) (raised_at e)

pub settled_is_well_typed : SettledIsWellTyped
settled_is_well_typed image T m t thread h x s (Go l) i d = left_is_well_typed image T m t thread l i.may.typed i.has_thread d
settled_is_well_typed image T m t thread h x s (Throws n) i d = go (made_object image m.shared.heap n) refl
  where
    go : (made : Option Heap) → made_object image m.shared.heap n ≡ made → WellTyped image T (thrown m t thread (Some x) made)
    go None e = raised_typed image T m t thread h x s i d.can d.apart m.shared.heap (λ p k e. e) i.may.typed.heap m.preallocated.out_of_memory (preallocated_thrown image T m i.may).out_of_memory
    go (Some after) e = let a = made_exception image T i.may.accepted m.shared.heap after n i.may.typed.heap e in raised_typed image T m t thread h x s i d.can d.apart after a.added.keeps a.added.fine (newest after) a.thrown
settled_is_well_typed image T m t thread h x s (ThrowsRef o) i d = raised_here image T m t thread h x s i d.0.can d.0.apart m.shared.heap (λ p k e. e) i.may.typed.heap o d.2 d.1
settled_is_well_typed image T m t thread h x s NoWords i d = raised_here image T m t thread h x s i d.0.can d.0.apart m.shared.heap (λ p k e. e) i.may.typed.heap m.preallocated.out_of_memory (preallocated_thrown image T m i.may).out_of_memory d.1
settled_is_well_typed image T m t thread h x s NoRoom i d = raised_here image T m t thread h x s i d.0.can d.0.apart m.shared.heap (λ p k e. e) i.may.typed.heap m.preallocated.stack_overflow (preallocated_thrown image T m i.may).stack_overflow d.1
settled_is_well_typed image T m t thread h x s NoOutput i d = stopped_typed image T m ending.Output i.may.typed
settled_is_well_typed image T m t thread h x s (IsStuck y) i d = d

-- a record throws an object that is new
raised_record : (image : Image) (T : Typings) (m : Machine) (t c : ℕ) (r : Bool) (thread : Thread) (h : Here) (i : IsAtRecord image T m t thread h (level.Init (record { 0 = c }) r) c) → wait_of m.shared.monitors t ≡ None → (after : Heap) → KeepsKinds m.shared.heap after → HeapFine image after → (o : ℕ) → IsThrowable image after o → WellTyped image T (flown m t thread o (leaves (with_heap m.shared after) thread.levels))
raised_record image T m t c r thread h i quiet after g fine o flies = subst (λ (ls : List Level). WellTyped image T (flown m t thread o (leaves (with_heap m.shared after) ls))) (sym i.levels) (flown_typed image T m t thread o _ _ i.may.typed i.has_thread quiet (record {
  keeps = g;
  heap = fine;
  monitors = refl;
  fine = (living.0, flies, thrown_below image T i.may.accepted after t o flies (level.Init (record { 0 = c }) r ∷ h.rest) tt (stack_grown image m.shared.heap after g T t (level.Init (record { 0 = c }) r ∷ h.rest) living.1));
  refs = all_refs_grown image m.shared.heap after g (level.Init (record { 0 = c }) r ∷ h.rest) (refs_of image T m t thread _ i.may.typed i.has_thread i.levels);
  class_states = i.may.typed.class_states;
  mine = records_of image T m t thread _ i.may.typed i.has_thread i.levels;
  others = λ u c d. refl;
}))
  where
    living : ThreadFine image T m.shared.heap t (level.Init (record { 0 = c }) r ∷ h.rest) end.Living
    living = living_fine image T m t thread _ i.may.typed i.has_thread i.living i.levels

pub settled_record_is_well_typed : SettledRecordIsWellTyped
settled_record_is_well_typed image T m t c r thread h (Go l) i d = left_is_well_typed image T m t thread l i.may.typed i.has_thread d
settled_record_is_well_typed image T m t c r thread h (Throws n) i d = go (made_object image m.shared.heap n) refl
  where
    go : (made : Option Heap) → made_object image m.shared.heap n ≡ made → WellTyped image T (thrown m t thread None made)
    go None e = raised_record image T m t c r thread h i d m.shared.heap (λ p k e. e) i.may.typed.heap m.preallocated.out_of_memory (preallocated_thrown image T m i.may).out_of_memory
    go (Some after) e = let a = made_exception image T i.may.accepted m.shared.heap after n i.may.typed.heap e in raised_record image T m t c r thread h i d after a.added.keeps a.added.fine (newest after) a.thrown
settled_record_is_well_typed image T m t c r thread h (ThrowsRef o) i d = absurd d
settled_record_is_well_typed image T m t c r thread h NoWords i d = raised_record image T m t c r thread h i d m.shared.heap (λ p k e. e) i.may.typed.heap m.preallocated.out_of_memory (preallocated_thrown image T m i.may).out_of_memory
settled_record_is_well_typed image T m t c r thread h NoRoom i d = raised_record image T m t c r thread h i d m.shared.heap (λ p k e. e) i.may.typed.heap m.preallocated.stack_overflow (preallocated_thrown image T m i.may).stack_overflow
settled_record_is_well_typed image T m t c r thread h NoOutput i d = stopped_typed image T m ending.Output i.may.typed
settled_record_is_well_typed image T m t c r thread h (IsStuck y) i d = d
