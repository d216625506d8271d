-- An exception drops the record of a class, which becomes erroneous, and with it the opening's frame.
use Rattle.std.proofs.Common.{◌≡◌, ℕ, zero, suc, List, [], ◌∷◌, Bool, true, false, Option, Some, None, refl, sym, ◌∙◌, subst}
use Rattle.std.specs.Prelude.{slice_get, All, codes, if◌then◌else◌}
use Rattle.std.proofs.lemmas.List.{length-set}
use Rattle.std.proofs.lemmas.List.Elements.{All-tail, All-nil}
use Rattle.dv_defs.specs.Images.{Image}
use Rattle.dv_machine.specs.Value as v
use Rattle.dv_defs.specs.declared.run.Named.TheVariants as named
use Rattle.dv_machine.specs.Kind as kind
use Rattle.dv_machine.specs.Level.{Level}
use Rattle.dv_machine.specs.Level as level
use Rattle.dv_defs.specs.declared.machine.End.{End}
use Rattle.dv_defs.specs.declared.machine.End.TheVariants as end
use Rattle.dv_typing.specs.declared.typing.RegType.{RegType}
use Rattle.dv_defs.specs.Names.{throwable_name}
use Rattle.dv_defs.specs.Types.{of_class}
use Rattle.dv_typing.specs.RegTypes.{type_at}
use Rattle.dv_machine.specs.Heap.{Heap, newest, with_cell, length_of}
use Rattle.dv_machine.specs.Classes.{Erroneous, state_at}
use Rattle.dv_machine.specs.State.{Thread, Machine, with_heap}
use Rattle.dv_machine.specs.Unwinding.{Flies, leaves, is_opening, erroneous, below_record, number_named, exception_name, made_object, throwable_slot, wrapped, is_error}
use Rattle.dv_machine.specs.Step.{end_flying, flown, settled_flight, here, no_method, no_frame, step_of, step_thread, step_flight}
use Rattle.dv_machine.specs.Conforming.{Fits, Conforms, RefsFine}
use Rattle.dv_machine.specs.WellTyped.{Typings, nobody, cell_types, IsThrowable, StackFine, ThreadFine, HeapFine, records, owed, WellTyped}
use Rattle.dv_machine.specs.Accepted.{Accepted}
use Rattle.law_machine.specs.Premises.{KeepsKinds, HoldsOf}
use Rattle.law_machine.specs.StepLaws.{FlightsAreFine}
use Rattle.law_machine.proofs.lemmas.Growth.Kinds.{Either, is_of_grown, all_refs_grown, stack_grown}
use Rattle.law_machine.proofs.lemmas.Heap.Stored.{store_keeps}
use Rattle.law_machine.proofs.lemmas.Records.States.{dropped_mine, dropped_others, opening_records}
use Rattle.law_machine.proofs.lemmas.Exceptions.Made.{both_thrown, made_exception}
use Rattle.law_machine.proofs.lemmas.Exceptions.Callers.{thrown_below}
use Rattle.law_machine.proofs.lemmas.Exceptions.Flown.{flown_typed, refs_of, records_of}
use Rattle.law_machine.proofs.lemmas.Exceptions.Rises.{forgotten, flying_on, flying_quiet, fine_at, frame_flight}

module _ (image : Image) (T : Typings) (m : Machine) (t o : ℕ) (thread : Thread) (acc : Accepted image T) (w : WellTyped image T m) (has : slice_get m.threads t ≡ Some thread) (flying : thread.end ≡ end.Flying o) (c : ℕ) (r : Bool) (ls : List Level) (levels : thread.levels ≡ level.Init (record { 0 = c }) r ∷ ls) where
  -- the stack of the record, with another object in a heap that has grown
  stack_for : (after : Heap) → KeepsKinds m.shared.heap after → (p : ℕ) → IsThrowable image after p → StackFine image T after t (Some p) (level.Init (record { 0 = c }) r ∷ ls)
  stack_for after g p i = thrown_below image T acc after t p i (level.Init (record { 0 = c }) r ∷ ls) tt (stack_grown image m.shared.heap after g T t (level.Init (record { 0 = c }) r ∷ ls) (forgotten image T m.shared.heap t o (level.Init (record { 0 = c }) r ∷ ls) (fine_at image T m t o thread acc w has flying (level.Init (record { 0 = c }) r ∷ ls) levels).2))

  -- the record is dropped while an object of a heap that has grown flies
  module _ (after : Heap) (g : KeepsKinds m.shared.heap after) (fine : HeapFine image after) (p : ℕ) (i : IsThrowable image after p) where
    dropped_with : (b : Bool) → is_opening image t c ls ≡ b → WellTyped image T (flown m t thread p (leaves (erroneous (here image m t no_method no_frame ls 0) c (with_heap m.shared after)) (if b then [] else ls)))
    dropped_with b e = flown_typed image T m t thread p _ _ w has (flying_quiet image T m t o thread acc w has flying) (record {
      keeps = g;
      heap = fine;
      monitors = refl;
      fine = stack b e;
      refs = refs b;
      class_states = length-set m.shared.classes c Erroneous ∙ w.class_states;
      mine = λ d. same b e d ∙ dropped_mine t c r ls m.shared.classes Erroneous (λ u. refl) d (mine d);
      others = λ u d n. dropped_others t c r ls m.shared.classes Erroneous (λ u. refl) u d n (mine d);
    })
      where
        mine : (d : ℕ) → records d (level.Init (record { 0 = c }) r ∷ ls) ≡ owed t (state_at m.shared.classes d)
        mine = records_of image T m t thread _ w has levels

        same : (b : Bool) → is_opening image t c ls ≡ b → (d : ℕ) → records d (if b then [] else ls) ≡ records d ls
        same true e d = sym (opening_records image t c d ls e)
        same false e d = refl

        refs : (b : Bool) → All (RefsFine image after) (if b then [] else ls)
        refs true = All-nil (RefsFine image after)
        refs false = all_refs_grown image m.shared.heap after g ls (All-tail (RefsFine image m.shared.heap) (level.Init (record { 0 = c }) r) ls (refs_of image T m t thread _ w has levels))

        below : (b : Bool) → is_opening image t c ls ≡ b → Either (is_opening image t c ls) (StackFine image T after t None ls) (StackFine image T after t (Some p) ls) → Either b (StackFine image T after t None ls) (StackFine image T after t (Some p) ls)
        below b e k = subst (λ (x : Bool). Either x (StackFine image T after t None ls) (StackFine image T after t (Some p) ls)) e k

        stack : (b : Bool) → is_opening image t c ls ≡ b → ThreadFine image T after t (if b then [] else ls) (end_flying p (if b then [] else ls))
        stack true e = (refl, i)
        stack false e = flying_on image T after t p (level.Init (record { 0 = c }) r) ls i (fine_at image T m t o thread acc w has flying (level.Init (record { 0 = c }) r ∷ ls) levels).0 (below false e (stack_for after g p i).1)

    record_dropped : WellTyped image T (flown m t thread p (leaves (erroneous (here image m t no_method no_frame ls 0) c (with_heap m.shared after)) (below_record (here image m t no_method no_frame ls 0) c)))
    record_dropped = dropped_with (is_opening image t c ls) refl

  -- an object that can be thrown fits the cell of a cause
  thrown_fits : (heap : Heap) (p : ℕ) → IsThrowable image heap p → Fits image heap p (of_class throwable_name)
  thrown_fits heap zero i = tt
  thrown_fits heap (suc p) i = i

  cause : ℕ
  cause = throwable_slot image (codes "cause")

  wrapped_typed : (made : Option Heap) → made_object image m.shared.heap named.InInitializer ≡ made → HoldsOf (WellTyped image T) (settled_flight m t thread (wrapped (here image m t no_method no_frame ls 0) c o made))
  wrapped_typed None e = record_dropped m.shared.heap (λ p k e. e) w.heap m.preallocated.out_of_memory (both_thrown image T acc m.shared.heap m.preallocated w.preallocated).out_of_memory
  wrapped_typed (Some after) e =
      let a = made_exception image T acc m.shared.heap after named.InInitializer w.heap e in
      let flies : IsThrowable image after o = is_of_grown image m.shared.heap after a.added.keeps o (of_class throwable_name) (fine_at image T m t o thread acc w has flying (level.Init (record { 0 = c }) r ∷ ls) levels).1 in
      let fits : Conforms image after nobody (v.Ref o) (type_at (cell_types image (length_of after (newest after)) (kind.Object (record { 0 = number_named image (exception_name named.InInitializer) }))) (throwable_slot image (codes "cause"))) = subst (λ (x : RegType). Conforms image after nobody (v.Ref o) x) (sym acc.boot.cause) (thrown_fits after o flies) in
      let s = store_keeps image after (newest after) (throwable_slot image (codes "cause")) _ (v.Ref o) a.added.fine a.added.made fits in
      record_dropped (with_cell after (newest after) (throwable_slot image (codes "cause")) (v.Ref o)) (λ p k q. s.1 p k (a.added.keeps p k q)) s.0 (newest after) (is_of_grown image after (with_cell after (newest after) (throwable_slot image (codes "cause")) (v.Ref o)) s.1 (newest after) (of_class throwable_name) a.thrown)

  pub record_flight : HoldsOf (WellTyped image T) (step_flight image m t thread o (level.Init (record { 0 = c }) r ∷ ls))
  record_flight = go (is_error (here image m t no_method no_frame ls 0) o)
    where
      go : (b : Bool) → HoldsOf (WellTyped image T) (settled_flight m t thread (if b then Flies o (leaves (erroneous (here image m t no_method no_frame ls 0) c m.shared) (below_record (here image m t no_method no_frame ls 0) c)) else wrapped (here image m t no_method no_frame ls 0) c o (made_object image m.shared.heap named.InInitializer)))
      go true = record_dropped m.shared.heap (λ p k e. e) w.heap o (fine_at image T m t o thread acc w has flying (level.Init (record { 0 = c }) r ∷ ls) levels).1
      go false = wrapped_typed (made_object image m.shared.heap named.InInitializer) refl

pub flights_are_fine : FlightsAreFine
flights_are_fine image T m t o thread may has flying = subst (λ (x : Option Thread). HoldsOf (WellTyped image T) (step_of image m t x)) (sym has) (subst (λ (e : End). HoldsOf (WellTyped image T) (step_thread image m t thread e)) (sym flying) (go thread.levels refl))
  where
    go : (ls : List Level) → thread.levels ≡ ls → HoldsOf (WellTyped image T) (step_flight image m t thread o ls)
    go [] e = may.typed
    go (level.Code f ∷ ls) e = frame_flight image T m t o thread may.accepted may.typed has flying f ls e
    go (level.Init c r ∷ ls) e = record_flight image T m t o thread may.accepted may.typed has flying c.0 r ls e
