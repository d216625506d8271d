-- One level of an exception's flight: a frame catches it or is dropped, a record is dropped and its class erroneous.
use Rattle.std.proofs.Common.{◌≡◌, ℕ, zero, suc, List, [], ◌∷◌, Bool, true, false, Option, Some, None, refl, sym, ap, ◌∙◌, subst, arith}
use Rattle.std.specs.Prelude.{slice_get, All}
use Rattle.std.proofs.lemmas.List.Elements.{All-head, All-tail, All-cons}
use Rattle.std.proofs.lemmas.Option.{same_Some}
use Rattle.dv_defs.specs.Images.{Image}
use Rattle.dv_machine.specs.Frame.{Frame}
use Rattle.dv_machine.specs.Level.{Level}
use Rattle.dv_machine.specs.Level as level
use Rattle.dv_defs.specs.declared.machine.End.{End}
use Rattle.dv_defs.specs.declared.machine.End.TheVariants as end
use Rattle.dv_typing.specs.Flow.{Catcher, handlers_at}
use Rattle.dv_machine.specs.Heap.{Heap}
use Rattle.dv_machine.specs.Monitors.{Wait, wait_of}
use Rattle.dv_machine.specs.State.{Thread, Machine}
use Rattle.dv_machine.specs.Unwinding.{catches, handler_for, caught_frame, leaves, unwind_frame, is_opening}
use Rattle.dv_machine.specs.Step.{end_flying, flown, gone_on, settled_flight, here, no_method, step_flight}
use Rattle.dv_machine.specs.Conforming.{IsObject, IsThere, RefsFine}
use Rattle.dv_machine.specs.WellTyped.{Typings, this_above, IsPlaced, IsThrowable, StackFine, FlightFine, lowest, IsCode, ThreadFine, WaitFine, records, WellTyped}
use Rattle.dv_machine.specs.Accepted.{Accepted}
use Rattle.law_machine.specs.Premises.{HoldsOf}
use Rattle.law_types.proofs.Facts.{nothing}
use Rattle.law_machine.proofs.lemmas.Growth.Kinds.{either_map}
use Rattle.law_machine.proofs.lemmas.Growth.Threads.{records_after, left_is_well_typed}
use Rattle.law_machine.proofs.lemmas.Monitors.Owners.{entry_none}
use Rattle.law_machine.proofs.lemmas.Monitors.Moved.{quiet_moved}
use Rattle.law_machine.proofs.lemmas.Exceptions.Flown.{flown_typed, lowest_top, lowest_rest, refs_of, records_of}

-- the first handler that fits is one of those that were asked
handler_found : (image : Image) (heap : Heap) (o : ℕ) (P : ℕ → Type 0) (hs : List Catcher) → All (λ (h : Catcher). catches image heap o h.ty ≡ true → P h.to) hs → (to : ℕ) → handler_for image heap o hs ≡ Some to → P to
handler_found image heap o P [] a to e = absurd (cc)
handler_found image heap o P (h ∷ hs) a to e = go (catches image heap o h.ty) refl e (handler_found image heap o P hs (All-tail (λ (h : Catcher). catches image heap o h.ty ≡ true → P h.to) h hs a) to)
  where
    go : (b : Bool) → catches image heap o h.ty ≡ b → ◌≡◌ {A = Option ℕ} (elim b [ true ↦ Some h.to | false ↦ handler_for image heap o hs ]) (Some to) → (handler_for image heap o hs ≡ Some to → P to) → P to
    go true c e r = subst P (same_Some h.to to e) (All-head (λ (h : Catcher). catches image heap o h.ty ≡ true → P h.to) h hs a c)
    go false c e r = r e

module _ (image : Image) (T : Typings) (heap : Heap) (t o : ℕ) where
  -- what holds below a flight holds without it
  pub forgotten : (ls : List Level) → StackFine image T heap t (Some o) ls → StackFine image T heap t None ls
  forgotten [] k = k
  forgotten (level.Code f ∷ ls) k = (k.0, k.1, tt, forgotten ls k.3)
  forgotten (level.Init c r ∷ ls) k = (k.0, either_map _ _ _ _ (λ x. x) (forgotten ls) (is_opening image t c.0 ls) k.1)

  flight_top : (l : Level) (ls : List Level) → StackFine image T heap t (Some o) (l ∷ ls) → FlightFine image T heap t o (l ∷ ls)
  flight_top (level.Code f) ls k = (k.0, k.2, k.3)
  flight_top (level.Init c r) ls k = k

  -- what stands below the level that is dropped
  pub flying_on : (l : Level) (ls : List Level) → IsThrowable image heap o → IsCode (lowest (l ∷ ls)) → StackFine image T heap t (Some o) ls → ThreadFine image T heap t ls (end_flying o ls)
  flying_on l [] i c k = (refl, i)
  flying_on l (k ∷ ls) i c s = (lowest_rest l k ls c, i, flight_top k ls s)

pub object_there : (image : Image) (heap : Heap) (o : ℕ) → IsObject image heap o → IsThere image heap o
object_there image heap zero i = tt
object_there image heap (suc o) i = i

module _ (image : Image) (T : Typings) (m : Machine) (t o : ℕ) (thread : Thread) (acc : Accepted image T) (w : WellTyped image T m) (has : slice_get m.threads t ≡ Some thread) (flying : thread.end ≡ end.Flying o) where
  -- a thread with an exception in flight doesn't wait
  pub flying_quiet : wait_of m.shared.monitors t ≡ None
  flying_quiet = entry_none t m.shared.monitors.waits (λ k d l e. clash (waits k d l) e)
    where
      waits : All (WaitFine image m.threads m.shared) m.shared.monitors.waits
      waits = w.monitors.waits

      no_living : end.Flying o ≡ end.Living → ⊥
      no_living e = cc

      clash : {x : Wait} → WaitFine image m.threads m.shared x → x.thread ≡ t → ⊥
      clash f e =
          let same : f.thread ≡ thread = same_Some f.thread thread (sym f.has_thread ∙ ap (slice_get m.threads) e ∙ has) in
          no_living (sym flying ∙ sym (ap (λ (y : Thread). y.end) same) ∙ f.waits.running)

  pub fine_at : (ls : List Level) → thread.levels ≡ ls → ThreadFine image T m.shared.heap t ls (end.Flying o)
  fine_at ls e = subst (λ (k : List Level). ThreadFine image T m.shared.heap t k (end.Flying o)) e (subst (λ (x : End). ThreadFine image T m.shared.heap t thread.levels x) flying (w.each t thread has))

  module _ (f : Frame) (ls : List Level) (levels : thread.levels ≡ level.Code f ∷ ls) where
    all_refs : All (RefsFine image m.shared.heap) (level.Code f ∷ ls)
    all_refs = refs_of image T m t thread _ w has levels

    -- the frame is dropped
    frame_dropped : WellTyped image T (flown m t thread o (leaves m.shared ls))
    frame_dropped =
        let k = fine_at (level.Code f ∷ ls) levels in
        flown_typed image T m t thread o m.shared ls w has flying_quiet (record { keeps = λ p q e. e; heap = w.heap; monitors = refl; fine = flying_on image T m.shared.heap t o (level.Code f) ls k.1 k.0 k.2.2; refs = All-tail (RefsFine image m.shared.heap) (level.Code f) ls all_refs; class_states = w.class_states; mine = records_of image T m t thread _ w has levels; others = λ u c d. refl })

    -- the frame is in a handler
    frame_catches : (to : ℕ) → IsPlaced image T m.shared.heap (this_above image ls) (caught_frame f to o) → WellTyped image T (gone_on m t thread (leaves m.shared (level.Code (caught_frame f to o) ∷ ls)))
    frame_catches to p =
        let k = fine_at (level.Code f ∷ ls) levels in
        let r = All-head (RefsFine image m.shared.heap) (level.Code f) ls all_refs in
        left_is_well_typed image T m t thread (leaves m.shared (level.Code (caught_frame f to o) ∷ ls)) w has (record {
          keeps = λ p q e. e;
          levels = (lowest_top (level.Code f) (caught_frame f to o) ls k.0, (record { frame = record { code = k.2.0.frame.code; has_code = k.2.0.frame.has_code; registers = k.2.0.frame.registers }; below = k.2.0.below }, p, tt, forgotten image T m.shared.heap t o ls k.2.2));
          refs = All-cons (RefsFine image m.shared.heap) (level.Code (caught_frame f to o)) ls (r.0, tt, object_there image m.shared.heap o k.1.object) (All-tail (RefsFine image m.shared.heap) (level.Code f) ls all_refs);
          heap = w.heap;
          class_states = w.class_states;
          monitors = quiet_moved image m.threads t thread _ [] m.shared m.shared m.steps (suc m.steps) (λ p q e. e) refl (omega arith) has w.refs flying_quiet w.monitors;
          in_progress = records_after m.threads t thread _ None has m.shared.classes m.shared.classes w.in_progress (records_of image T m t thread _ w has levels) (λ u c d. refl) (λ x e. nothing ((c : ℕ) → records c x.levels ≡ 0) x e);
          started = λ x e. nothing _ x e;
        })

    pub frame_flight : HoldsOf (WellTyped image T) (step_flight image m t thread o (level.Code f ∷ ls))
    frame_flight = go (handler_for image m.shared.heap o (handlers_at image f.method.0 f.at)) refl
      where
        go : (r : Option ℕ) → handler_for image m.shared.heap o (handlers_at image f.method.0 f.at) ≡ r → HoldsOf (WellTyped image T) (settled_flight m t thread (unwind_frame (here image m t no_method f ls 0) f o r))
        go None e = frame_dropped
        go (Some to) e = frame_catches to (handler_found image m.shared.heap o (λ n. IsPlaced image T m.shared.heap (this_above image ls) (caught_frame f n o)) (handlers_at image f.method.0 f.at) (fine_at (level.Code f ∷ ls) levels).2.1 to e)
