-- From the laws of the parts of a step: a step of a runnable thread leads to a well-typed state.
use Rattle.std.proofs.Common.{◌≡◌, ◌⊎◌, inl, inr, ℕ, List, [], ◌∷◌, true, false, Option, Some, None, refl, sym, ◌∙◌, subst}
use Rattle.std.specs.Prelude.{slice_get}
use Rattle.std.proofs.lemmas.Bool.{cases_Bool}
use Rattle.std.proofs.lemmas.Option.{same_Some}
use Rattle.dv_defs.specs.Images.{Image}
use Rattle.dv_machine.specs.Frame.{Frame}
use Rattle.dv_machine.specs.Level.{Level}
use Rattle.dv_machine.specs.Level as level
use Rattle.dv_defs.specs.declared.machine.End.{End}
use Rattle.dv_defs.specs.declared.machine.End.TheVariants as end
use Rattle.dv_typing.specs.declared.typing.RegState.{RegState}
use Rattle.dv_defs.specs.Pools.{Method, method_at}
use Rattle.dv_defs.specs.Op.{Op, Invoke, ReturnVoid, Return, Enter, Exit, is_local, is_return}
use Rattle.dv_typing.specs.Statics.{At}
use Rattle.dv_machine.specs.State.{Thread, Machine, Here}
use Rattle.dv_machine.specs.Step.{act, here, no_method, no_frame, step_of, step_thread, step_living, step_code, step_at}
use Rattle.dv_machine.specs.WellTyped.{Typings, BelowCode, StackFine, ThreadFine, WellTyped}
use Rattle.law_machine.specs.Premises.{MayStep, IsAt, IsAtRecord, DidFine, HoldsOf}
use Rattle.law_machine.specs.StepLaws.{IsInvoke, is_of_calls_or_monitors, StepsAreSound}
use Rattle.law_machine.proofs.lemmas.Calls.Push.{invokes_push}
use Rattle.law_machine.proofs.lemmas.Returns.Fine.{returns_pop}
use Rattle.law_machine.proofs.lemmas.HeapSteps.Fine.{heap_steps_are_fine}
use Rattle.law_machine.proofs.lemmas.Local.Fine.{local_steps_are_fine}
use Rattle.law_machine.proofs.lemmas.Monitors.Steps.{monitor_steps_are_fine}
use Rattle.law_machine.proofs.lemmas.Records.Fine.{rest_fine, records_are_fine}
use Rattle.law_machine.proofs.lemmas.Records.Needed.{needs_are_fine}
use Rattle.law_machine.proofs.lemmas.Exceptions.Flown.{settled_is_well_typed, settled_record_is_well_typed}
use Rattle.law_machine.proofs.lemmas.Exceptions.Records.{flights_are_fine}
use Rattle.law_flow.proofs.MethodCode.{code_is}

-- the sorts of operations, each with a law of its own
IsMonitor : Op → Type 0
IsMonitor op = ((a : ℕ) × (op ≡ Enter a)) ⊎ ((a : ℕ) × (op ≡ Exit a))

IsHeap : Op → Type 0
IsHeap op = (is_local op ≡ false) × (is_of_calls_or_monitors op ≡ false)

IsSorted : Op → Type 0
IsSorted op = IsInvoke op ⊎ ((is_return op ≡ true) ⊎ (IsMonitor op ⊎ ((is_local op ≡ true) ⊎ IsHeap op)))

by_place : (op : Op) → is_of_calls_or_monitors op ≡ false → IsSorted op
unfolding IsSorted IsHeap
by_place op e = go (cases_Bool (is_local op))
  where
    go : (is_local op ≡ true) ⊎ (is_local op ≡ false) → IsInvoke op ⊎ ((is_return op ≡ true) ⊎ (IsMonitor op ⊎ ((is_local op ≡ true) ⊎ ((is_local op ≡ false) × (is_of_calls_or_monitors op ≡ false)))))
    go (inl l) = inr (inr (inr (inl l)))
    go (inr l) = inr (inr (inr (inr (l, e))))

sorted : (op : Op) → IsSorted op
unfolding IsSorted IsMonitor
sorted (Invoke c ks g) = inl (c, ks, g, refl)
sorted ReturnVoid = inr (inl refl)
sorted (Return w a) = inr (inl refl)
sorted (Enter a) = inr (inr (inl (inl (a, refl))))
sorted (Exit a) = inr (inr (inl (inr (a, refl))))
sorted op = by_place op refl

act_fine : (image : Image) (T : Typings) (m : Machine) (t : ℕ) (thread : Thread) (h : Here) (x : At) (s : RegState) → IsAt image T m t thread h x s → DidFine image T m t thread x (act h x.op)
unfolding IsSorted IsMonitor IsHeap
act_fine image T m t thread h x s i = go (sorted x.op)
  where
    go : IsSorted x.op → DidFine image T m t thread x (act h x.op)
    go (inl k) = invokes_push image T m t thread h x s i k
    go (inr (inl k)) = returns_pop image T m t thread h x s i k
    go (inr (inr (inl k))) = monitor_steps_are_fine image T m t thread h x s i k
    go (inr (inr (inr (inl k)))) = local_steps_are_fine image T m t thread h x s i k
    go (inr (inr (inr (inr k)))) = heap_steps_are_fine image T m t thread h x s i k

module _ (image : Image) (T : Typings) (m : Machine) (t : ℕ) (thread : Thread) (may : MayStep image T m t) (has : slice_get m.threads t ≡ Some thread) where
  code_step : (f : Frame) (ls : List Level) → thread.end ≡ end.Living → thread.levels ≡ level.Code f ∷ ls → StackFine image T m.shared.heap t None (level.Code f ∷ ls) → HoldsOf (WellTyped image T) (step_code image m t thread f ls (method_at image f.method.0))
  code_step f ls living levels k =
      let p = k.1 in
      let e = may.accepted.typed.each f.method.0 f.at p.state p.has_state in
      let same : k.0.frame.code.method ≡ p.method = same_Some _ _ (sym (code_is image f.method.0 k.0.frame.code k.0.frame.has_code).method ∙ p.has_method) in
      let i : IsAt image T m t thread (here image m t p.method f ls e.1.next) e.1 p.state = record {
        may = may;
        has_thread = has;
        living = living;
        levels = levels;
        sees = refl;
        has_own = p.has_method;
        has_at = e.3;
        has_state = p.has_state;
        code = e.0;
        has_code = e.2;
        fine = e.4;
        conform = p.conform;
        below = subst (λ (n : Method). BelowCode image n ls) same k.0.below;
        rest_fine = k.3;
      } in
      let done = settled_is_well_typed image T m t thread (here image m t p.method f ls e.1.next) e.1 p.state _ i (needs_are_fine image T m t thread (here image m t p.method f ls e.1.next) e.1 p.state i (act_fine image T m t thread (here image m t p.method f ls e.1.next) e.1 p.state i)) in
      subst (λ (o : Option Method). HoldsOf (WellTyped image T) (step_code image m t thread f ls o)) (sym p.has_method) (subst (λ (o : Option At). HoldsOf (WellTyped image T) (step_at image m t thread p.method f ls o)) (sym e.3) done)

  levels_step : (ls : List Level) → thread.end ≡ end.Living → thread.levels ≡ ls → ThreadFine image T m.shared.heap t ls end.Living → HoldsOf (WellTyped image T) (step_living image m t thread ls)
  levels_step [] living levels k = may.typed
  levels_step (level.Code f ∷ ls) living levels k = code_step f ls living levels k.1
  levels_step (level.Init c r ∷ ls) living levels k =
      let i : IsAtRecord image T m t thread (here image m t no_method no_frame ls 0) (level.Init c r) c.0 = record { may = may; has_thread = has; living = living; levels = levels; sees = refl; below = k.1.0; rest_fine = rest_fine image T m t thread may.accepted may.typed has living c.0 r ls levels } in
      settled_record_is_well_typed image T m t c.0 r thread (here image m t no_method no_frame ls 0) _ i (records_are_fine image T m t c.0 r thread (here image m t no_method no_frame ls 0) i)

  thread_step : (e : End) → thread.end ≡ e → HoldsOf (WellTyped image T) (step_thread image m t thread e)
  thread_step end.Living living = levels_step thread.levels living refl (subst (λ (e : End). ThreadFine image T m.shared.heap t thread.levels e) living (may.typed.each t thread has))
  thread_step (end.Flying o) flying = subst (λ (e : End). HoldsOf (WellTyped image T) (step_thread image m t thread e)) flying (subst (λ (r : Option Thread). HoldsOf (WellTyped image T) (step_of image m t r)) has (flights_are_fine image T m t o thread may has flying))
  thread_step end.Returned e = may.typed
  thread_step (end.Died o) e = may.typed

pub steps_are_sound : StepsAreSound
steps_are_sound image T m t acc w going runs = go (slice_get m.threads t) refl
  where
    go : (o : Option Thread) → slice_get m.threads t ≡ o → HoldsOf (WellTyped image T) (step_of image m t o)
    go None e = w
    go (Some thread) e = thread_step image T m t thread (record { accepted = acc; typed = w; going = going; runnable = runs }) e thread.end refl
