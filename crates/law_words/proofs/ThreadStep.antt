-- A step of a thread on words goes where the tagged machine's goes.
use Rattle.std.proofs.Common.{◌≡◌, ℕ, zero, suc, ◌++◌, Bool, true, false, Option, Some, None, Ok, List, [], ◌∷◌, refl, sym, ap, ◌∙◌, subst}
use Rattle.std.specs.Prelude.{if◌then◌else◌, slice_get, slice_set}
use Rattle.std.specs.List.{AllZip}
use Rattle.std.specs.Option.{option_to_list}
use Rattle.std.proofs.lemmas.List.Elements.{All-nil}
use Rattle.dv_defs.specs.declared.machine.End.{End}
use Rattle.dv_defs.specs.declared.machine.End.TheVariants as end
use Rattle.dv_machine.specs.Frame as tagged_frame
use Rattle.dv_machine.specs.Level as tagged_level
use Rattle.dv_defs.specs.declared.names.ClassId.{ClassId}
use Rattle.dv_defs.specs.declared.names.MethodId.{MethodId}
use Rattle.dv_defs.specs.declared.run.Ending.{Ending}
use Rattle.dv_defs.specs.declared.run.Ending.TheVariants as ending
use Rattle.dv_defs.specs.declared.run.Named.{Named}
use Rattle.dv_defs.specs.declared.run.Preallocated.{Preallocated}
use Rattle.dv_typing.specs.Flow.{handlers_at, is_exit}
use Rattle.dv_machine.specs.Heap as tagged
use Rattle.dv_machine.specs.Heap.{Heap}
use Rattle.dv_defs.specs.Images.{Image}
use Rattle.dv_defs.specs.Op.{needs}
use Rattle.dv_defs.specs.Pools.{Method, method_at}
use Rattle.dv_typing.specs.Statics as statics
use Rattle.dv_typing.specs.Statics.{fetch}
use Rattle.dv_machine.specs.State as machine
use Rattle.dv_machine.specs.State.{Did, Go, IsStuck, Left, Machine, NoOutput, NoRoom, NoWords, Reads, Shared, Thread, Throws, ThrowsRef}
use Rattle.dv_machine.specs.Step as step
use Rattle.dv_machine.specs.Unwinding as flight
use Rattle.dv_words.specs.declared.state.Frame.{Frame}
use Rattle.dv_words.specs.declared.state.Level.{Level}
use Rattle.dv_words.specs.declared.state.Level.TheVariants as level
use Rattle.dv_words.specs.Heaps as words
use Rattle.dv_words.specs.Standing.{Fits, FrameFits, FrameStands, LevelsStand, MachineStands, ThreadStands}
use Rattle.dv_words.specs.State.{WordHeap, WordMachine, WordThread}
use Rattle.law_words.specs.Laws.{IsBounded, OperandsFit, PutsInMade}
use Rattle.dv_words.specs.Step as over
use Rattle.law_words.specs.StepLaws.{AtStands, CallFits, ImageFits, IsFit, LeavesStand, OperationsFit, OutcomeStands, ReadsFit, StartedStands, StepsFollow, TopFits}
use Rattle.dv_words.specs.Steps as steps
use Rattle.dv_words.specs.Unwinding as falling
use Rattle.law_words.proofs.Added.{OptionStands, newest_is, object_added}
use Rattle.law_words.proofs.RecordSteps.{UnwoundStands, frame_unwound, handler_is, ready_stands, record_stands, record_unwound}
use Rattle.law_words.proofs.Short.{IsBoundedOption, object_bounded}
use Rattle.law_words.proofs.ThreadSteps.{BothStand, thread_at}

-- ---- threads

threads_set : (ws : List WordThread) (ts : List Thread) (k : ℕ) (w : WordThread) (t : Thread) → AllZip ThreadStands ws ts → ThreadStands w t → AllZip ThreadStands (slice_set ws k w) (slice_set ts k t)
threads_set [] [] k w t all one = tt
threads_set [] (u ∷ ts) k w t all one = absurd all
threads_set (x ∷ ws) [] k w t all one = absurd all
threads_set (x ∷ ws) (u ∷ ts) zero w t all one = (one, all.1)
threads_set (x ∷ ws) (u ∷ ts) (suc k) w t all one = (all.0, threads_set ws ts k w t all.1 one)

threads_more : (ws : List WordThread) (ts : List Thread) (a : Option WordThread) (b : Option Thread) → AllZip ThreadStands ws ts → StartedStands a b → AllZip ThreadStands (ws ++ option_to_list a) (ts ++ option_to_list b)
threads_more [] [] None None all one = tt
threads_more [] [] (Some w) (Some t) all one = (one, tt)
threads_more [] [] None (Some t) all one = absurd one
threads_more [] [] (Some w) None all one = absurd one
threads_more [] (t ∷ ts) a b all one = absurd all
threads_more (w ∷ ws) [] a b all one = absurd all
threads_more (w ∷ ws) (t ∷ ts) a b all one = (all.0, threads_more ws ts a b all.1 one)

end_is : (ss : List Level) (ls : List tagged_level.Level) → LevelsStand ss ls → over.end_after ss ≡ step.end_after ls
end_is [] [] all = refl
end_is [] (l ∷ ls) all = absurd all
end_is (s ∷ ss) [] all = absurd all
end_is (s ∷ ss) (l ∷ ls) all = refl

flying_is : (o p : ℕ) (ss : List Level) (ls : List tagged_level.Level) → o ≡ p → LevelsStand ss ls → over.end_flying o ss ≡ step.end_flying p ls
flying_is o p [] [] same all = ap end.Died same
flying_is o p [] (l ∷ ls) same all = absurd all
flying_is o p (s ∷ ss) [] same all = absurd all
flying_is o p (s ∷ ss) (l ∷ ls) same all = ap end.Flying same

-- ---- states after a step

-- a state after a step, whose heap is bounded
abbrev After : WordMachine → Machine → Type 0
After w n = MachineStands w n × IsBounded n.shared.heap

module _ (w : WordMachine) (m : Machine) (t : ℕ) (stands : MachineStands w m) (bounded : IsBounded m.shared.heap) (x : WordThread) (th : Thread) (one : ThreadStands x th) where
  stopped_stands : (e : Ending) → After (over.stopped w e) (step.stopped m e)
  stopped_stands e = (record { threads = stands.threads; shared = stands.shared; steps = ap suc stands.steps; stop = refl; limits = stands.limits; preallocated = stands.preallocated }, bounded)

  with_stands : (y : WordThread) (u : Thread) (s : steps.Left) (l : Left) → ThreadStands y u → LeavesStand s l → After (over.with_thread w t y s) (step.with_thread m t u l)
  with_stands y u s l new left = (
    record {
      threads = threads_more (slice_set w.threads t y) (slice_set m.threads t u) s.started l.started (threads_set w.threads m.threads t y u stands.threads new) left.started;
      shared = left.shared;
      steps = ap suc stands.steps;
      stop = stands.stop;
      limits = stands.limits;
      preallocated = stands.preallocated;
    },
    left.bounded,
  )

  gone_stands : (s : steps.Left) (l : Left) → LeavesStand s l → After (over.gone_on w t x s) (step.gone_on m t th l)
  gone_stands s l left = with_stands (record { levels = s.levels; end = over.end_after s.levels; object = x.object }) (record { levels = l.levels; end = step.end_after l.levels; object = th.object }) s l (record { levels = left.levels; end = end_is s.levels l.levels left.levels; object = one.object }) left

  flown_stands : (o p : ℕ) (s : steps.Left) (l : Left) → o ≡ p → LeavesStand s l → After (over.flown w t x o s) (step.flown m t th p l)
  flown_stands o p s l same left = with_stands (record { levels = s.levels; end = over.end_flying o s.levels; object = x.object }) (record { levels = l.levels; end = step.end_flying p l.levels; object = th.object }) s l (record { levels = left.levels; end = flying_is o p s.levels l.levels same left.levels; object = one.object }) left

  -- ---- an exception that a step throws

  moved_stands : (a : Option statics.At) (ss : List Level) (ls : List tagged_level.Level) → LevelsStand ss ls → LevelsStand (over.moved_on a ss) (step.moved_on a ls)
  moved_stands None ss ls all = all
  moved_stands (Some a) [] [] all = tt
  moved_stands (Some a) [] (l ∷ ls) all = absurd all
  moved_stands (Some a) (s ∷ ss) [] all = absurd all
  moved_stands (Some a) (level.Init c r ∷ ss) (tagged_level.Init d q ∷ ls) all = all
  moved_stands (Some a) (level.Init c r ∷ ss) (tagged_level.Code f ∷ ls) all = absurd all.0
  moved_stands (Some a) (level.Code s ∷ ss) (tagged_level.Init d q ∷ ls) all = absurd all.0
  moved_stands (Some a) (level.Code s ∷ ss) (tagged_level.Code f ∷ ls) all = by (is_exit a.op)
    where
      by : (b : Bool) → LevelsStand (if b then level.Code (record s { at = a.next }) ∷ ss else level.Code s ∷ ss) (if b then tagged_level.Code (record f { at = a.next }) ∷ ls else tagged_level.Code f ∷ ls)
      by true = let frame : FrameStands s f = all.0 in (record { method = frame.method; at = refl; regs = frame.regs; result = frame.result; caught = frame.caught }, all.1)
      by false = all

  -- the exception of the opening flies where words or levels are lacking
  lacking_words : (ss : List Level) (ls : List tagged_level.Level) → LevelsStand ss ls → After (over.out_of_memory w t x ss) (step.out_of_memory m t th ls)
  lacking_words ss ls all = flown_stands _ _ (steps.leaves w.shared ss) (flight.leaves m.shared ls) (ap (λ (p : Preallocated). p.out_of_memory) stands.preallocated) (record { levels = all; shared = stands.shared; started = tt; bounded = bounded })

  lacking_levels : After (over.stack_overflow w t x) (step.stack_overflow m t th)
  lacking_levels = flown_stands _ _ (steps.leaves w.shared x.levels) (flight.leaves m.shared th.levels) (ap (λ (p : Preallocated). p.stack_overflow) stands.preallocated) (record { levels = one.levels; shared = stands.shared; started = tt; bounded = bounded })

  thrown_by : (a : Option statics.At) (y : Option WordHeap) (z : Option Heap) → OptionStands y z → IsBoundedOption z → After (over.thrown w t x a y) (step.thrown m t th a z)
  thrown_by a None None s few = lacking_words (over.moved_on a x.levels) (step.moved_on a th.levels) (moved_stands a x.levels th.levels one.levels)
  thrown_by a None (Some z) s few = absurd s
  thrown_by a (Some y) None s few = absurd s
  thrown_by a (Some y) (Some z) s few =
      flown_stands (words.newest y) (tagged.newest z) (steps.leaves (steps.with_heap w.shared y) (over.moved_on a x.levels)) (flight.leaves (machine.with_heap m.shared z) (step.moved_on a th.levels)) (newest_is y z s)
      (record { levels = moved_stands a x.levels th.levels one.levels; shared = record { heap = s; classes = stands.shared.classes; monitors = stands.shared.monitors; output = stands.shared.output }; started = tt; bounded = few })

  -- ---- an outcome

  same_machine : (n k : Machine) → (let r : Reads Machine = Ok n in r) ≡ Ok k → n ≡ k
  same_machine n k e = cc

  settled_stands : (image : Image) (a : Option statics.At) (d : Did steps.Left) (e : Did Left) (n : Machine) → OutcomeStands d e → step.settled image m t th a e ≡ Ok n → After (over.settled image w t x a d) n
  settled_stands image a d (IsStuck y) n s is = absurd (cc)
  settled_stands image a (Go s) (Go l) n left is = subst (After (over.gone_on w t x s)) (same_machine _ n is) (gone_stands s l left)
  settled_stands image a (Throws k) (Throws l) n same is =
      subst (λ (k : Named). After (over.thrown w t x a (falling.made_object image w.shared.heap k)) n) (sym same)
      (subst (After (over.thrown w t x a (falling.made_object image w.shared.heap l))) (same_machine _ n is)
      (thrown_by a _ _ (object_added image w.shared.heap m.shared.heap (flight.number_named image (flight.exception_name l)) stands.shared.heap) (object_bounded image m.shared.heap (flight.number_named image (flight.exception_name l)) bounded)))
  settled_stands image a (ThrowsRef o) (ThrowsRef p) n same is =
      subst (After (over.flown w t x o (steps.leaves w.shared x.levels))) (same_machine _ n is)
      (flown_stands o p (steps.leaves w.shared x.levels) (flight.leaves m.shared th.levels) same (record { levels = one.levels; shared = stands.shared; started = tt; bounded = bounded }))
  settled_stands image a NoWords NoWords n s is = subst (After (over.out_of_memory w t x x.levels)) (same_machine _ n is) (lacking_words x.levels th.levels one.levels)
  settled_stands image a NoRoom NoRoom n s is = subst (After (over.stack_overflow w t x)) (same_machine _ n is) lacking_levels
  settled_stands image a NoOutput NoOutput n s is = subst (After (over.stopped w ending.Output)) (same_machine _ n is) (stopped_stands ending.Output)
  settled_stands image a d e n s is = absurd s

  settled_flight_stands : (a : steps.At) (h : machine.Here) (there : AtStands a h) (d : falling.Unwound) (e : flight.Unwound) (n : Machine) → UnwoundStands a h there d e → step.settled_flight m t th e ≡ Ok n → After (over.settled_flight w t x d) n
  settled_flight_stands a h there (falling.Caught s) (flight.Caught l) n left is = subst (After (over.gone_on w t x s)) (same_machine _ n is) (gone_stands s l left)
  settled_flight_stands a h there (falling.Flies o s) (flight.Flies p l) n left is = subst (After (over.flown w t x o s)) (same_machine _ n is) (flown_stands o p s l left.0 left.1)
  settled_flight_stands a h there (falling.Lacking s) (flight.Lacking l) n left is = subst (After (over.flown w t x w.preallocated.out_of_memory s)) (same_machine _ n is) (flown_stands _ _ s l (ap (λ (p : Preallocated). p.out_of_memory) stands.preallocated) left)
  settled_flight_stands a h there d e n left is = absurd left

-- ---- a step

module _ (image : Image) (w : WordMachine) (m : Machine) (t : ℕ) (image_fits : ImageFits image) (operations : OperationsFit image) (fits : ReadsFit w t) (fit : IsFit image m) (stands : MachineStands w m) (x : WordThread) (th : Thread) (one : ThreadStands x th) (n : Machine) where
  same_state : (let r : Reads Machine = Ok m in r) ≡ Ok n → After w n
  same_state is = subst (After w) (same_machine w m t stands fit.bounded x th one m n is) (stands, fit.bounded)

  -- what the instruction at hand sees
  here_stands : (own : Method) (s : Frame) (f : tagged_frame.Frame) (ss : List Level) (ls : List tagged_level.Level) (next : ℕ) → FrameStands s f → LevelsStand ss ls → FrameFits s → AtStands (over.here image w t own s ss next) (step.here image m t own f ls next)
  here_stands own s f ss ls next frame rest small = record {
    image = refl;
    limits = stands.limits;
    thread = refl;
    own = refl;
    next = refl;
    threads = stands.threads;
    shared = stands.shared;
    frame = frame;
    rest = rest;
    bounded = fit.bounded;
    chars = fit.chars;
    frame_fits = small;
    heap_fits = fits.heap;
  }

  no_frames : FrameStands over.no_frame step.no_frame
  no_frames = record { method = refl; at = refl; regs = tt; result = tt; caught = refl }

  no_frame_fits : FrameFits over.no_frame
  no_frame_fits = (All-nil Fits, tt)

  at_by : (own : Method) (s : Frame) (f : tagged_frame.Frame) (ss : List Level) (ls : List tagged_level.Level) (a : Option statics.At) → FrameStands s f → LevelsStand ss ls → FrameFits s →
      ((y : statics.At) → a ≡ Some y → OperandsFit image y.op × CallFits image y.op × PutsInMade m.shared.heap f.regs y.op) → step.step_at image m t th own f ls a ≡ Ok n → After (over.step_at image w t x own s ss a) n
  at_by own s f ss ls None frame rest small ops is = absurd (cc)
  at_by own s f ss ls (Some a) frame rest small ops is =
      let there = here_stands own s f ss ls a.next frame rest small in
      let good = ops a refl in
      settled_stands w m t stands fit.bounded x th one image (Some a) _ _ n (ready_stands (over.here image w t own s ss a.next) (step.here image m t own f ls a.next) there a.op (needs a.op) image_fits good.0 good.2 good.1) is

  code_by : (s : Frame) (f : tagged_frame.Frame) (ss : List Level) (ls : List tagged_level.Level) (own : Option Method) → FrameStands s f → LevelsStand ss ls → FrameFits s → ((y : statics.At) → fetch image f.method.0 f.at ≡ Some y → PutsInMade m.shared.heap f.regs y.op) → step.step_code image m t th f ls own ≡ Ok n → After (over.step_code image w t x s ss own) n
  code_by s f ss ls None frame rest small made is = absurd (cc)
  code_by s f ss ls (Some own) frame rest small made is =
      let same : fetch image s.method.0 s.at ≡ fetch image f.method.0 f.at = ap (λ (k : MethodId). fetch image k.0 s.at) frame.method ∙ ap (fetch image f.method.0) frame.at in
      subst (λ (a : Option statics.At). After (over.step_at image w t x own s ss a) n) (sym same)
      (at_by own s f ss ls (fetch image f.method.0 f.at) frame rest small (λ y found. let good = operations f.method.0 f.at y found in (good.0, good.1, made y found)) is)

  living_by : (ss : List Level) (ls : List tagged_level.Level) → LevelsStand ss ls → TopFits ss → ((f : tagged_frame.Frame) (ks : List tagged_level.Level) (y : statics.At) → ls ≡ tagged_level.Code f ∷ ks → fetch image f.method.0 f.at ≡ Some y → PutsInMade m.shared.heap f.regs y.op) → step.step_living image m t th ls ≡ Ok n → After (over.step_living image w t x ss) n
  living_by [] [] all small made is = same_state is
  living_by [] (l ∷ ls) all small made is = absurd all
  living_by (s ∷ ss) [] all small made is = absurd all
  living_by (level.Init c r ∷ ss) (tagged_level.Code f ∷ ls) all small made is = absurd all.0
  living_by (level.Code s ∷ ss) (tagged_level.Init d q ∷ ls) all small made is = absurd all.0
  living_by (level.Code s ∷ ss) (tagged_level.Code f ∷ ls) all small made is =
      let frame : FrameStands s f = all.0 in
      subst (λ (own : Option Method). After (over.step_code image w t x s ss own) n) (sym (ap (λ (k : MethodId). method_at image k.0) frame.method))
      (code_by s f ss ls (method_at image f.method.0) frame all.1 small (λ y found. made f ls y refl found) is)
  living_by (level.Init c r ∷ ss) (tagged_level.Init d q ∷ ls) all small made is =
      let there = here_stands step.no_method over.no_frame step.no_frame ss ls 0 no_frames all.1 no_frame_fits in
      subst (λ (k : ClassId). After (over.settled image w t x None (over.record_step (over.here image w t step.no_method over.no_frame ss 0) k.0 r)) n) (sym all.0.0)
      (subst (λ (b : Bool). After (over.settled image w t x None (over.record_step (over.here image w t step.no_method over.no_frame ss 0) d.0 b)) n) (sym all.0.1)
      (settled_stands w m t stands fit.bounded x th one image None _ _ n (record_stands (over.here image w t step.no_method over.no_frame ss 0) (step.here image m t step.no_method step.no_frame ls 0) there d.0 q) is))

  flight_by : (o : ℕ) (ss : List Level) (ls : List tagged_level.Level) → LevelsStand ss ls → TopFits ss → step.step_flight image m t th o ls ≡ Ok n → After (over.step_flight image w t x o ss) n
  flight_by o [] [] all small is = same_state is
  flight_by o [] (l ∷ ls) all small is = absurd all
  flight_by o (s ∷ ss) [] all small is = absurd all
  flight_by o (level.Init c r ∷ ss) (tagged_level.Code f ∷ ls) all small is = absurd all.0
  flight_by o (level.Code s ∷ ss) (tagged_level.Init d q ∷ ls) all small is = absurd all.0
  flight_by o (level.Code s ∷ ss) (tagged_level.Code f ∷ ls) all small is =
      let frame : FrameStands s f = all.0 in
      let there = here_stands step.no_method s f ss ls 0 frame all.1 small in
      let catchers = handlers_at image f.method.0 f.at in
      let same : handlers_at image s.method.0 s.at ≡ catchers = ap (λ (k : MethodId). handlers_at image k.0 s.at) frame.method ∙ ap (handlers_at image f.method.0) frame.at in
      let to : falling.handler_for image w.shared.heap o (handlers_at image s.method.0 s.at) ≡ flight.handler_for image m.shared.heap o catchers =
      ap (falling.handler_for image w.shared.heap o) same ∙ handler_is (over.here image w t step.no_method s ss 0) (step.here image m t step.no_method f ls 0) there image o catchers in
      subst (λ (k : Option ℕ). After (over.settled_flight w t x (falling.unwind_frame (over.here image w t step.no_method s ss 0) s o k)) n) (sym to)
      (settled_flight_stands w m t stands fit.bounded x th one (over.here image w t step.no_method s ss 0) (step.here image m t step.no_method f ls 0) there _ _ n (frame_unwound (over.here image w t step.no_method s ss 0) (step.here image m t step.no_method f ls 0) there s f o (flight.handler_for image m.shared.heap o catchers) frame) is)
  flight_by o (level.Init c r ∷ ss) (tagged_level.Init d q ∷ ls) all small is =
      let there = here_stands step.no_method over.no_frame step.no_frame ss ls 0 no_frames all.1 no_frame_fits in
      subst (λ (k : ClassId). After (over.settled_flight w t x (falling.unwind_record (over.here image w t step.no_method over.no_frame ss 0) k.0 o)) n) (sym all.0.0)
      (settled_flight_stands w m t stands fit.bounded x th one (over.here image w t step.no_method over.no_frame ss 0) (step.here image m t step.no_method step.no_frame ls 0) there _ _ n (record_unwound (over.here image w t step.no_method over.no_frame ss 0) (step.here image m t step.no_method step.no_frame ls 0) there d.0 o) is)

  end_by : (a b : End) → a ≡ b → TopFits x.levels → (b ≡ end.Living → (f : tagged_frame.Frame) (ks : List tagged_level.Level) (y : statics.At) → th.levels ≡ tagged_level.Code f ∷ ks → fetch image f.method.0 f.at ≡ Some y → PutsInMade m.shared.heap f.regs y.op) → step.step_thread image m t th b ≡ Ok n → After (over.step_thread image w t x a) n
  end_by a end.Living same small made is = subst (λ (e : End). After (over.step_thread image w t x e) n) (sym same) (living_by x.levels th.levels one.levels small (made refl) is)
  end_by a (end.Flying o) same small made is = subst (λ (e : End). After (over.step_thread image w t x e) n) (sym same) (flight_by o x.levels th.levels one.levels small is)
  end_by a end.Returned same small made is = subst (λ (e : End). After (over.step_thread image w t x e) n) (sym same) (same_state is)
  end_by a (end.Died o) same small made is = subst (λ (e : End). After (over.step_thread image w t x e) n) (sym same) (same_state is)

-- ---- a thread by its number

pub steps_follow : StepsFollow
steps_follow image w m n t image_fits operations fits fit stands is = by (slice_get w.threads t) (slice_get m.threads t) refl refl (thread_at w.threads m.threads t stands.threads) is
  where
    same : (let r : Reads Machine = Ok m in r) ≡ Ok n → m ≡ n
    same e = cc

    by : (a : Option WordThread) (b : Option Thread) → slice_get w.threads t ≡ a → slice_get m.threads t ≡ b → BothStand a b → step.step_of image m t b ≡ Ok n → MachineStands (over.step_of image w t a) n × IsBounded n.shared.heap
    by None None has found both e = subst (λ (k : Machine). MachineStands w k × IsBounded k.shared.heap) (same e) (stands, fit.bounded)
    by None (Some th) has found both e = absurd both
    by (Some x) None has found both e = absurd both
    by (Some x) (Some th) has found both e = end_by image w m t image_fits operations fits fit stands x th both n x.end th.end both.end (fits.top x has) (λ living f ks y levels there. fit.made t th f ks y found living levels there) e
