-- A step of a thread on words leaves the other threads, and starts at most one.
use Rattle.std.proofs.Common.{◌≡◌, ◌⊎◌, inl, inr, ℕ, suc, ◌+◌, ◌<◌, ◌≤◌, List, [], ◌∷◌, ◌++◌, length, Option, Some, None, refl, ap, ◌∙◌, arith}
use Rattle.std.specs.Option.{option_to_list}
use Rattle.std.specs.Prelude.{slice_get, slice_set}
use Rattle.std.proofs.lemmas.List.{length-append, length-set}
use Rattle.dv_defs.specs.declared.machine.End.{End}
use Rattle.dv_defs.specs.declared.machine.End.TheVariants as end
use Rattle.dv_defs.specs.declared.run.Ending.{Ending}
use Rattle.dv_defs.specs.declared.run.Ending.TheVariants as ending
use Rattle.dv_typing.specs.Flow.{handlers_at}
use Rattle.dv_defs.specs.Images.{Image}
use Rattle.dv_defs.specs.Op.{needs}
use Rattle.dv_defs.specs.Pools.{Method, method_at}
use Rattle.dv_typing.specs.Statics.{At, fetch}
use Rattle.dv_machine.specs.State.{Did, Go, IsStuck, NoOutput, NoRoom, NoWords, Throws, ThrowsRef}
use Rattle.dv_machine.specs.Step.{no_method}
use Rattle.dv_words.specs.declared.state.Frame.{Frame}
use Rattle.dv_words.specs.declared.state.Level.{Level}
use Rattle.dv_words.specs.declared.state.Level.TheVariants as level
use Rattle.dv_words.specs.Heaps.{newest}
use Rattle.dv_words.specs.State.{WordHeap, WordMachine, WordThread}
use Rattle.law_machine.proofs.lemmas.Common.Lists.{get_front, set_other}
use Rattle.dv_words.specs.Step as over
use Rattle.dv_words.specs.Steps.{Left, leaves, with_heap}
use Rattle.dv_words.specs.Unwinding.{Caught, Flies, Lacking, Unwound, handler_for, made_object}
use Rattle.law_engine.specs.KeepLaws.{LeavesOthers, StepsLeaveOthers}
use Rattle.law_engine.proofs.Starts.{FliesInRoom, StartsInRoom, frame_starts, ready_starts, record_starts, unwound_starts}

-- ---- one thread after a step, and perhaps a new one

-- no thread is started, or there is room for one more
abbrev HasRoom : WordMachine → Left → Type 0
HasRoom w l = (l.started ≡ None) ⊎ (length w.threads < w.limits.threads)

new_few : (s : Option WordThread) (n most : ℕ) → (s ≡ None) ⊎ (n < most) → n ≤ most → n + length (option_to_list s) ≤ most
new_few None n most room few = omega arith
new_few (Some x) n most (inl is) few = absurd (cc)
new_few (Some x) n most (inr room) few = omega arith

new_one : (s : Option WordThread) (n : ℕ) → n + length (option_to_list s) ≤ suc n
new_one None n = omega arith
new_one (Some x) n = omega arith

module _ (w : WordMachine) (t : ℕ) where
  count_is : (x : WordThread) (s : Option WordThread) → length (slice_set w.threads t x ++ option_to_list s) ≡ length w.threads + length (option_to_list s)
  count_is x s = length-append (slice_set w.threads t x) (option_to_list s) ∙ ap (λ (n : ℕ). n + length (option_to_list s)) (length-set w.threads t x)

  with_thread : (x : WordThread) (l : Left) → HasRoom w l → LeavesOthers w (over.with_thread w t x l) t
  with_thread x l room =
      let n = count_is x l.started in
      let one = new_one l.started (length w.threads) in
      record {
        others = λ u th other has. get_front (slice_set w.threads t x) (option_to_list l.started) u th (set_other w.threads t u x other ∙ has);
        more = omega arith;
        one_more = omega arith;
        bounded = λ few. let most = new_few l.started (length w.threads) w.limits.threads room few in omega arith;
        limits = refl;
        steps = inr refl;
      }

  unchanged : LeavesOthers w w t
  unchanged = record { others = λ u th other has. has; more = omega arith; one_more = omega arith; bounded = λ few. few; limits = refl; steps = inl refl }

  stopped : (e : Ending) → LeavesOthers w (over.stopped w e) t
  stopped e = record { others = λ u th other has. has; more = omega arith; one_more = omega arith; bounded = λ few. few; limits = refl; steps = inr refl }

module _ (image : Image) (w : WordMachine) (t : ℕ) (th : WordThread) where
  -- ---- an outcome

  gone : (l : Left) → HasRoom w l → LeavesOthers w (over.gone_on w t th l) t
  gone l room = with_thread w t (record { levels = l.levels; end = over.end_after l.levels; object = th.object }) l room

  flown : (o : ℕ) (l : Left) → HasRoom w l → LeavesOthers w (over.flown w t th o l) t
  flown o l room = with_thread w t (record { levels = l.levels; end = over.end_flying o l.levels; object = th.object }) l room

  thrown : (a : Option At) (heap : Option WordHeap) → LeavesOthers w (over.thrown w t th a heap) t
  thrown a None = flown w.preallocated.out_of_memory (leaves w.shared (over.moved_on a th.levels)) (inl refl)
  thrown a (Some heap) = flown (newest heap) (leaves (with_heap w.shared heap) (over.moved_on a th.levels)) (inl refl)

  module _ (own : Method) (f : Frame) (ls : List Level) (next : ℕ) where
    settled : (a : Option At) (d : Did Left) → StartsInRoom (over.here image w t own f ls next) d → LeavesOthers w (over.settled image w t th a d) t
    settled a (Go l) room = gone l room
    settled a (Throws n) room = thrown a (made_object image w.shared.heap n)
    settled a (ThrowsRef o) room = flown o (leaves w.shared th.levels) (inl refl)
    settled a NoWords room = flown w.preallocated.out_of_memory (leaves w.shared th.levels) (inl refl)
    settled a NoRoom room = flown w.preallocated.stack_overflow (leaves w.shared th.levels) (inl refl)
    settled a NoOutput room = stopped w t ending.Output
    settled a (IsStuck y) room = unchanged w t

    settled_flight : (d : Unwound) → FliesInRoom (over.here image w t own f ls next) d → LeavesOthers w (over.settled_flight w t th d) t
    settled_flight (Caught l) room = gone l room
    settled_flight (Flies o l) room = flown o l room
    settled_flight (Lacking l) room = flown w.preallocated.out_of_memory l room

  -- ---- a step

  at_leaves : (own : Method) (f : Frame) (ls : List Level) (a : Option At) → LeavesOthers w (over.step_at image w t th own f ls a) t
  at_leaves own f ls None = unchanged w t
  at_leaves own f ls (Some x) = settled own f ls x.next (Some x) _ (ready_starts (over.here image w t own f ls x.next) x.op (needs x.op))

  code_leaves : (f : Frame) (ls : List Level) (own : Option Method) → LeavesOthers w (over.step_code image w t th f ls own) t
  code_leaves f ls None = unchanged w t
  code_leaves f ls (Some own) = at_leaves own f ls (fetch image f.method.0 f.at)

  living_leaves : (ls : List Level) → LeavesOthers w (over.step_living image w t th ls) t
  living_leaves [] = unchanged w t
  living_leaves (level.Code f ∷ ls) = code_leaves f ls (method_at image f.method.0)
  living_leaves (level.Init c r ∷ ls) = settled no_method over.no_frame ls 0 None _ (record_starts (over.here image w t no_method over.no_frame ls 0) c.0 r)

  flight_leaves : (o : ℕ) (ls : List Level) → LeavesOthers w (over.step_flight image w t th o ls) t
  flight_leaves o [] = unchanged w t
  flight_leaves o (level.Code f ∷ ls) = settled_flight no_method f ls 0 _ (frame_starts (over.here image w t no_method f ls 0) f o (handler_for image w.shared.heap o (handlers_at image f.method.0 f.at)))
  flight_leaves o (level.Init c r ∷ ls) = settled_flight no_method over.no_frame ls 0 _ (unwound_starts (over.here image w t no_method over.no_frame ls 0) c.0 o)

  thread_leaves : (e : End) → LeavesOthers w (over.step_thread image w t th e) t
  thread_leaves end.Living = living_leaves th.levels
  thread_leaves (end.Flying o) = flight_leaves o th.levels
  thread_leaves e = unchanged w t

pub steps_leave_others : StepsLeaveOthers
steps_leave_others image w t = by (slice_get w.threads t)
  where
    by : (x : Option WordThread) → LeavesOthers w (over.step_of image w t x) t
    by None = unchanged w t
    by (Some th) = thread_leaves image w t th th.end
