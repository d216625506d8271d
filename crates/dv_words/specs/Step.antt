-- A step of a thread on words: its layers, and what becomes of each outcome.
use Rattle.std.specs.Prelude.{ℕ, suc, ◌++◌, Bool, true, false, List, [], ◌∷◌, Option, Some, None, slice_get, slice_set, if◌then◌else◌}
use Rattle.std.specs.Option.{option_to_list}
use Rattle.dv_defs.specs.declared.machine.Ask.{Ask}
use Rattle.dv_defs.specs.declared.machine.Ask.TheVariants as ask
use Rattle.dv_defs.specs.declared.machine.End.{End}
use Rattle.dv_defs.specs.declared.machine.End.TheVariants as end
use Rattle.dv_defs.specs.declared.run.Ending.{Ending}
use Rattle.dv_defs.specs.declared.run.Ending.TheVariants as ending
use Rattle.dv_defs.specs.declared.run.Named.TheVariants as named
use Rattle.dv_machine.specs.Classes.{ClassState, InProgress, Ready, ask_of, with_state}
use Rattle.dv_typing.specs.Flow.{handlers_at, is_exit}
use Rattle.dv_defs.specs.Images.{Image}
use Rattle.dv_defs.specs.Op.{Op, Enter, Exit, Invoke, Return, ReturnVoid, is_local, needs}
use Rattle.dv_defs.specs.Pools.{Method, initialiser, method_at}
use Rattle.dv_typing.specs.Statics as statics
use Rattle.dv_typing.specs.Statics.{fetch}
use Rattle.dv_machine.specs.Mem.{on_object}
use Rattle.dv_machine.specs.State.{Did, Go, IsStuck, NoOutput, NoRoom, NoWords, Throws, ThrowsRef}
use Rattle.dv_machine.specs.Step.{no_method}
use Rattle.dv_defs.specs.Prior.{prior_at}
use Rattle.dv_words.specs.declared.state.Frame.{Frame}
use Rattle.dv_words.specs.declared.state.Kept.TheVariants as kept
use Rattle.dv_words.specs.declared.state.Level.{Level}
use Rattle.dv_words.specs.declared.state.Level.TheVariants as level
use Rattle.dv_words.specs.Heaps.{newest}
use Rattle.dv_words.specs.State.{WordHeap, WordMachine, WordThread}
use Rattle.dv_words.specs.Calls.{entered_frame, invoke, return_form, return_void}
use Rattle.dv_words.specs.Local.{reg_word}
use Rattle.dv_words.specs.Steps.{At, Left, left, leaves, local_left, mem_left, pushed, with_classes, with_heap}
use Rattle.dv_words.specs.Threads.{monitor_enter, monitor_exit}
use Rattle.dv_words.specs.Unwinding.{Caught, Flies, Lacking, Unwound, handler_for, made_object, unwind_frame, unwind_record}

-- ---- a code level

-- what an operation does once its class is ready
abbrev pub act : At → Op → Did Left
act h (Invoke c ks g) = invoke h c ks g
act h ReturnVoid = return_void h
act h (Return w a) = return_form h a
act h (Enter a) = on_object (monitor_enter h) (reg_word h.frame a)
act h (Exit a) = on_object (monitor_exit h) (reg_word h.frame a)
act h op = if is_local op then local_left h op else mem_left h op

-- a record of the class is pushed on these levels
abbrev pub begun : At → ℕ → List Level → Did Left
begun h c ls =
    pushed h (with_classes h.shared (with_state h.shared.classes c (InProgress h.thread)))
    (level.Init (record { 0 = c }) false) ls

-- a class that isn't ready is begun, waited for or erroneous
abbrev pub for_class : At → List Level → ℕ → Ask → Did Left → Did Left
for_class h ls c ask.Go go = go
for_class h ls c ask.Begin go = begun h c ls
for_class h ls c (ask.Wait u) go = left h.shared ls
for_class h ls c ask.Bad go = Throws named.NoClassDef

-- the class that an instruction needs is asked for first
abbrev pub with_ready : At → Op → Option ℕ → Did Left
with_ready h op None = act h op
with_ready h op (Some c) = for_class h (level.Code h.frame ∷ h.rest) c (ask_of h.shared.classes c h.thread) (act h op)

-- ---- a record

-- the record is dropped, and its class is in this state
abbrev pub ended_record : At → ℕ → ClassState → Did Left
ended_record h c s = left (with_classes h.shared (with_state h.shared.classes c s)) h.rest

-- the frame of the class's initialiser is pushed on its record; a class without one is ready
abbrev pub initialised_by : At → ℕ → Option Method → Did Left
initialised_by h c None = ended_record h c Ready
initialised_by h c (Some m) = pushed h h.shared (level.Code (entered_frame m [])) (level.Init (record { 0 = c }) true ∷ h.rest)

abbrev pub run_initialiser : At → ℕ → Did Left
run_initialiser h c = initialised_by h c (initialiser h.image c)

-- one class after another, then the initialiser
abbrev pub look_at : At → ℕ → List ℕ → Did Left
look_at h c [] = run_initialiser h c
look_at h c (p ∷ ps) = for_class h (level.Init (record { 0 = c }) false ∷ h.rest) p (ask_of h.shared.classes p h.thread) (look_at h c ps)

-- a record whose initialiser has returned is done
abbrev pub record_step : At → ℕ → Bool → Did Left
record_step h c true = ended_record h c Ready
record_step h c false = look_at h c (prior_at h.image c)

-- ---- what becomes of an outcome

-- one thread's step has been done
abbrev pub with_thread : WordMachine → ℕ → WordThread → Left → WordMachine
with_thread m t th l =
    record m {
      threads = slice_set m.threads t th ++ option_to_list l.started;
      shared = l.shared;
      steps = suc m.steps;
    }

-- only the stop and the count change
abbrev pub stopped : WordMachine → Ending → WordMachine
stopped m e = record m { steps = suc m.steps; stop = Some e }

-- a thread without levels has returned
abbrev pub end_after : List Level → End
end_after [] = end.Returned
end_after (l ∷ ls) = end.Living

-- a thread that an exception has left without levels has died of it
abbrev pub end_flying : ℕ → List Level → End
end_flying o [] = end.Died o
end_flying o (l ∷ ls) = end.Flying o

-- the thread goes on with these levels
abbrev pub gone_on : WordMachine → ℕ → WordThread → Left → WordMachine
gone_on m t th l = with_thread m t (record { levels = l.levels; end = end_after l.levels; object = th.object }) l

-- the exception flies on over these levels
abbrev pub flown : WordMachine → ℕ → WordThread → ℕ → Left → WordMachine
flown m t th o l = with_thread m t (record { levels = l.levels; end = end_flying o l.levels; object = th.object }) l

-- a throwing step leaves the address, but monitor-exit's moves on first
abbrev pub moved_on : Option statics.At → List Level → List Level
moved_on (Some x) (level.Code f ∷ ls) = if is_exit x.op then level.Code (record f { at = x.next }) ∷ ls else level.Code f ∷ ls
moved_on x ls = ls

-- a step that lacks words lets the opening's OutOfMemoryError fly over these levels, and makes nothing
abbrev pub out_of_memory : WordMachine → ℕ → WordThread → List Level → WordMachine
out_of_memory m t th ls = flown m t th m.preallocated.out_of_memory (leaves m.shared ls)

-- a level without room lets the opening's StackOverflowError fly (JLS 15.12.4.5)
abbrev pub stack_overflow : WordMachine → ℕ → WordThread → WordMachine
stack_overflow m t th = flown m t th m.preallocated.stack_overflow (leaves m.shared th.levels)

-- a new exception flies; where its words are lacking, the OutOfMemoryError does
abbrev pub thrown : WordMachine → ℕ → WordThread → Option statics.At → Option WordHeap → WordMachine
thrown m t th x None = out_of_memory m t th (moved_on x th.levels)
thrown m t th x (Some heap) = flown m t th (newest heap) (leaves (with_heap m.shared heap) (moved_on x th.levels))

-- an outcome as the state after it
abbrev pub settled : Image → WordMachine → ℕ → WordThread → Option statics.At → Did Left → WordMachine
settled image m t th x (Go l) = gone_on m t th l
settled image m t th x (Throws n) = thrown m t th x (made_object image m.shared.heap n)
settled image m t th x (ThrowsRef o) = flown m t th o (leaves m.shared th.levels)
settled image m t th x NoWords = out_of_memory m t th th.levels
settled image m t th x NoRoom = stack_overflow m t th
settled image m t th x NoOutput = stopped m ending.Output
settled image m t th x (IsStuck y) = m

-- what became of an exception as the state after it
abbrev pub settled_flight : WordMachine → ℕ → WordThread → Unwound → WordMachine
settled_flight m t th (Caught l) = gone_on m t th l
settled_flight m t th (Flies o l) = flown m t th o l
settled_flight m t th (Lacking l) = flown m t th m.preallocated.out_of_memory l

-- ---- a step

-- what the instruction at hand sees of a machine
abbrev pub here : Image → WordMachine → ℕ → Method → Frame → List Level → ℕ → At
here image m t own f ls next =
    record {
      image = image;
      limits = m.limits;
      threads = m.threads;
      thread = t;
      own = own;
      shared = m.shared;
      frame = f;
      rest = ls;
      next = next;
    }

-- a record's step sees no frame: this one stands in its place
abbrev pub no_frame : Frame
no_frame = record { method = record { 0 = 0 }; at = 0; regs = []; result = kept.None; caught = None }

-- a step at an instruction; where none stands, nothing happens
abbrev pub step_at : Image → WordMachine → ℕ → WordThread → Method → Frame → List Level → Option statics.At → WordMachine
step_at image m t th own f ls None = m
step_at image m t th own f ls (Some x) = settled image m t th (Some x) (with_ready (here image m t own f ls x.next) x.op (needs x.op))

-- a step of a frame
abbrev pub step_code : Image → WordMachine → ℕ → WordThread → Frame → List Level → Option Method → WordMachine
step_code image m t th f ls None = m
step_code image m t th f ls (Some own) = step_at image m t th own f ls (fetch image f.method.0 f.at)

-- a step of a thread with an exception in flight: one level
abbrev pub step_flight : Image → WordMachine → ℕ → WordThread → ℕ → List Level → WordMachine
step_flight image m t th o [] = m
step_flight image m t th o (level.Code f ∷ ls) =
    settled_flight m t th
    (unwind_frame (here image m t no_method f ls 0) f o
    (handler_for image m.shared.heap o (handlers_at image f.method.0 f.at)))
step_flight image m t th o (level.Init c r ∷ ls) = settled_flight m t th (unwind_record (here image m t no_method no_frame ls 0) c.0 o)

-- a step of a thread at its top level
abbrev pub step_living : Image → WordMachine → ℕ → WordThread → List Level → WordMachine
step_living image m t th [] = m
step_living image m t th (level.Code f ∷ ls) = step_code image m t th f ls (method_at image f.method.0)
step_living image m t th (level.Init c r ∷ ls) = settled image m t th None (record_step (here image m t no_method no_frame ls 0) c.0 r)

-- a thread that has ended, or is not there, stays as it is
abbrev pub step_thread : Image → WordMachine → ℕ → WordThread → End → WordMachine
step_thread image m t th end.Living = step_living image m t th th.levels
step_thread image m t th (end.Flying o) = step_flight image m t th o th.levels
step_thread image m t th e = m

abbrev pub step_of : Image → WordMachine → ℕ → Option WordThread → WordMachine
step_of image m t None = m
step_of image m t (Some th) = step_thread image m t th th.end

-- a step of a thread by its number
abbrev pub step : Image → WordMachine → ℕ → WordMachine
step image m t = step_of image m t (slice_get m.threads t)
