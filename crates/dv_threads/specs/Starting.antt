-- Threads as they begin, and those that are joined.
use Rattle.std.specs.Prelude.{◌≡◌, ℕ, Bool, false, [], ◌∷◌, Option, Some, None, Result, Ok, Err, codes, slice_get}
use Rattle.dv_defs.specs.declared.machine.End.TheVariants as end
use Rattle.dv_defs.specs.declared.names.MethodId.{MethodId}
use Rattle.dv_defs.specs.declared.run.Named.{Named}
use Rattle.dv_defs.specs.Images.{Image}
use Rattle.dv_defs.specs.LookUp.{is_method_of}
use Rattle.dv_defs.specs.Pools.{method_at, no_arguments}
use Rattle.dv_machine.specs.Calls.{Landing, Lacks, Lands}
use Rattle.dv_machine.specs.State.{Did, Go}
use Rattle.dv_machine.specs.Threads.{run_landing}
use Rattle.dv_ops.specs.declared.members.Method.{Method}
use Rattle.dv_ops.specs.Meaning.{method_of}
use Rattle.dv_words.specs.declared.state.Frame.{Frame}
use Rattle.dv_words.specs.declared.state.Level.TheVariants as level
use Rattle.dv_words.specs.Heaps.{kind_of}
use Rattle.dv_words.specs.Stacks.{entered, gone, pushed}
use Rattle.dv_words.specs.State.{WordStack, WordThread}
use Rattle.dv_frames.specs.declared.stack.Full.{Full}
use Rattle.dv_words.specs.Steps.{At, Left}
use Rattle.dv_words.specs.Threads.{class_of_kind, is_living}

-- a stack with this frame, or there was no room for it
abbrev pub IsFirst : WordStack → Frame → Result WordStack Full → Type 0
IsFirst s f (Ok t) = pushed s (level.Code f) ≡ Some t
IsFirst s f (Err e) = pushed s (level.Code f) ≡ None

-- a thread that begins with a method on its object
abbrev pub begun : MethodId → ℕ → ℕ → WordThread
begun m registers object = record { levels = level.Code (entered m registers (object ∷ [])) ∷ []; end = end.Living; object = object }

-- the instruction is done, and this thread was started
abbrev pub started_by : At → WordThread → Did Left
started_by h th = Go (record { levels = level.Code (gone h.frame h.next) ∷ h.rest; shared = h.shared; started = Some th })

-- the method of a number is run()V by its name and prototype
abbrev pub is_run_at : Image → ℕ → Bool
is_run_at image n = elim (method_at image n) as (λ _. Bool) [ None ↦ false | Some m ↦ is_method_of (codes "run") no_arguments m ]

-- what the code answers of a landing
abbrev pub landed : Result Method Named → Landing
landed (Ok m) = Lands (method_of m)
landed (Err n) = Lacks n

-- the run()V that an object's class selects
abbrev pub run_of : At → ℕ → Landing
run_of h o = run_landing h.image (class_of_kind h.image (kind_of h.shared.heap o))

abbrev pub other_lives : At → Option ℕ → Bool
other_lives h None = false
other_lives h (Some u) = is_living (slice_get h.threads u)
