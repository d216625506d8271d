-- What a finished run prints after all.
use Rattle.std.specs.Prelude.{ℕ, suc, ◌++◌, Bool, true, List, [], ◌∷◌, Option, Some, None, nat_eq, decimal, codes, if◌then◌else◌}
use Rattle.dv_defs.specs.declared.names.Ty.{Ty}
use Rattle.dv_defs.specs.Images.{Image}
use Rattle.dv_machine.specs.Value.{Value}
use Rattle.dv_machine.specs.Value as v
use Rattle.dv_defs.specs.declared.run.Ending.{Ending}
use Rattle.dv_defs.specs.declared.run.Ending.TheVariants as ending
use Rattle.dv_defs.specs.declared.machine.End.{End}
use Rattle.dv_defs.specs.declared.machine.End.TheVariants as end
use Rattle.dv_defs.specs.declared.machine.Blocked.{Blocked}
use Rattle.dv_defs.specs.declared.machine.Blocked.TheVariants as blocked
use Rattle.dv_defs.specs.Texts.{utf8, java_text}
use Rattle.dv_defs.specs.Types.{class_in}
use Rattle.dv_defs.specs.Pools.{name_at}
use Rattle.dv_machine.specs.Heap.{Heap, cell_at}
use Rattle.dv_machine.specs.State.{Thread, Machine, type_of}
use Rattle.dv_machine.specs.Texts.{text_of}
use Rattle.dv_machine.specs.Unwinding.{throwable_slot}
use Rattle.dv_machine.specs.Running.{ending_of, blocked_thread}

abbrev pub newline : List ℕ
newline = 10 ∷ []

-- the last byte is LF, or there is none
abbrev pub ends_well : List ℕ → Bool
ends_well [] = true
ends_well (b ∷ []) = nat_eq b 10
ends_well (b ∷ c ∷ cs) = ends_well (c ∷ cs)

-- with LF at its end
abbrev pub closed : List ℕ → List ℕ
closed bs = if ends_well bs then bs else bs ++ newline

-- what follows the class of an exception that has a message
abbrev pub message : Image → Heap → ℕ → List ℕ
message image heap o = of_value (cell_at heap o (throwable_slot image (codes "message")))
  where
    of_value : Value → List ℕ
    of_value (v.Ref (suc s)) = codes ": " ++ utf8 (text_of heap (suc s))
    of_value x = []

abbrev pub name_text : Option (List ℕ) → List ℕ
name_text None = []
name_text (Some name) = java_text name

-- the Java name of a type's class, without dimensions
abbrev pub type_text : Ty → List ℕ
type_text t = name_text (class_in t.base)

-- a line for each thread that died of an exception
abbrev pub uncaught : Image → Heap → List Thread → ℕ → List ℕ
uncaught image heap [] k = []
uncaught image heap (t ∷ ts) k = of_end t.end ++ uncaught image heap ts (suc k)
  where
    of_end : End → List ℕ
    of_end (end.Died o) =
        codes "#uncaught " ++ decimal k ++ codes " " ++ type_text (type_of image heap o) ++ message image heap o ++
        newline
    of_end e = []

-- by what a thread is held up
abbrev pub blocked_text : Image → Blocked → List ℕ
blocked_text image blocked.Monitor = codes " monitor"
blocked_text image blocked.Wait = codes " wait"
blocked_text image (blocked.Class c) = codes " class " ++ name_at image c.0
blocked_text image (blocked.Join u) = codes " join " ++ decimal u

abbrev pub blocked_line : Image → ℕ → Option Blocked → List ℕ
blocked_line image k None = []
blocked_line image k (Some b) = codes "#blocked " ++ decimal k ++ blocked_text image b ++ newline

-- a line for each thread that is held up
abbrev pub blocked_lines : Image → Machine → List Thread → ℕ → List ℕ
blocked_lines image m [] k = []
blocked_lines image m (t ∷ ts) k = blocked_line image k (blocked_thread image m k t) ++ blocked_lines image m ts (suc k)

-- the line of the ending, after those of threads that are held up
abbrev pub ending_lines : Image → Machine → Option Ending → List ℕ
ending_lines image m None = []
ending_lines image m (Some ending.Done) = codes "#end done" ++ newline
ending_lines image m (Some ending.NoRunnable) = blocked_lines image m m.threads 0 ++ codes "#end blocked" ++ newline
ending_lines image m (Some ending.Steps) = codes "#end steps" ++ newline
ending_lines image m (Some ending.Output) = codes "#end output" ++ newline

-- the program's bytes, then the lines of threads, then the ending
abbrev pub final_text : Image → Machine → List ℕ
final_text image m = closed m.shared.output ++ uncaught image m.shared.heap m.threads 0 ++ ending_lines image m (ending_of image m)
