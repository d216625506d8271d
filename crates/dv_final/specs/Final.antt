-- What follows the guest's printed bytes in the final text of a run, on words: as in the tagged machine's final text.
use Rattle.std.specs.Prelude.{ℕ, zero, suc, ◌++◌, List, [], ◌∷◌, Option, Some, None, is_some, decimal, codes, if◌then◌else◌}
use Rattle.std.specs.Option.{unwrap_or}
use Rattle.dv_defs.specs.declared.machine.End.{End}
use Rattle.dv_defs.specs.declared.machine.End.TheVariants as end
use Rattle.dv_defs.specs.declared.names.Base.{Base}
use Rattle.dv_defs.specs.declared.run.Ending.{Ending}
use Rattle.dv_defs.specs.declared.run.Ending.TheVariants as ending
use Rattle.dv_defs.specs.Images.{Image}
use Rattle.dv_defs.specs.Texts.{utf8}
use Rattle.dv_defs.specs.Types.{class_in}
use Rattle.dv_machine.specs.Final.{blocked_line, ends_well, newline, type_text}
use Rattle.dv_machine.specs.Unwinding.{throwable_slot}
use Rattle.dv_words.specs.Heaps.{kind_of, word_in}
use Rattle.dv_words.specs.State.{WordHeap, WordMachine, WordThread}
use Rattle.dv_words.specs.Mem.{type_of}
use Rattle.dv_words.specs.Natives.{text_of}
use Rattle.dv_words.specs.Running.{blocked_of, ending_of}

-- what printed bytes lack: LF where they don't end with it
abbrev pub newline_after : List ℕ → List ℕ
newline_after bs = if ends_well bs then [] else newline

-- ---- the threads that died

-- the descriptor of a class, nothing of a primitive type
abbrev pub class_bytes : Base → List ℕ
class_bytes b = unwrap_or (class_in b) []

-- the message that a word refers to; 0 is null
abbrev pub message_of : WordHeap → ℕ → List ℕ
message_of heap zero = []
message_of heap (suc s) = codes ": " ++ utf8 (text_of heap (suc s))

-- a word of an object, 0 where there is no such object
abbrev pub word_there : WordHeap → ℕ → ℕ → ℕ
word_there heap o k = if is_some (kind_of heap o) then word_in heap o k else 0

-- what follows the class of an exception that has a message
abbrev pub message : Image → WordHeap → ℕ → List ℕ
message image heap o = message_of heap (word_there heap o (throwable_slot image (codes "message")))

-- the line of a thread, where it died of an exception
abbrev pub uncaught_line : Image → WordHeap → ℕ → End → List ℕ
uncaught_line image heap k (end.Died o) =
    codes "#uncaught " ++ decimal k ++ codes " " ++ type_text (type_of image heap o) ++ message image heap o ++ newline
uncaught_line image heap k e = []

-- a line for each thread that died, by how the threads stand
abbrev pub uncaught_by_ends : Image → WordHeap → List End → ℕ → List ℕ
uncaught_by_ends image heap [] k = []
uncaught_by_ends image heap (e ∷ es) k = uncaught_line image heap k e ++ uncaught_by_ends image heap es (suc k)

-- a line for each thread that died, from the k-th on
abbrev pub uncaught : Image → WordHeap → List WordThread → ℕ → List ℕ
uncaught image heap [] k = []
uncaught image heap (t ∷ ts) k = uncaught_line image heap k t.end ++ uncaught image heap ts (suc k)

-- ---- the ending

-- a line for each thread that is held up, from the k-th on
abbrev pub blocked_lines : Image → WordMachine → List WordThread → ℕ → List ℕ
blocked_lines image m [] k = []
blocked_lines image m (t ∷ ts) k = blocked_line image k (blocked_of image m k) ++ blocked_lines image m ts (suc k)

abbrev pub ending_text : Ending → List ℕ
ending_text ending.Done = codes "done"
ending_text ending.NoRunnable = codes "blocked"
ending_text ending.Steps = codes "steps"
ending_text ending.Output = codes "output"

abbrev pub ending_line : Ending → List ℕ
ending_line e = codes "#end " ++ ending_text e ++ newline

-- where none may step, what holds the threads up comes before
abbrev pub ending_lines_by : Image → WordMachine → Option Ending → List ℕ
ending_lines_by image m None = []
ending_lines_by image m (Some ending.NoRunnable) = blocked_lines image m m.threads 0 ++ ending_line ending.NoRunnable
ending_lines_by image m (Some e) = ending_line e

abbrev pub ending_lines : Image → WordMachine → List ℕ
ending_lines image m = ending_lines_by image m (ending_of image m)

-- ---- all of it

abbrev pub final_lines_of : Image → WordMachine → List ℕ
final_lines_of image m = newline_after m.shared.output ++ uncaught image m.shared.heap m.threads 0 ++ ending_lines image m
