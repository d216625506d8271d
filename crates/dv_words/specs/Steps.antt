-- What a step on words sees and leaves.
use Rattle.std.specs.Prelude.{ℕ, suc, ◌+◌, ◌&&◌, List, ◌∷◌, length, Option, None, nat_le, if◌then◌else◌}
use Rattle.dv_defs.specs.declared.run.Limits.{Limits}
use Rattle.dv_machine.specs.Classes.{Classes}
use Rattle.dv_defs.specs.Images.{Image}
use Rattle.dv_machine.specs.Monitors.{Monitors}
use Rattle.dv_defs.specs.Pools.{Method}
use Rattle.dv_machine.specs.State.{Did, Go, NoRoom}
use Rattle.dv_words.specs.declared.state.Frame.{Frame}
use Rattle.dv_words.specs.declared.state.Level.{Level}
use Rattle.dv_words.specs.declared.state.Level.TheVariants as level
use Rattle.dv_words.specs.Stacks.{gone, size_of, words_in}
use Rattle.dv_words.specs.State.{WordHeap, WordShared, WordThread}
use Rattle.dv_words.specs.Local.{word_local}
use Rattle.dv_words.specs.Mem.{WordHere, WordLeft, word_mem}
use Rattle.dv_defs.specs.Op.{Op}

-- the thread and its frame at an instruction, with all that the threads share
pub record At : Type 0 where
  pub image : Image
  pub limits : Limits
  pub threads : List WordThread
  pub thread : ℕ
  pub own : Method
  pub shared : WordShared
  pub frame : Frame
  pub rest : List Level
  -- the address after the instruction
  pub next : ℕ

-- what a step of a thread leaves, with a thread that it started
pub record Left : Type 0 where
  pub levels : List Level
  pub shared : WordShared
  pub started : Option WordThread

abbrev pub leaves : WordShared → List Level → Left
leaves sh ls = record { levels = ls; shared = sh; started = None }

abbrev pub left : WordShared → List Level → Did Left
left sh ls = Go (leaves sh ls)

-- the frame goes on, with this that all share
abbrev pub onward : At → WordShared → Frame → Did Left
onward h sh f = left sh (level.Code f ∷ h.rest)

-- the instruction is done
abbrev pub goes : At → WordShared → Did Left
goes h sh = onward h sh (gone h.frame h.next)

-- a step of a thread that has to wait leaves the thread as it is
abbrev pub stays : At → Did Left
stays h = onward h h.shared h.frame

abbrev pub with_heap : WordShared → WordHeap → WordShared
with_heap sh heap = record sh { heap = heap }

abbrev pub with_monitors : WordShared → Monitors → WordShared
with_monitors sh m = record sh { monitors = m }

abbrev pub with_classes : WordShared → Classes → WordShared
with_classes sh cs = record sh { classes = cs }

abbrev pub with_output : WordShared → List ℕ → WordShared
with_output sh out = record sh { output = out }

-- one level more, where the stack has room
abbrev pub pushed : At → WordShared → Level → List Level → Did Left
pushed h sh l ls =
    if nat_le (suc (length ls)) h.limits.levels && nat_le (size_of l + words_in ls) h.limits.words then left sh (l ∷ ls)
    else NoRoom

-- ---- steps of the frame, and of the frame and the heap

abbrev pub local_left : At → Op → Did Left
local_left h op = onward h h.shared (word_local op h.frame h.next)

abbrev pub mem_here : At → WordHere
mem_here h = record { image = h.image; frame = h.frame; heap = h.shared.heap; next = h.next }

abbrev pub with_left : At → WordLeft → Left
with_left h l = leaves (with_heap h.shared l.heap) (level.Code l.frame ∷ h.rest)

abbrev pub carried : At → Did WordLeft → Did Left
carried h (Go l) = Go (with_left h l)
carried h (Did.Throws n) = Did.Throws n
carried h (Did.ThrowsRef o) = Did.ThrowsRef o
carried h Did.NoWords = Did.NoWords
carried h NoRoom = NoRoom
carried h Did.NoOutput = Did.NoOutput
carried h (Did.IsStuck why) = Did.IsStuck why

abbrev pub mem_left : At → Op → Did Left
mem_left h op = carried h (word_mem (mem_here h) op)
