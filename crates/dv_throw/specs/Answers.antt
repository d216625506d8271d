-- What calls answer on an exception in flight.
use Rattle.std.specs.Prelude.{◌≡◌, ℕ, Option, Some, None, Result, Ok, Err}
use Rattle.std.specs.declared.alloc.AllocError.{AllocError}
use Rattle.dv_defs.specs.declared.run.Next.{Next}
use Rattle.dv_defs.specs.declared.run.Next.TheVariants as next
use Rattle.dv_machine.specs.Classes.{Classes}
use Rattle.dv_defs.specs.Images.{Image}
use Rattle.dv_words.specs.Heaps.{newest}
use Rattle.dv_words.specs.State.{WordHeap, WordShared, WordStack}
use Rattle.dv_words.specs.Steps.{At, Left, with_classes, with_heap}
use Rattle.dv_words.specs.Unwinding.{Caught, Flies, Lacking, Unwound}

-- the answer throws the newest object of this heap, or the words for it are lacking
abbrev pub ThrowsMade : Result Next AllocError → Option WordHeap → WordHeap → WordHeap → Type 0
ThrowsMade (Ok (next.ThrowRef o)) made old new = (made ≡ Some new) × (o ≡ newest new)
ThrowsMade (Ok next.NoWords) made old new = (made ≡ None) × (new ≡ old)
ThrowsMade (Err memory) made old new = new ≡ old
ThrowsMade answer made old new = ⊥

-- the thread of this number steps, with this heap and these states of classes
pub record IsSeenByThrows (image : Image) (heap : WordHeap) (classes : Classes) (thread : ℕ) (h : At) : Type 0 where
  pub image_is : h.image ≡ image
  pub heap_is : h.shared.heap ≡ heap
  pub classes_are : h.shared.classes ≡ classes
  pub thread_is : h.thread ≡ thread

-- what all share, but with this heap and these states of classes
abbrev pub sharing : WordShared → WordHeap → Classes → WordShared
sharing sh heap classes = with_classes (with_heap sh heap) classes

-- all is as before
pub record Stays (stack stack' : WordStack) (heap heap' : WordHeap) (classes classes' : Classes) : Type 0 where
  pub stack_stays : stack' ≡ stack
  pub heap_stays : heap' ≡ heap
  pub classes_stay : classes' ≡ classes

-- an answer is what became of the exception: what it leaves is left, and where memory is wanting all stays
abbrev pub Unwinds : Result Next AllocError → Unwound → (Left → Type 0) → Type 0 → Type 0
Unwinds (Ok next.On) (Caught l) leaves stays = leaves l
Unwinds (Ok (next.ThrowRef o)) (Flies p l) leaves stays = (o ≡ p) × leaves l
Unwinds (Ok next.NoWords) (Lacking l) leaves stays = leaves l
Unwinds (Err memory) u leaves stays = stays
Unwinds answer u leaves stays = ⊥
