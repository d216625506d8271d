-- What a native method sees of the thread that steps, and what it leaves by its answer.
use Rattle.std.specs.Prelude.{◌≡◌, ℕ, List, Result}
use Rattle.dv_defs.specs.declared.run.Next.{Next}
use Rattle.dv_machine.specs.State.{Did}
use Rattle.dv_words.specs.State.{WordHeap, WordShared, WordStack}
use Rattle.dv_words.specs.Answering.{IsStackOf, Leads, LeavesStack}
use Rattle.dv_words.specs.Steps.{At, Left}

-- the stack, the heap, what was printed, how much may be, and the address after the instruction
pub record Sees (h : At) (stack : WordStack) (heap : WordHeap) (output : List ℕ) (limit next : ℕ) : Type 0 where
  pub is_stack : IsStackOf stack h
  pub is_heap : h.shared.heap ≡ heap
  pub is_output : h.shared.output ≡ output
  pub is_limit : h.limits.output ≡ limit
  pub is_next : h.next ≡ next

-- the answer is the outcome; the stack, the heap and what was printed are as that leaves them, or as before
abbrev pub Does : {E : Type 0} → Result Next E → Did Left → WordShared → WordStack → WordHeap → List ℕ → WordStack → WordHeap → List ℕ → Type 0
Does answer outcome shared stack heap output stack' heap' output' =
    Leads answer outcome (LeavesStack (record shared { heap = heap'; output = output' }) stack stack')
    ((stack' ≡ stack) × (heap' ≡ heap) × (output' ≡ output))
