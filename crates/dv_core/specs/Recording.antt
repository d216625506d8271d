-- A thread at the record of a class: what its steps see and leave.
use Rattle.std.specs.Prelude.{◌≡◌, ℕ}
use Rattle.dv_machine.specs.Classes.{Classes}
use Rattle.dv_words.specs.State.{WordStack}
use Rattle.dv_words.specs.Answering.{LeavesStack}
use Rattle.dv_words.specs.Steps.{At, Left, with_classes}

-- this is the stack of the thread of this number, which steps with these states of classes
pub record IsBeside (stack : WordStack) (classes : Classes) (thread : ℕ) (h : At) : Type 0 where
  pub number : h.thread ≡ thread
  pub states : h.shared.classes ≡ classes
  pub most_levels : stack.most_levels ≡ h.limits.levels
  pub most_words : stack.most_words ≡ h.limits.words

-- the stack has the levels that are left, and the classes have the states that are left
abbrev pub LeavesBoth : At → Classes → WordStack → WordStack → Left → Type 0
LeavesBoth h classes' stack stack' = LeavesStack (with_classes h.shared classes') stack stack'

-- both are as before
pub record AreKept (stack stack' : WordStack) (classes classes' : Classes) : Type 0 where
  pub stack_stays : stack' ≡ stack
  pub classes_stay : classes' ≡ classes
