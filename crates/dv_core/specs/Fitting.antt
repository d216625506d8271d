-- What a step takes of the words: it holds in every state that stands for a well-typed one.
use Rattle.std.specs.Prelude.{◌≡◌, ◌<◌, ◌-◌, ◌^◌, ℕ, map}
use Rattle.dv_defs.specs.declared.names.ClassId.{ClassId}
use Rattle.dv_defs.specs.declared.run.Native.{Native}
use Rattle.dv_machine.specs.Classes.{InProgress, state_at}
use Rattle.dv_defs.specs.Op.{Op, Invoke}
use Rattle.dv_words.specs.Local.{reg_word}
use Rattle.law_words.specs.StepLaws.{CallFits}
use Rattle.dv_words.specs.Stepping.{KeysRise}
use Rattle.dv_words.specs.Steps.{At, mem_here}
use Rattle.dv_monitor.specs.State.{count_of}
use Rattle.dv_mem.specs.Operands.{AreOperands}
use Rattle.dv_call.specs.Landings.{called, Runs}
use Rattle.dv_call.specs.Returns.{CallerStands}
use Rattle.dv_threads.specs.Kept.{HasRoom}
use Rattle.dv_builtin.specs.Natives.{TextsFit}

-- no monitor is counted to the end
abbrev pub AreCountable : At → Type 0
AreCountable h = (o : ℕ) → count_of h.shared.monitors o < 2 ^ 64 - 1

-- the arguments of the native that a call runs
abbrev pub ArgumentsFit : At → Op → Type 0
ArgumentsFit h (Invoke c ks g) =
    (n : Native) → called h c g (map (reg_word h.frame) ks) ≡ Runs n → TextsFit h.shared.heap n (map (reg_word h.frame) ks)
ArgumentsFit h op = Unit {0}

-- at an instruction
pub record StepFits (h : At) (op : Op) : Type 0 where
  pub keys : KeysRise op
  pub call : CallFits h.image op
  pub caller : CallerStands h
  pub operands : AreOperands (mem_here h) op
  pub arguments : ArgumentsFit h op
  pub countable : AreCountable h
  pub room : HasRoom h.limits

-- at the record of a class: the thread is at that class
abbrev pub RecordFits : At → ClassId → Type 0
RecordFits h c = state_at h.shared.classes c.0 ≡ InProgress h.thread
