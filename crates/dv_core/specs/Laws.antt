-- What a step takes of the words holds in every state that stands for a well-typed one.
use Rattle.std.specs.Prelude.{◌<◌, ◌-◌, ◌^◌, ℕ, length}
use Rattle.dv_defs.specs.Images.{Image}
use Rattle.dv_machine.specs.Accepted.{Accepted}
use Rattle.dv_machine.specs.State.{Machine}
use Rattle.dv_machine.specs.WellTyped.{Typings}
use Rattle.law_words.specs.StepLaws.{AllKeysRise, StringsFit}
use Rattle.law_engine.specs.Laws.{IsSimulated}
use Rattle.dv_threads.specs.Kept.{HasRoom}
use Rattle.dv_core.specs.declared.vm.Vm.{Vm}
use Rattle.dv_core.specs.Guests.{IsOrdered}
use Rattle.dv_core.specs.Machines.{IsSteppable, machine_of}

-- of an accepted image whose strings have UTF-16 units and in whose switches keys rise; threads are numbered by 32 bits, the steps are counted on,
-- and a stack has room for a frame
abbrev pub StepsFit : Type 0
StepsFit =
    (image : Image) (T : Typings) (v : Vm) (m : Machine) (t : ℕ) → Accepted image T → StringsFit image → AllKeysRise image →
    IsSimulated image T (machine_of v) m → IsOrdered v.limits v.guest → length v.guest.threads.stacks.items < 2 ^ 32 → HasRoom v.limits → v.steps < 2 ^ 64 - 1 →
    IsSteppable image v t
