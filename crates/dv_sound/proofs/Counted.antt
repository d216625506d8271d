-- A turn on words is counted.
use Rattle.std.proofs.Common.{◌≡◌, ◌≤◌, ◌+◌, ℕ, true, sym, ap, ◌∙◌}
use Rattle.dv_defs.specs.Images.{Image}
use Rattle.dv_machine.specs.State.{Machine}
use Rattle.dv_machine.specs.WellTyped.{Typings}
use Rattle.law_engine.proofs.Counting.{turns_advance}
use Rattle.dv_core.specs.declared.vm.Vm.{Vm}
use Rattle.dv_sound.specs.Moves.{IsTurn, StandsFor, may_step}
use Rattle.dv_sound.proofs.Going.{may_parts}

pub turn_counted : (image : Image) (T : Typings) (v new : Vm) (m : Machine) (t most n : ℕ) → StandsFor image T v m → may_step image m t ≡ true → 1 ≤ most → IsTurn image T m t most n new → new.steps ≡ v.steps + n
turn_counted image T v new m t most n at may some turned =
    let parts = may_parts image m t may in
    let ahead = turns_advance image T m (record { count = n; machine = turned.after }) t most at.simulated.typed parts.0 parts.1 some turned.turned in
    turned.stands.simulated.stands.steps ∙ ahead.steps ∙ ap (λ (k : ℕ). k + n) (sym at.simulated.stands.steps)
