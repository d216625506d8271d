-- What was printed stays printed, as statements.
use Rattle.std.specs.Prelude.{◌≡◌, ℕ, ◌++◌, List, [], Ok}
use Rattle.dv_defs.specs.Images.{Image}
use Rattle.dv_defs.specs.Pools.{Method}
use Rattle.dv_defs.specs.declared.run.Limits.{Limits}
use Rattle.dv_machine.specs.Opening.{opening}
use Rattle.dv_machine.specs.Replaying.{Stands, Turned, steps_of, turn}
use Rattle.dv_machine.specs.State.{Machine}
use Rattle.dv_machine.specs.Step.{step}

-- bytes that begin with these
abbrev pub PrintsOn : List ℕ → List ℕ → Type 0
PrintsOn old new = (more : List ℕ) × (new ≡ old ++ more)

-- the same of the output of machines
abbrev pub MachinePrintsOn : Machine → Machine → Type 0
MachinePrintsOn old new = PrintsOn old.shared.output new.shared.output

abbrev pub StepsPrintOn : Type 0
StepsPrintOn = (image : Image) (m n : Machine) (t : ℕ) → step image m t ≡ Ok n → MachinePrintsOn m n

abbrev pub EntriesPrintOn : Type 0
EntriesPrintOn = (image : Image) (m n : Machine) (k t steps : ℕ) → steps_of image k t steps m ≡ Stands n → MachinePrintsOn m n

abbrev pub TurnsPrintOn : Type 0
TurnsPrintOn = (image : Image) (m : Machine) (t most : ℕ) (x : Turned) → turn image t most m ≡ Ok x → MachinePrintsOn m x.machine

abbrev pub OpeningsPrintNothing : Type 0
OpeningsPrintNothing = (image : Image) (main : Method) (l : Limits) → (opening image main l).shared.output ≡ []
