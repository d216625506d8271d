-- What a seat knows, by the names of the machine.
use Rattle.std.specs.Prelude.{◌≡◌, [], ◌∷◌, Option, None}
use Rattle.atomic_table.specs.Table.{Me}
use Rattle.dv_sound.specs.Runs.{Run}
use Rattle.dv_workers.specs.declared.view.Names.{Names}
use Rattle.dv_workers.specs.declared.view.View.{View}
use Rattle.dv_workers.specs.Rule.{aside, held}

-- what a machine is a run of
abbrev pub names_of : Run → Names
names_of r = record { verified = r.verified; main = r.main; limits = r.machine.limits }

-- it doesn't hold the machine
abbrev pub IsAside : {D : Type 0} → Names → Me (Option D) View → Type 0
IsAside n m = m ≡ (aside n, [])

-- it holds the machine, which was moved out of its place
abbrev pub IsHolding : {D : Type 0} → Names → Me (Option D) View → Type 0
IsHolding n m = m ≡ (held (aside n), (0, None) ∷ [])
