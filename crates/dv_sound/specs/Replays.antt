-- What an engine comes to that is led by a schedule.
use Rattle.std.specs.Prelude.{◌≡◌, ℕ, List, length, Some, None, Result, Ok, Err}
use Rattle.dv_defs.specs.declared.run.Ending.{Ending}
use Rattle.dv_defs.specs.declared.run.Entry.{Entry}
use Rattle.dv_defs.specs.declared.run.Limits.{Limits}
use Rattle.dv_defs.specs.Images.{Image}
use Rattle.dv_defs.specs.Pools.{Method}
use Rattle.dv_machine.specs.Replaying.{NotRunnable, PastEnd, Replayed, Stands, one_step, replay_from, steps_of}
use Rattle.dv_machine.specs.Opening.{opening}
use Rattle.dv_machine.specs.Running.{ending_of}
use Rattle.dv_machine.specs.State.{Machine}
use Rattle.dv_machine.specs.WellTyped.{Typings}
use Rattle.dv_core.specs.declared.vm.Vm.{Vm}
use Rattle.dv_sound.specs.declared.error.ReplayError.{ReplayError}
use Rattle.dv_sound.specs.declared.error.ReplayError.TheVariants as error
use Rattle.dv_sound.specs.Moves.{StandsFor}

-- an error tells the entry at which a schedule is refused; of want of memory nothing is said
abbrev pub Refuses : ReplayError → Replayed → Type 0
Refuses (error.NotRunnable k) (NotRunnable j) = k ≡ j
Refuses (error.Long k) (PastEnd j) = k ≡ j
Refuses (error.Memory e) r = Unit {0}
Refuses e r = ⊥

-- it led from a state to another one, at which the engine stands
pub record IsLed (image : Image) (T : Typings) (m : Machine) (r : Replayed) (new : Vm) : Type 0 where
  pub after : Machine
  pub leads : r ≡ Stands after
  pub stands : StandsFor image T new after
  pub limits : after.limits ≡ m.limits

-- the same, or it was refused
abbrev pub Plays : Result (Unit {0}) ReplayError → Image → Typings → Machine → Replayed → Vm → Type 0
Plays (Ok u) image T m r new = IsLed image T m r new
Plays (Err e) image T m r new = Refuses e r

-- so many steps of an entry, or its first one is refused
abbrev pub PlaysSome : Result ℕ ReplayError → Image → Typings → ℕ → ℕ → Machine → Vm → Type 0
PlaysSome (Ok n) image T k t m new = IsLed image T m (steps_of image k t n m) new
PlaysSome (Err e) image T k t m new = Refuses e (one_step image k t m)

-- a schedule leads to a state with an ending
pub record IsLedToEnd (image : Image) (T : Typings) (log : List Entry) (m : Machine) (new : Vm) : Type 0 where
  pub after : Machine
  pub leads : replay_from image 0 log m ≡ Stands after
  pub stands : StandsFor image T new after
  pub limits : after.limits ≡ m.limits
  pub ending : Ending
  pub ends : ending_of image after ≡ Some ending

-- why it doesn't: an entry of it is refused, or it stops while the run goes on
abbrev pub StopsBefore : ReplayError → Image → List Entry → Machine → Type 0
StopsBefore (error.Short k) image log m = (k ≡ length log) × ((n : Machine) × (replay_from image 0 log m ≡ Stands n) × (ending_of image n ≡ None))
StopsBefore e image log m = Refuses e (replay_from image 0 log m)

abbrev pub PlaysToEnd : Result (Unit {0}) ReplayError → Image → Typings → List Entry → Machine → Vm → Type 0
PlaysToEnd (Ok u) image T log m new = IsLedToEnd image T log m new
PlaysToEnd (Err e) image T log m new = StopsBefore e image log m

-- the same of a run from its opening
abbrev pub IsRefused : ReplayError → Image → Method → Limits → List Entry → Type 0
IsRefused e image main l log = StopsBefore e image log (opening image main l)
