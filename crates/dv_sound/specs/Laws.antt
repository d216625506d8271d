-- No turn and no seeded run of an accepted image is stuck, as statements.
use Rattle.std.specs.Prelude.{◌≡◌, ℕ, List, Ok}
use Rattle.dv_defs.specs.declared.run.Entry.{Entry}
use Rattle.dv_defs.specs.declared.run.Limits.{Limits}
use Rattle.dv_typing.specs.Accepting.{Accepts}
use Rattle.dv_defs.specs.Images.{Image}
use Rattle.dv_defs.specs.Linked.{IsImage}
use Rattle.dv_defs.specs.Pools.{Method}
use Rattle.dv_machine.specs.Accepted.{Accepted}
use Rattle.dv_machine.specs.Replaying.{IsFinished, Turned, seeded_from, turn}
use Rattle.dv_machine.specs.Seeds.{log_of_seed}
use Rattle.dv_machine.specs.State.{Machine}
use Rattle.dv_machine.specs.Mains.{IsMain}
use Rattle.dv_machine.specs.WellTyped.{Typings, WellTyped}

-- a turn of any thread from a well-typed state is done, and the state after it is well typed
abbrev pub TurnsNeverStick : Type 0
TurnsNeverStick =
    (image : Image) (T : Typings) (m : Machine) (t most : ℕ) → Accepted image T → WellTyped image T m →
    (x : Turned) × (turn image t most m ≡ Ok x) × WellTyped image T x.machine

-- the turns that any words pick from there on make a schedule
abbrev pub SeedsNeverStick : Type 0
SeedsNeverStick =
    (word : ℕ → ℕ) (image : Image) (T : Typings) (m : Machine) (fuel k : ℕ) → Accepted image T → WellTyped image T m →
    (es : List Entry) × (seeded_from word image fuel k m ≡ Ok es)

-- each seed has a schedule of a main method of a linked image that the verifier accepts; it is legal, and leads to an ending
abbrev pub SeededLogsFinish : Type 0
SeededLogsFinish =
    (image : Image) → IsImage image → Accepts image → (main : Method) → IsMain image main → (limits : Limits) (seed : ℕ) →
    (log : List Entry) × (log_of_seed image main limits seed ≡ Ok log) × IsFinished image main limits log
