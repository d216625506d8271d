-- On accepted images the words tell what holds threads up, and how a run stands.
use Rattle.std.specs.Prelude.{◌≡◌, ℕ, Some, slice_get}
use Rattle.dv_defs.specs.Images.{Image}
use Rattle.dv_machine.specs.Accepted.{Accepted}
use Rattle.dv_machine.specs.Running as machine
use Rattle.dv_machine.specs.State.{Machine, Thread}
use Rattle.dv_machine.specs.WellTyped.{Typings}
use Rattle.dv_words.specs.State.{WordMachine}
use Rattle.dv_words.specs.Running as words
use Rattle.law_engine.specs.Laws.{IsSimulated}

-- what holds threads up, which are runnable, and how the run stands are told by the words
pub record RunsAlike (image : Image) (w : WordMachine) (m : Machine) : Type 0 where
  pub blocked : (t : ℕ) (th : Thread) → slice_get m.threads t ≡ Some th → words.blocked_of image w t ≡ machine.blocked_thread image m t th
  pub runnable : (t : ℕ) → words.runnable image w t ≡ machine.runnable image m t
  pub ending : words.ending_of image w ≡ machine.ending_of image m

abbrev pub RunningFollows : Type 0
RunningFollows = (image : Image) (T : Typings) (w : WordMachine) (m : Machine) → Accepted image T → IsSimulated image T w m → RunsAlike image w m
