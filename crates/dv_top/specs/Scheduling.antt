-- What is said of a schedule that is given.
use Rattle.std.specs.Prelude.{◌≡◌, ℕ, List, [], Option, Some, None, codes}
use Rattle.dv_defs.specs.declared.run.Entry.{Entry}
use Rattle.dv_defs.specs.declared.run.Limits.{Limits}
use Rattle.dv_defs.specs.Images.{Image}
use Rattle.dv_defs.specs.Pools.{Method}
use Rattle.dv_machine.specs.Replaying.{replay}
use Rattle.dv_sound.specs.declared.error.ReplayError.{ReplayError}
use Rattle.dv_sound.specs.declared.error.ReplayError.TheVariants as error
use Rattle.dv_top.specs.declared.closing.Closing.TheVariants as closing
use Rattle.dv_top.specs.declared.status.Status.TheVariants as exit
use Rattle.dv_top.specs.Runs.{IsRun, refused_line, schedule_line}
use Rattle.dv_top.specs.Status.{code_of}

-- the line of a schedule that is refused, by why it is; want of memory is no refusal
abbrev pub line_of : ReplayError → Option (List ℕ)
line_of (error.NotRunnable k) = Some (schedule_line k (codes "not runnable"))
line_of (error.Long k) = Some (schedule_line k (codes "past the end"))
line_of (error.Short k) = Some (schedule_line k (codes "stops early"))
line_of (error.Memory e) = None

-- the reply to a main method that is to be run on a schedule, with the log: the schedule is refused, or run
pub data IsReplyOfReplay
    (image : Image) (main : Method) (limits : Limits) (schedule log : List Entry) (status : ℕ) (text : List ℕ) : Type 0 where
  Refuses : refused_line image schedule (replay image main limits schedule) ≡ Some text → status ≡ code_of exit.Schedule → log ≡ []
      → IsReplyOfReplay image main limits schedule log status text
  Runs : log ≡ schedule → IsRun image main limits schedule closing.Nothing status text → IsReplyOfReplay image main limits schedule log status text
