-- Runs of accepted images.
use Rattle.std.specs.Prelude.{◌≢◌, List}
use Rattle.dv_defs.specs.Images.{Image}
use Rattle.dv_defs.specs.declared.run.Entry.{Entry}
use Rattle.dv_defs.specs.declared.run.Limits.{Limits}
use Rattle.dv_machine.specs.Why.{Why}
use Rattle.dv_typing.specs.Accepting.{Accepts}
use Rattle.dv_defs.specs.Pools.{Method}
use Rattle.dv_machine.specs.Replaying.{replay, Wrong}
use Rattle.dv_machine.specs.Mains.{IsMain}
use Rattle.law_machine.specs.Bridge.{HasLinking}

-- on no schedule is the machine stuck
abbrev pub NeverGoesWrong : Image → Method → Limits → Type 0
NeverGoesWrong image main limits = (log : List Entry) (why : Why) → replay image main limits log ≢ Wrong why

-- so it is with a main method of each image that linking gives and the verifier accepts
abbrev pub AcceptedRunsNeverGoWrong : Type 0
AcceptedRunsNeverGoWrong =
    (image : Image) → HasLinking image → Accepts image → (main : Method) → IsMain image main → (limits : Limits) →
    NeverGoesWrong image main limits
