-- The lines on words are those of the tagged machine's final text.
use Rattle.std.specs.Prelude.{◌≡◌, ◌++◌}
use Rattle.dv_defs.specs.Images.{Image}
use Rattle.dv_defs.specs.Linked.{IsImage}
use Rattle.dv_machine.specs.Accepted.{Accepted}
use Rattle.dv_machine.specs.Final.{final_text}
use Rattle.dv_machine.specs.State.{Machine}
use Rattle.dv_machine.specs.WellTyped.{Typings}
use Rattle.dv_words.specs.State.{WordMachine}
use Rattle.law_engine.specs.Laws.{IsSimulated}
use Rattle.dv_final.specs.Final.{final_lines_of}

-- behind the printed bytes they make up the final text: linking gives Throwable a message that is a String
abbrev pub FinalLinesFollow : Type 0
FinalLinesFollow =
    (image : Image) (T : Typings) (w : WordMachine) (m : Machine) → IsImage image → Accepted image T → IsSimulated image T w m →
    m.shared.output ++ final_lines_of image w ≡ final_text image m
