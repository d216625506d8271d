use Rattle.std.proofs.Common.{◌≡◌, ◌-◌, ◌≤◌, length}
use Rattle.dv_coderead.specs.Kept.{kept, kept_from, open_behind, open_from, text_lines}
use Rattle.dv_classread.specs.Schedules.{end_with}
use Rattle.dv_classread.specs.Classes.{classes_from}
use Rattle.dv_classread.proofs.text.add_lines.Given as goal

abbrev pub invariant-loop-place : goal.invariant-loop-place
invariant-loop-place l =
    let ls = text_lines l.text l.lines in
    let end = end_with l.stop l.past (open_behind 0 ls) in
    record {
      place : l.at ≤ length l.lines;
      depth : open_from l.text l.lines l.at ≡ open_behind 0 ls;
      same : classes_from end l.past l.program (kept_from l.text l.lines l.at) ≡ classes_from end l.past l.fn.program (kept 0 ls);
    }

abbrev pub decreases-loop-place : goal.decreases-loop-place
decreases-loop-place l = length l.lines - l.at
