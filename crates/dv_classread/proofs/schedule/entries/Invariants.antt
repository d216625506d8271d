use Rattle.std.proofs.Common.{◌≡◌, length}
use Rattle.std.specs.List.{All}
use Rattle.dv_lex.specs.Lines.{HasTokens, IsLineInside}
use Rattle.dv_coderead.specs.Kept.{text_lines}
use Rattle.dv_classread.specs.Schedules.{log_from}
use Rattle.dv_classread.proofs.Entries.{and_entries}
use Rattle.dv_classread.proofs.schedule.entries.Given as goal

abbrev pub invariant-loop-rest : goal.invariant-loop-rest
invariant-loop-rest l = record {
  inside : All (IsLineInside l.text) l.rest;
  tokens : All (HasTokens l.text) l.rest;
  read : log_from l.stop l.past (text_lines l.text l.lines) ≡ and_entries l.entries.items (log_from l.stop l.past (text_lines l.text l.rest));
}

abbrev pub decreases-loop-rest : goal.decreases-loop-rest
decreases-loop-rest l = length l.rest
