use Rattle.std.proofs.Common.{◌≡◌, ◌+◌, List, ℕ, Result, drop}
use Rattle.dv_defs.specs.declared.run.Entry.{Entry}
use Rattle.dv_log.specs.Reading.{Reads}
use Rattle.dv_log.proofs.Front.{with_front}
use Rattle.dv_log.proofs.read.read_log.Given as goal

abbrev pub invariant-loop-line : goal.invariant-loop-line
invariant-loop-line l = record {
  counted : l.number ≡ l.first + l.line-index;
  so_far : (r : Result (List Entry) ℕ) → Reads l.number (drop l.line-index l.lines) r → Reads l.first l.lines (with_front l.entries.items r);
}
