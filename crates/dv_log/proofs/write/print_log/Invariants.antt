use Rattle.std.proofs.Common.{◌≡◌, take}
use Rattle.dv_log.specs.Writing.{log_text}
use Rattle.dv_log.proofs.write.print_log.Given as goal

abbrev pub invariant-loop-entry : goal.invariant-loop-entry
invariant-loop-entry l = record {
  so_far : l.text.items ≡ log_text (take l.entry-index l.log);
}
