use Rattle.std.proofs.Common.{◌≡◌, ◌≤◌, length}
use Rattle.dv_ops.specs.Meaning.{code_of}
use Rattle.dv_plan.specs.Beginnings.{Begin}
use Rattle.dv_plan.proofs.Walking.{AreToCome}
use Rattle.dv_plan.proofs.beginnings.beginnings.Given as goal

abbrev pub invariant-loop-at : goal.invariant-loop-at
invariant-loop-at l =
    record {
      count : length l.begins.items ≡ l.at;
      begin : Begin (code_of l.code).tiles l.begins.items l.at;
      come : AreToCome l.code.body.now.units (code_of l.code).tiles l.here l.at;
      inside : l.here ≤ length l.code.body.now.units;
    }
