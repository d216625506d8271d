use Rattle.std.proofs.Common.{◌≡◌, ℕ, take, None}
use Rattle.dv_defs.specs.First.{first_below}
use Rattle.dv_defs.specs.LinkFaults.{fault_at, is_twice}
use Rattle.dv_defs.specs.Numbering.{declared}
use Rattle.law_linking.specs.Stripped.{def_names}
use Rattle.dv_hier.proofs.names.index_names.Given as goal

abbrev pub invariant-loop-i : goal.invariant-loop-i
invariant-loop-i l = record {
  faultless : (boot : ℕ) → first_below (fault_at (is_twice (declared l.classes boot)) l.classes) l.i ≡ None;
  names : l.names ≡ take l.i (def_names l.classes);
}
