use Rattle.std.proofs.Common.{◌≡◌, ◌++◌, drop}
use Rattle.dv_defs.specs.Linked.{defs}
use Rattle.dv_defs.specs.Numbering.{all_methods_declared}
use Rattle.dv_vtable.proofs.numbering.number_methods.Given as goal

abbrev pub invariant-loop-class : goal.invariant-loop-class
invariant-loop-class l =
    l.methods.items ++ all_methods_declared l.class (defs (drop l.class l.infos)) ≡ all_methods_declared 0 (defs l.infos)
