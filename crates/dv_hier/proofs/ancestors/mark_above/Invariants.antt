use Rattle.std.proofs.Common.{◌-◌, length, Some}
use Rattle.dv_hier.specs.Ancestors.{with_interfaces}
use Rattle.dv_hier.specs.Slots.{walked}
use Rattle.dv_hier.proofs.AncestorLaws.{IsWalk}
use Rattle.dv_hier.proofs.ancestors.mark_above.Given as goal

abbrev pub invariant-loop : goal.invariant-loop
invariant-loop l =
    IsWalk l.infos l.interfaces (with_interfaces l.interfaces (walked l.infos (length l.infos) (Some l.fn.class.0))) l.initial.row l.row
    (length l.infos - l.counter) l.at
