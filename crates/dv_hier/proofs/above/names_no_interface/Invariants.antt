use Rattle.std.proofs.Common.{◌≡◌, ℕ, Some, false, not, take}
use Rattle.std.specs.List.{list_any}
use Rattle.dv_defs.specs.Order.{names_interface}
use Rattle.dv_defs.specs.Numbering.{declared}
use Rattle.dv_hier.proofs.above.names_no_interface.Given as goal

abbrev pub invariant-loop-name : goal.invariant-loop-name
invariant-loop-name l =
    (boot : ℕ) → list_any (λ name. not (names_interface (declared l.classes boot) (Some name))) (take l.name-index l.interfaces) ≡ false
