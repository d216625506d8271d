use Rattle.std.proofs.Common.{ℕ, List, Some, not, ap, ◌∙◌}
use Rattle.std.specs.List.{list_any}
use Rattle.dv_defs.specs.LinkFaults.{wrong_superclass}
use Rattle.dv_defs.specs.Order.{names_interface}
use Rattle.dv_defs.specs.Numbering.{declared}
use Rattle.dv_hier.proofs.AboveLaws.{second_decides}
use Rattle.dv_hier.proofs.above.has_wrong_kind.Goals as goal

pub returns-else-has_wrong_parent : goal.returns-else-has_wrong_parent
returns-else-has_wrong_parent c =
    λ boot.
    let image = declared c.args.classes.now boot in
    let other = λ (name : List ℕ). not (names_interface image (Some name)) in
    second_decides c.has_wrong_parent.result (list_any other c.args.class.now.interfaces) (wrong_superclass image c.args.class.now) c.names_no_interface.result
    (c.has_wrong_parent.ensures boot) c.if-has_wrong_parent.false (c.names_no_interface.ensures boot ∙ ap (list_any other) c.items.ensures)
