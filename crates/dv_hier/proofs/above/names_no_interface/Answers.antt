use Rattle.std.proofs.Common.{ℕ, List, Some, not, sym, ap, ◌∙◌}
use Rattle.dv_defs.specs.Order.{names_interface}
use Rattle.dv_defs.specs.Numbering.{declared}
use Rattle.dv_hier.proofs.AboveLaws.{any_more, any_none}
use Rattle.dv_hier.proofs.above.names_no_interface.Goals as goal

pub loop-name-preserved : goal.loop-name-preserved
loop-name-preserved c =
    λ boot.
    any_more (λ (name : List ℕ). not (names_interface (declared c.args.classes.now boot) (Some name))) c.args.interfaces.now c.loop-name.name-index c.name-item.result
    (c.loop-name.invariant boot) c.loop-name-test.true c.name-item.is (ap not (sym (c.is_interface.ensures boot) ∙ c.if-not-is_interface.false))

pub returns : goal.returns
returns c =
    λ boot.
    any_none (λ (name : List ℕ). not (names_interface (declared c.args.classes.now boot) (Some name))) c.args.interfaces.now c.loop-name.name-index
    (c.loop-name.invariant boot) c.loop-name-test.false
