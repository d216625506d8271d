use Rattle.std.proofs.lemmas.Grind.{common_steps}
use Rattle.std.proofs.Common.{◌∙◌, sym, arith}
use Rattle.dv_defs.specs.Boot.{is_row_of, method_is}
use Rattle.dv_hier.proofs.Rows.{methods_are_same, left_end}
use Rattle.dv_hier.proofs.boot.methods_are.Goals as goal

pub returns : goal.returns
returns c =
    sym
    (methods_are_same _ c.args.methods.now
    ∙ c.loop-row.invariant.left
    ∙ left_end method_is (is_row_of c.args.class.now) c.args.rows.now c.args.methods.now c.loop-row.row-index c.loop-row.told (omega arith) (omega arith))

pub returns-then-told-methods : goal.returns-then-told-methods
returns-then-told-methods c = grind (arith, common_steps)
