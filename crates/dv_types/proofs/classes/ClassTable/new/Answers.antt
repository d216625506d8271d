use Rattle.std.proofs.Common.{sym, subst}
use Rattle.dv_defs.specs.Linked.{IsImage}
use Rattle.dv_types.specs.Classes.{AreRows}
use Rattle.dv_types.proofs.Table.{is_hierarchy}
use Rattle.dv_types.proofs.classes.ClassTable.new.Goals as goal

pub rows_of-requires : goal.rows_of-requires
rows_of-requires c = is_hierarchy c.args.image.now (subst IsImage c.image.view_is c.image.invariant.0)

pub invariant_of-result : goal.invariant_of-result
invariant_of-result c =
    record {
      hierarchy = is_hierarchy c.args.image.now (subst IsImage c.image.view_is c.image.invariant.0);
      filled = subst (AreRows c.args.image.now) (sym c.of.ensures) c.in_ok-rows.ensures;
      top = c.object_of-object.ensures;
    }
