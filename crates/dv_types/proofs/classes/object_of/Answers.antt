use Rattle.std.proofs.Common.{sym, subst, ◌∙◌}
use Rattle.dv_defs.specs.Linked.{IsImage}
use Rattle.dv_types.proofs.Table.{object_is, object_some}
use Rattle.dv_types.proofs.classes.object_of.Goals as goal

pub unwrap-requires : goal.unwrap-requires
unwrap-requires c = object_some c.args.image.now (subst IsImage c.image.view_is c.image.invariant.0) c.boot_class.result c.boot_class.ensures

pub returns : goal.returns
returns c = object_is c.args.image.now c.unwrap.result (sym c.boot_class.ensures ∙ c.unwrap.ensures)
