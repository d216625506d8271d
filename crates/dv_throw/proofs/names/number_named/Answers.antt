use Rattle.std.proofs.Common.{sym}
use Rattle.law_types.proofs.Walks.{named_inside}
use Rattle.dv_throw.proofs.names.number_named.Goals as goal

pub class_id-requires : goal.class_id-requires
class_id-requires c = named_inside _ _ _ (sym c.in-Some.ensures)
