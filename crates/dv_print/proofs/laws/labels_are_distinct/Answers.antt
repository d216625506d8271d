use Rattle.dv_print.proofs.Places.Labels.{labels_are_distinct}
use Rattle.dv_print.proofs.laws.labels_are_distinct.Goals as goal

pub returns : goal.returns
returns c = labels_are_distinct
