use Rattle.dv_print.proofs.Places.Resolved.{leads_there}
use Rattle.dv_print.proofs.laws.labels_lead.Goals as goal

pub returns : goal.returns
returns c = leads_there
