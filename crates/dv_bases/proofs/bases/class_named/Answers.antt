use Rattle.dv_bases.proofs.Naming.{is_within}
use Rattle.dv_bases.proofs.bases.class_named.Goals as goal

pub returns-clause-within : goal.returns-clause-within
returns-clause-within c = is_within c.args.image.now c.args.name.now c.class_of.result c.class_of.ensures
