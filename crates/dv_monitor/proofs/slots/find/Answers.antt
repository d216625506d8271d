use Rattle.std.proofs.Common.{nat_eq}
use Rattle.std.specs.HashMap.{get}
use Rattle.dv_monitor.proofs.PlaceLaws.{held-found, held-there}
use Rattle.dv_monitor.proofs.slots.find.Goals as goal

pub returns-in-Some-clause-held : goal.returns-in-Some-clause-held
returns-in-Some-clause-held c =
    held-there c.args.slots.now (get nat_eq c.args.places.now) c.requires c.args.object c.in-Some.found.0 c.in-Some.found.1 c.in-Some.ensures.slot c.in-Some.ensures.object

pub returns-in-None-clause-held : goal.returns-in-None-clause-held
returns-in-None-clause-held c =
    held-found c.args.slots.now (get nat_eq c.args.places.now) c.args.object c.requires c.in-None.ensures.none c.find_far.result c.find_far.ensures.slot c.find_far.ensures.object c.find_far.ensures.none
