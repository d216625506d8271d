-- A linked image that the verifier accepts is what the laws take.
use Rattle.law_machine.specs.Bridge.{BridgeHolds}
use Rattle.law_types.proofs.Laws.{types_are_ordered}
use Rattle.law_machine.proofs.lemmas.Bridge.Selected.{look_ups_find}
use Rattle.law_machine.proofs.lemmas.Bridge.Records.{acceptance_gives_records}

pub bridge_holds : BridgeHolds
bridge_holds image l acc =
    let (T, typed) = acceptance_gives_records image acc in (
      T,
      record {
        hierarchy = l.hierarchy;
        order = types_are_ordered image l.hierarchy;
        slots = l.slots;
        finds = look_ups_find image;
        bodies = l.bodies;
        pools = l.pools;
        inits = l.inits;
        boot = l.boot;
        typed = typed;
      },
    )
