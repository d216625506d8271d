use Rattle.dv_hier.proofs.AboveLaws.{interface_told}
use Rattle.dv_hier.proofs.above.is_interface.Goals as goal

pub returns-in-Some : goal.returns-in-Some
returns-in-Some c =
    λ boot.
    let cs = c.args.classes.now in
    interface_told cs boot c.args.names.now c.args.name.now c.in-Some.place c.index-classes-place.result c.is_in.result c.requires.names c.in-Some.ensures.within
    (c.in-Some.ensures.class cs boot c.requires.names) c.index-classes-place.is c.is_in.ensures
