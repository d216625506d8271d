use Rattle.std.proofs.Common.{◌∙◌, sym}
use Rattle.dv_defs.specs.declared.image.Select.TheVariants as select
use Rattle.dv_ops.specs.Meaning.{method_of}
use Rattle.dv_call.proofs.Selections.{lands}
use Rattle.dv_call.proofs.landings.land_from.Goals as goal

pub returns-in-Found : goal.returns-in-Found
returns-in-Found c own =
    let g = method_of c.args.method.now in
    c.land_on.ensures ∙
    lands c.args.image.now c.args.class g.def.name g.def.proto (select.Found c.in-Found.found) (sym c.in-Found.is ∙ c.select_from.ensures g own)

pub returns-in-Abstract : goal.returns-in-Abstract
returns-in-Abstract c own =
    let g = method_of c.args.method.now in
    lands c.args.image.now c.args.class g.def.name g.def.proto select.Abstract (sym c.in-Abstract.is ∙ c.select_from.ensures g own)

pub returns-in-Clash : goal.returns-in-Clash
returns-in-Clash c own =
    let g = method_of c.args.method.now in
    lands c.args.image.now c.args.class g.def.name g.def.proto select.Clash (sym c.in-Clash.is ∙ c.select_from.ensures g own)
