use Rattle.std.proofs.Common.{◌<◌, length, None, sym, ap, ◌∙◌, arith, get_or}
use Rattle.std.proofs.lemmas.List.{get_or_default}
use Rattle.dv_defs.specs.Images.{Image}
use Rattle.dv_defs.specs.Pools.{name_at}
use Rattle.dv_bases.proofs.Copying.{cloned}
use Rattle.dv_bases.proofs.copies.Copies.name.Goals as goal

pub returns-in-Some-Some : goal.returns-in-Some-Some
returns-in-Some-Some c =
    let own = c.in-Some-Some in
    let within : c.args.class < length c.deref.result.now = grind (arith, own.ensures.lookup.0) in
    let read = get_or_default c.deref.result.now c.args.class None own.field-0.now within in
    let here = ap (λ ns. get_or ns c.args.class None) (sym c.deref.ensures.value) ∙ read ∙ sym own.ensures.lookup.1 ∙ own.field-0-is in
    let same = c.self.invariant c.args.class own.name here ∙ ap (λ (image : Image). name_at image c.args.class) c.self.view_is in
    cloned c.clone.result own.name (name_at c.args.self.now c.args.class) _ c.clone.ensures.cases same
