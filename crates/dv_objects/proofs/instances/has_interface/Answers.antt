use Rattle.std.proofs.Common.{◌∙◌, sym, ap, subst}
use Rattle.std.specs.Prelude.{Some}
use Rattle.dv_defs.specs.Linked.{IsImage}
use Rattle.dv_defs.specs.Order.{instance}
use Rattle.dv_defs.specs.Pools.{class_type}
use Rattle.dv_words.specs.Mem.{type_of_kind}
use Rattle.dv_objects.proofs.Interfaces.{by_numbers}
use Rattle.dv_objects.proofs.instances.has_interface.Goals as goal

pub returns-in-Object : goal.returns-in-Object
returns-in-Object c =
    let image = c.args.image.now in
    let is = subst IsImage c.image.view_is c.image.invariant.0 in
    c.implements.ensures ∙
    (sym (by_numbers image is c.in-Object.class.0 c.args.interface c.requires) ∙
    ap (λ k. instance image (type_of_kind image k) (class_type image c.args.interface)) (ap Some (sym c.in-Object.is) ∙ c.kind.ensures))
