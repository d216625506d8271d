use Rattle.std.proofs.Common.{◌≡◌, ◌∙◌, rules, sym, ap, subst}
use Rattle.dv_defs.specs.Linked.{IsImage}
use Rattle.dv_defs.specs.Pools.{class_named}
use Rattle.dv_objects.proofs.Interfaces.{read_there, stands_there}
use Rattle.dv_objects.proofs.instances.is_of_class_at.Goals as goal

pub is_of_class-requires : goal.is_of_class-requires
is_of_class-requires c =
    let image = c.args.image.now in
    let is = subst IsImage c.image.view_is c.image.invariant.0 in
    let same : c.items.result.now ≡ c.args.image.now.classes = search rules in
    let read = c.in-Some.ensures.lookup in
    let at = read_there image is c.items.result.now same c.args.class c.in-Some.info.now read.0 read.1 in
    sym (ap (class_named image) c.bytes.ensures ∙ stands_there image is c.args.class c.in-Some.info.now at)
