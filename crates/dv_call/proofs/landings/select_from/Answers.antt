use Rattle.std.proofs.Common.{◌≤◌, ◌<◌, ◌^◌, length, ap, subst, arith, rules}
use Rattle.dv_defs.specs.Images.{Image}
use Rattle.dv_defs.specs.Linked.{IsImage}
use Rattle.dv_ops.proofs.Classes.{few}
use Rattle.dv_call.proofs.Selections.{none_past}
use Rattle.dv_call.proofs.landings.select_from.Goals as goal

pub returns-then-place-len : goal.returns-then-place-len
returns-then-place-len c g own =
    let past : length c.args.image.now.classes ≤ c.in-Some.place =
    omega (arith, c.if-place-len.true, c.len.ensures, ap (λ (i : Image). length i.classes) c.image.view_is) in
    none_past c.args.image.now c.args.class c.in-Some.place g.def.name g.def.proto c.in-Some.is past

pub overflow_cast-place : goal.overflow_cast-place
overflow_cast-place c =
    let is : IsImage c.args.image.now = subst IsImage c.image.view_is c.image.invariant.0 in
    let below : c.in-Some.place < 2 ^ 32 =
    omega (arith, few c.args.image.now is, c.if-place-len.false, c.len.ensures, ap (λ (i : Image). length i.classes) c.image.view_is) in
    search rules
