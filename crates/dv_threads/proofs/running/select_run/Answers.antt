use Rattle.std.proofs.Common.{rules, ◌<◌, ◌^◌, ◌∙◌, length, ap, subst, arith}
use Rattle.dv_defs.specs.Images.{Image}
use Rattle.dv_defs.specs.Linked.{IsImage}
use Rattle.dv_ops.proofs.Classes as classes
use Rattle.dv_threads.proofs.Runs.{by_number, by_none, by_no_class}
use Rattle.dv_threads.proofs.running.select_run.Goals as goal

pub returns-then-class-len : goal.returns-then-class-len
returns-then-class-len c =
    by_no_class c.args.image.now c.args.class
    (omega (arith, c.if-class-len.true, c.len.ensures, ap (λ (i : Image). length i.classes) c.image.view_is))

pub overflow_cast-class : goal.overflow_cast-class
overflow_cast-class c =
    let is : IsImage c.args.image.now = subst IsImage c.image.view_is c.image.invariant.0 in
    let below : c.args.class < 2 ^ 32 =
    omega (arith, classes.few c.args.image.now is, c.if-class-len.false, c.len.ensures, ap (λ (i : Image). length i.classes) c.image.view_is) in
    search rules

pub returns-in-Some : goal.returns-in-Some
returns-in-Some c = c.select.ensures ∙ by_number c.args.image.now c.args.class c.in-Some.run'.0 c.in-Some.ensures.found

pub returns-in-None : goal.returns-in-None
returns-in-None c = by_none c.args.image.now c.args.class c.in-None.ensures.missing
