use Rattle.std.proofs.Common.{get_or, false}
use Rattle.std.proofs.lemmas.List.{get_or_default}
use Rattle.std.proofs.Common.{◌<◌, length, arith}
use Rattle.dv_defs.specs.declared.names.ClassId.{ClassId}
use Rattle.dv_vtable.proofs.MarkLaws.{marked_more}
use Rattle.dv_vtable.proofs.marks.mark_all.Goals as goal

pub loop-class-preserved : goal.loop-class-preserved
loop-class-preserved c =
    let none : ClassId = record { 0 = 0 } in
    let cs = c.args.classes.now in
    let i = c.loop-class.class-index in
    let class : ClassId = get_or cs i none in
    let inside : class.0 < length c.loop-class.marks = omega (arith, c.requires i none c.loop-class-test.true) in
    marked_more cs i class c.loop-class.marks c.args.mark (λ d. get_or c.args.marks.now d false) c.loop-class-test.true
    (get_or_default cs i none class c.loop-class-test.true) inside c.loop-class.invariant
