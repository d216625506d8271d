use Rattle.std.proofs.Common.{◌≡◌, ◌<◌, ◌++◌, ◌∷◌, [], get_or, length, arith, ap, ◌∙◌}
use Rattle.std.proofs.lemmas.List.{get_or_default}
use Rattle.std.proofs.lemmas.List.Elements.{All-push}
use Rattle.dv_defs.specs.declared.names.ClassId.{ClassId}
use Rattle.dv_vtable.proofs.MarkLaws.{added_new, added_there, unmarked_more}
use Rattle.dv_vtable.proofs.marks.add_unmarked.Goals as goal
use Rattle.dv_vtable.proofs.marks.add_unmarked.Goals.{then-not-marks-place+in_ok-push, else-not-marks-place}

pub loop-class-preserved : goal.loop-class-preserved
loop-class-preserved c =
    let none : ClassId = record { 0 = 0 } in
    let cs = c.args.classes.now in
    let i = c.loop-class.class-index in
    let class : ClassId = get_or cs i none in
    let within = c.loop-class-test.true in
    let inside : class.0 < length c.loop-class.marks = omega (arith, c.requires.range i none within) in
    let is = get_or_default cs i none class within in
    let inv = c.loop-class.invariant in
    elim c.if-not-marks-place.branch [
      | then-not-marks-place+in_ok-push w ↦
          let items : c.if-not-marks-place.found.items ≡ c.loop-class.found.items ++ class ∷ [] = ap (λ f. f.items) w.found-is ∙ w.in_ok-push.ensures.items in
          rw (items, w.marks-is) (record {
            range = All-push (λ d. d.0 < length c.args.marks.now) c.loop-class.found.items class inv.range (c.requires.range i none within);
            marked = unmarked_more c.loop-class.found.items c.loop-class.marks class inside inv.marked;
            found = added_new cs i class _ c.loop-class.found.items c.loop-class.marks within is inv.marked inv.found w.if-not-marks-place.true;
          })
      | else-not-marks-place w ↦
          let items : c.if-not-marks-place.found.items ≡ c.loop-class.found.items = ap (λ f. f.items) w.found-is in
          rw (items, w.marks-is) (record {
            range = inv.range;
            marked = inv.marked;
            found = added_there cs i class _ c.loop-class.found.items c.loop-class.marks within is inv.marked inv.found w.if-not-marks-place.false;
          })
    ]
