use Rattle.std.proofs.Common.{◌∙◌}
use Rattle.std.proofs.lemmas.Result.{err_from_is_err_and}
use Rattle.dv_defs.specs.LinkFaults.{wrong_methods}
use Rattle.dv_vtable.proofs.MethodLemmas.{class_more, class_told, classes_done, def_there}
use Rattle.dv_vtable.proofs.methods.check_methods.Goals as goal

pub check_class-requires-clause-class : goal.check_class-requires-clause-class
check_class-requires-clause-class c = def_there c.args.infos.now c.loop-place.place c.index-infos-place.result c.loop-place-test.true c.index-infos-place.is

pub returns-in_err-check_class : goal.returns-in_err-check_class
returns-in_err-check_class c =
    let p = err_from_is_err_and c.from_residual-in_err-check_class.result c.from_residual-in_err-check_class.ensures.1 in
    λ image is boot.
    rw (p.1, p.2)
    (class_told (wrong_methods image) c.in_err-check_class.field-0.0 c.args.infos.now c.loop-place.place c.index-infos-place.result
    (c.loop-place.invariant.faultless image is boot) c.loop-place-test.true c.index-infos-place.is (c.in_err-check_class.ensures.fault image is boot))

pub loop-place-preserved : goal.loop-place-preserved
loop-place-preserved c = record {
  count = c.in_ok-check_class.ensures.count ∙ c.loop-place.invariant.count;
  faultless = λ image is boot. class_more (wrong_methods image) c.args.infos.now c.loop-place.place c.index-infos-place.result
      (c.loop-place.invariant.faultless image is boot) c.loop-place-test.true c.index-infos-place.is (c.in_ok-check_class.ensures.fault image is boot);
}

pub returns : goal.returns
returns c = λ image is boot.
    classes_done (wrong_methods image) c.args.infos.now c.loop-place.place (c.loop-place.invariant.faultless image is boot) c.loop-place-test.false c.loop-place.auto.place-end
