use Rattle.std.proofs.Common.{None, Some, ap, subst, get_or, All}
use Rattle.dv_hier.proofs.FieldLemmas.{HasValue, told_of, class_twice, class_once, class_values, all_class_values}
use Rattle.dv_hier.proofs.fields.check_fields.Goals as goal

pub returns-in-Some-clause-fault : goal.returns-in-Some-clause-fault
returns-in-Some-clause-fault c =
    c.error_of.ensures _
    (class_twice c.args.infos.now c.loop-i.i (get_or c.args.infos.now c.loop-i.i c.index-infos-i.result) c.in-Some.name c.loop-i.invariant.faultless
    c.loop-i-test.true (ap (get_or c.args.infos.now c.loop-i.i) c.index-infos-i.is)
    (told_of c.items.result.now _ c.in_ok-name.field-0 (Some c.in-Some.name) c.items.ensures c.in_ok-name.ensures.twice c.in-Some.is))

pub loop-i-preserved : goal.loop-i-preserved
loop-i-preserved c = record {
  faultless = class_once c.args.infos.now c.loop-i.i (get_or c.args.infos.now c.loop-i.i c.index-infos-i.result) c.loop-i.invariant.faultless
      c.loop-i-test.true (ap (get_or c.args.infos.now c.loop-i.i) c.index-infos-i.is)
      (told_of c.items.result.now _ c.in_ok-name.field-0 None c.items.ensures c.in_ok-name.ensures.twice c.in_default.is);
  values = class_values c.args.infos.now c.loop-i.i (get_or c.args.infos.now c.loop-i.i c.index-infos-i.result)
      c.loop-i-test.true (ap (get_or c.args.infos.now c.loop-i.i) c.index-infos-i.is) c.loop-i.invariant.values
      (subst (All HasValue) c.items.ensures (c.in_ok-name.ensures.values c.in_default.is));
}

pub returns-clause-values : goal.returns-clause-values
returns-clause-values c = all_class_values c.args.infos.now c.loop-i.i c.loop-i-test.false c.loop-i.invariant.values
