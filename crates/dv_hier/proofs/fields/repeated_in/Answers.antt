use Rattle.std.proofs.Common.{refl, ap, ◌∙◌}
use Rattle.std.specs.BTreeSet.{contains}
use Rattle.dv_hier.proofs.FieldLemmas.{key_cmp, several_are, told_more, twice_found, twice_more, alone_more, alone_told, value_more, all_values}
use Rattle.dv_hier.proofs.fields.repeated_in.Goals as goal
use Rattle.dv_hier.proofs.fields.repeated_in.Goals.{else-several-via-then-several+in_ok-insert+else-not-branch, else-several-via-else-several}

pub returns-then-not-branch-clause-twice : goal.returns-then-not-branch-clause-twice
returns-then-not-branch-clause-twice c =
    twice_found c.args.fields.now c.loop-i.i c.index-fields-i.result c.key_of-key.result _ c.in_ok-insert.field-0 c.key_of-key.result.name.now
    c.loop-i.invariant.faultless c.loop-i-test.true c.index-fields-i.is c.key_of-key.ensures.name c.key_of-key.ensures.ty
    (c.loop-i.invariant.told (several_are _ c.if-several.true) c.key_of-key.result) c.in_ok-insert.ensures.added c.if-not-branch.true refl

pub loop-i-preserved : goal.loop-i-preserved
loop-i-preserved c =
    let values = value_more c.args.fields.now c.loop-i.i c.index-fields-i.result c.loop-i-test.true c.index-fields-i.is c.loop-i.invariant.values c.key_of-key.ensures.holds in
    elim c.else-several.branch [
      | else-several-via-then-several+in_ok-insert+else-not-branch w ↦ record {
        faultless = twice_more c.args.fields.now c.loop-i.i c.index-fields-i.result c.key_of-key.result _ w.in_ok-insert.field-0
            c.loop-i.invariant.faultless c.loop-i-test.true c.index-fields-i.is c.key_of-key.ensures.name c.key_of-key.ensures.ty
            (c.loop-i.invariant.told (several_are _ w.if-several.true) c.key_of-key.result) w.in_ok-insert.ensures.added w.if-not-branch.false;
        told = λ several k. told_more c.args.fields.now c.loop-i.i c.index-fields-i.result c.key_of-key.result k _ _ c.loop-i-test.true c.index-fields-i.is
            c.key_of-key.ensures.name c.key_of-key.ensures.ty (c.loop-i.invariant.told several k) (ap (λ s. contains key_cmp s k) w.seen-is ∙ w.in_ok-insert.ensures.updates.0 k);
        values = values;
      }
      | else-several-via-else-several w ↦ record {
        faultless = alone_more c.args.fields.now c.loop-i.i c.index-fields-i.result c.loop-i.invariant.faultless c.loop-i-test.true c.index-fields-i.is w.if-several.false;
        told = λ several k. alone_told _ w.if-several.false several;
        values = values;
      }
    ]

pub returns-clause-values : goal.returns-clause-values
returns-clause-values c = λ none. all_values c.args.fields.now c.loop-i.i c.loop-i-test.false c.loop-i.invariant.values
