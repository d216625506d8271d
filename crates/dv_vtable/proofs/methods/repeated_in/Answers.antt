use Rattle.std.proofs.Common.{refl, ap, ◌∙◌}
use Rattle.std.specs.BTreeSet.{contains}
use Rattle.dv_vtable.proofs.KeyLemmas.{told_more}
use Rattle.dv_vtable.specs.Keys.{key_cmp}
use Rattle.dv_vtable.proofs.MethodLemmas.{several_are, twice_found, twice_more, alone_more, alone_told}
use Rattle.dv_vtable.proofs.methods.repeated_in.Goals as goal
use Rattle.dv_vtable.proofs.methods.repeated_in.Goals.{else-several-via-then-several+in_ok-insert+else-not-branch, else-several-via-else-several}

pub returns-then-not-branch : goal.returns-then-not-branch
returns-then-not-branch c =
    twice_found c.args.methods.now c.loop-i.i c.index-methods-i.result c.key_of-key.result _ c.in_ok-insert.field-0 c.key_of-key.result.name.now
    c.loop-i.invariant.faultless c.loop-i-test.true c.index-methods-i.is c.key_of-key.ensures.name c.key_of-key.ensures.proto
    (c.loop-i.invariant.told (several_are _ c.if-several.true) c.key_of-key.result) c.in_ok-insert.ensures.added c.if-not-branch.true refl

pub loop-i-preserved : goal.loop-i-preserved
loop-i-preserved c =
    elim c.else-several.branch [
      | else-several-via-then-several+in_ok-insert+else-not-branch w ↦ record {
        faultless = twice_more c.args.methods.now c.loop-i.i c.index-methods-i.result c.key_of-key.result _ w.in_ok-insert.field-0
            c.loop-i.invariant.faultless c.loop-i-test.true c.index-methods-i.is c.key_of-key.ensures.name c.key_of-key.ensures.proto
            (c.loop-i.invariant.told (several_are _ w.if-several.true) c.key_of-key.result) w.in_ok-insert.ensures.added w.if-not-branch.false;
        told = λ several k. told_more c.args.methods.now c.loop-i.i c.index-methods-i.result c.key_of-key.result k _ _ c.loop-i-test.true c.index-methods-i.is
            c.key_of-key.ensures.name c.key_of-key.ensures.proto (c.loop-i.invariant.told several k) (ap (λ s. contains key_cmp s k) w.seen-is ∙ w.in_ok-insert.ensures.updates.0 k);
      }
      | else-several-via-else-several w ↦ record {
        faultless = alone_more c.args.methods.now c.loop-i.i c.index-methods-i.result c.loop-i.invariant.faultless c.loop-i-test.true c.index-methods-i.is w.if-several.false;
        told = λ several k. alone_told _ w.if-several.false several;
      }
    ]
