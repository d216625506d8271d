use Rattle.std.proofs.Common.{ap, sym, ◌∙◌, get_or, is_some}
use Rattle.dv_hier.proofs.NameLemmas.{name_found, name_new, name_added}
use Rattle.dv_hier.proofs.names.index_names.Goals as goal

pub returns-then-is_some-clause-fault : goal.returns-then-is_some-clause-fault
returns-then-is_some-clause-fault c = λ boot.
    let there = ap is_some (sym c.place_of.ensures) ∙ (sym c.is_some.ensures ∙ c.if-is_some.true) in
    c.error_of.ensures _
    (name_found c.args.classes.now boot c.loop-i.i (get_or c.args.classes.now c.loop-i.i c.index-classes-i.result) c.loop-i.names
    (c.loop-i.invariant.faultless boot) c.loop-i-test.true (ap (get_or c.args.classes.now c.loop-i.i) c.index-classes-i.is) c.loop-i.invariant.names there)

pub loop-i-preserved : goal.loop-i-preserved
loop-i-preserved c =
    let new = ap is_some (sym c.place_of.ensures) ∙ (sym c.is_some.ensures ∙ c.if-is_some.false) in
    record {
      faultless = λ boot. name_new c.args.classes.now boot c.loop-i.i (get_or c.args.classes.now c.loop-i.i c.index-classes-i.result) c.loop-i.names
          (c.loop-i.invariant.faultless boot) c.loop-i-test.true (ap (get_or c.args.classes.now c.loop-i.i) c.index-classes-i.is) c.loop-i.invariant.names new;
      names = name_added c.args.classes.now c.loop-i.i (get_or c.args.classes.now c.loop-i.i c.index-classes-i.result) c.loop-i.names _
          c.loop-i-test.true (ap (get_or c.args.classes.now c.loop-i.i) c.index-classes-i.is) c.loop-i.invariant.names new c.in_ok-add.ensures;
    }
