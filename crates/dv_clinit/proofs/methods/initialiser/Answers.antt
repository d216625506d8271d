use Rattle.std.proofs.Common.{sym, ◌∙◌, arith}
use Rattle.dv_clinit.proofs.Declared.{go_on, is_here, no_more, same_by_test, sought_at}
use Rattle.dv_clinit.proofs.methods.initialiser.Goals as goal

pub loop-id-init : goal.loop-id-init
loop-id-init c =
    record {
      sought = sought_at c.args.image.now c.methods_of-methods.result.now c.methods_of-methods.ensures.methods c.args.class.0 c.first_method-id.result c.first_method-id.ensures.within c.first_method-id.ensures.begins;
      after = omega arith;
    }

pub returns-then-ne : goal.returns-then-ne
returns-then-ne c =
    sym (c.loop-id.invariant.sought ∙
    no_more c.args.image.now c.methods_of-methods.result.now c.methods_of-methods.ensures.methods c.methods_of-methods.ensures.by_class c.args.class.0 c.first_method-id.result c.loop-id.id
    c.first_method-id.ensures.begins c.loop-id.invariant.after c.loop-id-test.true c.index-methods-id.result c.if-ne.ensures)

pub returns-in-Some : goal.returns-in-Some
returns-in-Some c =
    let own = same_by_test _ c.args.class.0 c.if-ne.ensures in
    sym (c.loop-id.invariant.sought ∙
    is_here c.args.image.now c.methods_of-methods.result.now c.methods_of-methods.ensures.methods c.args.class.0 c.loop-id.id c.loop-id-test.true c.index-methods-id.result own _ (sym c.in-Some.ensures))

pub loop-id-preserved : goal.loop-id-preserved
loop-id-preserved c =
    record {
      sought = c.loop-id.invariant.sought ∙ go_on c.args.image.now c.methods_of-methods.result.now c.methods_of-methods.ensures.methods c.args.class.0 c.loop-id.id c.loop-id-test.true (sym c.in_default.ensures);
      after = omega arith;
    }
