use Rattle.std.proofs.Common.{sym, ap, ◌∙◌, arith, length}
use Rattle.std.proofs.lemmas.Result.{err_from_is_err_and}
use Rattle.dv_classread.specs.Assembling.{classes_of}
use Rattle.dv_classread.proofs.Assembled.{classes_in_turn, turn_more, turn_none, turn_refused}
use Rattle.dv_classread.proofs.assembling.assembled_classes.Goals as goal

pub returns-in_err-assembled_class : goal.returns-in_err-assembled_class
returns-in_err-assembled_class c =
    let p = err_from_is_err_and c.from_residual.result c.from_residual.ensures.1 in
    let at = c.loop-class in
    rw (p.1, p.2) (turn_refused classes_in_turn (classes_of c.args.classes.items) at.done.items _ c.in-Some.class _ at.invariant.read c.in-Some.ensures.steps.0 c.in_err-assembled_class.field-0.0 c.in_err-assembled_class.ensures)

pub loop-class-preserved : goal.loop-class-preserved
loop-class-preserved c =
    let at = c.loop-class in
    let steps = c.in-Some.ensures.steps in
    record {
      read = turn_more classes_in_turn (classes_of c.args.classes.items) at.done.items _ c.in-Some.class _ at.invariant.read steps.0 c.in_ok-assembled_class.field-0 c.in_ok-assembled_class.ensures c.push.new.self.items c.in_ok-push.ensures.items;
      counted = let was = at.invariant.counted in let gone = steps.1 in let short = ap length steps.0 in omega arith;
    }

pub returns : goal.returns
returns c = turn_none classes_in_turn (classes_of c.args.classes.items) c.loop-class.done.items _ c.loop-class.invariant.read (sym c.loop-class.invariant.counted ∙ c.in-None.ensures.steps.0)
