use Rattle.std.proofs.Common.{sym, ap, ◌∙◌, arith, length}
use Rattle.std.proofs.lemmas.Result.{err_from_is_err_and}
use Rattle.dv_classread.specs.Assembling.{methods_of}
use Rattle.dv_classread.proofs.Assembled.{methods_in_turn, turn_more, turn_none, turn_refused}
use Rattle.dv_classread.proofs.assembling.assembled_methods.Goals as goal

pub returns-in_err-assembled_method : goal.returns-in_err-assembled_method
returns-in_err-assembled_method c =
    let p = err_from_is_err_and c.from_residual.result c.from_residual.ensures.1 in
    let at = c.loop-method in
    rw (p.1, p.2) (turn_refused methods_in_turn (methods_of c.args.methods) at.done.items _ c.in-Some.method _ at.invariant.read c.in-Some.ensures.steps.0 c.in_err-assembled_method.field-0.0 c.in_err-assembled_method.ensures)

pub loop-method-preserved : goal.loop-method-preserved
loop-method-preserved c =
    let at = c.loop-method in
    let steps = c.in-Some.ensures.steps in
    record {
      read = turn_more methods_in_turn (methods_of c.args.methods) at.done.items _ c.in-Some.method _ at.invariant.read steps.0 c.in_ok-assembled_method.field-0 c.in_ok-assembled_method.ensures c.push.new.self.items c.in_ok-push.ensures.items;
      counted = let was = at.invariant.counted in let gone = steps.1 in let short = ap length steps.0 in omega arith;
    }

pub returns : goal.returns
returns c = turn_none methods_in_turn (methods_of c.args.methods) c.loop-method.done.items _ c.loop-method.invariant.read (sym c.loop-method.invariant.counted ∙ c.in-None.ensures.steps.0)
