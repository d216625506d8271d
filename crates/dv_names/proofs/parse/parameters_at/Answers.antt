use Rattle.std.proofs.Common.{◌∙◌, arith}
use Rattle.std.proofs.lemmas.Result.{err_from_is_err_and}
use Rattle.std.proofs.lemmas.List.Elements.{All-push}
use Rattle.dv_names.specs.Descriptors.{IsType}
use Rattle.dv_names.specs.Grammar.{Parameter, Parameters}
use Rattle.dv_names.proofs.Steps.{refusal_end}
use Rattle.dv_names.proofs.Types.{refuses_same}
use Rattle.dv_names.proofs.Protos.{more_parameters, parameters_so_far, parameters_more}
use Rattle.dv_names.proofs.parse.parameters_at.Goals as goal

pub returns-in_err-ty-clause-err : goal.returns-in_err-ty-clause-err
returns-in_err-ty-clause-err c =
    let i = c.loop-at.invariant in
    let p = err_from_is_err_and c.from_residual.result c.from_residual.ensures.1 in
    rw (p.1, p.2) (refuses_same c.in_err-ty.field-0.0 _ _
    (parameters_so_far c.args.text.now c.args.start c.loop-at.at c.loop-at.params.items i.past i.inside i.are_types i.so_far ∙ more_parameters c.args.text.now c.loop-at.at c.loop-at-test.true c.if-text-at-eq41.false)
    (c.in_err-ty.ensures Parameter))

pub loop-at-preserved : goal.loop-at-preserved
loop-at-preserved c =
    let i = c.loop-at.invariant in
    let t = c.in_ok-ty.ensures in
    let pushed = c.in_ok-push.ensures.items in
    record {
      past = omega (arith, t.0.0);
      inside = t.0.1;
      are_types = rw pushed (All-push IsType c.loop-at.params.items c.in_ok-ty.ty i.are_types t.1);
      so_far = parameters_more c.args.text.now c.args.start c.loop-at.at c.in_ok-ty.end c.loop-at.params.items _ c.in_ok-ty.ty i.past (omega (arith, t.0.0)) pushed i.so_far t.2;
    }

pub returns-clause-err : goal.returns-clause-err
returns-clause-err c =
    let i = c.loop-at.invariant in
    parameters_so_far c.args.text.now c.args.start c.loop-at.at c.loop-at.params.items i.past i.inside i.are_types i.so_far ∙ refusal_end c.args.text.now c.loop-at.at Parameters c.loop-at-test.false
