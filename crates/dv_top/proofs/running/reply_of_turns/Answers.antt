use Rattle.std.proofs.Common.{Some, refl}
use Rattle.std.proofs.lemmas.Result.{IfOk-weaker}
use Rattle.dv_defs.specs.declared.run.Limits.{Limits}
use Rattle.dv_defs.specs.Images.{Image}
use Rattle.dv_top.specs.Runs.{IsRun}
use Rattle.dv_top.specs.Status.{code_of}
use Rattle.dv_top.proofs.RunLemmas.{first_of_all}
use Rattle.dv_top.proofs.RunningLemmas.{at_opening, image_of, main_of, moved}
use Rattle.dv_top.proofs.running.reply_of_turns.Goals as goal

pub returns-clause-ran : goal.returns-clause-ran
returns-clause-ran c m is =
    let old = c.args.run.now in
    let new = c.seeded.new.self in
    let same = c.seeded.ensures.same in
    IfOk-weaker c.reply_of_ended.result _ _ (λ reply run. (
      c.in_ok-seeded.ensures.done m _ (at_opening old m c.requires.0 is) c.requires.0,
      moved (λ (i : Image) (l : Limits) log. IsRun i m l log c.args.how.now.behind (code_of reply.status) reply.text.items) new.verified.image old.verified.image new.machine.limits old.machine.limits new.log new.log (image_of new.verified old.verified same.verified) same.limits refl run,
    )) (c.reply_of_ended.ensures m (main_of new.verified old.verified new.main old.main m same.verified same.main is))

pub returns-clause-first : goal.returns-clause-first
returns-clause-first c m is =
    first_of_all (Some c.args.how.now.seed) c.args.run.now.verified.image m c.args.run.now.machine.limits c.seeded.new.self.log (c.in_ok-seeded.ensures.done m _ (at_opening c.args.run.now m c.requires.0 is) c.requires.0)

pub returns-in_err-seeded-clause-first : goal.returns-in_err-seeded-clause-first
returns-in_err-seeded-clause-first c m is = c.in_err-seeded.ensures.part m _ (at_opening c.args.run.now m c.requires.0 is) c.requires.0
