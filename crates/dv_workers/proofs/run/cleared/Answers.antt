use Rattle.std.proofs.Common.{◌∙◌, ap, arith}
use Rattle.std.proofs.lemmas.List.{take_all}
use Rattle.dv_io.specs.Io.{after_write}
use Rattle.dv_workers.specs.Desks.{printed}
use Rattle.dv_workers.proofs.run.cleared.Goals as goal

pub returns-clause-left : goal.returns-clause-left
returns-clause-left g c =
    let desk = c.args.desk in
    record {
      part = (desk.written, desk.taken.taken);
      all = λ fine ample.
          let whole = c.requires.all fine ample in
          desk.taken.taken ∙ ap (λ bytes. after_write bytes g.L.Began.taken) (take_all desk.written (printed desk.vm) (omega (arith, whole)));
      count = desk.count;
      risen = desk.risen;
    }
