use Rattle.dv_workers.specs.Desks.{printed}
use Rattle.dv_workers.proofs.Written.{poured_more}
use Rattle.dv_workers.proofs.pouring.pour_all.Goals as goal

pub returns-clause-written : goal.returns-clause-written
returns-clause-written g c =
    λ began w.
    poured_more began (g.K.Sink.taken c.args.sink.now) (g.K.Sink.taken c.pour-poured.new.sink) (printed c.args.vm.now) c.printed-bytes.result.now c.args.written.now c.pour-poured.result.taken c.printed-bytes.ensures.output w c.pour-poured.ensures.within c.pour-poured.ensures.took
