use Rattle.std.proofs.Common.{arith}
use Rattle.dv_workers.specs.Desks.{printed}
use Rattle.dv_workers.proofs.Kept.{entries_by, length_by, risen_on}
use Rattle.dv_workers.proofs.Written.{written_on}
use Rattle.dv_workers.proofs.desk.Desk.settle.Goals as goal

pub invariant_of-self-in-Ok : goal.invariant_of-self-in-Ok
invariant_of-self-in-Ok g c =
    let old = c.args.self.now in
    let longer = length_by c.in-Ok.entries old.vm.log c.bring.new.vm.log c.in-Ok.ensures.logs in
    record {
      counted = omega (arith, longer, old.counted, c.add.ensures.total);
      entries = entries_by c.in-Ok.entries old.vm.log c.bring.new.vm.log old.entries c.in-Ok.ensures.logs;
      taken =
          c.pour_some.ensures.written g.L.Began.taken
          (written_on g.L.Began.taken (g.K.Sink.taken old.sink) (printed old.vm) (printed c.bring.new.vm) old.written old.taken c.bring.ensures.prints);
      few = c.pour_some.ensures.few;
      count = omega (arith, old.count, c.pour_some.ensures.count);
      risen = risen_on g.L.Began.faults (g.K.Sink.faults old.sink) (g.K.Sink.faults c.pour_some.new.sink) old.fault c.pour_some.new.fault old.count c.pour_some.ensures.count old.risen c.pour_some.ensures.fault;
      away = omega (arith, c.in-Ok.ensures.home, old.away);
    }
