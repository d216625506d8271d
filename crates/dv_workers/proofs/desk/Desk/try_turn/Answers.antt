use Rattle.std.proofs.Common.{ap, arith, length}
use Rattle.std.specs.Prelude.{min}
use Rattle.dv_workers.specs.Desks.{printed}
use Rattle.dv_workers.proofs.Kept.{entries_by, length_by, risen_on}
use Rattle.dv_workers.proofs.Written.{written_on}
use Rattle.dv_workers.proofs.desk.Desk.try_turn.Goals as goal

pub invariant_of-self : goal.invariant_of-self
invariant_of-self g c =
    let old = c.args.self.now in
    let longer = length_by (min 1 c.try_turn-tried.result.steps) old.vm.log c.try_turn-tried.new.vm.log c.try_turn-tried.ensures.logs in
    record {
      counted = omega (arith, longer, old.counted, c.add.ensures.total, c.from.ensures, c.min.ensures);
      entries = entries_by (min 1 c.try_turn-tried.result.steps) old.vm.log c.try_turn-tried.new.vm.log old.entries c.try_turn-tried.ensures.logs;
      taken =
          c.pour_some.ensures.written g.L.Began.taken
          (written_on g.L.Began.taken (g.K.Sink.taken old.sink) (printed old.vm) (printed c.try_turn-tried.new.vm) old.written old.taken c.try_turn-tried.ensures.prints);
      few = c.pour_some.ensures.few;
      count = omega (arith, old.count, c.pour_some.ensures.count);
      risen = risen_on g.L.Began.faults (g.K.Sink.faults old.sink) (g.K.Sink.faults c.pour_some.new.sink) old.fault c.pour_some.new.fault old.count c.pour_some.ensures.count old.risen c.pour_some.ensures.fault;
      away = (let same = ap length c.try_turn-tried.ensures.same.lent in omega (arith, same, old.away));
    }
