use Rattle.std.proofs.Common.{subst}
use Rattle.dv_io.specs.Io.{TookPart}
use Rattle.dv_top.specs.Printed.{PrintedValue, printed_lines}
use Rattle.dv_top.proofs.Written.{took_more}
use Rattle.dv_top.proofs.printed.Printed.write.Goals as goal

pub returns-clause-part : goal.returns-clause-part
returns-clause-part g c =
    let old = g.K.Sink.taken c.args.sink.now in
    let new = g.K.Sink.taken c.write_methods.new.sink in
    subst (λ (p : PrintedValue). TookPart old new p.items) c.self.view_is
    (took_more old _ new c.self.inside.bytes.items (printed_lines c.self.inside.faults.items) (rw c.deref.ensures.value at c.in_ok-write_all.ensures.ok) (rw c.deref-2.ensures.value at c.write_methods.ensures.part))
