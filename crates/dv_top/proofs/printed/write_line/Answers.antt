use Rattle.dv_top.proofs.Written.{took_front, took_more}
use Rattle.dv_top.proofs.printed.write_line.Goals as goal

pub returns-in_err-write_all-clause-part : goal.returns-in_err-write_all-clause-part
returns-in_err-write_all-clause-part g c = took_front _ _ c.args.head.now c.args.tail.now (rw c.bytes.ensures at c.in_err-write_all.ensures.part)

pub returns-clause-part : goal.returns-clause-part
returns-clause-part g c = took_more _ _ _ c.args.head.now c.args.tail.now (rw c.bytes.ensures at c.in_ok-write_all.ensures.ok) (rw c.bytes-2.ensures at c.write_all-2.ensures.part)
