use Rattle.std.proofs.Common.{◌++◌, ℕ, List}
use Rattle.dv_top.proofs.Written.{took_among, took_each}
use Rattle.dv_top.proofs.printed.write_lines.Goals as goal

pub returns-in_err-write_line-clause-part : goal.returns-in_err-write_line-clause-part
returns-in_err-write_line-clause-part g c =
    let items = c.deref-tail-items.ensures.value in
    took_among (λ (t : List ℕ). c.args.method.now.head ++ t) c.args.method.now.tails.items c.loop-tail.tail-index c.tail-item.result _ _ _ (rw items at c.loop-tail-test.true) (rw items at c.tail-item.is)
    c.loop-tail.invariant.0 c.in_err-write_line.ensures.part

pub returns-clause-part : goal.returns-clause-part
returns-clause-part g c =
    took_each (λ (t : List ℕ). c.args.method.now.head ++ t) c.args.method.now.tails.items c.loop-tail.tail-index _ _ (rw c.deref-tail-items.ensures.value at c.loop-tail-test.false) c.loop-tail.invariant.0
