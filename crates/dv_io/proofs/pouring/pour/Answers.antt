use Rattle.std.proofs.Common.{arith, ◌∙◌, ap, take, drop, length, ◌-◌, length-drop}
use Rattle.std.proofs.lemmas.List.{take_all}
use Rattle.dv_io.specs.Io.{after_write}
use Rattle.dv_io.proofs.Writing.{after_write-more}
use Rattle.dv_io.proofs.pouring.pour.Goals as goal

pub write-preserved : goal.write-preserved
write-preserved g c =
    let rest = take_all (length c.args.bytes.now - c.write.taken) (drop c.write.taken c.args.bytes.now) (omega (arith, length-drop c.write.taken c.args.bytes.now)) in
    let some = rw rest at c.in-Ok.ensures.some in
    let after = rw rest at c.in-Ok.ensures.after in (
      omega (arith, some, length-drop c.write.taken c.args.bytes.now),
      after ∙ ap (after_write (take c.in-Ok.n (drop c.write.taken c.args.bytes.now))) c.write.invariant.1 ∙ after_write-more c.args.bytes.now c.write.taken c.in-Ok.n (g.K.Sink.taken c.args.sink.now),
      omega arith,
    )
