use Rattle.std.proofs.Common.{◌≡◌, ◌%◌, ◌+◌, suc, List, ap, ◌∙◌, arith}
use Rattle.dv_defs.specs.declared.machine.End.{End}
use Rattle.dv_threads.specs.Kept.{threads_of, zipped}
use Rattle.dv_core.specs.Guests.{shared_of}
use Rattle.dv_core.specs.Machines.{ended_at}
use Rattle.dv_core.proofs.Settled.{zip_ended}
use Rattle.dv_core.proofs.vm.Vm.count.Goals as goal

pub returns-clause-machine : goal.returns-clause-machine
returns-clause-machine c few =
    let old = c.args.self.now in
    let ts = old.guest.threads in
    let threads : zipped ts.stacks.items c.set_end.new.ends.items ts.objects.items ≡ ended_at (threads_of ts) c.args.thread (λ ls. c.args.end) =
    ap (λ (es : List End). zipped ts.stacks.items es ts.objects.items) c.set_end.ensures ∙ zip_ended ts.stacks.items ts.ends.items ts.objects.items c.args.thread c.args.end in
    let steps : (old.steps + 1) % 18446744073709551616 ≡ suc old.steps = omega (arith, few) in
    λ j. record { threads = threads j; shared = shared_of old.guest; steps = steps j; stop = old.stop; limits = old.limits; preallocated = old.preallocated }
