use Rattle.std.proofs.Common.{◌≡◌, suc, ap, sym, ◌∙◌, List}
use Rattle.dv_words.specs.State.{WordThread}
use Rattle.dv_words.specs.Step.{end_flying}
use Rattle.dv_threads.specs.Kept.{threads_of}
use Rattle.dv_core.specs.Guests.{shared_of}
use Rattle.dv_core.proofs.Settled.{ended_same, died, flying}
use Rattle.dv_core.proofs.vm.Vm.fly.Goals as goal
use Rattle.dv_core.proofs.vm.Vm.fly.Goals.{then-is_done, else-is_done}

pub returns-clause-machine : goal.returns-clause-machine
returns-clause-machine c own has few =
    let old = c.args.self.now in
    let done = c.is_done.ensures own has in
    let is : c.if-is_done.end ≡ (end_flying c.args.object) own.levels = elim c.if-is_done.branch [
      | then-is_done w ↦ w.end-is ∙ died c.args.object own.levels (sym w.if-is_done.true ∙ done)
      | else-is_done w ↦ w.end-is ∙ flying c.args.object own.levels (sym w.if-is_done.false ∙ done)
    ] in
    c.count.ensures.machine few ∙
    ap (λ (ts : List WordThread). record { threads = ts; shared = shared_of old.guest; steps = suc old.steps; stop = old.stop; limits = old.limits; preallocated = old.preallocated })
    (ended_same (threads_of old.guest.threads) c.args.thread own c.if-is_done.end (end_flying c.args.object) has is)
