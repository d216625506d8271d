use Rattle.std.proofs.Common.{ap, sym, ◌∙◌, length, nat_eq, arith}
use Rattle.dv_image.proofs.Reading.{read_at}
use Rattle.dv_core.proofs.Settled.{stack_there, thread_within}
use Rattle.dv_core.proofs.vm.Vm.is_done.Goals as goal

pub returns-in-Some : goal.returns-in-Some
returns-in-Some c own has =
    let stacks = c.args.self.now.guest.threads.stacks.items in
    let stack = c.in-Some.stack.now in
    let read = c.in-Some.ensures.lookup in
    let there = read_at c.deref.result.now stacks c.args.thread stack c.deref.ensures.value read.0 read.1 in
    let levels = stack_there stacks c.args.self.now.guest.threads.ends.items c.args.self.now.guest.threads.objects.items c.args.thread stack own there has in
    ap (λ n. nat_eq n 0) (c.levels.ensures ∙ ap length (sym levels))

pub returns-in-None : goal.returns-in-None
returns-in-None c own has =
    let stacks = c.args.self.now.guest.threads.stacks.items in
    let within = thread_within stacks c.args.self.now.guest.threads.ends.items c.args.self.now.guest.threads.objects.items c.args.thread own has in
    absurd (omega (arith, within, c.in-None.ensures.lookup.3, ap length c.deref.ensures.value))
