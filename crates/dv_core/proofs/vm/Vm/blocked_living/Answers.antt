use Rattle.std.proofs.Common.{◌≡◌, ◌∙◌, List, length, sym, ap, subst, arith}
use Rattle.dv_image.proofs.Reading.{read_at}
use Rattle.dv_words.specs.Running.{blocked_levels}
use Rattle.dv_words.specs.State.{WordStack}
use Rattle.dv_core.specs.Machines.{machine_of}
use Rattle.dv_core.specs.Watching.{IsTopWatched}
use Rattle.dv_core.proofs.Settled.{stack_there, thread_within}
use Rattle.dv_core.proofs.Waits.{are_numbered}
use Rattle.dv_core.proofs.vm.Vm.blocked_living.Goals as goal

pub returns-in_err-stack : goal.returns-in_err-stack
returns-in_err-stack c own w there lives =
    let ts = c.args.self.now.guest.threads in
    let within = thread_within ts.stacks.items ts.ends.items ts.objects.items c.args.thread own there in
    let same = ap (λ (ss : List WordStack). length ss) c.deref.ensures.value in
    let past = c.in_err-stack.ensures.lookup in
    absurd (omega (arith, within, same, past))

pub returns : goal.returns
returns c own w there lives =
    let image = c.args.image.now in
    let v = c.args.self.now in
    let ts = v.guest.threads in
    let stack = c.in_ok-stack.stack.now in
    let read = c.in_ok-stack.ensures.lookup in
    let has = read_at c.deref.result.now ts.stacks.items c.args.thread stack c.deref.ensures.value read.0 read.1 in
    let levels : own.levels ≡ stack.levels = stack_there ts.stacks.items ts.ends.items ts.objects.items c.args.thread stack own has there in
    c.blocked_stack.ensures v.steps v.stop v.limits v.preallocated (are_numbered image v w) (subst (IsTopWatched image) levels (w.tops c.args.thread own there lives)) ∙
    ap (blocked_levels image (machine_of v) c.args.thread) (sym levels)
