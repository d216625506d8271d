use Rattle.std.proofs.Common.{◌≡◌, ◌∙◌, IfOk, List, Option, length, sym, ap, subst, arith}
use Rattle.dv_image.proofs.Reading.{read_at}
use Rattle.dv_words.specs.declared.state.Frame.{Frame}
use Rattle.dv_words.specs.State.{WordStack}
use Rattle.dv_core.specs.Advancing.{top_frame}
use Rattle.dv_core.proofs.Advanced.{no_frame, own_frame, running_own}
use Rattle.dv_core.proofs.Settled.{stack_there, thread_within}
use Rattle.dv_core.proofs.vm.Vm.copy_top.Goals as goal

pub returns-then-not-is_running : goal.returns-then-not-is_running
returns-then-not-is_running c ordered =
    let ts = c.args.self.now.guest.threads in
    sym (no_frame ts.stacks.items ts.ends.items ts.objects.items c.args.thread (sym c.if-not-is_running.ensures))

pub returns-in-Some : goal.returns-in-Some
returns-in-Some c ordered =
    let ts = c.args.self.now.guest.threads in
    let t = c.args.thread in
    let stack = c.in-Some.stack.now in
    let read = c.in-Some.ensures.lookup in
    let has = read_at c.deref.result.now ts.stacks.items t stack c.deref.ensures.value read.0 read.1 in
    let at = running_own ts.stacks.items ts.ends.items ts.objects.items t ordered.aligned.ends ordered.aligned.objects (sym c.if-not-is_running.ensures) in
    let same = stack_there ts.stacks.items ts.ends.items ts.objects.items t stack at.own has at.there in
    subst (λ (o : Option Frame). IfOk c.copy_of.result (λ q. q ≡ o))
    (ap top_frame (sym same) ∙ sym (own_frame ts.stacks.items ts.ends.items ts.objects.items t at.own at.there at.ends)) c.copy_of.ensures

pub returns-in-None : goal.returns-in-None
returns-in-None c ordered =
    let ts = c.args.self.now.guest.threads in
    let at = running_own ts.stacks.items ts.ends.items ts.objects.items c.args.thread ordered.aligned.ends ordered.aligned.objects (sym c.if-not-is_running.ensures) in
    let within = thread_within ts.stacks.items ts.ends.items ts.objects.items c.args.thread at.own at.there in
    let same = ap (λ (ss : List WordStack). length ss) c.deref.ensures.value in
    absurd (omega (arith, within, same, c.in-None.ensures.lookup))
