use Rattle.std.proofs.Common.{◌≡◌, ◌∙◌, IfOk, List, Option, Some, None, true, false, length, sym, ap, subst, arith}
use Rattle.dv_image.proofs.Reading.{read_at}
use Rattle.dv_words.specs.declared.state.Frame.{Frame}
use Rattle.dv_words.specs.State.{WordStack}
use Rattle.dv_core.specs.Advancing.{running_frame, top_frame}
use Rattle.dv_core.proofs.Advanced.{no_frame, own_frame, running_own}
use Rattle.dv_core.proofs.Settled.{stack_there, thread_within}
use Rattle.dv_threads.specs.Kept.{threads_of}
use Rattle.dv_core.specs.Guests.{IsOrdered}
use Rattle.std.specs.Prelude.{slice_get}
use Rattle.dv_core.proofs.vm.Vm.keep_top.Goals as goal
use Rattle.dv_core.proofs.vm.Vm.keep_top.Goals.{After-keep_of}

pub returns-then-not-is_running-clause-none : goal.returns-then-not-is_running-clause-none
returns-then-not-is_running-clause-none c ordered none =
    let ts = c.args.self.now.guest.threads in
    no_frame ts.stacks.items ts.ends.items ts.objects.items c.args.thread (sym c.if-not-is_running.ensures)

-- the frame of the stack is the thread's
frame_is : (c : After-keep_of) → IsOrdered c.args.self.now.limits c.args.self.now.guest → top_frame c.in-Some.stack.now.levels ≡ running_frame (slice_get (threads_of c.args.self.now.guest.threads) c.args.thread)
frame_is c ordered =
    let ts = c.args.self.now.guest.threads in
    let t = c.args.thread in
    let stack = c.in-Some.stack.now in
    let read = c.in-Some.ensures.lookup in
    let has = read_at c.deref.result.now ts.stacks.items t stack c.deref.ensures.value read.0 read.1 in
    let at = running_own ts.stacks.items ts.ends.items ts.objects.items t ordered.aligned.ends ordered.aligned.objects (sym c.if-not-is_running.ensures) in
    let same = stack_there ts.stacks.items ts.ends.items ts.objects.items t stack at.own has at.there in
    ap top_frame (sym same) ∙ sym (own_frame ts.stacks.items ts.ends.items ts.objects.items t at.own at.there at.ends)

pub returns-in-Some-clause-some : goal.returns-in-Some-clause-some
returns-in-Some-clause-some c ordered =
    subst (λ (o : Option Frame). IfOk c.keep_of.result (λ is. is ≡ true → o ≡ Some c.keep_of.new.kept)) (frame_is c ordered) c.keep_of.ensures.some

pub returns-in-Some-clause-none : goal.returns-in-Some-clause-none
returns-in-Some-clause-none c ordered =
    subst (λ (o : Option Frame). IfOk c.keep_of.result (λ is. is ≡ false → o ≡ None)) (frame_is c ordered) c.keep_of.ensures.none

pub returns-in-None-clause-none : goal.returns-in-None-clause-none
returns-in-None-clause-none c ordered none =
    let ts = c.args.self.now.guest.threads in
    let at = running_own ts.stacks.items ts.ends.items ts.objects.items c.args.thread ordered.aligned.ends ordered.aligned.objects (sym c.if-not-is_running.ensures) in
    let within = thread_within ts.stacks.items ts.ends.items ts.objects.items c.args.thread at.own at.there in
    let same = ap (λ (ss : List WordStack). length ss) c.deref.ensures.value in
    absurd (omega (arith, within, same, c.in-None.ensures.lookup))
