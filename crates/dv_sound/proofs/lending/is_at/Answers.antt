use Rattle.std.proofs.Common.{◌≡◌, ◌∙◌, List, Option, None, Some, length, sym, ap, subst, arith}
use Rattle.std.specs.Prelude.{IsTrue, ◌↔◌}
use Rattle.std.proofs.lemmas.Bool.{ltb-true}
use Rattle.dv_words.specs.declared.state.Frame.{Frame}
use Rattle.dv_words.specs.State.{WordStack}
use Rattle.dv_core.specs.Advancing.{top_frame}
use Rattle.dv_core.proofs.Advanced.{no_frame, own_frame, running_own}
use Rattle.dv_core.proofs.Settled.{stack_there, thread_within}
use Rattle.dv_sound.proofs.Slices.{read_at, runs_at}
use Rattle.dv_sound.proofs.lending.is_at.Goals as goal

pub returns-then-not-is_running : goal.returns-then-not-is_running
returns-then-not-is_running c ordered =
    let ts = c.args.vm.now.guest.threads in
    let none = no_frame ts.stacks.items ts.ends.items ts.objects.items c.args.thread (runs_at c.deref.result.now ts.ends.items c.args.thread _ c.deref.ensures.value (sym c.if-not-is_running.ensures)) in
    (λ t. absurd (cc t), λ e. absurd (let d : None ≡ Some c.args.frame.now = sym none ∙ e in cc d))

pub returns-in-Some : goal.returns-in-Some
returns-in-Some c ordered =
    let ts = c.args.vm.now.guest.threads in
    let t = c.args.thread in
    let stack = c.in-Some.stack.now in
    let read = c.in-Some.ensures.lookup in
    let has = read_at c.deref-2.result.now ts.stacks.items t stack c.deref-2.ensures.value (ltb-true t (length c.deref-2.result.now) (sym read.0)) read.1 in
    let at = running_own ts.stacks.items ts.ends.items ts.objects.items t ordered.aligned.ends ordered.aligned.objects (runs_at c.deref.result.now ts.ends.items t _ c.deref.ensures.value (sym c.if-not-is_running.ensures)) in
    let same = stack_there ts.stacks.items ts.ends.items ts.objects.items t stack at.own has at.there in
    subst (λ (o : Option Frame). IsTrue c.is_on_top.result ↔ (o ≡ Some c.args.frame.now))
    (ap top_frame (sym same) ∙ sym (own_frame ts.stacks.items ts.ends.items ts.objects.items t at.own at.there at.ends)) c.is_on_top.ensures

pub returns-in-None : goal.returns-in-None
returns-in-None c ordered =
    let ts = c.args.vm.now.guest.threads in
    let at = running_own ts.stacks.items ts.ends.items ts.objects.items c.args.thread ordered.aligned.ends ordered.aligned.objects (runs_at c.deref.result.now ts.ends.items c.args.thread _ c.deref.ensures.value (sym c.if-not-is_running.ensures)) in
    let inside = thread_within ts.stacks.items ts.ends.items ts.objects.items c.args.thread at.own at.there in
    let same = ap (λ (ss : List WordStack). length ss) c.deref-2.ensures.value in
    absurd (omega (arith, inside, same, c.in-None.ensures.lookup))
