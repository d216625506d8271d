use Rattle.std.proofs.Common.{◌∙◌, List, length, sym, ap, subst, arith}
use Rattle.dv_image.proofs.Reading.{read_at}
use Rattle.dv_words.specs.State.{WordStack}
use Rattle.law_engine.specs.KeepLaws.{is_local_level_of}
use Rattle.dv_core.specs.Watching.{IsTopWatched}
use Rattle.dv_core.proofs.Advanced.{not_local, own_local, running_own}
use Rattle.dv_core.proofs.Settled.{stack_there, thread_within}
use Rattle.dv_core.proofs.vm.Vm.next_is_local.Goals as goal

pub returns-then-not-is_running : goal.returns-then-not-is_running
returns-then-not-is_running c w =
    let ts = c.args.self.now.guest.threads in
    sym (not_local ts.stacks.items ts.ends.items ts.objects.items c.args.thread c.args.image.now (sym c.if-not-is_running.ensures))

pub returns-in-Some : goal.returns-in-Some
returns-in-Some c w =
    let image = c.args.image.now in
    let ts = c.args.self.now.guest.threads in
    let t = c.args.thread in
    let stack = c.in-Some.stack.now in
    let read = c.in-Some.ensures.lookup in
    let has = read_at c.deref.result.now ts.stacks.items t stack c.deref.ensures.value read.0 read.1 in
    let at = running_own ts.stacks.items ts.ends.items ts.objects.items t w.ordered.aligned.ends w.ordered.aligned.objects (sym c.if-not-is_running.ensures) in
    let same = stack_there ts.stacks.items ts.ends.items ts.objects.items t stack at.own has at.there in
    c.is_at_local.ensures (subst (IsTopWatched image) same (w.tops t at.own at.there at.ends)) ∙
    (ap (is_local_level_of image) (sym same) ∙ sym (own_local ts.stacks.items ts.ends.items ts.objects.items t at.own at.there at.ends image))

pub returns-in-None : goal.returns-in-None
returns-in-None c w =
    let ts = c.args.self.now.guest.threads in
    let at = running_own ts.stacks.items ts.ends.items ts.objects.items c.args.thread w.ordered.aligned.ends w.ordered.aligned.objects (sym c.if-not-is_running.ensures) in
    let within = thread_within ts.stacks.items ts.ends.items ts.objects.items c.args.thread at.own at.there in
    let same = ap (λ (ss : List WordStack). length ss) c.deref.ensures.value in
    absurd (omega (arith, within, same, c.in-None.ensures.lookup))
