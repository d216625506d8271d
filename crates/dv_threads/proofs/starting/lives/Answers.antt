use Rattle.std.proofs.Common.{ap, sym, ◌∙◌}
use Rattle.std.specs.Prelude.{◌==◌, position}
use Rattle.dv_image.proofs.Reading.{read_at}
use Rattle.dv_threads.proofs.Begins.{alive_in, no_other, other_is}
use Rattle.dv_threads.proofs.starting.lives.Goals as goal

pub returns-in-Some-get : goal.returns-in-Some-get
returns-in-Some-get c own thread next h is =
    let ts = c.args.threads.now in
    let o = c.args.object in
    let other = c.in-Some.other in
    let read = c.in-Some-get.ensures.lookup in
    let there = read_at c.deref-in-Some.result.now ts.ends.items other c.in-Some-get.end.now c.deref-in-Some.ensures.value read.0 read.1 in
    c.is_alive.ensures ∙
    sym (other_is ts thread next own h is o other (c.in-Some.ensures ∙ ap (position (λ x. x == o)) c.deref.ensures.value) ∙ ap alive_in there)

pub returns-in-None : goal.returns-in-None
returns-in-None c own thread next h is =
    let o = c.args.object in
    no_other c.args.threads.now thread next own h is o c.thread_with.result (c.thread_with.ensures ∙ ap (position (λ x. x == o)) c.deref.ensures.value) c.in-None.is
