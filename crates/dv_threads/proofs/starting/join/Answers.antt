use Rattle.std.proofs.Common.{Ok, refl, sym, ◌∙◌}
use Rattle.std.specs.Vec.{with_items}
use Rattle.dv_threads.specs.declared.threads.Threads.{Threads}
use Rattle.dv_defs.specs.declared.run.Next.TheVariants as next
use Rattle.dv_words.specs.Stacks.{gone}
use Rattle.dv_words.specs.Threads.{join_on, thread_with}
use Rattle.dv_threads.specs.Kept.{AreAsBefore, LeavesThreads}
use Rattle.dv_threads.proofs.Begins.{join_goes, join_stays}
use Rattle.dv_threads.proofs.Leaving.{blocked, goes_alone, led, rewritten}
use Rattle.dv_threads.proofs.starting.join.Goals as goal

pub returns-then-lives : goal.returns-then-lives
returns-then-lives c own h is =
    let old = c.args.threads.now in
    led (Ok next.On) (join_on h c.args.object) _ (LeavesThreads old old own h) (AreAsBefore old old)
    (join_stays h (thread_with h.threads c.args.object) (sym c.if-lives.true ∙ c.lives.ensures own c.args.thread c.args.next h is))
    (blocked old old c.args.thread c.args.next own h is (record { stacks = refl; ends = refl; objects = refl; monitors = refl }))

pub returns : goal.returns
returns c own h is =
    let old = c.args.threads.now in
    let new : Threads = record { stacks = with_items old.stacks c.go_on.new.stacks; ends = old.ends; objects = old.objects; monitors = old.monitors } in
    led (Ok next.On) (join_on h c.args.object) _ (LeavesThreads old new own h) (AreAsBefore old new)
    (join_goes h (thread_with h.threads c.args.object) (sym c.if-lives.false ∙ c.lives.ensures own c.args.thread c.args.next h is))
    (goes_alone old new c.args.thread c.args.next own h is
    (rewritten old c.go_on.new.stacks c.deref_mut.result.now c.args.thread (λ f. gone f c.args.next) c.go_on.ensures c.deref_mut.ensures.value) refl refl refl)
