use Rattle.dv_words.specs.Stacks.{gone}
use Rattle.dv_threads.proofs.Written.{outside, written}
use Rattle.dv_threads.proofs.stacks.go_on.Goals as goal

pub returns-then-thread-stacks : goal.returns-then-thread-stacks
returns-then-thread-stacks c =
    written c.args.stacks.now c.args.thread c.index-stacks-thread.result c.go.new.self (λ f. gone f c.args.next) c.if-thread-stacks.true c.go.ensures

pub returns-else-thread-stacks : goal.returns-else-thread-stacks
returns-else-thread-stacks c = outside c.args.stacks.now c.args.thread (λ f. gone f c.args.next) c.if-thread-stacks.false
