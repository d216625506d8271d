use Rattle.std.proofs.Common.{◌≡◌, get_or, ap, ◌∙◌}
use Rattle.dv_words.specs.declared.state.Frame.{Frame}
use Rattle.dv_words.specs.declared.state.Kept.TheVariants as kept
use Rattle.dv_words.specs.Stacks.{changed, given, gone}
use Rattle.dv_threads.proofs.Written.{outside, two_changes, written}
use Rattle.dv_threads.proofs.stacks.give.Goals as goal

pub returns-then-thread-stacks : goal.returns-then-thread-stacks
returns-then-thread-stacks c =
    let go : Frame → Frame = λ f. gone f c.args.next in
    let keep : Frame → Frame = λ f. given f (kept.One c.args.word) in
    let stack = get_or c.args.stacks.now c.args.thread c.index-stacks-thread.result in
    written c.args.stacks.now c.args.thread c.index-stacks-thread.result c.give.new.self (λ f. keep (go f)) c.if-thread-stacks.true
    (let first : c.go.new.self ≡ changed go stack = c.go.ensures in
    let second : c.give.new.self ≡ changed keep c.go.new.self = c.give.ensures in
    second ∙ (ap (changed keep) first ∙ two_changes keep go stack))

pub returns-else-thread-stacks : goal.returns-else-thread-stacks
returns-else-thread-stacks c = outside c.args.stacks.now c.args.thread (λ f. given (gone f c.args.next) (kept.One c.args.word)) c.if-thread-stacks.false
