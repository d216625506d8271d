use Rattle.std.proofs.lemmas.Result.{IfOk-weaker}
use Rattle.dv_hier.proofs.RoundLaws.{filled_start, filled_more, filled_whole, all_right, as_many}
use Rattle.dv_hier.proofs.interfaces.interfaces_of_all.Goals as goal

pub loop-init : goal.loop-init
loop-init c = filled_start c.args.infos.now c.in_ok-lists.lists.items c.in_ok-lists.ensures

pub fill-requires : goal.fill-requires
fill-requires c = c.loop.invariant.same

pub returns-then-branch-clause-many : goal.returns-then-branch-clause-many
returns-then-branch-clause-many c = IfOk-weaker c.finished.result _ _
    (λ done made. as_many c.args.infos.now c.fill.new.lists.items done.items c.fill.ensures.length made) c.finished.ensures

pub returns-then-branch-clause-above : goal.returns-then-branch-clause-above
returns-then-branch-clause-above c = λ image is o. IfOk-weaker c.finished.result _ _
    (λ done made. all_right c.args.infos.now c.fill.new.lists.items done.items image is c.fill.ensures.length
    (c.in_ok-fill.ensures.right image is o (c.loop.invariant.right image is o)) (c.in_ok-fill.ensures.whole c.if-branch.true) made)
    c.finished.ensures

pub loop-preserved : goal.loop-preserved
loop-preserved c =
    filled_more c.args.infos.now c.loop.lists.items c.fill.new.lists.items c.loop.counter c.loop.invariant c.fill.ensures.length
    c.in_ok-fill.ensures.right c.in_ok-fill.ensures.ready

pub returns-clause-many : goal.returns-clause-many
returns-clause-many c = IfOk-weaker c.finished-2.result _ _
    (λ done made. as_many c.args.infos.now c.loop.lists.items done.items c.loop.invariant.same made) c.finished-2.ensures

pub returns-clause-above : goal.returns-clause-above
returns-clause-above c = λ image is o. IfOk-weaker c.finished-2.result _ _
    (λ done made. all_right c.args.infos.now c.loop.lists.items done.items image is c.loop.invariant.same
    (c.loop.invariant.right image is o) (filled_whole c.args.infos.now c.loop.lists.items c.loop.counter c.loop.invariant c.loop-test.false image is o) made)
    c.finished-2.ensures
