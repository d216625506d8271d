use Rattle.std.proofs.Common.{refl}
use Rattle.dv_heap.specs.Blocks.{filling}
use Rattle.dv_heap.specs.Placing.{as_kind}
use Rattle.dv_heap.proofs.Tagging.{tagged_kept, tagged_added, objects_kept, objects_added, on_err}
use Rattle.dv_heap.proofs.objects.Objects.add.Goals as goal

pub invariant_of-self : goal.invariant_of-self
invariant_of-self c =
    tagged_kept c.self.inside.kinds c.place.new.self c.self.inside.blocks _ c.self.invariant c.place.ensures.kept refl

pub returns-in_err-tag-clause-kept : goal.returns-in_err-tag-clause-kept
returns-in_err-tag-clause-kept c =
    on_err _ _ (objects_kept c.self.inside.kinds c.place.new.self c.self.inside.blocks _ c.args.self.now c.self.view_is c.self.invariant c.place.ensures.kept refl)

pub invariant_of-self-in_err-push : goal.invariant_of-self-in_err-push
invariant_of-self-in_err-push c =
    tagged_kept c.self.inside.kinds c.place.new.self c.self.inside.blocks _ c.self.invariant c.place.ensures.kept c.in_err-push.ensures.err

pub returns-in_err-push-clause-kept : goal.returns-in_err-push-clause-kept
returns-in_err-push-clause-kept c =
    on_err _ _ (objects_kept c.self.inside.kinds c.place.new.self c.self.inside.blocks _ c.args.self.now c.self.view_is c.self.invariant c.place.ensures.kept c.in_err-push.ensures.err)

pub invariant_of-self-2 : goal.invariant_of-self-2
invariant_of-self-2 c =
    tagged_added c.self.inside.kinds c.place.new.self c.self.inside.blocks c.push.new.self c.in_ok-tag.tag (as_kind c.args.kind) (filling c.args.contents.now) c.self.invariant c.place.ensures.kept c.in_ok-tag.ensures.place c.in_ok-push.ensures.ok

pub returns-clause-added : goal.returns-clause-added
returns-clause-added c =
    objects_added c.self.inside.kinds c.place.new.self c.self.inside.blocks c.push.new.self c.args.self.now c.in_ok-tag.tag (as_kind c.args.kind) (filling c.args.contents.now) c.in_ok-number.number c.self.view_is c.self.invariant c.place.ensures.kept c.in_ok-tag.ensures.place c.in_ok-push.ensures.ok c.in_ok-number.ensures
