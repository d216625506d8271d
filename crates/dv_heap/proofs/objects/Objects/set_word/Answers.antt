use Rattle.std.proofs.Common.{length}
use Rattle.dv_heap.proofs.Tagging.{tagged_after, objects_after}
use Rattle.dv_heap.proofs.objects.Objects.set_word.Goals as goal

pub invariant_of-self : goal.invariant_of-self
invariant_of-self c =
    tagged_after (length c.self.inside.kinds) c.self.inside.blocks c.set_word.new.self c.block_of.result c.args.place c.args.word c.self.invariant c.set_word.ensures

pub returns : goal.returns
returns c =
    objects_after c.self.inside.kinds c.self.inside.blocks c.set_word.new.self c.args.self.now c.args.object c.block_of.result c.args.place c.args.word c.self.view_is c.block_of.ensures c.set_word.ensures
