use Rattle.dv_heap.specs.Blocks.{filling}
use Rattle.dv_heap.specs.Placing.{as_kind}
use Rattle.dv_heap.proofs.Kept.{kept_more}
use Rattle.dv_heap.proofs.heap.Heap.add.Goals as goal

pub invariant_of-self-2 : goal.invariant_of-self-2
invariant_of-self-2 c =
    kept_more c.self.inside.objects c.add.new.self c.self.inside.interned.entries c.self.inside.class_objects.entries (as_kind c.args.kind) (filling c.args.contents.now) c.self.invariant c.requires c.in_ok-number.ensures.added.0
