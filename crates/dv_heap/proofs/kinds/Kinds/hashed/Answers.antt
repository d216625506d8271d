use Rattle.dv_heap.proofs.Noting.{noted_still}
use Rattle.dv_heap.proofs.kinds.Kinds.hashed.Goals as goal

pub invariant_of-self : goal.invariant_of-self
invariant_of-self c = noted_still c.self.inside.kinds.keys c.inserted.new.kinds.keys c.self.inside.by_class.items c.self.invariant c.inserted.ensures.kept
