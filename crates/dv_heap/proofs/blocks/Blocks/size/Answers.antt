use Rattle.std.proofs.Common.{arith}
use Rattle.dv_heap.proofs.Laying.{stands, size_read}
use Rattle.dv_heap.proofs.blocks.Blocks.size.Goals as goal

pub overflow_add-index : goal.overflow_add-index
overflow_add-index c = omega (arith, (stands c.args.self.now c.self.inside.starts.items c.self.inside.words.items c.args.block c.index.result.now c.self.view_is c.self.invariant c.requires c.index.ensures).ends)

pub index-requires-2 : goal.index-requires-2
index-requires-2 c = omega (arith, (stands c.args.self.now c.self.inside.starts.items c.self.inside.words.items c.args.block c.index.result.now c.self.view_is c.self.invariant c.requires c.index.ensures).ends)

pub returns : goal.returns
returns c = size_read _ _ _ _ (stands c.args.self.now c.self.inside.starts.items c.self.inside.words.items c.args.block c.index.result.now c.self.view_is c.self.invariant c.requires c.index.ensures) c.index-2.ensures
