use Rattle.std.proofs.Common.{arith}
use Rattle.dv_heap.proofs.Laying.{stands}
use Rattle.dv_heap.proofs.blocks.Blocks.words.Goals as goal

pub overflow_add-start : goal.overflow_add-start
overflow_add-start c = omega (arith, (stands c.args.self.now c.self.inside.starts.items c.self.inside.words.items c.args.block c.index-start.result.now c.self.view_is c.self.invariant c.requires c.index-start.ensures).ends)

pub part-requires : goal.part-requires
part-requires c = rw c.as_slice.ensures.value (rw c.size-count.ensures ((stands c.args.self.now c.self.inside.starts.items c.self.inside.words.items c.args.block c.index-start.result.now c.self.view_is c.self.invariant c.requires c.index-start.ensures).ends))

pub returns : goal.returns
returns c = rw (c.part.ensures, c.as_slice.ensures.value, c.size-count.ensures) ((stands c.args.self.now c.self.inside.starts.items c.self.inside.words.items c.args.block c.index-start.result.now c.self.view_is c.self.invariant c.requires c.index-start.ensures).words)
