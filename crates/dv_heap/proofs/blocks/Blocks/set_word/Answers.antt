use Rattle.dv_heap.proofs.Laying.{read_back, lie, laid_after, starts_after}
use Rattle.dv_heap.proofs.blocks.Blocks.set_word.Goals as goal

pub invariant_of-self : goal.invariant_of-self
invariant_of-self c =
    lie _ _ _ (laid_after c.args.self.now c.self.inside.starts.items c.self.inside.words.items c.args.block c.index.result.now c.args.place c.args.word c.self.view_is c.self.invariant c.requires c.index.ensures)
    (starts_after c.args.self.now c.self.inside.starts.items c.self.inside.words.items c.args.block c.args.place c.args.word c.self.view_is c.self.invariant)

pub returns : goal.returns
returns c =
    read_back _ _ _ (laid_after c.args.self.now c.self.inside.starts.items c.self.inside.words.items c.args.block c.index.result.now c.args.place c.args.word c.self.view_is c.self.invariant c.requires c.index.ensures)
    (starts_after c.args.self.now c.self.inside.starts.items c.self.inside.words.items c.args.block c.args.place c.args.word c.self.view_is c.self.invariant)
