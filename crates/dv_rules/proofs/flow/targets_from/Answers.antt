use Rattle.dv_ops.specs.Meaning.{code_of, meant}
use Rattle.dv_rules.proofs.EdgeLists.{all_targets}
use Rattle.dv_rules.proofs.flow.targets_from.Goals as goal

pub returns : goal.returns
returns c =
    all_targets c.args.image.now (code_of c.args.code.now) c.args.at (record { op = meant (code_of c.args.code.now) c.args.at c.args.op.now; next = c.args.next })
    c.new-edges.result.items c.push_next.new.edges.items c.push_jumps.new.edges.items
    c.requires.clean c.requires.fetched c.new-edges.ensures.items (c.in_ok-push_next.ensures c.args.at) c.in_ok-push_jumps.ensures
