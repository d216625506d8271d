use Rattle.dv_ops.specs.Meaning.{code_of, meant}
use Rattle.dv_rules.proofs.EdgeLists.{all_edges}
use Rattle.dv_rules.proofs.flow.edges_from.Goals as goal

pub returns : goal.returns
returns c =
    all_edges c.args.image.now (code_of c.args.code.now) c.args.at (record { op = meant (code_of c.args.code.now) c.args.at c.args.op.now; next = c.args.next })
    c.in_ok-edges.edges.items c.push_thrown.new.edges.items c.requires.clean c.in_ok-edges.ensures c.in_ok-push_thrown.ensures
