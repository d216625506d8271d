use Rattle.std.proofs.Common.{◌+◌, List, Option, sym, subst}
use Rattle.dv_plan.specs.declared.ways.Ways.{Ways}
use Rattle.dv_ops.specs.Meaning.{code_of}
use Rattle.dv_plan.specs.Ways.{AreWays}
use Rattle.dv_plan.proofs.Going.{one_more}
use Rattle.dv_plan.proofs.ways.ways_of.Goals as goal

pub loop-at-preserved : goal.loop-at-preserved
loop-at-preserved c =
    let code = code_of c.args.code.now in
    subst (λ ws. AreWays c.args.image.now code (c.loop-at.at + 1) ws) (sym {A = List (Option Ways)} c.in_ok-push.ensures.items)
    (one_more c.args.image.now code c.loop-at.at c.loop-at.ways.items c.in_ok-ways_at.field-0 c.loop-at.invariant c.in_ok-ways_at.ensures)
