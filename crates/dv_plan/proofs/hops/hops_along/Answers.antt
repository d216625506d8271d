use Rattle.std.proofs.Common.{◌+◌, List, take, sym, subst}
use Rattle.dv_plan.specs.declared.hops.Hop.{Hop}
use Rattle.dv_bases.proofs.Wider.{wider_trans}
use Rattle.dv_plan.specs.Hops.{LeadTo}
use Rattle.dv_plan.proofs.Hopping.{one_more}
use Rattle.dv_plan.proofs.hops.hops_along.Goals as goal

pub loop-edge-preserved : goal.loop-edge-preserved
loop-edge-preserved c =
    let new = c.hop_along.new.bases in
    let told = c.in_ok-hop_along.ensures in
    record {
      wider = wider_trans c.args.bases.now c.loop-edge.bases new c.loop-edge.invariant.wider told.wider;
      lead = subst (λ hs. LeadTo new hs (take (c.loop-edge.edge-index + 1) c.args.edges.now)) (sym {A = List Hop} c.in_ok-push.ensures.items)
          (one_more c.loop-edge.bases new told.wider c.loop-edge.hops.items c.in_ok-hop_along.field-0 c.args.edges.now c.loop-edge.edge-index c.edge-item.result
          c.loop-edge.invariant.lead told.numbered c.loop-edge-test.true c.edge-item.is told.leads);
    }
