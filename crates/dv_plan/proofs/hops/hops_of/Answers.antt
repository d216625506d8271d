use Rattle.dv_plan.specs.declared.hops.Hop.{Hop}
use Rattle.std.proofs.Common.{◌≡◌, ◌+◌, List, Some, map, ap, sym, ◌∙◌, subst}
use Rattle.std.specs.Prelude.{slice_get}
use Rattle.std.proofs.lemmas.Option.{slice_get-get_or}
use Rattle.dv_defs.specs.declared.code.Body.{Body}
use Rattle.dv_typing.specs.Flow.{catchers}
use Rattle.dv_rules.specs.Edges.{handler_edge}
use Rattle.dv_bases.proofs.Wider.{wider_trans}
use Rattle.dv_plan.specs.Hops.{AreHops, LeadTo}
use Rattle.dv_plan.proofs.Hopping.{list_more}
use Rattle.dv_plan.proofs.hops.hops_of.Goals as goal

pub loop-entry-preserved : goal.loop-entry-preserved
loop-entry-preserved c =
    let new = c.hops_from.new.bases in
    let told = c.in_ok-hops_from.ensures in
    let entry = c.entry-item.result in
    let k = c.loop-entry.entry-index in
    let tries = c.items-entry-items.result.now in
    let there : slice_get c.args.body.now.tries k ≡ Some entry =
    ap (λ ts. slice_get ts k) (sym (c.items-entry-items.ensures ∙ ap (λ (b : Body). b.tries) c.body.view_is)) ∙ (slice_get-get_or tries k entry c.loop-entry-test.true ∙ ap Some (sym c.entry-item.is)) in
    record {
      wider = wider_trans c.args.bases.now c.loop-entry.bases new c.loop-entry.invariant.wider told.wider;
      hops = subst (λ hs. AreHops new c.args.body.now (k + 1) hs) (sym {A = List (List Hop)} c.in_ok-push.ensures.items)
          (list_more c.loop-entry.bases new told.wider c.args.body.now k c.loop-entry.hops.items c.of.result entry c.loop-entry.invariant.hops there
          (subst (λ hs. LeadTo new hs (map handler_edge (catchers c.args.body.now entry.handlers))) (sym c.of.ensures) told.hops));
    }
