use Rattle.std.proofs.Common.{map, ap, ◌∙◌}
use Rattle.dv_typing.specs.Statics.{At}
use Rattle.dv_rules.specs.declared.flow.Edge.{Edge}
use Rattle.dv_ops.specs.Meaning.{code_of, meant}
use Rattle.dv_plan.specs.declared.ways.Ways.{Ways}
use Rattle.dv_plan.proofs.Going.{are_ways, of_fetched}
use Rattle.dv_plan.proofs.ways.ways_from.Goals as goal

pub returns : goal.returns
returns c x fetched =
    let code = code_of c.args.code.now in
    let y : At = record { op = meant code c.args.at c.op_at-next.result.0; next = c.op_at-next.result.1 } in
    let w : Ways = record { targets = c.of.result; next = c.next_alone.result; covering = c.covering_of.result } in
    let tos = c.of.ensures ∙ (c.in_ok-addresses.ensures ∙ ap (map (λ (e : Edge). e.to)) c.as_slice.ensures.value) in
    of_fetched c.args.image.now code c.args.at y x w c.op_at-next.ensures.fetched fetched
    (are_ways code c.args.at y w c.in_ok-edges.edges.items c.in_ok-edges.ensures tos c.next_alone.ensures c.covering_of.ensures)
