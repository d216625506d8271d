use Rattle.std.proofs.Common.{◌≡◌, ◌<◌, ◌+◌, ◌++◌, ℕ, length, map, ap, ◌∙◌, arith}
use Rattle.std.proofs.lemmas.List.{length_push}
use Rattle.std.proofs.lemmas.List.Elements.{All-weaker}
use Rattle.std.proofs.lemmas.Result.{on_ok_weaker}
use Rattle.dv_worklist.specs.declared.onwards.Way.{Way}
use Rattle.dv_worklist.specs.Numbered.{way_to, onwards_of}
use Rattle.dv_worklist.proofs.Numbered.{added}
use Rattle.dv_worklist.proofs.onwards.Onwards.push_all.Goals as goal

pub invariant_of-self-2 : goal.invariant_of-self-2
invariant_of-self-2 g c =
    let inside = c.self.inside in
    let n = length c.push.new.self.items in
    let long : n ≡ length inside.states.items + 1 = ap length c.in_ok-push.ensures.items ∙ length_push inside.states.items c.args.state in
    let here : c.len-number.result ≡ length inside.states.items = omega (arith, c.len-number.ensures, inside.states.ok.0) in
    c.push_ways.ensures.within n (All-weaker (λ (w : Way). w.state < length inside.states.items) (λ w. w.state < n) (λ w lt. omega (arith, long, lt)) inside.ways.items c.self.invariant)
    (omega (arith, here, long))

pub returns : goal.returns
returns g c =
    let inside = c.self.inside in
    let tos = c.args.places.now in
    let here : c.len-number.result ≡ length inside.states.items = omega (arith, c.len-number.ensures, inside.states.ok.0) in
    let states = c.in_ok-push.ensures.items in
    on_ok_weaker c.push_ways.result (λ ways.
    let all = ways ∙ ap (λ (n : ℕ). inside.ways.items ++ map (way_to n) tos) here in
    (λ i. onwards_of (states i) (all i)) ∙ added inside.states.items c.args.state inside.ways.items tos c.self.invariant ∙
    ap (λ os. os ++ map (λ to. record { to = to; state = c.args.state }) tos) c.self.view_is) c.push_ways.ensures.ways
