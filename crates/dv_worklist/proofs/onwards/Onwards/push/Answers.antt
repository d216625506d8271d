use Rattle.std.proofs.Common.{◌≡◌, ℕ, [], ◌∷◌, ◌++◌, length, ap, ◌∙◌, arith}
use Rattle.dv_worklist.specs.Numbered.{way_to, onwards_of}
use Rattle.dv_worklist.proofs.Numbered.{added}
use Rattle.dv_worklist.proofs.onwards.Onwards.push.Goals as goal

pub returns : goal.returns
returns g c =
    let inside = c.self.inside in
    let here : c.len-number.result ≡ length inside.states.items = omega (arith, c.len-number.ensures, inside.states.ok.0) in
    let states = c.in_ok-push.ensures.items in
    let ways = c.in_ok-push-2.ensures.items ∙ ap (λ (n : ℕ). inside.ways.items ++ way_to n c.args.to ∷ []) here in
    (λ i. onwards_of (states i) (ways i)) ∙ added inside.states.items c.args.state inside.ways.items (c.args.to ∷ []) c.self.invariant ∙
    ap (λ os. os ++ record { to = c.args.to; state = c.args.state } ∷ []) c.self.view_is
