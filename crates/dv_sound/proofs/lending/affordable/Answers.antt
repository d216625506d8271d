use Rattle.std.proofs.Common.{◌≡◌, ◌-◌, ◌∙◌, ap, sym, arith}
use Rattle.std.specs.Prelude.{min}
use Rattle.dv_defs.specs.declared.run.Limits.{Limits}
use Rattle.dv_sound.proofs.Going.{alike, watchable}
use Rattle.dv_sound.proofs.Slices.{none_done, some_done}
use Rattle.dv_sound.proofs.lending.affordable.Goals as goal

pub returns-then-is_some-clause-exact : goal.returns-then-is_some-clause-exact
returns-then-is_some-clause-exact c T m good at =
    let image = c.args.image.now in
    none_done image m c.args.steps c.ending.result (c.ending.ensures (watchable image T c.args.vm.now m good at) ∙ (alike image T c.args.vm.now m good at).ending) (sym c.is_some.ensures ∙ c.if-is_some.true)

pub returns-then-left-from-clause-exact : goal.returns-then-left-from-clause-exact
returns-then-left-from-clause-exact c T m good at =
    let image = c.args.image.now in
    let steps = at.simulated.stands.steps in
    let limits = ap (λ (l : Limits). l.budget) at.simulated.stands.limits in
    let least : c.saturating_sub-left.result ≡ min c.args.steps (m.limits.budget - m.steps) = omega (arith, steps, limits, c.saturating_sub-left.ensures, c.from.ensures, c.if-left-from.true) in
    least ∙
    some_done image m c.args.steps c.ending.result (c.ending.ensures (watchable image T c.args.vm.now m good at) ∙ (alike image T c.args.vm.now m good at).ending) (sym c.is_some.ensures ∙ c.if-is_some.false)

pub returns-else-left-from-clause-exact : goal.returns-else-left-from-clause-exact
returns-else-left-from-clause-exact c T m good at =
    let image = c.args.image.now in
    let steps = at.simulated.stands.steps in
    let limits = ap (λ (l : Limits). l.budget) at.simulated.stands.limits in
    let least : c.args.steps ≡ min c.args.steps (m.limits.budget - m.steps) = omega (arith, steps, limits, c.saturating_sub-left.ensures, c.from.ensures, c.if-left-from.false) in
    least ∙
    some_done image m c.args.steps c.ending.result (c.ending.ensures (watchable image T c.args.vm.now m good at) ∙ (alike image T c.args.vm.now m good at).ending) (sym c.is_some.ensures ∙ c.if-is_some.false)
