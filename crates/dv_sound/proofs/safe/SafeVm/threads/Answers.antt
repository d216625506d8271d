use Rattle.std.proofs.Common.{◌≡◌, ◌<◌, ◌^◌, ◌∙◌, ap, refl, subst, arith, rules}
use Rattle.std.specs.Prelude.{length}
use Rattle.dv_defs.specs.Pools.{Method}
use Rattle.dv_machine.specs.State.{Machine}
use Rattle.dv_sound.specs.Runs.{IsAt, Run}
use Rattle.dv_sound.proofs.Going.{few_stacks}
use Rattle.dv_sound.proofs.Keeping.{machine_is, threads_are}
use Rattle.dv_sound.proofs.safe.SafeVm.threads.Goals as goal

pub overflow_cast-result : goal.overflow_cast-result
overflow_cast-result c =
    let k = c.self.invariant in
    let few = few_stacks _ k.typings c.self.inside.vm k.machine k.good k.stands in
    let len : c.len.result < 2 ^ 32 = omega (arith, few, c.len.ensures) in
    search rules

pub returns : goal.returns
returns c =
    let k = c.self.invariant in
    let len : c.len.result ≡ length c.self.inside.vm.guest.threads.stacks.items = search rules in
    subst (λ (r : Run). (main : Method) (m : Machine) → IsAt r main m → c.len.result ≡ length m.threads) c.self.view_is
    (λ main m at.
    len ∙ threads_are _ k.typings c.self.inside.vm k.machine k.stands ∙ ap (λ (x : Machine). length x.threads) (machine_is _ c.self.inside.vm k refl main m at))
