use Rattle.std.proofs.Common.{◌≡◌, ◌∙◌, ℕ, true, refl, subst}
use Rattle.std.specs.Prelude.{is_none}
use Rattle.dv_defs.specs.Pools.{Method}
use Rattle.dv_machine.specs.Running.{ending_of, runnable}
use Rattle.dv_machine.specs.State.{Machine}
use Rattle.dv_core.specs.Machines.{machine_of}
use Rattle.dv_sound.specs.Runs.{IsAt, Run}
use Rattle.dv_sound.proofs.Places.{goes_is}
use Rattle.dv_sound.proofs.safe.SafeVm.goes_on.Goals as goal

pub returns-clause-goes_on : goal.returns-clause-goes_on
returns-clause-goes_on c =
    let s = c.self.inside in
    let r : Run = record { verified = s.verified.now; main = s.main; machine = machine_of s.vm; log = s.log.items; lent = s.lent.items } in
    subst (λ (x : Run). (main : Method) (m : Machine) → IsAt x main m → (t : ℕ) → runnable x.verified.image m t ≡ true → c.goes_on.result ≡ is_none (ending_of x.verified.image m)) c.self.view_is
    (λ main m at t runs. c.goes_on.ensures ∙ goes_is r s.vm main m t c.self.invariant refl at runs)
