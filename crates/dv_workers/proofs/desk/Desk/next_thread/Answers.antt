use Rattle.std.proofs.Common.{◌≡◌, ℕ, Bool, true, false, Option, Some, None, inl, inr, sym, ap, ◌∙◌}
use Rattle.std.specs.Prelude.{MatchOption, is_none}
use Rattle.dv_defs.specs.Pools.{Method}
use Rattle.dv_machine.specs.Running.{ending_of, runnable}
use Rattle.dv_machine.specs.State.{Machine}
use Rattle.dv_sound.specs.Runs.{AtItsState, HasStopped, IsAt, IsReady, NoneIsReady, Run}
use Rattle.dv_sound.proofs.Going.{none_of}
use Rattle.dv_sound.proofs.Lowest.{one_runs}
use Rattle.dv_workers.specs.Desks.{MayGo, NoneIsNext}
use Rattle.dv_workers.proofs.desk.Desk.next_thread.Goals as goal

-- a thread that is ready may go, where the run goes on with any that is runnable
ready_next : (memory fault : Bool) (r : Run) (o : Option ℕ) → ((main : Method) (m : Machine) → IsAt r main m → MatchOption o (NoneIsReady r m) (λ t. IsReady r m t)) →
    ((main : Method) (m : Machine) → IsAt r main m → (t : ℕ) → runnable r.verified.image m t ≡ true → ending_of r.verified.image m ≡ None) →
    MatchOption o (NoneIsNext memory fault r) (λ t. MayGo r t)
ready_next memory fault r None ready goes = inr (inr (λ main m at. inr (ready main m at)))
ready_next memory fault r (Some t) ready goes = λ main m at.
    let is = ready main m at in
    record { goes_on = goes main m at t is.runs; runs = is.runs; at_home = is.at_home }

-- a run that doesn't go on with a thread that is runnable has ended
stopped : (r : Run) (goes : Bool) → goes ≡ false → ((main : Method) (m : Machine) → IsAt r main m → (t : ℕ) → runnable r.verified.image m t ≡ true → goes ≡ is_none (ending_of r.verified.image m)) →
    AtItsState r (λ main m. HasStopped r m)
stopped r goes none on = λ main m at. inl (λ going.
    let runs = one_runs r m going in
    let both : false ≡ true = sym none ∙ (on main m at runs.0 runs.1 ∙ ap is_none going) in
    absurd (cc))

pub returns-then-goes_on : goal.returns-then-goes_on
returns-then-goes_on g c =
    let r = c.args.self.now.vm in
    ready_next c.args.self.now.memory c.args.self.now.fault r c.ready.result c.ready.ensures
    (λ main m at t runs. none_of (ending_of r.verified.image m) (sym (c.goes_on.ensures.goes_on main m at t runs) ∙ c.if-goes_on.true))

pub returns-else-goes_on : goal.returns-else-goes_on
returns-else-goes_on g c = inr (inr (stopped c.args.self.now.vm c.goes_on.result c.if-goes_on.false c.goes_on.ensures.goes_on))
