use Rattle.std.proofs.Common.{inl, inr, ⊎_elim, ◌∙◌}
use Rattle.dv_workers.proofs.desk.Desk.run_alone.Goals as goal

pub returns-in-None-next_thread-clause-over : goal.returns-in-None-next_thread-clause-over
returns-in-None-next_thread-clause-over g c = ⊎_elim (λ m. inl m) (λ r. inr (r, c.loop.invariant.1 ∙ c.requires.home)) (c.is_over.ensures.over c.if-is_over.true)
