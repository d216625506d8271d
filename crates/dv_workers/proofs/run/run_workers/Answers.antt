use Rattle.std.proofs.Common.{⊎_elim, sym, ◌∙◌}
use Rattle.std.proofs.lemmas.Bool.{true≢false}
use Rattle.dv_workers.proofs.run.run_workers.Goals as goal

pub returns-clause-ended : goal.returns-clause-ended
returns-clause-ended g c fine whole main m at =
    ⊎_elim (λ wants. absurd (true≢false (sym wants ∙ whole))) (λ done. ⊎_elim (λ fails. absurd (true≢false (sym fails ∙ fine))) (λ ended. ended main m at) done.0) c.run_in-ran.ensures.run.over
