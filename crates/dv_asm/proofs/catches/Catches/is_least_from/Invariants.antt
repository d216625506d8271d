use Rattle.std.proofs.Common.{◌≤◌, ◌<◌, ℕ}
use Rattle.dv_asm.specs.Refusals.{catch_at}
use Rattle.dv_asm.proofs.catches.Catches.is_least_from.Given as goal

abbrev pub invariant-loop-j : goal.invariant-loop-j
invariant-loop-j l = (j : ℕ) → l.k ≤ j → j < l.j → l.line ≤ (catch_at l.self.catches.now j).line
