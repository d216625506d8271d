use Rattle.std.proofs.Common.{◌≡◌, ℕ, ◌<◌, false}
use Rattle.dv_threads.specs.Starting.{is_run_at}
use Rattle.dv_threads.proofs.running.run_number.Given as goal

-- none before is one
abbrev pub invariant-loop-i : goal.invariant-loop-i
invariant-loop-i l = (n : ℕ) → n < l.i → is_run_at l.image n ≡ false
