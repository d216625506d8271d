use Rattle.std.proofs.Common.{◌≡◌, ◌<◌, ℕ, Option}
use Rattle.dv_asm.specs.First.{first_line}
use Rattle.dv_asm.proofs.lines.first_line.Given as goal

abbrev pub invariant-loop-k : goal.invariant-loop-k
invariant-loop-k g l =
    (f : ℕ → Option ℕ) → ((k : ℕ) → (line : Option ℕ) → k < l.bound → goal.F-post g l.line_at k line → line ≡ f k) → l.line ≡ first_line f l.k
