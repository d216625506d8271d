-- The clone of a copy is the name that was copied.
use Rattle.std.proofs.Common.{◌≡◌, ℕ, List, Result, Ok, Err, ◌∙◌}
use Rattle.std.specs.Prelude.{IfOk, MatchResult}

pub cloned : {E : Type 0} (r : Result (List ℕ) E) (copy name : List ℕ) (Q : E → Type 0) → MatchResult r (λ y. y ≡ copy) Q → copy ≡ name → IfOk r (λ y. y ≡ name)
cloned (Ok y) copy name Q is same = is ∙ same
cloned (Err e) copy name Q is same = tt
