-- Bytes that are written one piece after another.
use Rattle.std.proofs.Common.{◌≡◌, ℕ, ◌+◌, List, ◌++◌, take, drop, refl, ap, sym, ◌∙◌, append_assoc, Option, Some, None, arith}
use Rattle.std.proofs.Math.Seq.{take-add}
use Rattle.std.proofs.lemmas.Grind.{common_steps}
use Rattle.dv_io.specs.Io.{after_write}

-- a piece written after the front is a longer front
pub after_write-more : (text : List ℕ) (at n : ℕ) (old : Option (List ℕ)) → after_write (take n (drop at text)) (after_write (take at text) old) ≡ after_write (take (at + n) text) old
after_write-more text at n None = refl
after_write-more text at n (Some bytes) = ap Some (append_assoc bytes (take at text) (take n (drop at text)) ∙ ap (λ t. bytes ++ t) (sym (take-add at n text)))

-- no bytes change nothing
pub after_write-none : (text : List ℕ) (old : Option (List ℕ)) → after_write (take 0 text) old ≡ old
after_write-none text None = refl
after_write-none text (Some bytes) = grind (arith, common_steps)
