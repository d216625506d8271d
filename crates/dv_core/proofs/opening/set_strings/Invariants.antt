use Rattle.std.proofs.Common.{◌≡◌, drop}
use Rattle.dv_words.specs.Opening.{with_strings}
use Rattle.dv_core.proofs.opening.set_strings.Given as goal

-- the fields that are left make of it what all make of the first heap
abbrev pub invariant-loop-place : goal.invariant-loop-place
invariant-loop-place l = with_strings l.image (drop l.place l.image.fields) l.place l.heap ≡ with_strings l.image l.image.fields 0 l.fn.heap
