use Rattle.std.proofs.Common.{◌≡◌, drop}
use Rattle.dv_words.specs.Opening.{with_out}
use Rattle.dv_core.proofs.opening.set_out.Given as goal

-- the fields that are left make of it what all make of the first heap
abbrev pub invariant-loop-place : goal.invariant-loop-place
invariant-loop-place l = with_out l.image (drop l.place l.image.fields) l.place l.heap ≡ with_out l.image l.image.fields 0 l.fn.heap
