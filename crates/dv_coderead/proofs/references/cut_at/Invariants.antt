use Rattle.dv_coderead.specs.References.{cut_at}
use Rattle.dv_coderead.proofs.Cuts.{IsBehind}
use Rattle.dv_coderead.proofs.references.cut_at.Given as goal

abbrev pub invariant-loop-place : goal.invariant-loop-place
invariant-loop-place l = IsBehind (cut_at l.mark) l.word l.place
