use Rattle.dv_coderead.specs.References.{cut_at_arrow}
use Rattle.dv_coderead.proofs.Cuts.{IsBehind}
use Rattle.dv_coderead.proofs.references.cut_at_arrow.Given as goal

abbrev pub invariant-loop-place : goal.invariant-loop-place
invariant-loop-place l = IsBehind cut_at_arrow l.word l.place
