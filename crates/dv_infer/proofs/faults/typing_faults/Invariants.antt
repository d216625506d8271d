use Rattle.std.proofs.Common.{◌≡◌, ◌++◌, ◌-◌, length}
use Rattle.dv_worklist.specs.Beside.{alone}
use Rattle.dv_worklist.specs.Flow.{assigned}
use Rattle.law_infer.specs.Laws.{faults_from}
use Rattle.dv_ops.specs.Meaning.{code_of}
use Rattle.dv_infer.proofs.faults.typing_faults.Given as goal

-- with those from here on, the faults are all
abbrev pub invariant-loop-at : goal.invariant-loop-at
invariant-loop-at l =
    l.faults.items ++ faults_from l.image (code_of l.code) (assigned (alone l.rows)) l.at (length l.code.body.now.units - l.at) ≡
    faults_from l.image (code_of l.code) (assigned (alone l.rows)) 0 (length l.code.body.now.units)
