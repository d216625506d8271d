use Rattle.std.proofs.Common.{◌≢◌, List, [], sym, subst}
use Rattle.dv_defs.specs.declared.faults.Fault.{Fault}
use Rattle.dv_typing.specs.Accepting.{AreFaults, IsAcceptedMethod}
use Rattle.dv_defs.specs.Op.{code_at}
use Rattle.dv_pverify.specs.Judging.{Judges}
use Rattle.dv_pverify.proofs.Judged.{judges_faults, faults_told}
use Rattle.dv_pverify.proofs.judge.judge_body.Goals as goal

pub returns-in-Err-Faults : goal.returns-in-Err-Faults
returns-in-Err-Faults c =
    let image = c.args.image.now in
    let told = c.in-Err-Faults in
    subst (λ (fs : List Fault). Judges image (code_at image c.args.method.0) c.empty_map.result fs) (sym c.into_vec.ensures)
    (judges_faults image (code_at image c.args.method.0) c.empty_map.result told.faults c.requires.body
    (λ code at. faults_told told.field-0 told.faults (λ (fs : List Fault). AreFaults image code fs) told.field-0-is (told.ensures.faults code at))
    (faults_told told.field-0 told.faults (λ (fs : List Fault). fs ≢ []) told.field-0-is told.ensures.some)
    (λ code at. faults_told told.field-0 told.faults (λ (fs : List Fault). IsAcceptedMethod image code → ⊥) told.field-0-is (told.ensures.refused code at)))
