use Rattle.std.proofs.Common.{sym, subst}
use Rattle.dv_defs.specs.declared.faults.LineError.{LineError}
use Rattle.dv_coderead.specs.Giving.{Stops}
use Rattle.dv_coderead.specs.Kept.{kept, text_lines}
use Rattle.dv_classread.specs.Texts.{as_error, left_at}
use Rattle.dv_classread.proofs.Wholes.{body_in, left_badly, left_well}
use Rattle.dv_classread.proofs.method.left.Goals as goal

pub returns-in-Ok : goal.returns-in-Ok
returns-in-Ok c =
    let s = c.args.signature.now in
    let ls = text_lines c.args.text.now c.args.lines.now in
    let IsTold : LineError → Type 0 = λ e. Stops e (left_at c.args.fault s (kept 0 ls)) in
    subst IsTold (sym c.as_error.ensures) (left_well c.args.fault s ls c.requires.behind c.in-Ok.body c.in-Ok.ensures)

pub returns-in-Err-At : goal.returns-in-Err-At
returns-in-Err-At c =
    let s = c.args.signature.now in
    let ls = text_lines c.args.text.now c.args.lines.now in
    let IsTold : LineError → Type 0 = λ e. Stops e (left_at c.args.fault s (kept 0 ls)) in
    let bad = subst (λ e. Stops e (body_in s ls)) c.in-Err-At.field-0-is c.in-Err-At.ensures in
    let told = left_badly c.args.fault s ls c.requires.behind (record { line = c.in-Err-At.line; kind = c.in-Err-At.kind }) bad in
    subst IsTold (sym c.as_error-in-Err-At.ensures) (subst (λ f. IsTold (as_error f)) (sym c.earlier.ensures) told)
