use Rattle.std.proofs.Common.{sym, ap, subst, ◌∙◌}
use Rattle.std.proofs.lemmas.Result.{err_from_is_err_and}
use Rattle.dv_coderead.specs.Giving.{Stops}
use Rattle.dv_coderead.specs.Kept.{text_lines}
use Rattle.dv_coderead.specs.Bodies.{argument_words, body_of}
use Rattle.dv_classread.proofs.Wholes.{drafted_read, drafted_refused, raw_read, raw_refused}
use Rattle.dv_classread.proofs.method.method_body.Goals as goal

pub returns-in_err-read_raw-in-Raw : goal.returns-in_err-read_raw-in-Raw
returns-in_err-read_raw-in-Raw c =
    let p = err_from_is_err_and c.from_residual.result c.from_residual.ensures.1 in
    rw (p.1, p.2) (raw_refused c.args.signature.now (text_lines c.args.text.now c.args.lines.now) c.in_err-read_raw-in-Raw.field-0.0 (sym c.body_kind.ensures ∙ c.in-Raw.is) c.in_err-read_raw-in-Raw.ensures)

pub returns-in_err-draft-in-Drafted : goal.returns-in_err-draft-in-Drafted
returns-in_err-draft-in-Drafted c =
    let p = err_from_is_err_and c.from_residual-in_err-draft-in-Drafted.result c.from_residual-in_err-draft-in-Drafted.ensures.1 in
    let ls = text_lines c.args.text.now c.args.lines.now in
    let s = c.args.signature.now in
    let stops = subst (λ b. Stops c.in_err-draft-in-Drafted.field-0.0 (body_of (argument_words s.proto b) ls)) c.is_in-is_static.ensures c.in_err-draft-in-Drafted.ensures in
    rw (p.1, p.2) (drafted_refused s ls c.in_err-draft-in-Drafted.field-0.0 (sym c.body_kind.ensures ∙ c.in-Drafted.is) stops)

pub returns-in_ok-read_raw-in-Raw : goal.returns-in_ok-read_raw-in-Raw
returns-in_ok-read_raw-in-Raw c = raw_read c.args.signature.now (text_lines c.args.text.now c.args.lines.now) c.in_ok-read_raw-in-Raw.field-0 (sym c.body_kind.ensures ∙ c.in-Raw.is) c.in_ok-read_raw-in-Raw.ensures

pub returns-in_ok-draft-in-Drafted : goal.returns-in_ok-draft-in-Drafted
returns-in_ok-draft-in-Drafted c =
    let ls = text_lines c.args.text.now c.args.lines.now in
    let s = c.args.signature.now in
    drafted_read s ls c.in_ok-draft-in-Drafted.draft (sym c.body_kind.ensures ∙ c.in-Drafted.is)
    (ap (λ b. body_of (argument_words s.proto b) ls) (sym c.is_in-is_static.ensures) ∙ c.in_ok-draft-in-Drafted.ensures)
