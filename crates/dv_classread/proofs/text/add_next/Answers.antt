use Rattle.std.proofs.Common.{◌+◌, Ok, refl, sym, ap, subst, ◌∙◌, arith}
use Rattle.std.proofs.lemmas.List.{get_or_read}
use Rattle.std.proofs.lemmas.Result.{err_from_is_err_and}
use Rattle.dv_lex.specs.Lines.{HasTokens}
use Rattle.dv_coderead.specs.Kept.{kept_from, line_at, no_line, text_line}
use Rattle.dv_coderead.proofs.Drafts.{stops_all}
use Rattle.dv_classread.proofs.Going.{line_read, one_line, one_method, other_line, refused_here, refused_method}
use Rattle.dv_classread.proofs.text.add_next.Goals as goal

pub told-requires-clause-tokens : goal.told-requires-clause-tokens
told-requires-clause-tokens c = subst (HasTokens c.args.text.now) (sym c.index-lines-place.is) (c.requires.tokens c.args.place c.index-lines-place.result c.requires.place)

pub returns-in_err-says : goal.returns-in_err-says
returns-in_err-says c = λ end past is.
    let p = err_from_is_err_and c.from_residual.result c.from_residual.ensures.1 in
    let text = c.args.text.now in
    let lines = c.args.lines.now in
    let old = c.args.program.now in
    let l = line_at text lines c.args.place in
    let ls = kept_from text lines (c.args.place + 1) in
    let line = get_or_read lines c.args.place c.index-lines-place.result c.requires.place c.index-lines-place.is no_line in
    let read = ap (λ k. line_read old.standing (text_line text k)) line in
    rw (p.1, p.2) (stops_all c.in_err-says.field-0.0 (line_read old.standing (text_line text c.index-lines-place.result)) _ (λ s bad. refused_here end past old l ls s (sym read ∙ bad)) c.in_err-says.ensures)

pub returns-in_err-method-in-Method : goal.returns-in_err-method-in-Method
returns-in_err-method-in-Method c = λ end past is.
    let p = err_from_is_err_and c.from_residual-in_err-method-in-Method.result c.from_residual-in_err-method-in-Method.ensures.1 in
    let text = c.args.text.now in
    let lines = c.args.lines.now in
    let old = c.args.program.now in
    let l = line_at text lines c.args.place in
    let ls = kept_from text lines (c.args.place + 1) in
    let line = get_or_read lines c.args.place c.index-lines-place.result c.requires.place c.index-lines-place.is no_line in
    let read = ap (λ k. line_read old.standing (text_line text k)) (sym line) ∙ c.in_ok-says.ensures in
    rw (p.1, p.2) (refused_method end past old l ls c.in-Method.signature (read ∙ ap Ok c.in-Method.is) c.in_err-method-in-Method.field-0.0 (c.in_err-method-in-Method.ensures end past old.standing is))

pub returns-in_ok-add_method-in-Method : goal.returns-in_ok-add_method-in-Method
returns-in_ok-add_method-in-Method c = λ end past is.
    let text = c.args.text.now in
    let lines = c.args.lines.now in
    let old = c.args.program.now in
    let l = line_at text lines c.args.place in
    let ls = kept_from text lines (c.args.place + 1) in
    let line = get_or_read lines c.args.place c.index-lines-place.result c.requires.place c.index-lines-place.is no_line in
    let read = ap (λ k. line_read old.standing (text_line text k)) (sym line) ∙ c.in_ok-says.ensures in
    let told = c.in_ok-method-in-Method.ensures end past old.standing is in
    let adds = c.in_ok-add_method-in-Method.ensures in
    (omega (arith, told.0), told.1, told.2, one_method end past old l ls c.in-Method.signature (read ∙ ap Ok c.in-Method.is) c.in_ok-method-in-Method.method (kept_from text lines c.in_ok-method-in-Method.next) told.3 c.add_method.new.self adds.adds adds.standing)

pub returns-in_ok-add-in_default : goal.returns-in_ok-add-in_default
returns-in_ok-add-in_default c = λ end past is.
    let text = c.args.text.now in
    let lines = c.args.lines.now in
    let old = c.args.program.now in
    let l = line_at text lines c.args.place in
    let ls = kept_from text lines (c.args.place + 1) in
    let line = get_or_read lines c.args.place c.index-lines-place.result c.requires.place c.index-lines-place.is no_line in
    let read = ap (λ k. line_read old.standing (text_line text k)) (sym line) ∙ c.in_ok-says.ensures in
    let adds = c.in_ok-add-in_default.ensures in
    (omega arith, omega (arith, c.requires.place), refl, one_line end past old l ls c.in_ok-says.says read (other_line c.in_ok-says.says c.in_default.not-Method) c.add.new.self adds.adds adds.standing)
