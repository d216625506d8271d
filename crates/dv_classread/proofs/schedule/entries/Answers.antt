use Rattle.std.proofs.Common.{length, Ok, Err, sym, ap, subst, ◌∙◌}
use Rattle.std.specs.Prelude.{unwrap_or}
use Rattle.std.proofs.lemmas.Result.{err_from_is_err_and}
use Rattle.dv_lex.specs.Lines.{HasTokens, IsLineInside}
use Rattle.dv_coderead.specs.Giving.{Stops}
use Rattle.dv_coderead.specs.Kept.{text_lines}
use Rattle.dv_classread.specs.declared.schedule.LogLine.TheVariants as log
use Rattle.dv_classread.specs.Schedules.{log_from}
use Rattle.dv_classread.proofs.Entries.{and_entries, and_fault, and_last, and_none, and_one, and_stops, behind_first, log_refused, log_says, unfinished}
use Rattle.dv_classread.proofs.Parts.{all_part}
use Rattle.dv_classread.proofs.schedule.entries.Goals as goal

pub loop-rest-init : goal.loop-rest-init
loop-rest-init c =
    let all = log_from c.args.stop c.args.past (text_lines c.args.text.now c.args.lines.now) in
    record {
      inside = c.requires.inside;
      tokens = c.requires.tokens;
      read = sym (ap (λ es. and_entries es all) c.new-entries.ensures.items ∙ and_none all);
    }

pub log_line-requires-clause-tokens : goal.log_line-requires-clause-tokens
log_line-requires-clause-tokens c =
    subst (HasTokens c.args.text.now) (sym c.line-item.is) (c.loop-rest.invariant.tokens 0 c.line-item.result c.in-len1-up.len_at_least)

pub returns-in_err-log_line : goal.returns-in_err-log_line
returns-in_err-log_line c =
    let p = err_from_is_err_and c.from_residual.result c.from_residual.ensures.1 in
    let text = c.args.text.now in
    let e = c.in_err-log_line.field-0.0 in
    let stop = c.args.stop in
    let past = c.args.past in
    let rest = c.loop-rest.rest.now in
    rw (p.1, p.2)
    (subst (Stops e) (sym c.loop-rest.invariant.read)
    (and_stops e c.loop-rest.entries.items (log_from stop past (text_lines text rest))
    (log_refused stop past text rest c.line-item.result c.in-len1-up.len_at_least c.line-item.is e c.in_err-log_line.ensures)))

pub nothing_behind-requires : goal.nothing_behind-requires
nothing_behind-requires c = all_part (IsLineInside c.args.text.now) c.loop-rest.rest.now 1 (length c.loop-rest.rest.now) c.loop-rest.invariant.inside

pub returns-in_err-nothing_behind-in-End : goal.returns-in_err-nothing_behind-in-End
returns-in_err-nothing_behind-in-End c =
    let p = err_from_is_err_and c.from_residual-in_err-nothing_behind-in-End.result c.from_residual-in_err-nothing_behind-in-End.ensures.1 in
    let text = c.args.text.now in
    let e = c.in_err-nothing_behind-in-End.field-0.0 in
    let stop = c.args.stop in
    let past = c.args.past in
    let rest = c.loop-rest.rest.now in
    rw (p.1, p.2)
    (subst (Stops e) (sym c.loop-rest.invariant.read)
    (and_stops e c.loop-rest.entries.items (log_from stop past (text_lines text rest))
    (subst (Stops e) (sym (log_says stop past text rest c.line-item.result c.in-len1-up.len_at_least c.line-item.is log.End (c.in_ok-log_line.ensures ∙ ap Ok c.in-End.is)))
    c.in_err-nothing_behind-in-End.ensures)))

pub returns-in-End : goal.returns-in-End
returns-in-End c =
    let es = c.loop-rest.entries.items in
    c.loop-rest.invariant.read
    ∙ ap (and_entries es) (log_says c.args.stop c.args.past c.args.text.now c.loop-rest.rest.now c.line-item.result c.in-len1-up.len_at_least c.line-item.is log.End (c.in_ok-log_line.ensures ∙ ap Ok c.in-End.is) ∙ c.in_ok-nothing_behind-in-End.ensures)
    ∙ and_last es

pub loop-rest-preserved-in-Nothing : goal.loop-rest-preserved-in-Nothing
loop-rest-preserved-in-Nothing c =
    let text = c.args.text.now in
    let rest = c.loop-rest.rest.now in
    record {
      inside = all_part (IsLineInside text) rest 1 (length rest) c.loop-rest.invariant.inside;
      tokens = all_part (HasTokens text) rest 1 (length rest) c.loop-rest.invariant.tokens;
      read = c.loop-rest.invariant.read
          ∙ ap (and_entries c.loop-rest.entries.items) (log_says c.args.stop c.args.past text rest c.line-item.result c.in-len1-up.len_at_least c.line-item.is log.Nothing (c.in_ok-log_line.ensures ∙ ap Ok c.in-Nothing.is));
    }

pub loop-rest-preserved : goal.loop-rest-preserved
loop-rest-preserved c =
    let text = c.args.text.now in
    let rest = c.loop-rest.rest.now in
    let es = c.loop-rest.entries.items in
    let entry = c.in-One.entry in
    let more = log_from c.args.stop c.args.past (text_lines text (behind_first rest)) in
    record {
      inside = all_part (IsLineInside text) rest 1 (length rest) c.loop-rest.invariant.inside;
      tokens = all_part (HasTokens text) rest 1 (length rest) c.loop-rest.invariant.tokens;
      read = c.loop-rest.invariant.read
          ∙ ap (and_entries es) (log_says c.args.stop c.args.past text rest c.line-item.result c.in-len1-up.len_at_least c.line-item.is (log.One entry) (c.in_ok-log_line.ensures ∙ ap Ok c.in-One.is))
          ∙ and_one es entry more
          ∙ ap (λ xs. and_entries xs more) (sym c.in_ok-push-in-One.ensures.items);
    }

pub returns : goal.returns
returns c =
    let all = log_from c.args.stop c.args.past (text_lines c.args.text.now c.args.lines.now) in
    let es = c.loop-rest.entries.items in
    subst (λ e. Stops e all) (sym c.as_error.ensures)
    (c.loop-rest.invariant.read
    ∙ ap (and_entries es) (unfinished c.args.stop c.args.past c.args.text.now c.loop-rest.rest.now c.in_default.len_below ∙ ap Err (sym (c.unwrap_or.ensures ∙ ap (unwrap_or c.args.stop) c.missing_at.ensures)))
    ∙ and_fault es c.unwrap_or.result)
