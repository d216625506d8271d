use Rattle.std.proofs.Common.{[], Result, sym, ap, subst, ◌∙◌, arith}
use Rattle.std.proofs.lemmas.List.{get_or_read}
use Rattle.dv_draft.specs.Draft.{DraftValue}
use Rattle.dv_lex.specs.declared.line.Line.{Line}
use Rattle.dv_lex.specs.declared.line.Stop.{Stop}
use Rattle.dv_lex.specs.Lines.{HasTokens}
use Rattle.dv_coderead.specs.Giving.{GivesLines}
use Rattle.dv_coderead.specs.Kept.{no_line, text_line, text_lines}
use Rattle.dv_coderead.specs.Bodies.{body_of}
use Rattle.dv_coderead.specs.Drafting.{Adds, finished_with}
use Rattle.dv_coderead.proofs.Drafts.{from_end, from_first, from_unfinished, line_read, one_more, refused_here, stops_all}
use Rattle.dv_coderead.proofs.body.read_body.Goals as goal

pub loop-place-init : goal.loop-place-init
loop-place-init c =
    let new = c.new-drafting.ensures in
    record {
      place = omega arith;
      drafting = new.drafting;
      same = from_first c.argument_words-arguments.result c.args.text.now c.args.lines.now c.new-drafting.result new.context new.items new.catches;
    }

pub read_line-requires-clause-tokens : goal.read_line-requires-clause-tokens
read_line-requires-clause-tokens c =
    let line = c.index-lines-place.result in
    subst (HasTokens c.args.text.now) (sym c.index-lines-place.is) (c.requires.tokens c.in-Line.place line c.in-Line.ensures.inside)

pub returns-in-Err : goal.returns-in-Err
returns-in-Err c =
    let text = c.args.text.now in
    let lines = c.args.lines.now in
    let n = c.argument_words-arguments.result in
    let d = c.loop-place.drafting in
    let line = get_or_read lines c.in-Line.place c.index-lines-place.result c.in-Line.ensures.inside c.index-lines-place.is no_line in
    let whole = c.loop-place.invariant.same ∙ ap (λ n. body_of n (text_lines text lines)) c.argument_words-arguments.ensures in
    let read = line_read n d.context (text_line text c.index-lines-place.result) in
    stops_all c.in-Err.error read _
    (λ s is. sym whole ∙ refused_here n text lines c.loop-place.at c.in-Line.place c.in-Line.head c.in-Line.ensures d s (ap (λ l. line_read n d.context (text_line text l)) (sym line) ∙ is))
    c.in-Err.ensures

pub loop-place-preserved : goal.loop-place-preserved
loop-place-preserved c =
    let text = c.args.text.now in
    let lines = c.args.lines.now in
    let n = c.argument_words-arguments.result in
    let d = c.loop-place.drafting in
    let takes = c.in-Ok.ensures in
    let new = c.read_line.new.drafting in
    let line = get_or_read lines c.in-Line.place c.index-lines-place.result c.in-Line.ensures.inside c.index-lines-place.is no_line in
    let read = ap (λ l. line_read n d.context (text_line text l)) (sym line) ∙ takes.is in
    let adds = subst (λ (l : Line). Adds d l.number takes.says new) line takes.adds in
    record {
      place = omega (arith, c.in-Line.ensures.inside);
      drafting = adds.drafting;
      same = sym (one_more n text lines c.loop-place.at c.in-Line.place c.in-Line.head c.in-Line.ensures d new takes.says read adds) ∙ c.loop-place.invariant.same;
    }

pub returns-in-End : goal.returns-in-End
returns-in-End c =
    let text = c.args.text.now in
    let lines = c.args.lines.now in
    let n = c.argument_words-arguments.result in
    let d = c.loop-place.drafting in
    let whole = c.loop-place.invariant.same ∙ ap (λ n. body_of n (text_lines text lines)) c.argument_words-arguments.ensures in
    let ended = ap (λ past. finished_with past 0 d []) (c.number_behind.ensures text) ∙ sym (from_end n text lines c.loop-place.at d c.in-End.ensures.0 c.in-End.ensures.1) ∙ whole in
    subst (λ (r : Result DraftValue Stop). GivesLines (λ x. x) c.finish.result r) ended c.finish.ensures

pub returns-in-Unfinished : goal.returns-in-Unfinished
returns-in-Unfinished c =
    let text = c.args.text.now in
    let lines = c.args.lines.now in
    let n = c.argument_words-arguments.result in
    let d = c.loop-place.drafting in
    let whole = c.loop-place.invariant.same ∙ ap (λ n. body_of n (text_lines text lines)) c.argument_words-arguments.ensures in
    rw (c.missing.ensures, c.number_behind-in-Unfinished.ensures text)
    (sym whole ∙ from_unfinished n text lines c.loop-place.at d c.in-Unfinished.ensures.0 c.in-Unfinished.ensures.1)
