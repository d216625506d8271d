use Rattle.std.proofs.Common.{[], Result, sym, ap, subst, ◌∙◌}
use Rattle.dv_defs.specs.Body.{BodyValue}
use Rattle.dv_lex.specs.declared.line.Stop.{Stop}
use Rattle.dv_lex.specs.Lines.{HasTokens}
use Rattle.dv_coderead.specs.Giving.{GivesLines}
use Rattle.dv_coderead.specs.RawBodies.{raw_finished}
use Rattle.dv_coderead.specs.RawDrafting.{raw_with}
use Rattle.dv_coderead.proofs.RawReading.{at_end, at_start, few_before, line_stops, one_more, unfinished}
use Rattle.dv_coderead.proofs.raw_body.read_raw.Goals as goal

pub loop-place-init : goal.loop-place-init
loop-place-init c =
    let new = c.new-drafting.ensures in
    at_start c.args.text.now c.args.lines.now c.new-drafting.result new.place new.registers new.pools new.units new.handlers new.drafting

pub read_line-requires-clause-tokens : goal.read_line-requires-clause-tokens
read_line-requires-clause-tokens c =
    let line = c.index-lines-place.result in
    subst (HasTokens c.args.text.now) (sym c.index-lines-place.is) (c.requires.tokens c.in-Line.place line c.in-Line.ensures.inside)

pub read_line-requires-clause-few : goal.read_line-requires-clause-few
read_line-requires-clause-few c =
    let is = c.loop-place.invariant.drafting in
    few_before c.loop-place.drafting.place c.loop-place.drafting.units.items is.units is.short

pub returns-in-Err : goal.returns-in-Err
returns-in-Err c =
    line_stops c.args.text.now c.args.lines.now c.loop-place.at c.in-Line.place c.loop-place.drafting c.in-Line.head c.loop-place.invariant c.in-Line.ensures
    c.index-lines-place.result c.in-Err.error c.index-lines-place.is c.in-Err.ensures

pub loop-place-preserved : goal.loop-place-preserved
loop-place-preserved c =
    let adds = c.in-Ok.ensures in
    one_more c.args.text.now c.args.lines.now c.loop-place.at c.in-Line.place c.loop-place.drafting c.in-Line.head c.loop-place.invariant c.in-Line.ensures
    c.index-lines-place.result adds.says _ c.index-lines-place.is adds.is adds.drafting adds.place adds.body

pub returns-in-End : goal.returns-in-End
returns-in-End c =
    let text = c.args.text.now in
    let d = c.loop-place.drafting in
    let ended = ap (λ past. raw_finished past 0 d.place (raw_with d [])) (c.number_behind.ensures text)
    ∙ sym (at_end text c.args.lines.now c.loop-place.at d c.loop-place.invariant c.in-End.ensures.0 c.in-End.ensures.1) in
    subst (λ (r : Result BodyValue Stop). GivesLines (λ x. x) c.finish.result r) ended c.finish.ensures

pub returns-in-Unfinished : goal.returns-in-Unfinished
returns-in-Unfinished c =
    let text = c.args.text.now in
    let d = c.loop-place.drafting in
    rw (c.missing.ensures, c.number_behind-in-Unfinished.ensures text)
    (unfinished text c.args.lines.now c.loop-place.at d c.loop-place.invariant c.in-Unfinished.ensures.0 c.in-Unfinished.ensures.1)
