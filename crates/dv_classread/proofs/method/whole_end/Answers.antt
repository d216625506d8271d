use Rattle.std.proofs.Common.{length, slice_range, sym, ap, subst, ◌∙◌, arith}
use Rattle.std.proofs.lemmas.List.{get_or_read}
use Rattle.dv_lex.specs.declared.line.Line.{Line}
use Rattle.dv_lex.specs.declared.line.Stop.{Stop}
use Rattle.dv_lex.specs.Lines.{HasTokens, IsLineInside}
use Rattle.dv_coderead.specs.Kept.{no_line, text_lines}
use Rattle.dv_coderead.specs.Bodies.{HasNext}
use Rattle.dv_classread.specs.Texts.{EndsBefore}
use Rattle.dv_classread.proofs.Between.{number_at}
use Rattle.dv_classread.proofs.Parts.{all_part}
use Rattle.dv_classread.proofs.Ends.{ends_at, ends_behind}
use Rattle.dv_classread.proofs.method.whole_end.Goals as goal

pub left-requires-clause-inside : goal.left-requires-clause-inside
left-requires-clause-inside c = all_part (IsLineInside c.args.text.now) c.args.lines.now c.args.from c.in-Left.at c.requires.inside

pub left-requires-clause-tokens : goal.left-requires-clause-tokens
left-requires-clause-tokens c = all_part (HasTokens c.args.text.now) c.args.lines.now c.args.from c.in-Left.at c.requires.tokens

pub left-requires-clause-numbers : goal.left-requires-clause-numbers
left-requires-clause-numbers c = all_part HasNext c.args.lines.now c.args.from c.in-Left.at c.requires.numbers

pub left-requires-clause-behind : goal.left-requires-clause-behind
left-requires-clause-behind c =
    let text = c.args.text.now in
    let lines = c.args.lines.now in
    let at = c.in-Left.at in
    let line = get_or_read lines at c.index-lines-at.result c.in-Left.ensures.inside c.index-lines-at.is no_line in
    let number = ap (λ (l : Line). l.number) line ∙ number_at text lines c.requires.numbered at c.in-Left.ensures.inside in
    let past = ap (λ (e : Stop). e.line) c.missing_at-fault.ensures ∙ ap (λ (l : Line). l.number) (sym c.index-lines-at.is) ∙ number in
    subst (λ n. EndsBefore n (text_lines text (slice_range lines c.args.from at))) (sym past) (ends_at text lines c.requires.numbered c.args.from at c.in-Left.ensures.behind (omega (arith, c.in-Left.ensures.inside)))

pub left-requires-in-CutOff-clause-inside : goal.left-requires-in-CutOff-clause-inside
left-requires-in-CutOff-clause-inside c = all_part (IsLineInside c.args.text.now) c.args.lines.now c.args.from (length c.args.lines.now) c.requires.inside

pub left-requires-in-CutOff-clause-tokens : goal.left-requires-in-CutOff-clause-tokens
left-requires-in-CutOff-clause-tokens c = all_part (HasTokens c.args.text.now) c.args.lines.now c.args.from (length c.args.lines.now) c.requires.tokens

pub left-requires-in-CutOff-clause-behind : goal.left-requires-in-CutOff-clause-behind
left-requires-in-CutOff-clause-behind c = ends_behind c.args.text.now c.args.fault.line c.args.from c.args.lines.now c.requires.numbered c.requires.place c.requires.behind
