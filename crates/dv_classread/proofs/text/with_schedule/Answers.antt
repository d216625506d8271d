use Rattle.std.proofs.Common.{◌+◌, length, take, sym, ap, subst, ◌∙◌, arith}
use Rattle.std.proofs.lemmas.List.{get_or_read}
use Rattle.std.proofs.lemmas.List.Elements.{All-take}
use Rattle.dv_lex.specs.declared.line.Line.{Line}
use Rattle.dv_lex.specs.Lines.{HasTokens}
use Rattle.dv_coderead.specs.Kept.{no_line, text_lines}
use Rattle.dv_coderead.proofs.Numbered.{front_numbered}
use Rattle.dv_classread.specs.Texts.{EndsBefore}
use Rattle.dv_classread.proofs.Between.{number_at}
use Rattle.dv_classread.proofs.Ends.{ends_front}
use Rattle.dv_classread.proofs.Parts.{all_part}
use Rattle.dv_classread.proofs.text.with_schedule.Goals as goal

pub drafts-requires-clause-tokens : goal.drafts-requires-clause-tokens
drafts-requires-clause-tokens c = All-take (HasTokens c.args.text.now) c.args.place c.args.lines.now c.requires.tokens

pub drafts-requires-clause-numbered : goal.drafts-requires-clause-numbered
drafts-requires-clause-numbered c = front_numbered 1 c.args.place c.args.lines.now c.requires.numbered

pub drafts-requires-clause-behind : goal.drafts-requires-clause-behind
drafts-requires-clause-behind c =
    let text = c.args.text.now in
    let lines = c.args.lines.now in
    let at = c.args.place in
    let line = get_or_read lines at c.index-lines-place.result c.requires.cut.inside c.index-lines-place.is no_line in
    let number = ap (λ (l : Line). l.number) line ∙ number_at text lines c.requires.numbered at c.requires.cut.inside in
    subst (λ n. EndsBefore n (text_lines text (take at lines))) (sym number) (ends_front text lines c.requires.numbered at (omega (arith, c.requires.cut.inside)))

pub read_schedule-requires-clause-tokens : goal.read_schedule-requires-clause-tokens
read_schedule-requires-clause-tokens c = subst (HasTokens c.args.text.now) (sym c.index-lines-place.is) (c.requires.tokens c.args.place c.index-lines-place.result c.requires.cut.inside)

pub read_schedule-requires-clause-all_tokens : goal.read_schedule-requires-clause-all_tokens
read_schedule-requires-clause-all_tokens c = all_part (HasTokens c.args.text.now) c.args.lines.now (c.args.place + 1) (length c.args.lines.now) c.requires.tokens
