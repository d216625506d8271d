use Rattle.std.proofs.Common.{◌≡◌, ◌+◌, ◌<◌, ◌≤◌, ℕ, Ok, length, subst, sym, arith}
use Rattle.std.proofs.lemmas.List.{get_or_read}
use Rattle.std.proofs.lemmas.Result.{err_from_is_err_and}
use Rattle.dv_lex.specs.declared.line.Line.{Line}
use Rattle.dv_lex.specs.Lines.{HasTokens}
use Rattle.dv_coderead.specs.Giving.{on_line, Stops}
use Rattle.dv_coderead.specs.Operands.{after_first, ended}
use Rattle.dv_coderead.specs.Kept.{no_line, text_line}
use Rattle.dv_coderead.specs.Bodies.{HasNext}
use Rattle.dv_classread.proofs.Parts.{all_part}
use Rattle.dv_classread.proofs.Wholes.{refused_body, refused_last, told_whole}
use Rattle.dv_classread.proofs.method.whole_body.Goals as goal

pub method_body-requires-clause-tokens : goal.method_body-requires-clause-tokens
method_body-requires-clause-tokens c = all_part (HasTokens c.args.text.now) c.args.lines.now c.args.from c.in_ok-at.at c.requires.tokens

pub method_body-requires-clause-numbers : goal.method_body-requires-clause-numbers
method_body-requires-clause-numbers c = all_part HasNext c.args.lines.now c.args.from c.in_ok-at.at c.requires.numbers

pub returns-in_err-body : goal.returns-in_err-body
returns-in_err-body c = λ end past s is.
    let p = err_from_is_err_and c.from_residual-in_err-body.result c.from_residual-in_err-body.ensures.1 in
    rw (p.1, p.2) (refused_body c.args.text.now c.args.lines.now c.requires.numbered c.args.from c.args.signature.now c.in_ok-at.at c.in_ok-at.ensures end past s c.in_err-body.field-0.0 c.in_err-body.ensures)

pub returns-in-Err : goal.returns-in-Err
returns-in-Err c = λ end past s is.
    let text = c.args.text.now in
    let lines = c.args.lines.now in
    let line = get_or_read lines c.in_ok-at.at c.index-lines-at.result c.in_ok-at.ensures.inside c.index-lines-at.is no_line in
    let e = c.in-Err.error in
    let stops = subst (λ (l : Line). Stops e (on_line (text_line text l).number (ended (after_first (after_first (text_line text l).pieces))))) line c.in-Err.ensures in
    refused_last text lines c.requires.numbered c.args.from c.args.signature.now c.in_ok-at.at c.in_ok-at.ensures end past s c.in_ok-body.body c.in_ok-body.ensures e stops

pub last_line-requires-clause-tokens : goal.last_line-requires-clause-tokens
last_line-requires-clause-tokens c =
    subst (HasTokens c.args.text.now) (sym c.index-lines-at.is) (c.requires.tokens c.in_ok-at.at c.index-lines-at.result c.in_ok-at.ensures.inside)

pub returns-in_err-at : goal.returns-in_err-at
returns-in_err-at c = λ end past s is.
    let p = err_from_is_err_and c.from_residual.result c.from_residual.ensures.1 in
    rw (p.1, p.2) (c.in_err-at.ensures end past s is)

place_behind : (from at n : ℕ) → from ≤ at → at < n → (from ≤ at + 1) × (at + 1 ≤ n)
place_behind from at n behind inside = (omega arith, omega arith)

pub returns-in-Ok : goal.returns-in-Ok
returns-in-Ok c = λ end past s is.
    let text = c.args.text.now in
    let lines = c.args.lines.now in
    let at = c.in_ok-at.at in
    let line = get_or_read lines at c.index-lines-at.result c.in_ok-at.ensures.inside c.index-lines-at.is no_line in
    let last = subst (λ (l : Line). on_line (text_line text l).number (ended (after_first (after_first (text_line text l).pieces))) ≡ Ok (record {})) line c.in-Ok.ensures in
    let places = place_behind c.args.from at (length lines) c.in_ok-at.ensures.behind c.in_ok-at.ensures.inside in (
      places.0,
      places.1,
      c.in_ok-at.ensures.depth,
      told_whole text lines c.requires.numbered c.args.from c.args.signature.now at c.in_ok-at.ensures end past s c.in_ok-body.body c.in_ok-body.ensures last,
    )
