use Rattle.std.proofs.Common.{arith, map}
use Rattle.std.proofs.lemmas.List.{map_push}
use Rattle.std.proofs.lemmas.List.Elements.{All-push}
use Rattle.dv_lex.specs.declared.line.Line.{Line}
use Rattle.dv_lex.specs.Lines.{read_in, HasTokens, IsLineInside}
use Rattle.dv_lex.proofs.Rows.{line_more, line_fails, lines_done, no_rows}
use Rattle.dv_lex.proofs.line.good_lines.Goals as goal

pub returns-in-Err-clause-exact : goal.returns-in-Err-clause-exact
returns-in-Err-clause-exact c =
    let l = c.loop-start in
    let found = rw c.in-Err.is at c.in_ok-tokens.ensures.exact in
    rw c.of-lines.ensures (line_fails (map (read_in c.args.text.now) l.lines.items) l.number l.start _ _ _ c.in-Err.kind _ c.line_bounds-end.ensures.line found l.invariant.so_far)

pub loop-start-preserved : goal.loop-start-preserved
loop-start-preserved c =
    let l = c.loop-start in
    let text = c.args.text.now in
    let found = rw c.in-Ok.is at c.in_ok-tokens.ensures.exact in
    let within = rw c.in-Ok.is at c.in_ok-tokens.ensures.within in
    let are_tokens = rw c.in-Ok.is at c.in_ok-tokens.ensures.tokens in
    let pushed = c.in_ok-push-in-Ok.ensures.items in
    let line : Line = record { number = l.number; tokens = c.of-tokens.result } in
    let so_far = line_more (map (read_in text) l.lines.items) l.number l.start _ _ _ _ _ c.line_bounds-end.ensures.line found l.invariant.so_far in
    record {
      inside = c.line_bounds-end.ensures.inside.3;
      count = omega (arith, c.line_bounds-end.ensures.inside);
      within = rw pushed (All-push (IsLineInside text) l.lines.items line l.invariant.within (rw c.of-tokens.ensures within));
      tokens = rw pushed (All-push (HasTokens text) l.lines.items line l.invariant.tokens (rw c.of-tokens.ensures are_tokens));
      so_far = rw (pushed, map_push (read_in text) l.lines.items line, c.of-tokens.ensures) so_far;
    }

pub returns-clause-exact : goal.returns-clause-exact
returns-clause-exact c =
    let l = c.loop-start in
    rw c.of-lines-2.ensures (lines_done (map (read_in c.args.text.now) l.lines.items) _ _ (no_rows l.number l.start l.start c.args.text.now c.loop-start-test.false) l.invariant.so_far)

pub returns-in-Err-clause-tokens : goal.returns-in-Err-clause-tokens
returns-in-Err-clause-tokens c = rw c.of-lines.ensures c.loop-start.invariant.tokens

pub returns-clause-tokens : goal.returns-clause-tokens
returns-clause-tokens c = rw c.of-lines-2.ensures c.loop-start.invariant.tokens
