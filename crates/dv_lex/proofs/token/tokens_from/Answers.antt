use Rattle.std.proofs.Common.{◌∙◌, sym, ap, arith}
use Rattle.dv_lex.specs.Lines.{lexemes_in}
use Rattle.dv_lex.proofs.Fronts.{with_front, front_done}
use Rattle.dv_lex.proofs.Steps.{blank_at, hash_at, outside_none}
use Rattle.dv_lex.proofs.token.tokens_from.Goals as goal

pub loop-at-preserved-in-Blank : goal.loop-at-preserved-in-Blank
loop-at-preserved-in-Blank c =
    let e = blank_at c.args.line.now c.loop-at.at c.loop-at-test.true (sym c.byte_class.ensures ∙ c.in-Blank.is) in
    record { inside = omega arith; within = c.loop-at.invariant.within; so_far = ap (with_front (lexemes_in c.args.line.now c.loop-at.tokens.items)) (sym e) ∙ c.loop-at.invariant.so_far }

pub returns-in-Hash-clause-exact : goal.returns-in-Hash-clause-exact
returns-in-Hash-clause-exact c =
    let e = hash_at c.args.line.now c.loop-at.at c.loop-at-test.true (sym c.byte_class.ensures ∙ c.in-Hash.is) in
    front_done _ _ _ e c.loop-at.invariant.so_far

pub returns-clause-exact : goal.returns-clause-exact
returns-clause-exact c = front_done _ _ _ (outside_none c.args.line.now c.loop-at.at c.loop-at-test.false) c.loop-at.invariant.so_far
