use Rattle.dv_lex.proofs.line.lines.Goals as goal

pub returns-in-None-clause-tokens : goal.returns-in-None-clause-tokens
returns-in-None-clause-tokens c = rw c.into_vec.ensures c.in_ok-good.ensures.tokens
