use Rattle.std.proofs.Common.{Some, None}
use Rattle.std.proofs.lemmas.Bool.Decides.{Decides-eqb}
use Rattle.std.proofs.lemmas.Slice.Eq.{strip_prefix_is}
use Rattle.dv_lex.proofs.numbers.strip.Goals as goal

pub returns-in-Some-clause-whole : goal.returns-in-Some-clause-whole
returns-in-Some-clause-whole c = strip_prefix_is Decides-eqb c.args.text.now c.args.prefix.now (Some c.in-Some.rest) c.in-Some.ensures.cases

pub returns-in-None-clause-there : goal.returns-in-None-clause-there
returns-in-None-clause-there c rest e = absurd (strip_prefix_is Decides-eqb c.args.text.now c.args.prefix.now None c.in-None.ensures.cases rest e)
