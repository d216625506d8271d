use Rattle.std.proofs.Common.{sym}
use Rattle.dv_ops.specs.Meaning.{code_of}
use Rattle.dv_rules.proofs.CodeAsked.{clean_code}
use Rattle.dv_rules.proofs.numbered.coded.Goals as goal

pub returns-clause-own : goal.returns-clause-own
returns-clause-own c = (clean_code c.args.image.now c.args.method.0 c.requires.0 (code_of c.in-Some.code) c.requires.1 (sym c.in-Some.ensures)).0

pub returns-clause-clean : goal.returns-clause-clean
returns-clause-clean c = (clean_code c.args.image.now c.args.method.0 c.requires.0 (code_of c.in-Some.code) c.requires.1 (sym c.in-Some.ensures)).1
