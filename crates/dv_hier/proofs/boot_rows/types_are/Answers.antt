use Rattle.std.proofs.Common.{rules, tests, arith}
use Rattle.std.proofs.lemmas.Iterator.{YieldsList-from_slice, YieldsList-from_zip}
use Rattle.std.proofs.lemmas.Iterator.Search.{all_from_yields_List}
use Rattle.dv_defs.specs.Types.{ty_eq}
use Rattle.dv_defs.specs.Boot.{type_in}
use Rattle.dv_hier.proofs.Rows.{types_are_zip, types_then}
use Rattle.dv_hier.proofs.boot_rows.types_are.Goals as goal

pub returns-then-words-types : goal.returns-then-words-types
returns-then-words-types c =
    types_then c.args.words.now c.args.types.now c.all.result c.if-words-types.true
    (all_from_yields_List (λ p. ty_eq (type_in p.0.now) p.1) c.all.new.self _ _ c.all.ensures.ran
    (YieldsList-from_zip (YieldsList-from_slice c.args.words.now (cc)) (YieldsList-from_slice c.args.types.now (cc)))
    (λ x b q k. search (rules, tests)))

pub returns-else-words-types : goal.returns-else-words-types
returns-else-words-types c = rw (types_are_zip c.args.words.now c.args.types.now) (grind arith)
