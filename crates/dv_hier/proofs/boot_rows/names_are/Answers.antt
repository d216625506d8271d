use Rattle.std.proofs.Common.{rules, tests, arith, bytes_eq}
use Rattle.std.proofs.lemmas.Iterator.{YieldsList-from_slice, YieldsList-from_zip}
use Rattle.std.proofs.lemmas.Iterator.Search.{all_from_yields_List}
use Rattle.dv_hier.proofs.Rows.{names_are_zip, names_then}
use Rattle.dv_hier.proofs.boot_rows.names_are.Goals as goal

pub returns-then-words-names : goal.returns-then-words-names
returns-then-words-names c =
    names_then c.args.words.now c.args.names.now c.all.result c.if-words-names.true
    (all_from_yields_List (λ p. bytes_eq p.0.now p.1) c.all.new.self _ _ c.all.ensures.ran
    (YieldsList-from_zip (YieldsList-from_slice c.args.words.now (cc)) (YieldsList-from_slice c.args.names.now (cc)))
    (λ x b q k. search (rules, tests)))

pub returns-else-words-names : goal.returns-else-words-names
returns-else-words-names c = rw (names_are_zip c.args.words.now c.args.names.now) (grind arith)
