use Rattle.std.proofs.Common.{rules, tests, bytes_eq}
use Rattle.std.proofs.lemmas.Iterator.{YieldsList-from_slice}
use Rattle.std.proofs.lemmas.Iterator.Search.{find_from_yields_List}
use Rattle.dv_defs.specs.Boot.{word}
use Rattle.dv_hier.proofs.Rows.{row_found, row_not_found}
use Rattle.dv_hier.proofs.boot.has_row.Goals as goal

pub returns-in-Some : goal.returns-in-Some
returns-in-Some c =
    row_found c.args.table.now.fields.items c.args.table.now.methods.items c.args.classes.now c.args.row.now c.find.result c.in-Some.class c.class_is.result
    (find_from_yields_List (λ x. bytes_eq x.name (word c.args.row.now 0)) c.find.new.self _ c.find.result c.find.ensures.ran (YieldsList-from_slice c.args.classes.now (cc)) (λ x b q k. search (rules, tests)))
    c.in-Some.is
    c.class_is.ensures

pub returns-in-None : goal.returns-in-None
returns-in-None c =
    row_not_found c.args.table.now.fields.items c.args.table.now.methods.items c.args.classes.now c.args.row.now c.find.result
    (find_from_yields_List (λ x. bytes_eq x.name (word c.args.row.now 0)) c.find.new.self _ c.find.result c.find.ensures.ran (YieldsList-from_slice c.args.classes.now (cc)) (λ x b q k. search (rules, tests)))
    c.in-None.is
