use Rattle.std.proofs.Common.{sym, ◌∙◌}
use Rattle.dv_vtable.proofs.SourceLaws.{itself_found}
use Rattle.dv_vtable.proofs.sources.Sources.itself.Goals as goal

pub returns-in-Some : goal.returns-in-Some
returns-in-Some c = λ image of.
    let m = c.in-Some.method in
    itself_found image c.args.id m.class m.def.now (c.in-Some.ensures.method image of) (sym c.is_in.ensures ∙ c.if-not-is_in.true)
