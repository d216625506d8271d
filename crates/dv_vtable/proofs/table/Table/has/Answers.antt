use Rattle.std.proofs.Common.{is_some, ap, ◌∙◌}
use Rattle.std.specs.Prelude.{nat_eq}
use Rattle.dv_hier.proofs.Twice.{some_place}
use Rattle.dv_vtable.specs.Numbered.{numbers_of}
use Rattle.dv_vtable.proofs.table.Table.has.Goals as goal

pub returns : goal.returns
returns c = c.is_some.ensures ∙ (ap is_some c.place_of.ensures ∙ some_place (nat_eq c.args.number) (numbers_of c.args.self.now.entries))
