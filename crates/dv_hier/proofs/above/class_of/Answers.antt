use Rattle.std.proofs.Common.{ap, sym, ◌∙◌}
use Rattle.std.specs.Prelude.{bytes_eq, position}
use Rattle.law_linking.proofs.Names.{declared_is_position}
use Rattle.dv_hier.proofs.above.class_of.Goals as goal

pub returns-clause-class : goal.returns-clause-class
returns-clause-class c =
    λ cs boot known.
    c.place_of.ensures ∙ (ap (position (bytes_eq c.args.name.now)) known ∙ sym (declared_is_position cs boot c.args.name.now))
