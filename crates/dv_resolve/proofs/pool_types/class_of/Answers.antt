use Rattle.std.proofs.Common.{ap, sym, ◌∙◌}
use Rattle.std.specs.Prelude.{bytes_eq, position}
use Rattle.law_linking.proofs.Names.{named_is_position}
use Rattle.dv_resolve.proofs.pool_types.class_of.Goals as goal

pub returns : goal.returns
returns c =
    λ image known.
    c.place_of.ensures ∙ (ap (position (bytes_eq c.args.name.now)) known ∙ sym (named_is_position image c.args.name.now))
