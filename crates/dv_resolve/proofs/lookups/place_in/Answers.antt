use Rattle.std.proofs.Common.{ap, sym, ◌∙◌}
use Rattle.std.specs.Prelude.{bytes_eq, option_and_then, position}
use Rattle.dv_defs.specs.declared.names.Base.{Base}
use Rattle.dv_defs.specs.Pools.{class_named}
use Rattle.dv_defs.specs.Types.{class_in}
use Rattle.law_linking.proofs.Names.{named_is_position}
use Rattle.dv_resolve.proofs.lookups.place_in.Goals as goal

pub returns-in-Class : goal.returns-in-Class
returns-in-Class c = λ image knows.
    let name = c.in-Class.name in
    c.place_of.ensures ∙
    (ap (position (bytes_eq name)) knows.names ∙
    (sym (named_is_position image name) ∙ ap (λ (b : Base). option_and_then (class_named image) (class_in b)) (sym c.in-Class.is)))
