use Rattle.std.proofs.Common.{ap, sym, ◌∙◌}
use Rattle.std.specs.Prelude.{bytes_eq, position}
use Rattle.dv_defs.specs.Images.{Image}
use Rattle.dv_defs.specs.Numbering.{names_of}
use Rattle.law_linking.proofs.Names.{named_is_position}
use Rattle.dv_resolve.proofs.main_method.class_of.Goals as goal

pub returns : goal.returns
returns c =
    let name = c.args.name.now in
    c.place_of.ensures ∙
    (ap (position (bytes_eq name)) c.image.invariant.1.names_are ∙
    (ap (λ (i : Image). position (bytes_eq name) (names_of i.classes)) c.image.view_is ∙ sym (named_is_position c.args.image.now name)))
