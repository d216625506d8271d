use Rattle.std.proofs.Common.{◌++◌, Some, ap, ◌∙◌}
use Rattle.std.specs.List.{flat_map}
use Rattle.dv_coderead.specs.Bodies.{element_bytes}
use Rattle.dv_coderead.proofs.Adding.{adds_elements, on_push}
use Rattle.dv_coderead.proofs.drafting.Drafting.add_elements.Goals as goal

pub add_bytes-requires : goal.add_bytes-requires
add_bytes-requires c =
    let inside = c.in-Some-Data.is ∙ ap Some (rw c.in-Some-Data.is at c.in-Some-Data.field-0-is) in
    rw inside at c.requires.drafting.width

pub returns : goal.returns
returns c =
    let d = c.args.self.now in
    let width = c.in-Some-Data.width in
    let inside = c.in-Some-Data.is ∙ ap Some (rw c.in-Some-Data.is at c.in-Some-Data.field-0-is) in
    on_push c.add_bytes.result c.add_bytes.ensures
    (λ more n. adds_elements d n c.requires.drafting width c.args.elements c.add_bytes.new.bytes inside (more ∙ ap (λ zs. d.open.bytes.items ++ flat_map (element_bytes width) zs) c.items.ensures))
