use Rattle.std.proofs.Common.{◌++◌, ap, ◌∙◌}
use Rattle.dv_coderead.specs.declared.raw_line.RawPlace.TheVariants as place
use Rattle.dv_coderead.proofs.RawAdding.{adds_units}
use Rattle.dv_coderead.proofs.raw_body.RawDrafting.add_units.Goals as goal

pub returns-clause-with : goal.returns-clause-with
returns-clause-with c =
    let d = c.args.self.now in
    let more = c.in_ok-extend_from_slice.ensures.items ∙ ap (λ l. d.units.items ++ l) c.items.ensures in
    adds_units d c.args.units c.extend_from_slice.new.self (place.Units c.len.result) more
