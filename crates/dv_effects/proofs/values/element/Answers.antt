use Rattle.std.proofs.Common.{sym, ◌∙◌}
use Rattle.dv_effects.proofs.Parts.{class_has_room}
use Rattle.dv_effects.proofs.values.element.Goals as goal

pub element_of_class-requires : goal.element_of_class-requires
element_of_class-requires c = class_has_room c.args.array c.in-Class.class c.ranges.array.fits (sym c.part_of.ensures ∙ c.in-Class.is)
