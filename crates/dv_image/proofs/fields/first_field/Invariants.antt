use Rattle.std.proofs.Common.{◌≡◌, drop}
use Rattle.dv_defs.specs.First.{first_in}
use Rattle.dv_defs.specs.Order.{numbers}
use Rattle.dv_defs.specs.LookUp.{field_declared}
use Rattle.law_linking.specs.FieldPlaces.{id_of}
use Rattle.dv_image.proofs.fields.first_field.Given as goal

abbrev pub invariant-loop-class : goal.invariant-loop-class
invariant-loop-class l = id_of (first_in (field_declared l.image l.name l.ty) (numbers l.classes)) ≡ id_of (first_in (field_declared l.image l.name l.ty) (numbers (drop l.class-index l.classes)))
