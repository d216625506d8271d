use Rattle.std.proofs.Common.{◌≡◌}
use Rattle.dv_defs.specs.Pools.{walk}
use Rattle.dv_defs.specs.LookUp.{field_declared, field_found}
use Rattle.law_linking.specs.FieldPlaces.{id_of}
use Rattle.dv_image.proofs.FieldWalks.{found_in}
use Rattle.dv_image.proofs.fields.field_of.Given as goal

abbrev pub invariant-loop-left : goal.invariant-loop-left
invariant-loop-left l = id_of (field_found l.image l.fn.class.0 l.name l.ty) ≡ found_in l.image (field_declared l.image l.name l.ty) (walk l.image l.left l.at)

abbrev pub decreases-loop-left : goal.decreases-loop-left
decreases-loop-left l = l.left
