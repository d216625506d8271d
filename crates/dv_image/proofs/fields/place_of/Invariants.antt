use Rattle.std.proofs.Common.{◌≡◌, drop}
use Rattle.law_linking.specs.FieldPlaces.{is_like, place_from}
use Rattle.dv_image.proofs.fields.place_of.Given as goal

abbrev pub invariant-loop-i : goal.invariant-loop-i
invariant-loop-i l = place_from (is_like l.name l.ty) l.fields 0 ≡ place_from (is_like l.name l.ty) (drop l.i l.fields) l.i
