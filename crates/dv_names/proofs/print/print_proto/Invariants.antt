use Rattle.std.proofs.Common.{◌≡◌, ◌∷◌, take}
use Rattle.std.specs.List.{flat_map}
use Rattle.dv_names.specs.Descriptors.{descriptor}
use Rattle.dv_names.proofs.print.print_proto.Given as goal

abbrev pub invariant-loop-ty : goal.invariant-loop-ty
invariant-loop-ty l = l.bytes.items ≡ 40 ∷ flat_map descriptor (take l.ty-index l.ty-items)
