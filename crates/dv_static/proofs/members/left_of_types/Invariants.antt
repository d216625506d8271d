use Rattle.std.proofs.Common.{◌≡◌, drop}
use Rattle.dv_defs.specs.Types.{words_of_all}
use Rattle.dv_static.specs.Words.{left_beside}
use Rattle.dv_static.proofs.members.left_of_types.Given as goal

abbrev pub invariant-loop-ty : goal.invariant-loop-ty
invariant-loop-ty l = left_beside l.room (words_of_all l.types) ≡ left_beside l.left (words_of_all (drop l.ty-index l.types))
