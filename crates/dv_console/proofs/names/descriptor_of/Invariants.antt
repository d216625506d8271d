use Rattle.std.proofs.Common.{◌≡◌, take, ◌∷◌, map, if◌then◌else◌}
use Rattle.dv_console.specs.Words.{is_dot}
use Rattle.dv_console.proofs.names.descriptor_of.Given as goal

abbrev pub invariant-loop-b : goal.invariant-loop-b
invariant-loop-b l = l.descriptor.items ≡ 76 ∷ map (λ b. if is_dot b then 47 else b) (take l.b-index l.name)
