use Rattle.std.proofs.Common.{◌≡◌, ◌++◌, drop}
use Rattle.dv_typing.specs.RegTypes.{all_types}
use Rattle.dv_rules.proofs.entry.push_types.Given as goal

abbrev pub invariant-loop-ty : goal.invariant-loop-ty
invariant-loop-ty l = l.initial.types.items ++ all_types l.params ≡ l.types.items ++ all_types (drop l.ty-index l.params)
