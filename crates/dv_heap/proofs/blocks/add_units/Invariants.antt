use Rattle.std.proofs.Common.{◌≡◌, ◌+◌, ◌≤◌, ◌++◌, take, length, vec_len}
use Rattle.std.specs.Vec.{vec_capacity}
use Rattle.dv_heap.proofs.blocks.add_units.Given as goal

abbrev pub invariant-loop-unit : goal.invariant-loop-unit
invariant-loop-unit l =
    (l.words.items ≡ l.initial.words.items ++ take l.unit-index l.units)
    × (vec_len l.words ≡ vec_len l.initial.words + l.unit-index)
    × (vec_len l.initial.words + length l.units ≤ vec_capacity l.words)
