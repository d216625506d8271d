use Rattle.std.proofs.Common.{◌≡◌, ◌≤◌, ◌+◌, ◌-◌, ◌++◌, length, drop, vec_len, vec_capacity}
use Rattle.dv_defs.specs.Texts.{utf8}
use Rattle.dv_builtin.proofs.encoding.add_utf8.Given as goal

-- what was added, with the bytes of the units that are left, is the bytes of all the units, and there is room for these
abbrev pub invariant-loop-at : goal.invariant-loop-at
invariant-loop-at l = record {
  so_far : l.output.items ++ utf8 (drop l.at l.text) ≡ l.fn.output.items ++ utf8 l.text;
  room : vec_len l.output + length (utf8 (drop l.at l.text)) ≤ vec_capacity l.output;
}

abbrev pub decreases-loop-at : goal.decreases-loop-at
decreases-loop-at l = length l.text - l.at
