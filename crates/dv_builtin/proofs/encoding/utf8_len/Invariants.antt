use Rattle.std.proofs.Common.{◌≡◌, ◌≤◌, ◌+◌, ◌-◌, ◌*◌, length, drop}
use Rattle.dv_defs.specs.Texts.{utf8}
use Rattle.dv_builtin.proofs.encoding.utf8_len.Given as goal

-- the bytes that were counted, with those of the units that are left, are all
abbrev pub invariant-loop-at : goal.invariant-loop-at
invariant-loop-at l = record {
  counted : l.len + length (utf8 (drop l.at l.text)) ≡ length (utf8 l.text);
  within : l.at ≤ length l.text;
  few : l.len ≤ 4 * l.at;
}

abbrev pub decreases-loop-at : goal.decreases-loop-at
decreases-loop-at l = length l.text - l.at
