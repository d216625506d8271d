use Rattle.std.proofs.Common.{◌≡◌, length, map}
use Rattle.dv_optable.specs.Table.{opcode_in}
use Rattle.dv_optable.proofs.row.opcode_among.Given as goal

-- the name's opcode is that among the rows that are left
abbrev pub invariant-loop-rows : goal.invariant-loop-rows
invariant-loop-rows l = opcode_in (map (λ r. (r.1.now, r.0)) l.rows) l.name ≡ opcode_in (map (λ r. (r.1.now, r.0)) l.initial.rows) l.name

abbrev pub decreases-loop-rows : goal.decreases-loop-rows
decreases-loop-rows l = length l.rows
