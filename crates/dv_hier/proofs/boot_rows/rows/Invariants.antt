use Rattle.std.proofs.Common.{◌≡◌, map, take}
use Rattle.dv_defs.specs.Boot.{words}
use Rattle.dv_hier.proofs.boot_rows.rows.Given as goal

abbrev pub invariant-loop-line : goal.invariant-loop-line
invariant-loop-line l = l.rows.items ≡ map words (map (λ x. x.now) (take l.line-index l.line-items))
