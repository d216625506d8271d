use Rattle.std.proofs.Common.{◌≡◌, ◌+◌, ◌≤◌, false, nat_eq, ◌∙◌, arith, rules}
use Rattle.dv_defs.specs.Tiling.{tiling, tiles_in}
use Rattle.dv_units.proofs.Decoding.{units_fit}
use Rattle.dv_ops.proofs.Passing.{passed_by, passed_over}
use Rattle.dv_ops.proofs.walk.begins_insn_in.Goals as goal

pub overflow_add-here : goal.overflow_add-here
overflow_add-here c =
    let w = passed_by c.args.units.now (tiles_in (tiling c.args.units.now)) c.loop-here.here c.args.at c.in-Some.size (units_fit c.args.units.now c.type_inv.units) c.loop-here.invariant c.loop-here-test.true c.in-Some.ensures in
    let short : c.loop-here.here + c.in-Some.size ≤ 16384 = omega (arith, w.from.within, c.requires.short) in
    search rules

pub loop-here-preserved : goal.loop-here-preserved
loop-here-preserved c =
    passed_by c.args.units.now (tiles_in (tiling c.args.units.now)) c.loop-here.here c.args.at c.in-Some.size
    (units_fit c.args.units.now c.type_inv.units) c.loop-here.invariant c.loop-here-test.true c.in-Some.ensures

pub returns-else-here-at : goal.returns-else-here-at
returns-else-here-at c =
    let apart : nat_eq c.loop-here.here c.args.at ≡ false = grind arith in
    apart ∙ passed_over c.args.units.now (tiles_in (tiling c.args.units.now)) c.loop-here.here c.args.at c.loop-here.invariant (omega arith)
