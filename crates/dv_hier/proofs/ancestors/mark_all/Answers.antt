use Rattle.std.proofs.Common.{◌<◌, length, arith}
use Rattle.std.proofs.lemmas.List.Elements.{All-get_or}
use Rattle.dv_hier.proofs.AncestorLaws.{marked_more}
use Rattle.dv_hier.proofs.ancestors.mark_all.Goals as goal

pub loop-id-preserved : goal.loop-id-preserved
loop-id-preserved c =
    let inside = All-get_or (λ id. id.0 < length c.args.row.now) c.args.classes.now c.loop-id.id-index (record { 0 = 0 }) c.loop-id-test.true c.requires in
    marked_more c.args.classes.now c.loop-id.id-index (record { 0 = 0 }) c.args.row.now c.loop-id.row c.loop-id-test.true
    (omega (arith, inside, c.loop-id.invariant.many)) c.loop-id.invariant
