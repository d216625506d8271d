use Rattle.std.proofs.Common.{◌∷◌, [], length, ap, sym, arith, length-append}
use Rattle.dv_pverify.proofs.Judged.{judged_one}
use Rattle.dv_pverify.proofs.judge.judge_range.Goals as goal

pub loop-method-preserved : goal.loop-method-preserved
loop-method-preserved g c =
    let told = c.in_ok-add.ensures in
    let so-far = c.loop-method.invariant in
    record {
      judged = rw (told.maps, told.faults)
          (judged_one c.args.image.now c.args.from c.loop-method.method _ _ c.in_ok-map.faults.items c.in_ok-map.map (sym so-far.count) so-far.judged c.in_ok-map.ensures);
      count = omega (arith, ap length told.maps, length-append c.loop-method.judged.maps.items (c.in_ok-map.map ∷ []), so-far.count);
    }
