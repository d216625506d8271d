use Rattle.std.proofs.Common.{◌≡◌, ◌+◌, ◌∷◌, ◌++◌, ℕ, [], length, ap, sym, ◌∙◌, subst, arith}
use Rattle.std.proofs.lemmas.List.{length_push}
use Rattle.dv_units.proofs.Decoding.{units_fit}
use Rattle.dv_ops.specs.Meaning.{code_of}
use Rattle.dv_plan.specs.Beginnings.{Begin}
use Rattle.dv_plan.proofs.Walking.{AreToCome, on, one_more}
use Rattle.dv_plan.proofs.beginnings.beginnings.Goals as goal

pub loop-at-preserved : goal.loop-at-preserved
loop-at-preserved c =
    let tiles = (code_of c.args.code.now).tiles in
    let units = c.units_of-units.result.now in
    let same = c.units_of-units.ensures.units in
    let fit = units_fit units c.type_inv.units in
    let come = subst (λ us. AreToCome us tiles c.loop-at.here c.loop-at.at) (sym same) c.loop-at.invariant.come in
    let pushed : c.push.new.self.items ≡ c.loop-at.begins.items ++ c.begins_at.result ∷ [] = c.in_ok-push.ensures.items in
    record {
      count = ap length pushed ∙ (length_push c.loop-at.begins.items c.begins_at.result ∙ omega (arith, c.loop-at.invariant.count));
      begin = subst (λ flags. Begin tiles flags (c.loop-at.at + 1)) (sym pushed)
          (one_more tiles c.loop-at.begins.items c.loop-at.at c.begins_at.result c.loop-at.invariant.count c.begins_at.ensures c.loop-at.invariant.begin);
      come = subst (λ us. AreToCome us tiles c.passed-here.result (c.loop-at.at + 1)) same
          (subst (λ (n : ℕ). AreToCome units tiles n (c.loop-at.at + 1)) (sym c.passed-here.ensures.next)
          (on units tiles c.loop-at.here c.loop-at.at fit come c.loop-at-test.true));
      inside = omega (arith, c.passed-here.ensures.inside, ap length same);
    }
