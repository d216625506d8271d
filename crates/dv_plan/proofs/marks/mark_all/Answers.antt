use Rattle.std.proofs.Common.{◌≡◌, ◌+◌, ◌∙◌, ℕ, length, List, Option, None, sym, subst, arith}
use Rattle.std.proofs.lemmas.List.{get_or_default}
use Rattle.dv_plan.specs.declared.marks.Mark.{Mark}
use Rattle.dv_plan.specs.declared.ways.Ways.{Ways}
use Rattle.dv_plan.specs.Marks.{AreMarks}
use Rattle.dv_plan.specs.Ways.{HasWays}
use Rattle.dv_plan.proofs.Marking.{none_seen, one_more}
use Rattle.dv_plan.proofs.marks.mark_all.Goals as goal

pub loop-at-init : goal.loop-at-init
loop-at-init c image code clean are = subst (λ (ms : List Mark). AreMarks image code 0 ms) (sym c.requires) (none_seen image code (length c.args.ways.now))

pub loop-at-preserved : goal.loop-at-preserved
loop-at-preserved c image code clean are =
    let o = c.index-ways-at.result in
    let has : HasWays image code c.loop-at.at o =
    subst (λ (p : Option Ways). HasWays image code c.loop-at.at p) (get_or_default c.args.ways.now c.loop-at.at None o c.loop-at-test.true ∙ sym c.index-ways-at.is) (are.each c.loop-at.at c.loop-at-test.true) in
    subst (λ (ms : List Mark). AreMarks image code (c.loop-at.at + 1) ms) (sym c.mark_from.ensures)
    (one_more image code c.loop-at.at c.loop-at.marks.items o has (c.loop-at.invariant image code clean are))

pub returns : goal.returns
returns c image code clean are =
    let same : c.loop-at.at ≡ length c.args.ways.now = omega (arith, c.loop-at-test.false, c.loop-at.auto.at-end) in
    subst (λ (n : ℕ). AreMarks image code n c.loop-at.marks.items) same (c.loop-at.invariant image code clean are)
