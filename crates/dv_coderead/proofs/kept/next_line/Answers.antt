use Rattle.std.proofs.Common.{◌+◌, sym, subst, ◌∙◌, arith}
use Rattle.dv_coderead.proofs.Passed.{IsPassed, depth_left, head_at, none_left, one_counts, one_passed}
use Rattle.dv_coderead.proofs.kept.next_line.Goals as goal

pub returns-then-counts : goal.returns-then-counts
returns-then-counts c =
    let text = c.args.text.now in
    let lines = c.args.lines.now in
    let at = c.loop-at.at in
    let lt = c.loop-at-test.true in
    let head = head_at text lines at lt c.index-lines-at.result _ _ c.items.ensures c.head_of-head.ensures in
    one_counts text lines _ _ at c.loop-at.invariant lt _ head (sym c.counts.ensures ∙ c.if-counts.true)

pub loop-at-preserved : goal.loop-at-preserved
loop-at-preserved c =
    let text = c.args.text.now in
    let lines = c.args.lines.now in
    let at = c.loop-at.at in
    let lt = c.loop-at-test.true in
    let head = head_at text lines at lt c.index-lines-at.result _ _ c.items.ensures c.head_of-head.ensures in
    subst (λ n. IsPassed text lines c.args.from n (at + 1)) (sym c.depth_behind-depth.ensures)
    (one_passed text lines _ _ at c.loop-at.invariant lt _ head (sym c.counts.ensures ∙ c.if-counts.false))

pub returns-then-depth-eq0 : goal.returns-then-depth-eq0
returns-then-depth-eq0 c =
    let is = c.loop-at.invariant in
    (none_left _ _ _ _ _ is c.loop-at-test.false, depth_left _ _ _ _ _ is c.loop-at-test.false ∙ c.if-depth-eq0.true)

pub returns-else-depth-eq0 : goal.returns-else-depth-eq0
returns-else-depth-eq0 c =
    let is = c.loop-at.invariant in
    (none_left _ _ _ _ _ is c.loop-at-test.false, omega (arith, depth_left _ _ _ _ _ is c.loop-at-test.false))
