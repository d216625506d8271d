use Rattle.std.proofs.lemmas.Grind.{common_steps}
use Rattle.std.proofs.Common.{◌≡◌, ◌+◌, Ok, get_or, take, drop, sym, ap, ◌∙◌, arith}
use Rattle.dv_coderead.specs.References.{cut_at_arrow, found_parts, with_byte}
use Rattle.dv_coderead.proofs.Cuts.{arrow_here, arrow_nowhere, behind_more, dash_last, found_here, found_nowhere, no_dash, no_tip, rest_range}
use Rattle.dv_coderead.proofs.references.cut_at_arrow.Goals as goal
use Rattle.dv_coderead.proofs.references.cut_at_arrow.Goals.{else-byte-eq45-via-then-byte-eq45+then-place-word+else-word-place-eq62, else-byte-eq45-via-then-byte-eq45+else-place-word, else-byte-eq45-via-else-byte-eq45}

pub returns-then-word-place-eq62 : goal.returns-then-word-place-eq62
returns-then-word-place-eq62 c =
    let w = c.args.word.now in
    let at = c.loop-place.place in
    let here = arrow_here w at c.loop-place-test.true c.if-place-word.true c.if-byte-eq45.true c.if-word-place-eq62.true in
    ap found_parts (found_here cut_at_arrow w at (drop (at + 2) w) here c.loop-place.invariant) ∙ ap (λ l. Ok (take at w, l)) (sym (rest_range w (at + 2)))

pub loop-place-preserved : goal.loop-place-preserved
loop-place-preserved c =
    let w = c.args.word.now in
    let at = c.loop-place.place in
    let lt = c.loop-place-test.true in
    let past : cut_at_arrow (drop at w) ≡ with_byte (get_or w at 0) (cut_at_arrow (drop (at + 1) w)) =
    elim c.else-byte-eq45.branch [
      | else-byte-eq45-via-then-byte-eq45+then-place-word+else-word-place-eq62 b ↦ no_tip w at lt b.if-place-word.true b.if-word-place-eq62.false
      | else-byte-eq45-via-then-byte-eq45+else-place-word b ↦ dash_last w at lt b.if-place-word.false
      | else-byte-eq45-via-else-byte-eq45 b ↦ no_dash w at lt b.if-byte-eq45.false
    ] in
    behind_more cut_at_arrow w at lt past c.loop-place.invariant

pub returns : goal.returns
returns c = ap found_parts (found_nowhere cut_at_arrow c.args.word.now c.loop-place.place c.loop-place-test.false arrow_nowhere c.loop-place.invariant)

pub slice_bounds-result-end : goal.slice_bounds-result-end
slice_bounds-result-end c = grind (arith, common_steps)
