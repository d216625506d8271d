use Rattle.std.proofs.Common.{◌+◌, ◌∷◌, ◌++◌, Ok, take, drop, sym, ap, ◌∙◌}
use Rattle.dv_coderead.specs.References.{cut_at, found_parts}
use Rattle.dv_coderead.proofs.Cuts.{byte_here, byte_nowhere, byte_past, behind_more, found_here, found_nowhere, rest_range, whole_here}
use Rattle.dv_coderead.proofs.references.cut_at.Goals as goal

pub returns-then-byte-mark-clause-parts : goal.returns-then-byte-mark-clause-parts
returns-then-byte-mark-clause-parts c =
    let w = c.args.word.now in
    let at = c.loop-place.place in
    let here = byte_here c.args.mark w at c.loop-place-test.true c.if-byte-mark.true in
    ap found_parts (found_here (cut_at c.args.mark) w at (drop (at + 1) w) here c.loop-place.invariant)
    ∙ ap (λ l. Ok (take at w, l)) (sym (rest_range w (at + 1)))

pub returns-then-byte-mark-clause-whole : goal.returns-then-byte-mark-clause-whole
returns-then-byte-mark-clause-whole c =
    let w = c.args.word.now in
    let at = c.loop-place.place in
    whole_here w at c.loop-place-test.true c.args.mark c.if-byte-mark.true ∙ ap (λ l. take at w ++ c.args.mark ∷ l) (sym (rest_range w (at + 1)))

pub loop-place-preserved : goal.loop-place-preserved
loop-place-preserved c =
    let w = c.args.word.now in
    let at = c.loop-place.place in
    behind_more (cut_at c.args.mark) w at c.loop-place-test.true (byte_past c.args.mark w at c.loop-place-test.true c.if-byte-mark.false) c.loop-place.invariant

pub returns-clause-parts : goal.returns-clause-parts
returns-clause-parts c =
    ap found_parts (found_nowhere (cut_at c.args.mark) c.args.word.now c.loop-place.place c.loop-place-test.false (byte_nowhere c.args.mark) c.loop-place.invariant)
