use Rattle.std.proofs.Common.{inl, inr, arith}
use Rattle.dv_names.proofs.NamesAt.{word_more, word_stops}
use Rattle.dv_names.proofs.names.word_end.Goals as goal
use Rattle.dv_names.proofs.names.word_end.Goals.{then-at-text-via-then-at-text, then-at-text-via-else-at-text+then-text-at}

pub returns-then-at-text : goal.returns-then-at-text
returns-then-at-text c =
    let i = c.loop-at.invariant in
    word_stops c.args.text.now c.args.start c.loop-at.at c.args.word.now i.past i.inside i.so_far c.loop-at-test.true
    (elim c.then-at-text.branch [
      | then-at-text-via-then-at-text w ↦ (let e = w.if-at-text.true in inl (omega (arith, e)))
      | then-at-text-via-else-at-text+then-text-at w ↦ (let ne = w.if-at-text.false in inr (omega (arith, ne, i.inside), w.if-text-at.true))
    ])

pub loop-at-preserved : goal.loop-at-preserved
loop-at-preserved c =
    let i = c.loop-at.invariant in
    let ne = c.if-at-text.false in
    let lt = c.loop-at-test.true in
    record {
      past = omega arith;
      inside = omega (arith, ne, i.inside);
      few = omega (arith, lt);
      so_far = word_more c.args.text.now c.args.start c.loop-at.at c.args.word.now i.past i.inside i.so_far (omega (arith, ne, i.inside)) lt c.if-text-at.false;
    }
