use Rattle.std.proofs.Common.{◌<◌, length, inl, inr, arith}
use Rattle.std.proofs.lemmas.Result.{err_from_is_err_and}
use Rattle.dv_names.proofs.Types.{refuses_same}
use Rattle.dv_names.proofs.NamesAt.{first_name, next_name, slash_skip, last_name, names_stop}
use Rattle.dv_names.proofs.names.class_end.Goals as goal
use Rattle.dv_names.proofs.names.class_end.Goals.{then-loop-end-test+else-text-end-eq47, else-loop-end-test, then-end-text-via-then-end-text, then-end-text-via-else-end-text+then-text-end-ne59}

pub loop-end-init : goal.loop-end-init
loop-end-init c =
    let e = c.in_ok-end.ensures in
    record { past = e.0.0; inside = e.0.1; names = first_name c.args.text.now c.args.start c.in_ok-end.end (e.1, e.2) }

pub returns-in_err-end-2 : goal.returns-in_err-end-2
returns-in_err-end-2 c =
    let i = c.loop-end.invariant in
    let p = err_from_is_err_and c.from_residual-in_err-end-2.result c.from_residual-in_err-end-2.ensures.1 in
    rw (p.1, p.2) (λ q. refuses_same c.in_err-end-2.field-0.0 _ _ (slash_skip c.args.text.now c.args.start c.loop-end.end c.loop-end-test.true c.if-text-end-eq47.true i.names q) (c.in_err-end-2.ensures q))

pub loop-end-preserved : goal.loop-end-preserved
loop-end-preserved c =
    let i = c.loop-end.invariant in
    let e = c.in_ok-end-2.ensures in
    record {
      past = omega (arith, i.past, e.0.0);
      inside = e.0.1;
      names = next_name c.args.text.now c.args.start c.loop-end.end c.in_ok-end-2.end i.past e.0.0 e.0.1 c.if-text-end-eq47.true i.names (e.1, e.2);
    }

pub returns-then-end-text : goal.returns-then-end-text
returns-then-end-text c =
    let i = c.loop-end.invariant in
    names_stop c.args.text.now c.args.start c.loop-end.end i.names
    (elim c.loop-end-test.branch [
      | then-loop-end-test+else-text-end-eq47 w ↦ (λ lt is. w.if-text-end-eq47.false is)
      | else-loop-end-test w ↦ (let le = w.loop-end-test.false in λ lt. absurd (omega (arith, le, lt)))
    ])
    (elim c.then-end-text.branch [
      | then-end-text-via-then-end-text w ↦ (let e = w.if-end-text.true in inl (omega (arith, e)))
      | then-end-text-via-else-end-text+then-text-end-ne59 w ↦ (let ne = w.if-end-text.false in inr (omega (arith, ne, i.inside), w.if-text-end-ne59.true))
    ])

pub returns : goal.returns
returns c =
    let i = c.loop-end.invariant in
    let ne = c.if-end-text.false in
    let lt : c.loop-end.end < length c.args.text.now = omega (arith, ne, i.inside) in
    ((omega (arith, i.past), omega (arith, lt)), last_name c.args.text.now c.args.start c.loop-end.end i.past lt c.if-text-end-ne59.false i.names)
