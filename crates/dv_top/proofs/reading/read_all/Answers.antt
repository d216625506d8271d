use Rattle.std.proofs.Common.{arith, ap, length, take, ◌≤◌, Ok, ◌+◌, ◌∙◌, length-append}
use Rattle.std.proofs.lemmas.Grind.{common_steps}
use Rattle.std.proofs.lemmas.List.{length-take}
use Rattle.dv_io.specs.Io.{after_taking}
use Rattle.dv_top.specs.Said.{text_limit}
use Rattle.dv_top.proofs.PieceLemmas.{read_more, read_all_at_end, read_all_past, left_at_end, left_past}
use Rattle.dv_top.proofs.reading.read_all.Goals as goal

pub returns-then-n-eq0-clause-all : goal.returns-then-n-eq0-clause-all
returns-then-n-eq0-clause-all g c =
    read_all_at_end _ _ _ c.read.invariant.1 (omega arith) (c.in_ok-n.ensures.end (ap Ok c.if-n-eq0.true))

pub read-preserved : goal.read-preserved
read-preserved g c =
    let fits : c.in_ok-n.n ≤ length c.read-in-read.new.room = omega (arith, c.in_ok-n.ensures.fits, c.read-in-read.auto.room) in
    let so = read_more _ _ _ c.read.text.items c.read-in-read.new.room c.in_ok-n.n c.read.invariant.1 fits c.in_ok-n.ensures.after c.in_ok-n.ensures.copied in
    let size : length c.read.text.items + c.in_ok-n.n ≤ text_limit + 1 = omega (arith, c.in_ok-n.ensures.fits, length-take c.min-most.result c.read.room) in
    rw c.in_ok-extend_from_slice.ensures.items (omega (arith, length-append c.read.text.items (take c.in_ok-n.n c.read-in-read.new.room), length-take c.in_ok-n.n c.read-in-read.new.room), so, omega arith)

pub returns-clause-all : goal.returns-clause-all
returns-clause-all g c = read_all_past _ _ _ c.read.invariant.1 (omega arith)

pub returns-then-n-eq0-clause-left : goal.returns-then-n-eq0-clause-left
returns-then-n-eq0-clause-left g c =
    left_at_end (text_limit + 1) _ _ _ c.read.text.items c.read.invariant.1 (omega arith) (c.in_ok-n.ensures.after ∙ ap (λ n. after_taking n (g.S.Source.left c.read.source)) c.if-n-eq0.true) (c.in_ok-n.ensures.end (ap Ok c.if-n-eq0.true))

pub returns-clause-left : goal.returns-clause-left
returns-clause-left g c = left_past (text_limit + 1) _ _ c.read.text.items c.read.invariant.1 (omega arith)

pub read-init : goal.read-init
read-init g c = grind (arith, common_steps)

pub returns-in_err-n-clause-all : goal.returns-in_err-n-clause-all
returns-in_err-n-clause-all g c = grind (arith, common_steps)

pub returns-in_err-n-clause-left : goal.returns-in_err-n-clause-left
returns-in_err-n-clause-left g c = grind (arith, common_steps)

pub returns-in_err-n-clause-failed : goal.returns-in_err-n-clause-failed
returns-in_err-n-clause-failed g c = grind (arith, common_steps)

pub returns-then-n-eq0-clause-failed : goal.returns-then-n-eq0-clause-failed
returns-then-n-eq0-clause-failed g c = grind (arith, common_steps)

pub slice_bounds-extend_from_slice-end : goal.slice_bounds-extend_from_slice-end
slice_bounds-extend_from_slice-end g c = grind (arith, common_steps)

pub read-smaller : goal.read-smaller
read-smaller g c = grind (arith, common_steps)

pub returns-in_err-extend_from_slice-clause-all : goal.returns-in_err-extend_from_slice-clause-all
returns-in_err-extend_from_slice-clause-all g c = grind (arith, common_steps)
