use Rattle.std.proofs.Common.{◌≡◌, length, ap, arith, subst}
use Rattle.std.specs.Prelude.{slice_get, Some}
use Rattle.dv_worklist.specs.Flow.{assigned}
use Rattle.dv_worklist.specs.Work.{goes_on}
use Rattle.dv_worklist.proofs.Spreading.{owed, spread_more, spread_all}
use Rattle.dv_worklist.proofs.solve.turn.Goals as goal

pub arrive-requires : goal.arrive-requires
arrive-requires g c =
    let all = c.in_ok-all.all in
    let graph = g.F.Flow.graph c.args.flow.now in
    let same : all ≡ goes_on graph c.args.place (assigned c.args.states.now.items c.args.place) = cc (c.in_ok-all.ensures, c.deref.ensures.value) in
    let here = subst (λ os. slice_get os c.loop-index.index ≡ Some (record { to = c.get-to.result.0; state = c.get-to.result.1.now })) same c.get-to.ensures in
    let due = owed _ _ _ _ _ c.requires.lawful _ _ _ c.requires.partly _ _ here in
    let partly = c.loop-index.invariant.turn.partly in
    record {
      place = due.inside;
      lawful = c.requires.lawful;
      long = partly.long;
      flagged = partly.flagged;
      all = partly.fit;
      fits = due.fit;
    }

pub loop-index-preserved : goal.loop-index-preserved
loop-index-preserved g c =
    let all = c.in_ok-all.all in
    let graph = g.F.Flow.graph c.args.flow.now in
    let same : all ≡ goes_on graph c.args.place (assigned c.args.states.now.items c.args.place) = cc (c.in_ok-all.ensures, c.deref.ensures.value) in
    let here = subst (λ os. slice_get os c.loop-index.index ≡ Some (record { to = c.get-to.result.0; state = c.get-to.result.1.now })) same c.get-to.ensures in
    spread_more _ _ _ _ c.requires.lawful c.args.place c.args.states.now.items c.args.waiting.now c.loop-index.index
    c.loop-index.states.items c.loop-index.waiting (record { to = c.get-to.result.0; state = c.get-to.result.1.now }) c.arrive.new.states.items c.arrive.new.waiting c.requires.partly
    here c.in_ok-arrive.ensures c.loop-index.invariant

pub returns : goal.returns
returns g c =
    let all = c.in_ok-all.all in
    let graph = g.F.Flow.graph c.args.flow.now in
    let going = goes_on graph c.args.place (assigned c.args.states.now.items c.args.place) in
    let same : all ≡ going = cc (c.in_ok-all.ensures, c.deref.ensures.value) in
    spread_all _ _ _ _ c.args.place c.args.states.now.items c.args.waiting.now c.loop-index.index c.loop-index.states.items c.loop-index.waiting
    (omega (arith, c.loop-index-test.false, c.len-index-end.ensures, ap length same)) c.loop-index.invariant
