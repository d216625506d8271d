use Rattle.std.proofs.Common.{arith}
use Rattle.dv_worklist.proofs.Turning.{first_step, none_yet, waits_within, opened, taken_less, next_step, ended}
use Rattle.dv_worklist.proofs.solve.least.Goals as goal

pub raise-requires-clause-place : goal.raise-requires-clause-place
raise-requires-clause-place g c =
    let before = none_yet (g.F.Flow.graph c.args.flow.now) (g.F.Flow.fits c.args.flow.now) c.in_ok-states.states.items c.in_ok-waiting.waiting c.in_ok-states.ensures (cc (c.in_ok-waiting.ensures, c.size.ensures)) in
    omega (arith, before.long, c.requires.some)

pub raise-requires-clause-flag : goal.raise-requires-clause-flag
raise-requires-clause-flag g c =
    let before = none_yet (g.F.Flow.graph c.args.flow.now) (g.F.Flow.fits c.args.flow.now) c.in_ok-states.states.items c.in_ok-waiting.waiting c.in_ok-states.ensures (cc (c.in_ok-waiting.ensures, c.size.ensures)) in
    omega (arith, before.long, before.flagged, c.requires.some)

pub raise-requires-clause-all : goal.raise-requires-clause-all
raise-requires-clause-all g c =
    let before = none_yet (g.F.Flow.graph c.args.flow.now) (g.F.Flow.fits c.args.flow.now) c.in_ok-states.states.items c.in_ok-waiting.waiting c.in_ok-states.ensures (cc (c.in_ok-waiting.ensures, c.size.ensures)) in
    before.fit

pub raise-requires-clause-fits : goal.raise-requires-clause-fits
raise-requires-clause-fits g c = rw c.in_ok-entry.ensures c.requires.lawful.entry_fits

pub loop-place-init : goal.loop-place-init
loop-place-init g c =
    first_step _ _ _ _ c.requires.lawful c.in_ok-states.states.items c.in_ok-waiting.waiting c.in_ok-entry.entry c.raise.new.states.items c.raise.new.waiting
    c.requires.some c.in_ok-states.ensures (cc (c.in_ok-waiting.ensures, c.size.ensures)) c.in_ok-entry.ensures c.in_ok-raise.ensures.states c.in_ok-raise.ensures.waiting

pub turn-requires-clause-place : goal.turn-requires-clause-place
turn-requires-clause-place g c =
    omega (arith, c.loop-place.invariant.partly.flagged, waits_within c.loop-place.waiting c.in-Some.place c.in-Some.ensures.one)

pub turn-requires-clause-partly : goal.turn-requires-clause-partly
turn-requires-clause-partly g c =
    opened _ _ c.loop-place.states.items c.loop-place.waiting c.in-Some.place c.take.new.self c.in-Some.ensures.taken c.loop-place.invariant.partly

pub loop-place-preserved : goal.loop-place-preserved
loop-place-preserved g c = next_step _ _ _ _ c.loop-place.states.items c.take.new.self _ _ c.loop-place.invariant.entry c.in_ok-turn.ensures

pub loop-place-smaller : goal.loop-place-smaller
loop-place-smaller g c =
    omega (arith, c.in_ok-turn.ensures.less, taken_less c.loop-place.waiting c.in-Some.place c.take.new.self c.in-Some.ensures.one c.in-Some.ensures.taken)

pub returns-clause-least : goal.returns-clause-least
returns-clause-least g c = ended _ _ c.loop-place.states.items c.loop-place.waiting c.in_default.ensures.one c.loop-place.invariant
