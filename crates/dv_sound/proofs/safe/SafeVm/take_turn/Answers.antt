use Rattle.std.proofs.Common.{◌+◌, ◌∙◌, ap, refl, sym, subst}
use Rattle.std.specs.Prelude.{IfOk}
use Rattle.dv_defs.specs.Pools.{Method}
use Rattle.dv_machine.specs.State.{Machine}
use Rattle.dv_core.specs.Machines.{machine_of}
use Rattle.dv_sound.specs.Moves.{FramesStay}
use Rattle.dv_sound.specs.Runs.{AtItsState, IsAt, IsAtSome, IsSameRun, IsTurned, MayTurn, Run}
use Rattle.dv_sound.proofs.Keeping.{at_some, home_there, if_ok, may_there, on_err, run_kept, run_same, run_turned}
use Rattle.dv_sound.proofs.Places.{typed_at}
use Rattle.dv_sound.proofs.Seeding.{some_steps}
use Rattle.dv_sound.proofs.safe.SafeVm.take_turn.Goals as goal

pub granted_turn-requires-clause-may : goal.granted_turn-requires-clause-may
granted_turn-requires-clause-may c =
    may_there _ c.self.inside.vm c.self.invariant refl c.args.thread (subst (λ (r : Run). AtItsState r (λ main m. MayTurn r m c.args.thread)) (sym c.self.view_is) c.requires.may)

pub invariant_of-self : goal.invariant_of-self
invariant_of-self c = c.granted_turn.ensures.kept c.self.inside.main c.self.inside.lent.items c.self.invariant
    (home_there _ c.self.inside.vm c.self.invariant refl c.args.thread (subst (λ (r : Run). AtItsState r (λ main m. MayTurn r m c.args.thread)) (sym c.self.view_is) c.requires.may))

pub returns-clause-turned : goal.returns-clause-turned
returns-clause-turned c =
    let now : Run = record { verified = c.self.inside.verified.now; main = c.self.inside.main; machine = machine_of c.granted_turn.new.vm; log = c.granted_turn.new.log.items; lent = c.self.inside.lent.items } in
    subst (λ (r : Run). IfOk c.granted_turn.result (λ n. (main : Method) (m : Machine) → IsAt r main m → IsTurned r now main m c.args.worker c.args.thread c.args.most n)) c.self.view_is
    (if_ok c.granted_turn.result
    (λ n turned main m at.
    run_turned _ c.self.inside.vm c.granted_turn.new.vm c.granted_turn.new.log.items c.self.invariant refl c.args.worker c.args.thread c.args.most n
    (turned c.self.inside.main c.self.inside.lent.items c.self.invariant) main m at)
    c.granted_turn.ensures.turned)

pub returns-clause-some : goal.returns-clause-some
returns-clause-some c =
    let r : Run = record { verified = c.self.inside.verified.now; main = c.self.inside.main; machine = machine_of c.self.inside.vm; log = c.self.inside.log.items; lent = c.self.inside.lent.items } in
    let now : Run = record { verified = c.self.inside.verified.now; main = c.self.inside.main; machine = machine_of c.granted_turn.new.vm; log = c.granted_turn.new.log.items; lent = c.self.inside.lent.items } in
    let may = subst (λ (x : Run). AtItsState x (λ main m. MayTurn x m c.args.thread)) (sym c.self.view_is) c.requires.may in
    let s : IsAtSome r = at_some r c.self.inside.vm c.self.invariant refl in
    if_ok c.granted_turn.result
    (λ n turned.
    some_steps r now s.main s.machine c.args.worker c.args.thread c.args.most n (typed_at r s.main s.machine s s.at) (may s.main s.machine s.at) c.requires.some
    (run_turned r c.self.inside.vm c.granted_turn.new.vm c.granted_turn.new.log.items c.self.invariant refl c.args.worker c.args.thread c.args.most n
    (turned c.self.inside.main c.self.inside.lent.items c.self.invariant) s.main s.machine s.at))
    c.granted_turn.ensures.turned

pub returns-clause-counted : goal.returns-clause-counted
returns-clause-counted c =
    if_ok c.granted_turn.result
    (λ n counted. counted c.self.inside.main c.self.inside.lent.items c.self.invariant ∙ ap (λ (r : Run). r.machine.steps + n) c.self.view_is)
    c.granted_turn.ensures.counted

pub returns-clause-within : goal.returns-clause-within
returns-clause-within c =
    if_ok c.granted_turn.result
    (λ n few some. c.granted_turn.ensures.within c.self.inside.main c.self.inside.lent.items c.self.invariant)
    c.granted_turn.ensures.few

pub returns-clause-same : goal.returns-clause-same
returns-clause-same c =
    let now : Run = record { verified = c.self.inside.verified.now; main = c.self.inside.main; machine = machine_of c.granted_turn.new.vm; log = c.granted_turn.new.log.items; lent = c.self.inside.lent.items } in
    subst (λ (r : Run). IsSameRun r now) c.self.view_is
    (run_same _ c.self.inside.vm c.granted_turn.new.vm c.granted_turn.new.log.items c.self.invariant refl
    (c.granted_turn.ensures.limits c.self.inside.main c.self.inside.lent.items c.self.invariant))

pub returns-clause-lent_stay : goal.returns-clause-lent_stay
returns-clause-lent_stay c =
    subst (λ (r : Run). FramesStay r.machine (machine_of c.granted_turn.new.vm) r.lent) c.self.view_is
    (c.granted_turn.ensures.stay c.self.inside.main c.self.inside.lent.items c.self.invariant
    (home_there _ c.self.inside.vm c.self.invariant refl c.args.thread (subst (λ (r : Run). AtItsState r (λ main m. MayTurn r m c.args.thread)) (sym c.self.view_is) c.requires.may)))

pub returns-clause-refused : goal.returns-clause-refused
returns-clause-refused c =
    on_err c.granted_turn.result
    (λ same. let e = same c.self.inside.main c.self.inside.lent.items c.self.invariant in
    run_kept _ c.self.inside.vm c.granted_turn.new.vm c.granted_turn.new.log.items c.self.invariant refl e.0 e.1 ∙ c.self.view_is)
    c.granted_turn.ensures.refused
