use Rattle.std.proofs.Common.{◌≡◌, ◌≢◌, ℕ, true, false, None, Option, inl, inr, ap, sym, ◌∙◌, subst}
use Rattle.std.specs.Prelude.{MatchOption, is_none}
use Rattle.dv_defs.specs.Pools.{Method}
use Rattle.dv_machine.specs.Running.{ending_of}
use Rattle.dv_machine.specs.State.{Machine}
use Rattle.dv_sound.specs.Runs.{IsAt, IsReady, NoneIsReady}
use Rattle.dv_sound.proofs.Going.{none_of}
use Rattle.dv_sound.proofs.Lowest.{may, one_is_ready, one_runs, ran_more}
use Rattle.dv_sound.proofs.Others.{frames_then}
use Rattle.dv_sound.proofs.Places.{same_then}
use Rattle.dv_sound.proofs.safe.SafeVm.run.Goals as goal

pub returns-in_default-clause-ended : goal.returns-in_default-clause-ended
returns-in_default-clause-ended c main m none at going =
    let r = c.loop-self.self in
    let held = subst (λ (o : Option ℕ). MatchOption o (NoneIsReady r m) (λ t. IsReady r m t)) c.in_default.is (c.ready.ensures main m at) in
    one_is_ready r m (c.loop-self.invariant.same.lent ∙ none) going held

-- the thread that is ready may turn
pub take_turn-requires-clause-may : goal.take_turn-requires-clause-may
take_turn-requires-clause-may c main m at =
    let r = c.loop-self.self in
    let ready = c.in-Some.ensures main m at in
    may r m c.in-Some.thread (none_of (ending_of r.verified.image m) (sym (c.goes_on.ensures.goes_on main m at c.in-Some.thread ready.runs) ∙ c.loop-self-test.true)) ready

ended_there : (c : goal.After-loop-self) (main : Method) (m : Machine) → IsAt c.loop-self.self main m → ending_of c.loop-self.self.verified.image m ≢ None
ended_there c main m at going =
    let r = c.loop-self.self in
    let runs = one_runs r m going in
    let goes = c.goes_on.ensures.goes_on main m at runs.0 runs.1 ∙ ap is_none going in
    let d : true ≡ false = sym goes ∙ c.loop-self-test.false in
    cc d

pub returns-clause-ended : goal.returns-clause-ended
returns-clause-ended c main m none at = ended_there c main m at

pub loop-self-preserved : goal.loop-self-preserved
loop-self-preserved c = record {
  same = same_then c.args.self.now c.loop-self.self c.take_turn.new.self c.loop-self.invariant.same c.take_turn.ensures.same;
  ran = λ main m at none.
      let r = c.loop-self.self in
      let ran = c.loop-self.invariant.ran main m at none in
      let ready = c.in-Some.ensures main ran.after ran.at in
      let going = none_of (ending_of r.verified.image ran.after) (sym (c.goes_on.ensures.goes_on main ran.after ran.at c.in-Some.thread ready.runs) ∙ c.loop-self-test.true) in
      let turned = c.in_ok-take_turn.ensures.turned main ran.after ran.at in
      ran_more c.args.self.now r c.take_turn.new.self main m c.loop-self.invariant.same none ran c.in-Some.thread c.in_ok-take_turn.field-0 going ready turned;
  stay = frames_then c.args.self.now.machine c.loop-self.self.machine c.take_turn.new.self.machine c.args.self.now.lent c.loop-self.self.lent c.loop-self.invariant.same.lent c.loop-self.invariant.stay c.take_turn.ensures.lent_stay;
}

pub returns-in_default-clause-stopped : goal.returns-in_default-clause-stopped
returns-in_default-clause-stopped c main m at =
    let r = c.loop-self.self in
    inr (subst (λ (o : Option ℕ). MatchOption o (NoneIsReady r m) (λ t. IsReady r m t)) c.in_default.is (c.ready.ensures main m at))

pub returns-clause-stopped : goal.returns-clause-stopped
returns-clause-stopped c main m at = inl (ended_there c main m at)

pub returns-in_err-take_turn-clause-lent_stay : goal.returns-in_err-take_turn-clause-lent_stay
returns-in_err-take_turn-clause-lent_stay c =
    frames_then c.args.self.now.machine c.loop-self.self.machine c.take_turn.new.self.machine c.args.self.now.lent c.loop-self.self.lent c.loop-self.invariant.same.lent c.loop-self.invariant.stay c.take_turn.ensures.lent_stay
