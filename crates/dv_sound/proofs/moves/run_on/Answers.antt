use Rattle.std.proofs.Common.{◌≡◌, Bool, true, false, List, Option, Some, None, refl, arith}
use Rattle.std.specs.Prelude.{slice_get}
use Rattle.dv_machine.specs.Replaying.{next_is_local}
use Rattle.dv_words.specs.declared.state.Frame.{Frame}
use Rattle.dv_words.specs.declared.state.Level.{Level}
use Rattle.dv_words.specs.State.{WordThread}
use Rattle.dv_core.specs.Advancing.{RanSteps, RunsFrame, running_frame}
use Rattle.dv_core.specs.Machines.{machine_of}
use Rattle.dv_sound.specs.Moves.{IsAffordable, IsRun, KeepsOthers}
use Rattle.dv_sound.proofs.Going.{going_locally}
use Rattle.dv_sound.proofs.LocalRuns.{none_ran, not_ran, some_ran, some_sized}
use Rattle.dv_sound.proofs.Others.{keeps_run, keeps_same}
use Rattle.dv_sound.proofs.Turning.{running}
use Rattle.dv_sound.proofs.moves.run_on.Goals as goal

pub returns-clause-ran : goal.returns-clause-ran
returns-clause-ran c T m good at goes = by (running_frame (slice_get (machine_of c.args.vm.now).threads c.args.thread)) refl
  where
    by : (o : Option Frame) → running_frame (slice_get (machine_of c.args.vm.now).threads c.args.thread) ≡ o → IsRun c.args.image.now T m c.args.thread c.args.most c.run.result c.run.new.self
    by None e =
        none_ran c.args.image.now T c.args.vm.now c.run.new.self m good at c.args.thread c.args.most c.affordable-most.result c.run.result
        (c.affordable-most.ensures.affordable at.spent) (c.run.ensures.ordered at.ordered) e (c.run.ensures.none at.ordered e)
    by (Some f) e =
        let r = running (machine_of c.args.vm.now) c.args.thread f e in
        let may = c.affordable-most.ensures.affordable at.spent in
        let room = may.room in
        let most = at.counted in
        let ran = c.run.ensures.ran r.own f r.rest at.ordered r.runs (omega (arith, room, most)) in
        by_next (next_is_local c.args.image.now m c.args.thread) refl r.own f r.rest r.runs may ran
      where
        by_next : (b : Bool) → next_is_local c.args.image.now m c.args.thread ≡ b → (own : WordThread) (f : Frame) (ls : List Level) → RunsFrame (machine_of c.args.vm.now) c.args.thread own f ls →
            IsAffordable c.args.vm.now.steps c.args.vm.now.limits.budget c.args.most c.affordable-most.result → RanSteps c.args.image.now c.affordable-most.result c.run.result (machine_of c.args.vm.now) (machine_of c.run.new.self) c.args.thread own f ls →
            IsRun c.args.image.now T m c.args.thread c.args.most c.run.result c.run.new.self
        by_next true local own f ls runs may ran =
            some_ran c.args.image.now T c.args.vm.now c.run.new.self m good at c.args.thread c.args.most c.affordable-most.result c.run.result may
            (c.run.ensures.ordered at.ordered) (going_locally c.args.image.now T c.args.vm.now m good at c.args.thread goes local) own f ls runs (c.reads_fit.ensures.top own f ls runs.there runs.levels) c.reads_fit.ensures.heap c.run.ensures.few ran
        by_next false other own f ls runs may ran =
            not_ran c.args.image.now T c.args.vm.now c.run.new.self m good at c.args.thread c.args.most c.affordable-most.result c.run.result may
            (c.run.ensures.ordered at.ordered) own f ls runs ran other

pub returns-clause-took : goal.returns-clause-took
returns-clause-took c T m good at going own f ls runs =
    let may = c.affordable-most.ensures.affordable at.spent in
    let room = may.room in
    let most = at.counted in
    some_sized c.args.image.now T c.args.vm.now c.run.new.self m good at c.args.thread c.args.most c.affordable-most.result c.run.result may
    (c.run.ensures.ordered at.ordered) going own f ls runs (c.reads_fit.ensures.top own f ls runs.there runs.levels) c.reads_fit.ensures.heap c.run.ensures.few
    (c.run.ensures.ran own f ls at.ordered runs (omega (arith, room, most)))

pub returns-clause-others : goal.returns-clause-others
returns-clause-others c T m good at = by (running_frame (slice_get (machine_of c.args.vm.now).threads c.args.thread)) refl
  where
    by : (o : Option Frame) → running_frame (slice_get (machine_of c.args.vm.now).threads c.args.thread) ≡ o → KeepsOthers c.args.thread c.args.vm.now c.run.new.self
    by None e = keeps_same c.args.thread c.args.vm.now c.run.new.self (c.run.ensures.none at.ordered e).same
    by (Some f) e =
        let r = running (machine_of c.args.vm.now) c.args.thread f e in
        let may = c.affordable-most.ensures.affordable at.spent in
        let room = may.room in
        let most = at.counted in
        let ran = c.run.ensures.ran r.own f r.rest at.ordered r.runs (omega (arith, room, most)) in
        keeps_run c.args.thread c.run.result c.args.vm.now c.run.new.self r.own ran.frame r.rest ran.machine
