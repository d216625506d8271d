use Rattle.std.proofs.Common.{arith}
use Rattle.dv_core.specs.Machines.{machine_of}
use Rattle.dv_sound.proofs.Slices.{done_all, done_first}
use Rattle.dv_sound.proofs.Turning.{running}
use Rattle.dv_sound.proofs.lending.do_steps.Goals as goal

pub returns-then-steps-slice : goal.returns-then-steps-slice
returns-then-steps-slice c T m good at going made stands few room =
    let s = c.args.slice.now in
    let r = running (machine_of c.args.vm.now) s.thread s.start stands in
    let most = at.counted in
    done_all c.args.image.now T c.args.vm.now c.advance.new.self m good at going s.thread c.args.steps r.own s.start r.rest r.runs (c.reads_fit.ensures.top r.own s.start r.rest r.runs.there r.runs.levels) c.reads_fit.ensures.heap room
    (c.advance.ensures.ordered at.ordered) s.steps s.end made c.if-steps-slice.true (λ long. c.advance.ensures.advanced r.own s.start r.rest at.ordered r.runs long (omega (arith, room, most)))

pub returns-else-steps-slice : goal.returns-else-steps-slice
returns-else-steps-slice c T m good at going made stands few room =
    let s = c.args.slice.now in
    let r = running (machine_of c.args.vm.now) s.thread s.start stands in
    let most = at.counted in
    done_first c.args.image.now T c.args.vm.now c.run-done.new.self m good at going s.thread c.args.steps r.own s.start r.rest r.runs (c.reads_fit.ensures.top r.own s.start r.rest r.runs.there r.runs.levels) c.reads_fit.ensures.heap room
    (c.run-done.ensures.ordered at.ordered) s.steps s.end made few c.run-done.result (c.run-done.ensures.ran r.own s.start r.rest at.ordered r.runs (omega (arith, room, most)))
