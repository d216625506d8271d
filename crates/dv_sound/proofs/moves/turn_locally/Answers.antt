use Rattle.std.proofs.Common.{◌≡◌, ◌∙◌, ap, subst, arith}
use Rattle.dv_defs.specs.declared.run.Limits.{Limits}
use Rattle.dv_words.specs.State.{WordMachine}
use Rattle.dv_core.specs.Guests.{IsOrdered}
use Rattle.dv_core.specs.Machines.{machine_of}
use Rattle.dv_sound.proofs.Going.{goes_where}
use Rattle.dv_sound.proofs.Others.{keeps_same, keeps_then}
use Rattle.dv_sound.proofs.Stepping.{kept_by}
use Rattle.dv_sound.proofs.Turning.{mixed_turn, not_none, running, whole_turn}
use Rattle.dv_sound.proofs.moves.turn_locally.Goals as goal

pub returns-then-not-is_kept-clause-turned : goal.returns-then-not-is_kept-clause-turned
returns-then-not-is_kept-clause-turned c T m good at going goes =
    absurd (not_none c.args.image.now T c.args.vm.now m c.args.thread at goes (c.in_ok-is_kept.ensures.none at.ordered c.if-not-is_kept.true))

pub returns-then-done-most-clause-turned : goal.returns-then-done-most-clause-turned
returns-then-done-most-clause-turned c T m good at going goes =
    whole_turn c.args.image.now T m c.args.thread c.args.most c.run_on-done.new.vm c.run_on-done.result c.if-done-most.true (c.run_on-done.ensures.ran T m good at (goes_where c.args.image.now T c.args.vm.now m good at going))

pub returns-in-Ok-clause-turned : goal.returns-in-Ok-clause-turned
returns-in-Ok-clause-turned c T m good at going goes =
    let r = c.run_on-done.ensures.ran T m good at (goes_where c.args.image.now T c.args.vm.now m good at going) in
    let few = c.run_on-done.ensures.few in
    mixed_turn c.args.image.now T m c.args.thread c.args.most c.run_on-done.new.vm c.last_on.new.vm c.run_on-done.result c.in-Ok.last (omega (arith, few, c.if-done-most.false)) r (c.in-Ok.ensures.last T r.after good r.stands)

pub returns-in-Ok-clause-others : goal.returns-in-Ok-clause-others
returns-in-Ok-clause-others c T m good at going goes =
    let r = c.run_on-done.ensures.ran T m good at (goes_where c.args.image.now T c.args.vm.now m good at going) in
    keeps_then c.args.thread c.args.vm.now c.run_on-done.new.vm c.last_on.new.vm (c.run_on-done.ensures.others T m good at) (c.last_on.ensures.others T r.after good r.stands)

pub returns-in-Err-clause-turned : goal.returns-in-Err-clause-turned
returns-in-Err-clause-turned c T m good at going goes =
    let r = c.run_on-done.ensures.ran T m good at (goes_where c.args.image.now T c.args.vm.now m good at going) in
    let k = c.in-Err.ensures.last T r.after good r.stands in
    let at_frame = running (machine_of c.args.vm.now) c.args.thread c.keep_top.new.kept (c.in_ok-is_kept.ensures.some at.ordered c.if-not-is_kept.false) in
    let ran = c.run_on-done.ensures.took T m good at going at_frame.own c.keep_top.new.kept at_frame.rest at_frame.runs in
    let back = c.take_back.ensures.undone (machine_of c.args.vm.now) at_frame.own ran.frame at_frame.rest k.stands.ordered at_frame.runs ran.sized (k.machine ∙ ran.machine) in
    let limits : c.take_back.new.self.limits ≡ c.args.vm.now.limits = ap (λ (w : WordMachine). w.limits) back in
    kept_by c.args.image.now T m c.args.vm.now c.take_back.new.self at back
    (subst (λ (l : Limits). IsOrdered l c.take_back.new.self.guest) limits (c.take_back.ensures.ordered k.stands.ordered))

pub returns-in-Err-clause-others : goal.returns-in-Err-clause-others
returns-in-Err-clause-others c T m good at going goes =
    let r = c.run_on-done.ensures.ran T m good at (goes_where c.args.image.now T c.args.vm.now m good at going) in
    let k = c.in-Err.ensures.last T r.after good r.stands in
    let at_frame = running (machine_of c.args.vm.now) c.args.thread c.keep_top.new.kept (c.in_ok-is_kept.ensures.some at.ordered c.if-not-is_kept.false) in
    let ran = c.run_on-done.ensures.took T m good at going at_frame.own c.keep_top.new.kept at_frame.rest at_frame.runs in
    keeps_same c.args.thread c.args.vm.now c.take_back.new.self
    (c.take_back.ensures.undone (machine_of c.args.vm.now) at_frame.own ran.frame at_frame.rest k.stands.ordered at_frame.runs ran.sized (k.machine ∙ ran.machine))
