use Rattle.std.proofs.Common.{◌≡◌, ◌∙◌, List, ap, refl, sym, subst}
use Rattle.dv_defs.specs.declared.run.Entry.{Entry}
use Rattle.dv_defs.specs.Pools.{Method}
use Rattle.dv_rules.specs.Verified.{VerifiedValue}
use Rattle.dv_machine.specs.State.{Machine}
use Rattle.dv_core.specs.Machines.{machine_of}
use Rattle.dv_sound.specs.Lending.{IsCommitted, IsDone, IsFitting, IsLocalRun, IsSameProgram, committed, logged_some, without}
use Rattle.dv_sound.specs.Moves.{FramesStay}
use Rattle.dv_sound.specs.Runs.{IsAt, Run}
use Rattle.dv_sound.proofs.Lent.{count_of, done_of, kept_home, others_lent, run_committed, run_program}
use Rattle.dv_sound.proofs.Others.{frames_same}
use Rattle.dv_sound.proofs.safe.SafeVm.commit_steps.Goals as goal

-- the calls are told of the image that is kept
image_here : (c : goal.After-bring_home) → c.verified.inside.image ≡ c.self.inside.verified.now.image
image_here c = ap (λ (x : VerifiedValue). x.image) (c.verified.view_is ∙ c.verified-verified.ensures ∙ ap (λ (r : Run). r.verified) (sym c.self.view_is))

done_here : (c : goal.After-bring_home) → IsDone c.self.inside.verified.now.image c.self.invariant.typings c.self.invariant.machine c.args.slice.now.thread c.take_steps-steps.result c.self.inside.vm c.take_steps-steps.new.vm
done_here c =
    let k = c.self.invariant in
    let fits = subst (λ (r : Run). IsFitting r c.args.slice.now) (sym c.self.view_is) (c.fits.ensures.0 c.if-not-fits.false) in
    let made = subst (λ (r : Run). IsLocalRun r.verified.image c.args.slice.now) (sym c.self.view_is) c.requires.made in
    done_of c.verified.inside.image c.self.inside.verified.now.image (image_here c) c.self.inside.vm c.take_steps-steps.new.vm c.args.slice.now c.take_steps-steps.result c.take_steps-steps.ensures.done k.typings k.machine k.good k.stands made fits.stands

count_here : (c : goal.After-bring_home) → c.take_steps-steps.result ≡ committed c.self.inside.verified.now.image c.self.invariant.machine c.args.slice.now.steps
count_here c =
    let k = c.self.invariant in
    count_of c.verified.inside.image c.self.inside.verified.now.image (image_here c) c.self.inside.vm c.args.slice.now.steps c.take_steps-steps.result c.take_steps-steps.ensures.count k.typings k.machine k.good k.stands

logs_here : (c : goal.After-bring_home) → c.log_steps.new.log.items ≡ logged_some c.self.inside.log.items c.args.worker c.args.slice.now.thread c.take_steps-steps.result
logs_here c = c.log_steps.ensures ∙ ap (λ (l : List Entry). logged_some l c.args.worker c.args.slice.now.thread c.take_steps-steps.result) c.in_ok-reserve.ensures.items

pub invariant_of-self-2 : goal.invariant_of-self-2
invariant_of-self-2 c =
    kept_home c.self.inside.verified.now.image c.self.inside.main c.self.inside.vm c.self.inside.log.items c.self.inside.lent.items c.self.invariant c.args.worker c.args.slice.now.thread c.take_steps-steps.result c.take_steps-steps.new.vm (done_here c)
    c.log_steps.new.log.items c.bring_home.new.lent.items (logs_here c) c.bring_home.ensures

pub returns-clause-committed : goal.returns-clause-committed
returns-clause-committed c =
    let old : Run = record { verified = c.self.inside.verified.now; main = c.self.inside.main; machine = machine_of c.self.inside.vm; log = c.self.inside.log.items; lent = c.self.inside.lent.items } in
    let now : Run = record { verified = c.self.inside.verified.now; main = c.self.inside.main; machine = machine_of c.take_steps-steps.new.vm; log = c.log_steps.new.log.items; lent = c.bring_home.new.lent.items } in
    subst (λ (r : Run). (main : Method) (m : Machine) → IsAt r main m → IsFitting r c.args.slice.now → IsCommitted r now main m c.args.worker c.args.slice.now c.take_steps-steps.result) c.self.view_is
    (λ main m at fits.
    run_committed old c.self.inside.vm c.take_steps-steps.new.vm c.self.invariant refl c.args.worker c.args.slice.now c.take_steps-steps.result (done_here c) c.log_steps.new.log.items c.bring_home.new.lent.items
    (count_here c) (logs_here c) c.bring_home.ensures main m at)

pub returns-clause-same : goal.returns-clause-same
returns-clause-same c =
    let old : Run = record { verified = c.self.inside.verified.now; main = c.self.inside.main; machine = machine_of c.self.inside.vm; log = c.self.inside.log.items; lent = c.self.inside.lent.items } in
    let now : Run = record { verified = c.self.inside.verified.now; main = c.self.inside.main; machine = machine_of c.take_steps-steps.new.vm; log = c.log_steps.new.log.items; lent = c.bring_home.new.lent.items } in
    subst (λ (r : Run). IsSameProgram r now) c.self.view_is
    (run_program old c.self.inside.vm c.take_steps-steps.new.vm c.self.invariant refl c.args.worker c.args.slice.now c.take_steps-steps.result (done_here c) c.log_steps.new.log.items c.bring_home.new.lent.items)

pub returns-in_err-reserve-clause-lent_stay : goal.returns-in_err-reserve-clause-lent_stay
returns-in_err-reserve-clause-lent_stay c =
    subst (λ (r : Run). FramesStay r.machine (machine_of c.self.inside.vm) (without r.lent c.args.slice.now.thread)) c.self.view_is
    (frames_same (machine_of c.self.inside.vm) (machine_of c.self.inside.vm) (without c.self.inside.lent.items c.args.slice.now.thread) refl)

pub returns-clause-lent_stay : goal.returns-clause-lent_stay
returns-clause-lent_stay c =
    subst (λ (r : Run). FramesStay r.machine (machine_of c.take_steps-steps.new.vm) (without r.lent c.args.slice.now.thread)) c.self.view_is
    (others_lent c.self.inside.verified.now.image c.self.inside.main c.self.inside.vm c.self.inside.log.items c.self.inside.lent.items c.self.invariant c.args.worker c.args.slice.now.thread c.take_steps-steps.result c.take_steps-steps.new.vm (done_here c))
