use Rattle.std.proofs.Common.{◌≡◌, ◌∷◌, [], List, Some, true, refl, ap, sym, ◌∙◌, subst}
use Rattle.std.specs.Prelude.{slice_get}
use Rattle.dv_defs.specs.declared.machine.End.TheVariants as end
use Rattle.dv_machine.specs.Step.{no_method}
use Rattle.dv_words.specs.declared.state.Level.{Level}
use Rattle.dv_words.specs.declared.state.Level.TheVariants as level
use Rattle.dv_words.specs.State.{WordThread}
use Rattle.dv_words.specs.Step.{here, no_frame, step_flight}
use Rattle.dv_threads.specs.Kept.{threads_of}
use Rattle.dv_core.specs.Machines.{IsSteppable, machine_of}
use Rattle.dv_core.specs.Trying.{IsTried}
use Rattle.dv_core.proofs.Stepped.{by_end, flight_code, flight_none, flight_record, no_thread, sees_here, thread_of}
use Rattle.dv_core.proofs.Trying.{ended_stays, flying_runs, none_stays, runs_free, tried_by}
use Rattle.dv_core.proofs.vm.Vm.step.Goals as goal

pub returns-in-Living : goal.returns-in-Living
returns-in-Living c able =
    let i = c.args.image.now in
    let old = c.args.self.now in
    let t = c.args.thread in
    let ts = old.guest.threads in
    let own = thread_of ts.stacks.items ts.ends.items ts.objects.items t end.Living able.ordered.aligned.ends able.ordered.aligned.objects (sym c.end_of.ensures ∙ (c.in-Some.is ∙ ap Some c.in-Living.is)) in
    tried_by c.step_living.result _ _ old c.step_living.new.self _ _ (runs_free i (machine_of old) t own.own own.there own.end) (by_end i (machine_of old) t own.own end.Living own.there own.end)
    (c.step_living.ensures own.own able own.there own.end)

by_levels : (c : goal.After-step_flying) → IsSteppable c.args.image.now c.args.self.now c.args.thread → (own : WordThread) → slice_get (threads_of c.args.self.now.guest.threads) c.args.thread ≡ Some own
    → (ls : List Level) → own.levels ≡ ls → IsTried c.step_flying.result true c.args.self.now c.step_flying.new.self (step_flight c.args.image.now (machine_of c.args.self.now) c.args.thread own c.in-Flying.object own.levels)
by_levels c able own there [] levels =
    let i = c.args.image.now in
    let old = c.args.self.now in
    subst (IsTried c.step_flying.result true old c.step_flying.new.self) (sym (flight_none i (machine_of old) c.args.thread own c.in-Flying.object levels))
    (c.step_flying.ensures.none own able.ordered there levels)
by_levels c able own there (level.Code f ∷ ls) levels =
    let i = c.args.image.now in
    let old = c.args.self.now in
    let t = c.args.thread in
    subst (IsTried c.step_flying.result true old c.step_flying.new.self) (sym (flight_code i (machine_of old) t own c.in-Flying.object f ls levels))
    (c.step_flying.ensures.code own (here i (machine_of old) t no_method f ls 0) f (sees_here i old t own no_method f ls 0 able.ordered there) levels able.few)
by_levels c able own there (level.Init k r ∷ ls) levels =
    let i = c.args.image.now in
    let old = c.args.self.now in
    let t = c.args.thread in
    let h = here i (machine_of old) t no_method no_frame ls 0 in
    let seen = sees_here i old t own no_method no_frame ls 0 able.ordered there in
    subst (IsTried c.step_flying.result true old c.step_flying.new.self) (sym (flight_record i (machine_of old) t own c.in-Flying.object k r ls levels))
    (c.step_flying.ensures.record own h k r seen levels (able.class own h k r seen levels) able.few)

pub returns-in-Flying : goal.returns-in-Flying
returns-in-Flying c able =
    let i = c.args.image.now in
    let old = c.args.self.now in
    let t = c.args.thread in
    let ts = old.guest.threads in
    let own = thread_of ts.stacks.items ts.ends.items ts.objects.items t (end.Flying c.in-Flying.object) able.ordered.aligned.ends able.ordered.aligned.objects (sym c.end_of.ensures ∙ (c.in-Some.is ∙ ap Some c.in-Flying.is)) in
    tried_by c.step_flying.result _ true old c.step_flying.new.self _ _ (flying_runs i (machine_of old) t own.own c.in-Flying.object own.there own.end) (by_end i (machine_of old) t own.own (end.Flying c.in-Flying.object) own.there own.end)
    (by_levels c able own.own own.there own.own.levels refl)

pub returns-in_default : goal.returns-in_default
returns-in_default c able =
    let old = c.args.self.now in
    let ts = old.guest.threads in
    let none = no_thread ts.stacks.items ts.ends.items ts.objects.items c.args.thread (sym c.end_of.ensures ∙ c.in_default.is) in
    (none_stays c.args.image.now (machine_of old) c.args.thread none, refl, able.ordered)

pub returns-in_default-end : goal.returns-in_default-end
returns-in_default-end c able =
    let i = c.args.image.now in
    let old = c.args.self.now in
    let t = c.args.thread in
    let ts = old.guest.threads in
    let own = thread_of ts.stacks.items ts.ends.items ts.objects.items t c.in-Some.end able.ordered.aligned.ends able.ordered.aligned.objects (sym c.end_of.ensures ∙ c.in-Some.is) in
    (ended_stays i (machine_of old) t own.own c.in-Some.end own.there own.end c.in_default-end.not-Living c.in_default-end.not-Flying, refl, able.ordered)
