use Rattle.std.proofs.Common.{◌≡◌, ◌∙◌, ◌+◌, ℕ, true, false, None, refl, sym, ap, subst, arith}
use Rattle.dv_machine.specs.Replaying.{is_running}
use Rattle.dv_words.specs.Stepping.{RanLocally}
use Rattle.dv_threads.specs.Kept.{zipped}
use Rattle.dv_core.specs.Advancing.{top_frame}
use Rattle.dv_core.specs.Guests.{shared_of}
use Rattle.dv_core.proofs.Advanced.{own_frame, own_runs, ran_frame, ran_nothing, running_own, still_ordered}
use Rattle.dv_core.proofs.vm.Vm.run.Goals as goal

pub returns-then-not-is_running-clause-ran : goal.returns-then-not-is_running-clause-ran
returns-then-not-is_running-clause-ran c own f ls ordered runs few =
    let ts = c.args.self.now.guest.threads in
    let e : false ≡ true = c.if-not-is_running.ensures ∙ (own_runs ts.stacks.items ts.ends.items ts.objects.items c.args.thread own runs.there ∙ ap is_running runs.living) in
    absurd (cc e)

pub returns-clause-ran : goal.returns-clause-ran
returns-clause-ran c own f ls ordered runs few =
    let old = c.args.self.now in
    let ts = old.guest.threads in
    let image = c.args.image.now in
    let done = c.run_top-done.result in
    let x = ran_frame ts.stacks.items ts.ends.items ts.objects.items c.args.thread own runs.there f ls runs.living runs.levels image c.countable-most.result done c.run_top-done.new.stacks.items c.run_top-done.ensures.ran in
    record {
      frame = x.frame;
      ran = subst (λ (n : ℕ). RanLocally image n done f x.frame) (c.countable-most.ensures.all few) x.ran;
      machine = λ j. record { threads = x.threads j; shared = shared_of old.guest; steps = old.steps + c.from.ensures j; stop = old.stop; limits = old.limits; preallocated = old.preallocated };
    }

pub returns-clause-none : goal.returns-clause-none
returns-clause-none c ordered none =
    let old = c.args.self.now in
    let ts = old.guest.threads in
    let t = c.args.thread in
    let done = c.run_top-done.result in
    let at = running_own ts.stacks.items ts.ends.items ts.objects.items t ordered.aligned.ends ordered.aligned.objects (sym c.if-not-is_running.ensures) in
    let idle : top_frame at.own.levels ≡ None = sym (own_frame ts.stacks.items ts.ends.items ts.objects.items t at.own at.there at.ends) ∙ none in
    let x = ran_nothing ts.stacks.items ts.ends.items ts.objects.items t at.own at.there c.args.image.now c.countable-most.result done c.run_top-done.new.stacks.items idle c.run_top-done.ensures.ran in
    let steps : old.steps + c.from.result ≡ old.steps = omega (arith, x.0, c.from.ensures) in
    record {
      none = x.0;
      same = λ j. record { threads = zipped (x.1 j) ts.ends.items ts.objects.items; shared = shared_of old.guest; steps = steps j; stop = old.stop; limits = old.limits; preallocated = old.preallocated };
    }

pub returns-clause-ordered : goal.returns-clause-ordered
returns-clause-ordered c ordered = still_ordered c.args.self.now.limits c.args.self.now.guest _ refl refl c.run_top-done.ensures.bounds ordered
