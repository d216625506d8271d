use Rattle.std.proofs.Common.{◌≡◌, ◌∙◌, ◌+◌, true, false, Some, eq-eqb, refl, ap, arith}
use Rattle.std.specs.Prelude.{slice_get}
use Rattle.dv_words.specs.State.{WordMachine}
use Rattle.dv_threads.specs.Kept.{threads_of}
use Rattle.dv_core.specs.Advancing.{RunsFrame, running_frame, takes, with_frame}
use Rattle.dv_core.specs.Machines.{machine_of}
use Rattle.dv_core.proofs.Advanced.{later, later_there, put_back}
use Rattle.dv_core.proofs.vm.Vm.take_back.Goals as goal

pub returns-then-put_frame-clause-undone : goal.returns-then-put_frame-clause-undone
returns-then-put_frame-clause-undone c m own u ls ordered runs long was =
    let old = c.args.self.now in
    let t = c.args.thread in
    let frame = c.args.frame.now in
    let th = later m.threads t own u ls runs.there in
    let stands : RunsFrame (machine_of old) t th u ls = record { there = ap (λ (k : WordMachine). slice_get k.threads t) was ∙ later_there m.threads t own u ls runs.there; living = refl; levels = refl } in
    let put = c.if-put_frame.ensures.put th u ls stands refl in
    let threads : threads_of c.put_frame.new.self.guest.threads ≡ m.threads =
    ap (λ (k : WordMachine). k.threads) put ∙
    (ap (λ (k : WordMachine). with_frame k.threads t th frame ls) was ∙ put_back m.threads t own u ls runs.there frame runs.living runs.levels) in
    let counted : c.put_frame.new.self.steps ≡ m.steps + c.args.steps = ap (λ (k : WordMachine). k.steps) put ∙ ap (λ (k : WordMachine). k.steps) was in
    let steps : c.saturating_sub-self.result ≡ m.steps = omega (arith, c.saturating_sub-self.ensures, c.from.ensures, counted) in
    λ j. record {
      threads = threads j;
      shared = (ap (λ (k : WordMachine). k.shared) put ∙ ap (λ (k : WordMachine). k.shared) was) j;
      steps = steps j;
      stop = (ap (λ (k : WordMachine). k.stop) put ∙ ap (λ (k : WordMachine). k.stop) was) j;
      limits = (ap (λ (k : WordMachine). k.limits) put ∙ ap (λ (k : WordMachine). k.limits) was) j;
      preallocated = (ap (λ (k : WordMachine). k.preallocated) put ∙ ap (λ (k : WordMachine). k.preallocated) was) j;
    }

pub returns-else-put_frame-clause-undone : goal.returns-else-put_frame-clause-undone
returns-else-put_frame-clause-undone c m own u ls ordered runs long was =
    let t = c.args.thread in
    let frame = c.args.frame.now in
    let there = ap (λ (k : WordMachine). slice_get k.threads t) was ∙ later_there m.threads t own u ls runs.there in
    let fits : takes (Some u) frame ≡ true = eq-eqb _ _ long in
    let e : false ≡ true = c.if-put_frame.ensures.takes ordered ∙ (ap (λ q. takes (running_frame q) frame) there ∙ fits) in
    absurd (cc e)
