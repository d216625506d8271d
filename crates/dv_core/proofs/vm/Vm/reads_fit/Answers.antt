use Rattle.std.proofs.Common.{◌∙◌, List, length, sym, ap, arith}
use Rattle.dv_image.proofs.Reading.{read_at}
use Rattle.dv_words.specs.Stacks.{first}
use Rattle.dv_words.specs.State.{WordStack}
use Rattle.dv_core.proofs.Advanced.{small_top}
use Rattle.dv_core.proofs.Settled.{stack_there, thread_within}
use Rattle.dv_core.proofs.vm.Vm.reads_fit.Goals as goal

pub returns-in_default-clause-top : goal.returns-in_default-clause-top
returns-in_default-clause-top c own f ls there levels =
    let ts = c.args.self.now.guest.threads in
    let within = thread_within ts.stacks.items ts.ends.items ts.objects.items c.args.thread own there in
    let same = ap (λ (ss : List WordStack). length ss) c.deref.ensures.value in
    absurd (omega (arith, within, same, c.in_default.ensures.lookup))

pub returns-in_default-clause-fits : goal.returns-in_default-clause-fits
returns-in_default-clause-fits c = record {
  top = λ th there. small_top th.levels (λ f ls levels. returns-in_default-clause-top c th f ls there levels);
  heap = c.words_fit.ensures;
}

pub returns-clause-top : goal.returns-clause-top
returns-clause-top c own f ls there levels =
    let ts = c.args.self.now.guest.threads in
    let t = c.args.thread in
    let stack = c.in-Some.stack.now in
    let read = c.in-Some.ensures.lookup in
    let has = read_at c.deref.result.now ts.stacks.items t stack c.deref.ensures.value read.0 read.1 in
    let same = stack_there ts.stacks.items ts.ends.items ts.objects.items t stack own has there in
    c.top_fits.ensures f (ap first (sym same ∙ levels))

pub returns-clause-fits : goal.returns-clause-fits
returns-clause-fits c = record {
  top = λ th there. small_top th.levels (λ f ls levels. returns-clause-top c th f ls there levels);
  heap = c.words_fit.ensures;
}
