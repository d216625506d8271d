use Rattle.std.proofs.Common.{◌≡◌, List, Ok, get_or, subst, arith}
use Rattle.std.specs.declared.alloc.AllocError.{AllocError}
use Rattle.dv_words.specs.declared.state.Level.{Level}
use Rattle.dv_words.specs.Answering.{Leads}
use Rattle.dv_words.specs.Step as steps
use Rattle.dv_core.specs.Guests.{Leaves, Stays}
use Rattle.dv_core.proofs.RecordStacks.{beside, levels_are, records_lead, within, written}
use Rattle.dv_core.proofs.records.begin.Goals as goal

pub returns-then-place-len : goal.returns-then-place-len
returns-then-place-len c own h seen asked =
    let less = within h.image h.limits c.args.guest.now c.args.thread own h seen in
    absurd (omega (arith, less, c.len.ensures, c.if-place-len.true))

pub returns : goal.returns
returns c own h seen asked =
    let old = c.args.guest.now in
    let s = c.index_mut.result.now in
    let here : s ≡ get_or old.threads.stacks.items c.args.thread s = c.index_mut.ensures.value in
    let new = written old c.args.thread c.push_record.new.stack old.heap c.push_record.new.classes in
    subst (λ (ls : List Level). Leads {E = AllocError} (Ok c.push_record.result) (steps.begun h c.args.class.0 ls) (Leaves old new own h) (Stays h.limits old new))
    (levels_are h.image h.limits old c.args.thread own h seen s here)
    (records_lead h.image h.limits old c.args.thread own h seen s here c.push_record.new.stack c.push_record.new.classes c.push_record.result (steps.begun h c.args.class.0 s.levels)
    (c.push_record.ensures h (beside h.image h.limits old c.args.thread own h seen s here) asked))
