use Rattle.std.proofs.Common.{◌≡◌, get_or, sym, ap, ◌∙◌, arith}
use Rattle.dv_machine.specs.Classes.{InProgress, state_at}
use Rattle.dv_words.specs.State.{WordShared}
use Rattle.dv_words.specs.Step as steps
use Rattle.dv_core.proofs.RecordStacks.{beside, levels_are, records_lead, within}
use Rattle.dv_core.proofs.records.step_record.Goals as goal

pub returns-then-place-len : goal.returns-then-place-len
returns-then-place-len c own h seen top fits =
    let less = within c.args.image.now h.limits c.args.guest.now c.args.thread own h seen in
    absurd (omega (arith, less, c.len.ensures, c.if-place-len.true))

pub returns : goal.returns
returns c own h seen top fits =
    let image = c.args.image.now in
    let old = c.args.guest.now in
    let s = c.index_mut.result.now in
    let here : s ≡ get_or old.threads.stacks.items c.args.thread s = c.index_mut.ensures.value in
    let state : state_at old.classes c.args.class.0 ≡ InProgress c.args.thread =
    ap (λ (sh : WordShared). state_at sh.classes c.args.class.0) (sym seen.shared) ∙ (fits ∙ ap InProgress seen.number) in
    records_lead image h.limits old c.args.thread own h seen s here c.go_on.new.stack c.go_on.new.classes c.go_on.result (steps.record_step h c.args.class.0 c.args.running)
    (c.go_on.ensures h (beside image h.limits old c.args.thread own h seen s here) seen.image (levels_are image h.limits old c.args.thread own h seen s here ∙ top) state)
