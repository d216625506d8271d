use Rattle.std.proofs.Common.{◌≡◌, get_or, sym, ap, ◌∙◌, subst, arith}
use Rattle.dv_machine.specs.Classes.{InProgress, state_at}
use Rattle.dv_typing.specs.Flow.{handlers_at}
use Rattle.dv_words.specs.State.{WordHeap, WordShared}
use Rattle.dv_words.specs.Answering.{LeavesStack}
use Rattle.dv_words.specs.Unwinding.{handler_for, unwind_frame, unwind_record}
use Rattle.dv_throw.specs.Answers as throw
use Rattle.dv_throw.specs.Answers.{Unwinds, sharing}
use Rattle.dv_core.proofs.Flights.{flights_lead, throw_sees}
use Rattle.dv_core.proofs.RecordStacks.{levels_are, within}
use Rattle.dv_core.proofs.flight.step_flight.Goals as goal

pub returns-then-place-len-clause-code : goal.returns-then-place-len-clause-code
returns-then-place-len-clause-code c own h f seen top =
    let less = within c.args.image.now h.limits c.args.guest.now c.args.thread own h seen in
    absurd (omega (arith, less, c.len.ensures, c.if-place-len.true))

pub returns-then-place-len-clause-record : goal.returns-then-place-len-clause-record
returns-then-place-len-clause-record c own h k r seen top fits =
    let less = within c.args.image.now h.limits c.args.guest.now c.args.thread own h seen in
    absurd (omega (arith, less, c.len.ensures, c.if-place-len.true))

pub returns-clause-code : goal.returns-clause-code
returns-clause-code c own h f seen top =
    let image = c.args.image.now in
    let old = c.args.guest.now in
    let s = c.index_mut-stack.result.now in
    let here : s ≡ get_or old.threads.stacks.items c.args.thread s = c.index_mut-stack.ensures.value in
    let t = c.unwind_step.new.stack in
    let heap' = c.unwind_step.new.heap in
    let classes' = c.unwind_step.new.states in
    let unwound = λ (x : WordHeap). unwind_frame h f c.args.flying (handler_for image x c.args.flying (handlers_at image f.method.0 f.at)) in
    let same : old.heap ≡ h.shared.heap = ap (λ (sh : WordShared). sh.heap) (sym seen.shared) in
    flights_lead image h.limits old c.args.thread own h seen s here t heap' classes' c.unwind_step.result (unwound h.shared.heap)
    (subst (λ (x : WordHeap). Unwinds c.unwind_step.result (unwound x) (LeavesStack (sharing h.shared heap' classes') s t) (throw.Stays s t old.heap heap' old.classes classes')) same
    (c.unwind_step.ensures.code h f (throw_sees image h.limits old c.args.thread own h seen) (levels_are image h.limits old c.args.thread own h seen s here ∙ top)))

pub returns-clause-record : goal.returns-clause-record
returns-clause-record c own h k r seen top fits =
    let image = c.args.image.now in
    let old = c.args.guest.now in
    let s = c.index_mut-stack.result.now in
    let here : s ≡ get_or old.threads.stacks.items c.args.thread s = c.index_mut-stack.ensures.value in
    let state : state_at old.classes k.0 ≡ InProgress c.args.thread =
    ap (λ (sh : WordShared). state_at sh.classes k.0) (sym seen.shared) ∙ (fits ∙ ap InProgress seen.number) in
    flights_lead image h.limits old c.args.thread own h seen s here c.unwind_step.new.stack c.unwind_step.new.heap c.unwind_step.new.states c.unwind_step.result (unwind_record h k.0 c.args.flying)
    (c.unwind_step.ensures.record h k r (throw_sees image h.limits old c.args.thread own h seen) (levels_are image h.limits old c.args.thread own h seen s here ∙ top) state)
