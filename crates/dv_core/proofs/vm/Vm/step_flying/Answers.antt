use Rattle.std.proofs.lemmas.Grind.{moves}
use Rattle.std.proofs.Common.{ap, refl, sym, ◌∙◌, subst, arith}
use Rattle.dv_typing.specs.Flow.{handlers_at}
use Rattle.dv_words.specs.Stacks.{first}
use Rattle.dv_frames.specs.Tops.{top_of}
use Rattle.dv_words.specs.Unwinding.{handler_for, unwind_frame, unwind_record}
use Rattle.dv_throw.specs.Answers.{Unwinds}
use Rattle.dv_core.specs.Guests.{Leaves, Stays}
use Rattle.dv_core.proofs.Stepped.{seen_by, stays_by, unwound_by}
use Rattle.dv_core.proofs.vm.Vm.step_flying.Goals as goal

pub returns-in_default-clause-code : goal.returns-in_default-clause-code
returns-in_default-clause-code c own h f seen levels few =
    let on = c.top_of.ensures own seen.there ∙ ap (λ ls. top_of (first ls)) levels in
    absurd (cc (sym c.in_default.is ∙ on))

pub returns-in_default-clause-record : goal.returns-in_default-clause-record
returns-in_default-clause-record c own h k r seen levels fits few =
    let on = c.top_of.ensures own seen.there ∙ ap (λ ls. top_of (first ls)) levels in
    absurd (cc (sym c.in_default.is ∙ on))

pub returns-in_err-answer-clause-none : goal.returns-in_err-answer-clause-none
returns-in_err-answer-clause-none c own ordered there levels =
    let on = c.top_of.ensures own there ∙ ap (λ ls. top_of (first ls)) levels in
    absurd (cc (sym c.in-Some.is ∙ on))

pub returns-clause-none : goal.returns-clause-none
returns-clause-none c own ordered there levels =
    let on = c.top_of.ensures own there ∙ ap (λ ls. top_of (first ls)) levels in
    absurd (cc (sym c.in-Some.is ∙ on))

pub returns-clause-code : goal.returns-clause-code
returns-clause-code c own h f seen levels few =
    let i = c.args.image.now in
    let old = c.args.self.now in
    let t = c.args.thread in
    let o = c.args.object in
    let k = c.step_flight.new.guest in
    let u = unwind_frame h f o (handler_for i h.shared.heap o (handlers_at i f.method.0 f.at)) in
    let led = unwound_by c.step_flight.result u (Leaves old.guest k own h) (Stays h.limits old.guest k) (Stays old.limits old.guest k) (stays_by h.limits old.limits old.guest k seen.limits)
    (c.step_flight.ensures.code own h f (seen_by i old.limits old.guest t own h seen) levels) in
    let led' = subst (λ r. Unwinds r u (Leaves old.guest k own h) (Stays old.limits old.guest k)) c.in_ok-answer.was led in
    (refl, c.settle_flight.ensures.machine i old.guest own h u seen few led', c.settle_flight.ensures.ordered i old.guest own h u seen led')

pub returns-clause-record : goal.returns-clause-record
returns-clause-record c own h d r seen levels fits few =
    let i = c.args.image.now in
    let old = c.args.self.now in
    let t = c.args.thread in
    let o = c.args.object in
    let k = c.step_flight.new.guest in
    let u = unwind_record h d.0 o in
    let led = unwound_by c.step_flight.result u (Leaves old.guest k own h) (Stays h.limits old.guest k) (Stays old.limits old.guest k) (stays_by h.limits old.limits old.guest k seen.limits)
    (c.step_flight.ensures.record own h d r (seen_by i old.limits old.guest t own h seen) levels fits) in
    let led' = subst (λ q. Unwinds q u (Leaves old.guest k own h) (Stays old.limits old.guest k)) c.in_ok-answer.was led in
    (refl, c.settle_flight.ensures.machine i old.guest own h u seen few led', c.settle_flight.ensures.ordered i old.guest own h u seen led')

pub returns-in_err-answer-clause-record : goal.returns-in_err-answer-clause-record
returns-in_err-answer-clause-record c own h f seen levels few = grind (arith, moves)
