use Rattle.std.proofs.Common.{◌∙◌, refl, sym, ap, subst}
use Rattle.dv_defs.specs.Op as ops
use Rattle.dv_words.specs.Stacks.{first}
use Rattle.dv_words.specs.Running.{blocked_at, blocked_needing}
use Rattle.law_words.specs.StepLaws.{CallFits}
use Rattle.dv_call.specs.Landings.{IsSeenByCalls}
use Rattle.dv_core.specs.Machines.{machine_with}
use Rattle.dv_fetch.specs.Opcodes.{opcode_at}
use Rattle.dv_core.proofs.Opcodes.{holds_up_none, some_opcode}
use Rattle.dv_core.proofs.Waits.{at_here, has_code, here, stack_here, thread_here}
use Rattle.dv_core.proofs.waiting.blocked_code.Goals as goal

pub returns-in_err-opcode_of : goal.returns-in_err-opcode_of
returns-in_err-opcode_of c f ls s e l p are levels watched =
    let image = c.args.image.now in
    absurd (some_opcode image f (has_code image f watched.stands) (c.in_err-opcode_of.ensures ∙ ap (λ ks. opcode_at image (first ks)) levels))

pub returns-then-not-may_hold_up : goal.returns-then-not-may_hold_up
returns-then-not-may_hold_up c f ls s e l p are levels watched =
    let image = c.args.image.now in
    holds_up_none image (machine_with c.args.guest.now s e l p) c.args.thread f (c.in_ok-opcode_of).field-0 (has_code image f watched.stands)
    (c.in_ok-opcode_of.ensures ∙ ap (λ ks. opcode_at image (first ks)) levels) (sym c.may_hold_up.ensures ∙ c.if-not-may_hold_up.true)

pub returns-in_err-here : goal.returns-in_err-here
returns-in_err-here c f ls s e l p are levels watched =
    let image = c.args.image.now in
    let g = c.args.guest.now in
    let stack = c.args.stack.now in
    let t = c.args.thread in
    let has = has_code image f watched.stands in
    absurd (c.in_err-here.ensures (thread_here image g stack f ls levels t has) (here image g stack f ls levels t has) has.x refl (stack_here image g stack f ls levels t has) (at_here image g stack f ls levels t has))

pub returns : goal.returns
returns c f ls s e l p are levels watched =
    let image = c.args.image.now in
    let g = c.args.guest.now in
    let stack = c.args.stack.now in
    let t = c.args.thread in
    let m = machine_with g s e l p in
    let has = has_code image f watched.stands in
    let h = here image g stack f ls levels t has in
    let found = c.in_ok-here.ensures (thread_here image g stack f ls levels t has) h has.x refl (stack_here image g stack f ls levels t has) (at_here image g stack f ls levels t has) in
    let seen : IsSeenByCalls image g.heap stack h = record { same_image = refl; same_heap = refl; is_stack = stack_here image g stack f ls levels t has } in
    let fits = subst (CallFits image) (sym found.means) (watched.call has.x has.fetched) in
    c.blocked_needing.ensures found.code found.at s e l p h are seen has.method fits ∙
    (ap (λ (o : ops.Op). blocked_needing image m t has.own f o (ops.needs o)) found.means ∙
    sym (λ j. blocked_at image m t f (has.method j) (has.fetched j)))
