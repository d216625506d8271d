use Rattle.std.proofs.Common.{◌≡◌, ◌∙◌, List, ap, arith, refl, sym, subst}
use Rattle.dv_defs.specs.declared.run.Entry.{Entry}
use Rattle.dv_core.specs.Machines.{machine_of}
use Rattle.dv_sound.specs.Lending.{logged_some}
use Rattle.dv_sound.specs.Runs.{IsKept}
use Rattle.dv_sound.proofs.Keeping.{turned_from}
use Rattle.dv_sound.proofs.Lent.{kept_among}
use Rattle.dv_sound.proofs.Others.{frames_same, frames_stay}
use Rattle.dv_sound.proofs.Attempts.{done_none, goes_where_may, logged_all}
use Rattle.dv_sound.proofs.trying.tried_turn.Goals as goal

pub returns-then-is_err-clause-kept : goal.returns-then-is_err-clause-kept
returns-then-is_err-clause-kept c main lent k home = subst (λ (l : List Entry). IsKept c.args.image.now main c.args.vm.now l lent) (sym c.reserve.ensures.items) k

pub returns-then-is_err-clause-stay : goal.returns-then-is_err-clause-stay
returns-then-is_err-clause-stay c main lent k home = frames_same (machine_of c.args.vm.now) (machine_of c.args.vm.now) lent refl

pub returns-then-not-goes_on-clause-kept : goal.returns-then-not-goes_on-clause-kept
returns-then-not-goes_on-clause-kept c main lent k home = subst (λ (l : List Entry). IsKept c.args.image.now main c.args.vm.now l lent) (sym c.reserve.ensures.items) k

pub returns-then-not-goes_on-clause-stay : goal.returns-then-not-goes_on-clause-stay
returns-then-not-goes_on-clause-stay c main lent k home = frames_same (machine_of c.args.vm.now) (machine_of c.args.vm.now) lent refl

pub returns-then-not-goes_on-clause-some : goal.returns-then-not-goes_on-clause-some
returns-then-not-goes_on-clause-some c main lent k may none =
    let goes = goes_where_may c.args.image.now k.typings k.machine k.good c.args.vm.now k.stands c.args.thread may in
    absurd (cc (sym goes ∙ (sym c.goes_on.ensures ∙ c.if-not-goes_on.true)))

logs_here : (c : goal.After-log_steps) → c.log_steps.new.log.items ≡ logged_some c.args.log.now.items c.args.worker c.args.thread c.try_steps-tried.result.steps
logs_here c = c.log_steps.ensures ∙ ap (λ (l : List Entry). logged_some l c.args.worker c.args.thread c.try_steps-tried.result.steps) c.reserve.ensures.items

pub returns-clause-logs : goal.returns-clause-logs
returns-clause-logs c = logs_here c

pub returns-clause-kept : goal.returns-clause-kept
returns-clause-kept c main lent k home =
    let goes = sym c.goes_on.ensures ∙ c.if-not-goes_on.false in
    let d = c.try_steps-tried.ensures.done k.typings k.machine k.good k.stands goes in
    kept_among c.args.image.now main c.args.vm.now c.args.log.now.items lent k c.args.worker c.args.thread c.try_steps-tried.result.steps c.try_steps-tried.new.vm d c.log_steps.new.log.items lent (logs_here c) home k.local

pub returns-clause-limits : goal.returns-clause-limits
returns-clause-limits c main lent k =
    (c.try_steps-tried.ensures.done k.typings k.machine k.good k.stands (sym c.goes_on.ensures ∙ c.if-not-goes_on.false)).limits

pub returns-clause-stay : goal.returns-clause-stay
returns-clause-stay c main lent k home =
    let d = c.try_steps-tried.ensures.done k.typings k.machine k.good k.stands (sym c.goes_on.ensures ∙ c.if-not-goes_on.false) in
    frames_stay c.args.image.now k.typings k.machine c.args.thread c.args.vm.now c.try_steps-tried.new.vm lent k.stands d.others home k.local

pub returns-clause-some : goal.returns-clause-some
returns-clause-some c main lent k may none = c.try_steps-tried.ensures.some k.typings k.machine k.good k.stands may (omega arith) none

pub returns-then-is_err-clause-done : goal.returns-then-is_err-clause-done
returns-then-is_err-clause-done c main lent k = done_none c.args.image.now k.typings k.machine k.good c.args.vm.now k.stands c.args.thread

pub returns-then-not-goes_on-clause-done : goal.returns-then-not-goes_on-clause-done
returns-then-not-goes_on-clause-done c main lent k = done_none c.args.image.now k.typings k.machine k.good c.args.vm.now k.stands c.args.thread

pub returns-clause-done : goal.returns-clause-done
returns-clause-done c main lent k = c.try_steps-tried.ensures.done k.typings k.machine k.good k.stands (sym c.goes_on.ensures ∙ c.if-not-goes_on.false)

pub returns-then-not-goes_on-clause-turned : goal.returns-then-not-goes_on-clause-turned
returns-then-not-goes_on-clause-turned c main lent k may whole =
    let goes = goes_where_may c.args.image.now k.typings k.machine k.good c.args.vm.now k.stands c.args.thread may in
    absurd (cc (sym goes ∙ (sym c.goes_on.ensures ∙ c.if-not-goes_on.true)))

pub returns-clause-turned : goal.returns-clause-turned
returns-clause-turned c main lent k may whole =
    let goes = sym c.goes_on.ensures ∙ c.if-not-goes_on.false in
    let some = c.try_steps-tried.ensures.some k.typings k.machine k.good k.stands may (omega arith) whole in
    turned_from c.args.image.now main c.args.vm.now c.args.log.now.items lent k c.args.thread 256 c.try_steps-tried.result.steps c.args.worker c.try_steps-tried.new.vm may (omega arith)
    (c.try_steps-tried.ensures.turned k.typings k.machine k.good k.stands goes whole) c.log_steps.new.log.items
    (logs_here c ∙ logged_all c.args.log.now.items c.args.worker c.args.thread c.try_steps-tried.result.steps some)
