use Rattle.std.proofs.lemmas.Grind.{moves}
use Rattle.std.proofs.Common.{Ok, ap, ◌∙◌, subst, arith}
use Rattle.std.specs.Prelude.{slice_get}
use Rattle.std.specs.declared.alloc.AllocError.{AllocError}
use Rattle.dv_words.specs.Answering.{Leads}
use Rattle.dv_words.specs.Step.{end_after}
use Rattle.dv_core.specs.Guests.{Leaves, Stays}
use Rattle.dv_core.specs.Machines.{machine_of, machine_with}
use Rattle.dv_core.proofs.Counted.{counts, kept, there_left}
use Rattle.dv_core.proofs.Settles.{flies_on, settled_on, settled_ref, settled_room, settled_words}
use Rattle.dv_core.proofs.vm.Vm.settle.Goals as goal

pub returns-in-On-clause-ok : goal.returns-in-On-clause-ok
returns-in-On-clause-ok c g d own h x seen at few led =
    let i = c.args.image.now in
    let old = c.args.self.now in
    let t = c.args.thread in
    let led' = subst (λ a. Leads {E = AllocError} (Ok a) d (Leaves g old.guest own h) (Stays old.limits g old.guest)) c.in-On.is led in
    settled_on i (machine_with g old.steps old.stop old.limits old.preallocated) (machine_of c.go_on.new.self) t own x (Leaves g old.guest own h) (Stays old.limits g old.guest) d led'
    (λ l left. c.go_on.ensures.machine (kept own l.levels) (there_left g old.guest t own h l seen.number seen.there left) few ∙
    counts g old.guest old.steps old.stop old.limits old.preallocated t own h l end_after seen.number seen.there left)

pub returns-in-ThrowRef-clause-ok : goal.returns-in-ThrowRef-clause-ok
returns-in-ThrowRef-clause-ok c g d own h x seen at few led =
    let i = c.args.image.now in
    let old = c.args.self.now in
    let t = c.args.thread in
    let o = c.in-ThrowRef.object in
    let led' = subst (λ a. Leads {E = AllocError} (Ok a) d (Leaves g old.guest own h) (Stays old.limits g old.guest)) c.in-ThrowRef.is led in
    settled_ref i (machine_with g old.steps old.stop old.limits old.preallocated) (machine_of c.fly.new.self) t own x (Leaves g old.guest own h) (Stays old.limits g old.guest) d o led'
    (λ stays. c.fly.ensures.machine own (ap (λ ts. slice_get ts t) stays.threads ∙ seen.there) few ∙
    flies_on i old.limits g old.guest old.steps old.stop old.limits old.preallocated t own h o seen stays)

pub returns-in-NoWords-clause-ok : goal.returns-in-NoWords-clause-ok
returns-in-NoWords-clause-ok c g d own h x seen at few led =
    let i = c.args.image.now in
    let old = c.args.self.now in
    let t = c.args.thread in
    let led' = subst (λ a. Leads {E = AllocError} (Ok a) d (Leaves g old.guest own h) (Stays old.limits g old.guest)) c.in-NoWords.is led in
    settled_words i (machine_with g old.steps old.stop old.limits old.preallocated) (machine_of c.fly-in-NoWords.new.self) t own x (Leaves g old.guest own h) (Stays old.limits g old.guest) d led'
    (λ stays. c.fly-in-NoWords.ensures.machine own (ap (λ ts. slice_get ts t) stays.threads ∙ seen.there) few ∙
    flies_on i old.limits g old.guest old.steps old.stop old.limits old.preallocated t own h old.preallocated.out_of_memory seen stays)

pub returns-in-NoRoom-clause-ok : goal.returns-in-NoRoom-clause-ok
returns-in-NoRoom-clause-ok c g d own h x seen at few led =
    let i = c.args.image.now in
    let old = c.args.self.now in
    let t = c.args.thread in
    let led' = subst (λ a. Leads {E = AllocError} (Ok a) d (Leaves g old.guest own h) (Stays old.limits g old.guest)) c.in-NoRoom.is led in
    settled_room i (machine_with g old.steps old.stop old.limits old.preallocated) (machine_of c.fly-in-NoRoom.new.self) t own x (Leaves g old.guest own h) (Stays old.limits g old.guest) d led'
    (λ stays. c.fly-in-NoRoom.ensures.machine own (ap (λ ts. slice_get ts t) stays.threads ∙ seen.there) few ∙
    flies_on i old.limits g old.guest old.steps old.stop old.limits old.preallocated t own h old.preallocated.stack_overflow seen stays)

pub returns-in-Throw-clause-ordered : goal.returns-in-Throw-clause-ordered
returns-in-Throw-clause-ordered c g d own h x seen at led = grind (arith, moves)
