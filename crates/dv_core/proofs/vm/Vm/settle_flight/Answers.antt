use Rattle.std.proofs.Common.{Ok, ◌∙◌, subst}
use Rattle.dv_words.specs.Step.{end_after, end_flying}
use Rattle.dv_throw.specs.Answers.{Unwinds}
use Rattle.dv_core.specs.Guests.{Leaves, Stays}
use Rattle.dv_core.specs.Machines.{machine_of, machine_with}
use Rattle.dv_core.proofs.Counted.{counts, kept, there_left}
use Rattle.dv_core.proofs.Settles.{settled_caught, settled_flies, settled_lacking}
use Rattle.dv_core.proofs.vm.Vm.settle_flight.Goals as goal

pub returns-in-On-clause-machine : goal.returns-in-On-clause-machine
returns-in-On-clause-machine c i g own h u seen few led =
    let old = c.args.self.now in
    let t = c.args.thread in
    let led' = subst (λ a. Unwinds (Ok a) u (Leaves g old.guest own h) (Stays old.limits g old.guest)) c.in-On.is led in
    settled_caught (machine_with g old.steps old.stop old.limits old.preallocated) (machine_of c.go_on.new.self) t own (Leaves g old.guest own h) (Stays old.limits g old.guest) u led'
    (λ l left. c.go_on.ensures.machine (kept own l.levels) (there_left g old.guest t own h l seen.number seen.there left) few ∙
    counts g old.guest old.steps old.stop old.limits old.preallocated t own h l end_after seen.number seen.there left)

pub returns-in-ThrowRef-clause-machine : goal.returns-in-ThrowRef-clause-machine
returns-in-ThrowRef-clause-machine c i g own h u seen few led =
    let old = c.args.self.now in
    let t = c.args.thread in
    let o = c.in-ThrowRef.object in
    let led' = subst (λ a. Unwinds (Ok a) u (Leaves g old.guest own h) (Stays old.limits g old.guest)) c.in-ThrowRef.is led in
    settled_flies (machine_with g old.steps old.stop old.limits old.preallocated) (machine_of c.fly.new.self) t own (Leaves g old.guest own h) (Stays old.limits g old.guest) u o led'
    (λ l left. c.fly.ensures.machine (kept own l.levels) (there_left g old.guest t own h l seen.number seen.there left) few ∙
    counts g old.guest old.steps old.stop old.limits old.preallocated t own h l (end_flying o) seen.number seen.there left)

pub returns-in_default-clause-machine : goal.returns-in_default-clause-machine
returns-in_default-clause-machine c i g own h u seen few led =
    let old = c.args.self.now in
    let t = c.args.thread in
    let o = old.preallocated.out_of_memory in
    settled_lacking (machine_with g old.steps old.stop old.limits old.preallocated) (machine_of c.fly-in_default.new.self) t own (Leaves g old.guest own h) (Stays old.limits g old.guest) c.args.answer u
    c.in_default.not-On c.in_default.not-ThrowRef led
    (λ l left. c.fly-in_default.ensures.machine (kept own l.levels) (there_left g old.guest t own h l seen.number seen.there left) few ∙
    counts g old.guest old.steps old.stop old.limits old.preallocated t own h l (end_flying o) seen.number seen.there left)
