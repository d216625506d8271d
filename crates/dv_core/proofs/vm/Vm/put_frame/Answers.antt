use Rattle.std.proofs.Common.{◌∙◌, Option, refl, sym, ap}
use Rattle.dv_words.specs.declared.state.Frame.{Frame}
use Rattle.dv_words.specs.Stacks.{changed}
use Rattle.dv_core.specs.Advancing.{takes, top_frame}
use Rattle.dv_core.specs.Guests.{shared_of}
use Rattle.dv_core.proofs.Advanced.{no_frame, own_frame, own_stack, running_own, still_ordered, wrote_frame}
use Rattle.dv_core.proofs.vm.Vm.put_frame.Goals as goal

pub returns-else-is_running-clause-takes : goal.returns-else-is_running-clause-takes
returns-else-is_running-clause-takes c ordered =
    let ts = c.args.self.now.guest.threads in
    c.if-is_running.false ∙
    sym (ap (λ (q : Option Frame). takes q c.args.frame.now) (no_frame ts.stacks.items ts.ends.items ts.objects.items c.args.thread (sym c.if-is_running.ensures)))

pub returns-then-is_running-clause-takes : goal.returns-then-is_running-clause-takes
returns-then-is_running-clause-takes c ordered =
    let ts = c.args.self.now.guest.threads in
    let t = c.args.thread in
    let at = running_own ts.stacks.items ts.ends.items ts.objects.items t ordered.aligned.ends ordered.aligned.objects (sym c.if-is_running.ensures) in
    let has = own_stack ts.stacks.items ts.ends.items ts.objects.items t at.own at.there in
    c.put_top.ensures.takes has.stack has.there ∙
    ap (λ (q : Option Frame). takes q c.args.frame.now) (ap top_frame has.levels ∙ sym (own_frame ts.stacks.items ts.ends.items ts.objects.items t at.own at.there at.ends))

pub returns-then-is_running-clause-put : goal.returns-then-is_running-clause-put
returns-then-is_running-clause-put c own f ls runs is =
    let old = c.args.self.now in
    let ts = old.guest.threads in
    let t = c.args.thread in
    let has = own_stack ts.stacks.items ts.ends.items ts.objects.items t own runs.there in
    let put = c.put_top.ensures.put has.stack has.there is in
    let threads = wrote_frame ts.stacks.items ts.ends.items ts.objects.items t own runs.there f ls runs.living runs.levels c.args.frame.now c.put_top.new.stacks.items
    (changed (λ g. c.args.frame.now) has.stack) put refl in
    λ j. record { threads = threads j; shared = shared_of old.guest; steps = old.steps; stop = old.stop; limits = old.limits; preallocated = old.preallocated }

pub returns-then-is_running-clause-ordered : goal.returns-then-is_running-clause-ordered
returns-then-is_running-clause-ordered c ordered = still_ordered c.args.self.now.limits c.args.self.now.guest _ refl refl c.put_top.ensures.bounds ordered
