use Rattle.std.proofs.Common.{◌∙◌, true, false, sym, ap}
use Rattle.std.specs.Prelude.{is_none, slice_get}
use Rattle.dv_core.specs.Machines.{machine_of}
use Rattle.dv_core.specs.Watching.{alive_in}
use Rattle.dv_core.proofs.Waits.{alive_is, are_numbered, none_by, runs}
use Rattle.dv_core.proofs.vm.Vm.runnable.Goals as goal

pub returns-then-lives : goal.returns-then-lives
returns-then-lives c w =
    let v = c.args.self.now in
    let t = c.args.thread in
    let alive = c.if-lives.ensures ∙ ap (λ es. alive_in (slice_get es t)) c.deref.ensures.value in
    none_by c.blocked.result c.is_none.result c.is_none.ensures ∙ (ap is_none (c.blocked.ensures w) ∙
    sym (runs c.args.image.now (machine_of v) t true (alive_is v.guest (are_numbered c.args.image.now v w) t ∙ sym alive)))

pub returns-else-lives : goal.returns-else-lives
returns-else-lives c w =
    let v = c.args.self.now in
    let t = c.args.thread in
    let alive = c.if-lives.ensures ∙ ap (λ es. alive_in (slice_get es t)) c.deref.ensures.value in
    c.lives.ensures ∙ (sym c.if-lives.ensures ∙
    sym (runs c.args.image.now (machine_of v) t false (alive_is v.guest (are_numbered c.args.image.now v w) t ∙ sym alive)))
