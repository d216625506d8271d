use Rattle.std.proofs.Common.{◌∙◌, Some, sym, ap}
use Rattle.std.specs.Prelude.{slice_get}
use Rattle.dv_core.specs.Machines.{machine_of}
use Rattle.dv_defs.specs.declared.machine.End.TheVariants as end
use Rattle.dv_core.proofs.Waits.{are_numbered, lives_waits, no_own, none_waits, other_waits, own_at}
use Rattle.dv_core.proofs.vm.Vm.blocked.Goals as goal

pub returns-in_err-end_at : goal.returns-in_err-end_at
returns-in_err-end_at c w =
    let v = c.args.self.now in
    let t = c.args.thread in
    c.from_residual.ensures ∙
    none_waits c.args.image.now (machine_of v) t
    (no_own v.guest (are_numbered c.args.image.now v w) t (c.in_err-end_at.ensures ∙ ap (λ es. slice_get es t) c.deref.ensures.value))

pub returns-in-Living : goal.returns-in-Living
returns-in-Living c w =
    let v = c.args.self.now in
    let t = c.args.thread in
    let at = own_at v.guest (are_numbered c.args.image.now v w) t end.Living (ap Some (sym c.in-Living.is) ∙ (c.in_ok-end_at.ensures ∙ ap (λ es. slice_get es t) c.deref.ensures.value)) in
    c.blocked_living.ensures at.own w at.there at.ends ∙ lives_waits c.args.image.now (machine_of v) t at.own at.there at.ends

pub returns-in_default : goal.returns-in_default
returns-in_default c w =
    let v = c.args.self.now in
    let t = c.args.thread in
    let e = c.in_ok-end_at.field-0 in
    let at = own_at v.guest (are_numbered c.args.image.now v w) t e (c.in_ok-end_at.ensures ∙ ap (λ es. slice_get es t) c.deref.ensures.value) in
    other_waits c.args.image.now (machine_of v) t e at.own at.there at.ends c.in_default.not-Living
