use Rattle.std.proofs.Common.{◌≡◌, List, Some, refl, ap, sym, ◌∙◌}
use Rattle.std.specs.Prelude.{is_none}
use Rattle.dv_defs.specs.Pools.{method_at}
use Rattle.dv_typing.specs.Statics.{fetch}
use Rattle.dv_machine.specs.Step.{no_method}
use Rattle.dv_words.specs.declared.state.Level.{Level}
use Rattle.dv_words.specs.Running.{blocked_at, blocked_levels}
use Rattle.dv_words.specs.Step.{here, no_frame}
use Rattle.dv_fetch.specs.Standing.{IsAtOp}
use Rattle.dv_core.specs.Machines.{machine_of}
use Rattle.dv_core.specs.Trying.{is_free}
use Rattle.dv_core.specs.Watching.{AreNumbered}
use Rattle.dv_core.proofs.Stepped.{code_on_top, living_code, living_none, living_record, nothing_on_top, record_on_top, sees_here, some_of}
use Rattle.dv_core.proofs.Trying.{tried_by}
use Rattle.dv_core.proofs.vm.Vm.step_living.Goals as goal

pub returns-in_default : goal.returns-in_default
returns-in_default c own able there living =
    let old = c.args.self.now in
    let none = nothing_on_top own.levels (sym c.in_default.is ∙ c.top_of.ensures own there) in
    let i = c.args.image.now in
    (ap (λ (ls : List Level). is_none (blocked_levels i (machine_of old) c.args.thread ls)) none, sym (living_none i (machine_of old) c.args.thread own none), able.ordered)

pub returns-in-Code : goal.returns-in-Code
returns-in-Code c own able there living =
    let i = c.args.image.now in
    let old = c.args.self.now in
    let t = c.args.thread in
    let on = code_on_top own.levels c.in-Code.method c.in-Code.at (sym (c.in-Some.is ∙ ap Some c.in-Code.is) ∙ c.top_of.ensures own there) in
    let f = on.frame in
    let seen0 = sees_here i old t own no_method f on.rest 0 able.ordered there in
    let stands = able.stands own (here i (machine_of old) t no_method f on.rest 0) f seen0 living on.is in
    let method = some_of (method_at i f.method.0) stands.method in
    let x = some_of (fetch i f.method.0 f.at) stands.at in
    let h = here i (machine_of old) t method.0 f on.rest x.0.next in
    let seen = sees_here i old t own method.0 f on.rest x.0.next able.ordered there in
    let at : IsAtOp own h x.0 = record { levels = on.is; method = method.1; fetched = x.1; next = refl } in
    let are : AreNumbered old.guest = record { aligned = able.ordered.aligned; few = able.numbered } in
    let free : is_none (blocked_levels i (machine_of old) t own.levels) ≡ is_free (machine_of old) h x.0.op =
    ap (λ (ls : List Level). is_none (blocked_levels i (machine_of old) t ls)) on.is ∙ (λ j. is_none (blocked_at i (machine_of old) t f (method.1 j) (x.1 j))) in
    tried_by c.step_at_code.result _ _ old c.step_at_code.new.self _ _ free (living_code i (machine_of old) t own f on.rest method.0 x.0 on.is method.1 x.1)
    (c.step_at_code.ensures own h x.0 seen at (able.instruction own h x.0 seen living at) are able.few)

pub returns-in-Init : goal.returns-in-Init
returns-in-Init c own able there living =
    let i = c.args.image.now in
    let old = c.args.self.now in
    let t = c.args.thread in
    let on = record_on_top own.levels c.in-Init.class c.in-Init.running (sym (c.in-Some.is ∙ ap Some c.in-Init.is) ∙ c.top_of.ensures own there) in
    let h = here i (machine_of old) t no_method no_frame on.rest 0 in
    let seen = sees_here i old t own no_method no_frame on.rest 0 able.ordered there in
    let may = is_none (blocked_levels i (machine_of old) t own.levels) in
    tried_by c.step_at_record.result may may old c.step_at_record.new.self _ _ refl (living_record i (machine_of old) t own c.in-Init.class c.in-Init.running on.rest on.is)
    (c.step_at_record.ensures own h seen on.is (able.class own h c.in-Init.class c.in-Init.running seen on.is) able.few)
