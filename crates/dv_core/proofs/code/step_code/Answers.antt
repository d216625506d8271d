use Rattle.std.proofs.Common.{◌∙◌, ℕ, Bool, Option, Some, None, Ok, option_map, sym, ap, subst}
use Rattle.std.specs.Prelude.{is_none}
use Rattle.std.specs.declared.alloc.AllocError.{AllocError}
use Rattle.dv_defs.specs.declared.names.ClassId.{ClassId}
use Rattle.dv_defs.specs.declared.run.Next.TheVariants as next
use Rattle.dv_defs.specs.Op.{is_local, needs}
use Rattle.dv_machine.specs.Classes.{ask_of}
use Rattle.dv_machine.specs.Running.{by_ask}
use Rattle.dv_machine.specs.State.{Did}
use Rattle.dv_words.specs.Running.{blocked_needing, blocked_op}
use Rattle.dv_words.specs.State.{WordShared}
use Rattle.dv_words.specs.Step.{with_ready}
use Rattle.dv_words.specs.Steps.{Left, local_left}
use Rattle.dv_fetch.specs.declared.instruction.Instruction.{Instruction}
use Rattle.dv_core.specs.Machines.{machine_with}
use Rattle.dv_fetch.specs.Standing.{IsFound}
use Rattle.dv_core.proofs.Acts.{led_by, local_acts}
use Rattle.dv_core.proofs.Trying.{local_free, tries_by}
use Rattle.dv_core.proofs.code.step_code.Goals as goal

pub returns-in_default : goal.returns-in_default
returns-in_default c s e p are own h x seen at fits =
    let P : Option Instruction → Type 0 = λ o. IsFound o h x.op in
    absurd (subst P c.in_default.is (c.instruction_at.ensures c.args.limits.now own h x seen at))

pub returns-then-is_local : goal.returns-then-is_local
returns-then-is_local c s e p are own h x seen at fits =
    let l = c.args.limits.now in
    let P : Option Instruction → Type 0 = λ o. IsFound o h x.op in
    let here = subst P c.in-Some.is (c.instruction_at.ensures l own h x seen at) in
    let local = sym (ap is_local here.means) ∙ (sym (c.is_local.ensures here.code here.at) ∙ c.if-is_local.true) in
    let done = sym (c.step_locally-done.ensures.local l own h x seen at) ∙ local in (
      local_free (machine_with c.args.guest.now s e l p) h x.op local,
      led_by {E = AllocError} (Ok next.On) (with_ready h x.op (needs x.op)) (local_left h x.op) _ _ (local_acts h x.op local)
          (c.step_locally-done.ensures.does l own h x seen at fits.keys done),
    )

pub returns-in-None : goal.returns-in-None
returns-in-None c s e p are own h x seen at fits =
    let l = c.args.limits.now in
    let old = c.args.guest.now in
    let P : Option Instruction → Type 0 = λ o. IsFound o h x.op in
    let here = subst P c.in-Some.is (c.instruction_at.ensures l own h x seen at) in
    let local = sym (ap is_local here.means) ∙ (sym (c.is_local.ensures here.code here.at) ∙ c.if-is_local.false) in
    let number : Option ClassId → Option ℕ = λ o. option_map (λ (k : ClassId). k.0) o in
    let needed = ap needs (sym here.means) ∙ (sym (c.needs.ensures here.code here.at) ∙ ap number c.in-None.is) in
    let before : Option ℕ → Did Left = with_ready h x.op in
    let held : Option ℕ → Bool = λ k. is_none (blocked_needing h.image (machine_with old s e l p) h.thread h.own h.frame x.op k) in
    tries_by c.act.result (held (needs x.op)) (held None) (before (needs x.op)) (before None) l old c.act.new.guest own h (ap held needed) (ap before needed)
    (c.act.ensures s e p are own h x seen at fits local here)

pub returns-in-Some-needs : goal.returns-in-Some-needs
returns-in-Some-needs c s e p are own h x seen at fits =
    let l = c.args.limits.now in
    let old = c.args.guest.now in
    let P : Option Instruction → Type 0 = λ o. IsFound o h x.op in
    let here = subst P c.in-Some.is (c.instruction_at.ensures l own h x seen at) in
    let local = sym (ap is_local here.means) ∙ (sym (c.is_local.ensures here.code here.at) ∙ c.if-is_local.false) in
    let number : Option ClassId → Option ℕ = λ o. option_map (λ (k : ClassId). k.0) o in
    let needed = ap needs (sym here.means) ∙ (sym (c.needs.ensures here.code here.at) ∙ ap number c.in-Some-needs.is) in
    let before : Option ℕ → Did Left = with_ready h x.op in
    let class = c.in-Some-needs.class in
    let held : Option ℕ → Bool = λ k. is_none (blocked_needing h.image (machine_with old s e l p) h.thread h.own h.frame x.op k) in
    let by_shared : WordShared → Bool = λ k. is_none (by_ask (ask_of k.classes class.0 h.thread) (blocked_op h.image (machine_with old s e l p) h.thread h.own h.frame x.op) class.0) in
    tries_by c.with_class.result (held (needs x.op)) (by_shared h.shared) (before (needs x.op)) (before (Some class.0)) l old c.with_class.new.guest own h (ap held needed ∙ ap by_shared (sym seen.shared)) (ap before needed)
    (c.with_class.ensures s e p are own h x seen at fits local here)
