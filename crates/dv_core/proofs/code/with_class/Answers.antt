use Rattle.std.proofs.Common.{◌∙◌, ◌∷◌, Bool, List, Ok, refl, sym, ap, subst}
use Rattle.std.specs.Prelude.{is_none}
use Rattle.std.specs.declared.alloc.AllocError.{AllocError}
use Rattle.dv_defs.specs.declared.machine.Ask.{Ask}
use Rattle.dv_defs.specs.declared.machine.Ask.TheVariants as asks
use Rattle.dv_defs.specs.declared.run.Limits.{Limits}
use Rattle.dv_defs.specs.declared.run.Named.TheVariants as named
use Rattle.dv_defs.specs.declared.run.Next.TheVariants as next
use Rattle.dv_machine.specs.Classes.{ask_of}
use Rattle.dv_machine.specs.Running.{by_ask}
use Rattle.dv_machine.specs.State.{Did}
use Rattle.dv_words.specs.declared.state.Level.{Level}
use Rattle.dv_words.specs.declared.state.Level.TheVariants as level
use Rattle.dv_words.specs.Answering.{Leads}
use Rattle.dv_words.specs.Running.{blocked_op}
use Rattle.dv_words.specs.Step.{act, begun, for_class}
use Rattle.dv_words.specs.Steps.{Left}
use Rattle.dv_core.specs.Guests.{Leaves, Stays}
use Rattle.dv_core.specs.Machines.{machine_with}
use Rattle.dv_core.proofs.Acts.{led_by}
use Rattle.dv_core.proofs.Seen.{ask_is, seen_here, unchanged}
use Rattle.dv_core.proofs.Trying.{tries_by}
use Rattle.dv_core.proofs.code.with_class.Goals as goal

pub returns-in-Go : goal.returns-in-Go
returns-in-Go c s e p are own h x seen at fits local here =
    let l = c.args.limits.now in
    let old = c.args.guest.now in
    let n = c.args.class.0 in
    let ls : List Level = level.Code h.frame ∷ h.rest in
    let rest = blocked_op h.image (machine_with old s e l p) h.thread h.own h.frame x.op in
    let by : Ask → Did Left = λ a. for_class h ls n a (act h x.op) in
    let free : Ask → Bool = λ a. is_none (by_ask a rest n) in
    let asked = ask_is c.args.image.now l old c.args.thread own h seen n ∙ sym c.ask.ensures ∙ c.in-Go.is in
    tries_by c.act.result (free (ask_of h.shared.classes n h.thread)) (is_none rest) (by (ask_of h.shared.classes n h.thread)) (act h x.op) l old c.act.new.guest own h (ap free asked) (ap by asked)
    (c.act.ensures s e p are own h x seen at fits local here)

pub returns-in-Begin : goal.returns-in-Begin
returns-in-Begin c s e p are own h x seen at fits local here =
    let l = c.args.limits.now in
    let old = c.args.guest.now in
    let n = c.args.class.0 in
    let ls : List Level = level.Code h.frame ∷ h.rest in
    let rest = blocked_op h.image (machine_with old s e l p) h.thread h.own h.frame x.op in
    let by : Ask → Did Left = λ a. for_class h ls n a (act h x.op) in
    let free : Ask → Bool = λ a. is_none (by_ask a rest n) in
    let asked = ask_is c.args.image.now l old c.args.thread own h seen n ∙ sym c.ask.ensures in
    let P : List Level → Type 0 = λ ks. Leads {E = AllocError} (Ok c.begin.result) (begun h n ks) (Leaves old c.begin.new.guest own h) (Stays h.limits old c.begin.new.guest) in
    let Q : Limits → Type 0 = λ k. Leads {E = AllocError} (Ok c.begin.result) (begun h n ls) (Leaves old c.begin.new.guest own h) (Stays k old c.begin.new.guest) in
    let is = asked ∙ c.in-Begin.is in
    let done = c.begin.ensures own h (seen_here c.args.image.now l old c.args.thread own h seen) (ap (ask_of h.shared.classes n) (sym seen.number) ∙ is) in
    (ap free is, led_by {E = AllocError} (Ok c.begin.result) (by (ask_of h.shared.classes n h.thread)) (begun h n ls) _ _ (ap by is) (subst Q seen.limits (subst P at.levels done)))

pub returns-in-Wait : goal.returns-in-Wait
returns-in-Wait c s e p are own h x seen at fits local here =
    let l = c.args.limits.now in
    let old = c.args.guest.now in
    let n = c.args.class.0 in
    let rest = blocked_op h.image (machine_with old s e l p) h.thread h.own h.frame x.op in
    let free : Ask → Bool = λ a. is_none (by_ask a rest n) in
    let asked = ask_is c.args.image.now l old c.args.thread own h seen n ∙ sym c.ask.ensures ∙ c.in-Wait.is in
    (ap free asked, unchanged c.args.image.now l old c.args.thread own h seen)

pub returns-in-Bad : goal.returns-in-Bad
returns-in-Bad c s e p are own h x seen at fits local here =
    let l = c.args.limits.now in
    let old = c.args.guest.now in
    let n = c.args.class.0 in
    let ls : List Level = level.Code h.frame ∷ h.rest in
    let rest = blocked_op h.image (machine_with old s e l p) h.thread h.own h.frame x.op in
    let by : Ask → Did Left = λ a. for_class h ls n a (act h x.op) in
    let free : Ask → Bool = λ a. is_none (by_ask a rest n) in
    let asked = ask_is c.args.image.now l old c.args.thread own h seen n ∙ sym c.ask.ensures ∙ c.in-Bad.is in
    (ap free asked, led_by {E = AllocError} (Ok (next.Throw named.NoClassDef)) (by (ask_of h.shared.classes n h.thread)) (by asks.Bad) _ _ (ap by asked) (refl, unchanged c.args.image.now l old c.args.thread own h seen))
