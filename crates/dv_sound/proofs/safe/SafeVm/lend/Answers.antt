use Rattle.std.proofs.Common.{◌≢◌, ◌∙◌, ℕ, All, Option, Some, None, ap, refl, sym, subst}
use Rattle.std.specs.Prelude.{IsSome, ◌↔◌}
use Rattle.dv_defs.specs.Pools.{Method}
use Rattle.dv_rules.specs.Verified.{VerifiedValue}
use Rattle.dv_machine.specs.State.{Machine}
use Rattle.dv_core.specs.Machines.{machine_of}
use Rattle.dv_local.specs.declared.slice.Slice.{Slice}
use Rattle.dv_sound.specs.Lending.{IsFirstOf, IsLent, MayLend}
use Rattle.dv_sound.specs.Runs.{IsAt, Run}
use Rattle.dv_sound.proofs.Lent.{first_local, first_of, kept_lent, lends, run_lent}
use Rattle.dv_sound.proofs.Made.{made_first}
use Rattle.dv_sound.proofs.safe.SafeVm.lend.Goals as goal

at_home : (c : goal.In_default-push) → All (λ (u : ℕ). u ≢ c.args.thread) c.self.inside.lent.items
at_home c = subst (λ (r : Run). All (λ (u : ℕ). u ≢ c.args.thread) r.lent) (sym c.self.view_is) (c.is_lent.ensures.0 c.if-is_lent.false)

-- the slice that was given, told of the image that is kept
first_here : (c : goal.In_default-push) → IsFirstOf (Some c.in-Some.slice) c.self.inside.verified.now.image c.self.invariant.machine c.self.inside.vm c.args.thread
first_here c =
    let k = c.self.invariant in
    let image = ap (λ (x : VerifiedValue). x.image) (c.verified.view_is ∙ c.verified-verified.ensures ∙ ap (λ (r : Run). r.verified) (sym c.self.view_is)) in
    subst (λ (o : Option Slice). IsFirstOf o c.self.inside.verified.now.image k.machine c.self.inside.vm c.args.thread) c.in-Some.is
    (first_of c.verified.inside.image c.self.inside.verified.now.image image c.self.inside.vm c.args.thread c.in_ok-slice.field-0 c.in_ok-slice.ensures k.typings k.machine k.good k.stands)

pub returns-in_default-clause-exact : goal.returns-in_default-clause-exact
returns-in_default-clause-exact c =
    let k = c.self.invariant in
    let image = ap (λ (x : VerifiedValue). x.image) (c.verified.view_is ∙ c.verified-verified.ensures ∙ ap (λ (r : Run). r.verified) (sym c.self.view_is)) in
    let home = subst (λ (r : Run). All (λ (u : ℕ). u ≢ c.args.thread) r.lent) (sym c.self.view_is) (c.is_lent.ensures.0 c.if-is_lent.false) in
    let first =
    subst (λ (o : Option Slice). IsFirstOf o c.self.inside.verified.now.image k.machine c.self.inside.vm c.args.thread) c.in_default.is
    (first_of c.verified.inside.image c.self.inside.verified.now.image image c.self.inside.vm c.args.thread c.in_ok-slice.field-0 c.in_ok-slice.ensures k.typings k.machine k.good k.stands) in
    let none : Option Slice = None in
    subst (λ (r : Run). (main : Method) (m : Machine) → IsAt r main m → (IsSome none ↔ MayLend r m c.args.thread)) c.self.view_is
    (lends _ c.self.inside.vm k refl c.args.thread home none first)

pub invariant_of-self-2 : goal.invariant_of-self-2
invariant_of-self-2 c =
    let local = first_local c.self.inside.verified.now.image c.self.invariant.machine c.self.inside.vm c.args.thread c.in-Some.slice (first_here c) in
    kept_lent c.self.inside.verified.now.image c.self.inside.main c.self.inside.vm c.self.inside.log.items c.self.inside.lent.items c.push.new.self.items c.args.thread c.self.invariant local c.in_default-push.ensures.items

pub returns-clause-exact : goal.returns-clause-exact
returns-clause-exact c =
    subst (λ (r : Run). (main : Method) (m : Machine) → IsAt r main m → (IsSome (Some c.in-Some.slice) ↔ MayLend r m c.args.thread)) c.self.view_is
    (lends _ c.self.inside.vm c.self.invariant refl c.args.thread (at_home c) (Some c.in-Some.slice) (first_here c))

pub returns-clause-lent : goal.returns-clause-lent
returns-clause-lent c =
    let now : Run = record { verified = c.self.inside.verified.now; main = c.self.inside.main; machine = machine_of c.self.inside.vm; log = c.self.inside.log.items; lent = c.push.new.self.items } in
    subst (λ (r : Run). IsLent r now c.args.thread c.in-Some.slice) c.self.view_is
    (run_lent _ c.self.inside.vm c.self.invariant refl c.args.thread (at_home c) c.in-Some.slice c.push.new.self.items (first_here c) c.in_default-push.ensures.items)

pub returns-clause-made : goal.returns-clause-made
returns-clause-made c = made_first c.args.self.now.verified.image c.args.thread c.in-Some.slice (first_here c).1
