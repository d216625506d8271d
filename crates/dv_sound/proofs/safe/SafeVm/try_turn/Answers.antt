use Rattle.std.proofs.Common.{◌≡◌, ◌≢◌, ◌≤◌, ◌∙◌, ℕ, List, All, false, true, ap, refl, sym, subst}
use Rattle.dv_defs.specs.declared.names.MethodId.{MethodId}
use Rattle.dv_defs.specs.Images.{Image}
use Rattle.dv_rules.specs.Verified.{VerifiedValue}
use Rattle.dv_core.specs.Machines.{machine_of}
use Rattle.dv_sound.specs.Lending.{IsDone, logged_some}
use Rattle.dv_sound.specs.Moves.{FramesStay, may_step}
use Rattle.dv_sound.specs.Runs.{AtItsState, IsKept, IsSameRun, IsTurned, MayTurn, Run, TurnedFrom, WhereKept}
use Rattle.dv_sound.proofs.Keeping.{may_at, run_same, run_turned}
use Rattle.dv_sound.specs.Trying.{IsLedBy}
use Rattle.dv_sound.proofs.Attempts.{run_led}
use Rattle.dv_sound.proofs.safe.SafeVm.try_turn.Goals as goal

-- the calls are told of the image that is kept
image_here : (c : goal.After-tried_turn) → c.verified.inside.image ≡ c.self.inside.verified.now.image
image_here c = ap (λ (x : VerifiedValue). x.image) (c.verified.view_is ∙ c.verified-verified.ensures ∙ ap (λ (r : Run). r.verified) (sym c.self.view_is))

home_here : (c : goal.After-tried_turn) → All (λ (t : ℕ). t ≢ c.args.thread) c.self.inside.lent.items
home_here c = subst (λ (r : Run). All (λ (t : ℕ). t ≢ c.args.thread) r.lent) (sym c.self.view_is) c.requires.home

pub invariant_of-self : goal.invariant_of-self
invariant_of-self c =
    subst (λ (i : Image). WhereKept i c.self.inside.vm c.self.inside.log.items (λ main lent. All (λ (t : ℕ). t ≢ c.args.thread) lent → IsKept i main c.tried_turn.new.vm c.tried_turn.new.log.items lent)) (image_here c) c.tried_turn.ensures.kept
    c.self.inside.main c.self.inside.lent.items c.self.invariant (home_here c)

pub returns-clause-logs : goal.returns-clause-logs
returns-clause-logs c = c.tried_turn.ensures.logs ∙ ap (λ (r : Run). logged_some r.log c.args.worker c.args.thread c.tried_turn.result.steps) c.self.view_is

pub returns-clause-some : goal.returns-clause-some
returns-clause-some c =
    let k = c.self.invariant in
    let i = c.self.inside.verified.now.image in
    let old : Run = record { verified = c.self.inside.verified.now; main = c.self.inside.main; machine = machine_of c.self.inside.vm; log = c.self.inside.log.items; lent = c.self.inside.lent.items } in
    let told = subst (λ (x : Image). (main : MethodId) (lent : List ℕ) (j : IsKept x main c.self.inside.vm c.self.inside.log.items lent) → may_step x j.machine c.args.thread ≡ true → c.tried_turn.result.wants ≡ false → 1 ≤ c.tried_turn.result.steps)
    (image_here c) c.tried_turn.ensures.some in
    subst (λ (r : Run). AtItsState r (λ main m. MayTurn r m c.args.thread → c.tried_turn.result.wants ≡ false → 1 ≤ c.tried_turn.result.steps)) c.self.view_is
    (λ main m at may none. told c.self.inside.main c.self.inside.lent.items k (may_at old c.self.inside.vm k refl c.args.thread main m at may) none)

pub returns-clause-same : goal.returns-clause-same
returns-clause-same c =
    let now : Run = record { verified = c.self.inside.verified.now; main = c.self.inside.main; machine = machine_of c.tried_turn.new.vm; log = c.tried_turn.new.log.items; lent = c.self.inside.lent.items } in
    let limits = subst (λ (i : Image). WhereKept i c.self.inside.vm c.self.inside.log.items (λ main lent. c.tried_turn.new.vm.limits ≡ c.self.inside.vm.limits)) (image_here c) c.tried_turn.ensures.limits
    c.self.inside.main c.self.inside.lent.items c.self.invariant in
    subst (λ (r : Run). IsSameRun r now) c.self.view_is (run_same _ c.self.inside.vm c.tried_turn.new.vm c.tried_turn.new.log.items c.self.invariant refl limits)

pub returns-clause-lent_stay : goal.returns-clause-lent_stay
returns-clause-lent_stay c =
    subst (λ (r : Run). FramesStay r.machine (machine_of c.tried_turn.new.vm) r.lent) c.self.view_is
    (subst (λ (i : Image). WhereKept i c.self.inside.vm c.self.inside.log.items (λ main lent. All (λ (t : ℕ). t ≢ c.args.thread) lent → FramesStay (machine_of c.self.inside.vm) (machine_of c.tried_turn.new.vm) lent)) (image_here c)
    c.tried_turn.ensures.stay c.self.inside.main c.self.inside.lent.items c.self.invariant (home_here c))

pub returns-clause-led : goal.returns-clause-led
returns-clause-led c =
    let k = c.self.invariant in
    let old : Run = record { verified = c.self.inside.verified.now; main = c.self.inside.main; machine = machine_of c.self.inside.vm; log = c.self.inside.log.items; lent = c.self.inside.lent.items } in
    let now : Run = record { verified = c.self.inside.verified.now; main = c.self.inside.main; machine = machine_of c.tried_turn.new.vm; log = c.tried_turn.new.log.items; lent = c.self.inside.lent.items } in
    let d = subst (λ (x : Image). (main : MethodId) (lent : List ℕ) (j : IsKept x main c.self.inside.vm c.self.inside.log.items lent) → IsDone x j.typings j.machine c.args.thread c.tried_turn.result.steps c.self.inside.vm c.tried_turn.new.vm)
    (image_here c) c.tried_turn.ensures.done c.self.inside.main c.self.inside.lent.items k in
    subst (λ (r : Run). AtItsState r (λ main m. IsLedBy r now main m c.args.thread c.tried_turn.result.steps)) c.self.view_is
    (run_led old c.self.inside.vm c.tried_turn.new.vm k refl c.args.worker c.args.thread c.tried_turn.result.steps d c.tried_turn.new.log.items c.tried_turn.ensures.logs)

pub returns-clause-turned : goal.returns-clause-turned
returns-clause-turned c =
    let k = c.self.invariant in
    let old : Run = record { verified = c.self.inside.verified.now; main = c.self.inside.main; machine = machine_of c.self.inside.vm; log = c.self.inside.log.items; lent = c.self.inside.lent.items } in
    let now : Run = record { verified = c.self.inside.verified.now; main = c.self.inside.main; machine = machine_of c.tried_turn.new.vm; log = c.tried_turn.new.log.items; lent = c.self.inside.lent.items } in
    let told = subst (λ (x : Image). (main : MethodId) (lent : List ℕ) (j : IsKept x main c.self.inside.vm c.self.inside.log.items lent) → may_step x j.machine c.args.thread ≡ true → c.tried_turn.result.wants ≡ false →
    TurnedFrom x main c.self.inside.vm c.self.inside.log.items lent j c.args.worker c.args.thread 256 c.tried_turn.result.steps c.tried_turn.new.vm c.tried_turn.new.log.items)
    (image_here c) c.tried_turn.ensures.turned in
    subst (λ (r : Run). AtItsState r (λ main m. MayTurn r m c.args.thread → c.tried_turn.result.wants ≡ false → IsTurned r now main m c.args.worker c.args.thread 256 c.tried_turn.result.steps)) c.self.view_is
    (λ main m at may whole.
    run_turned old c.self.inside.vm c.tried_turn.new.vm c.tried_turn.new.log.items k refl c.args.worker c.args.thread 256 c.tried_turn.result.steps
    (told c.self.inside.main c.self.inside.lent.items k (may_at old c.self.inside.vm k refl c.args.thread main m at may) whole) main m at)
