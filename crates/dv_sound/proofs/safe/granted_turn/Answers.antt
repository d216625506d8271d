use Rattle.std.proofs.Common.{◌≡◌, ◌≢◌, ◌≤◌, ◌+◌, ◌∙◌, ℕ, List, All, ap, refl, sym, subst}
use Rattle.dv_defs.specs.declared.names.MethodId.{MethodId}
use Rattle.dv_defs.specs.declared.run.Entry.{Entry}
use Rattle.dv_rules.specs.Verified.{VerifiedValue}
use Rattle.dv_words.specs.State.{WordMachine}
use Rattle.dv_core.specs.Machines.{machine_of}
use Rattle.dv_sound.specs.Moves.{FramesStay}
use Rattle.dv_sound.specs.Runs.{IsKept, MayStepThere, TurnedFrom, logged}
use Rattle.dv_sound.proofs.Counted.{turn_counted}
use Rattle.dv_sound.proofs.Keeping.{kept_again, kept_turn, limits_stay, on_each_err, turned_from}
use Rattle.dv_sound.proofs.Others.{frames_same, frames_stay}
use Rattle.dv_sound.proofs.safe.granted_turn.Goals as goal

pub returns-in_err-steps-clause-kept : goal.returns-in_err-steps-clause-kept
returns-in_err-steps-clause-kept c =
    subst (λ (v : VerifiedValue). MayStepThere v.image c.args.vm.now c.args.log.now.items c.args.thread → (main : MethodId) (lent : List ℕ) → IsKept v.image main c.args.vm.now c.args.log.now.items lent → All (λ (t : ℕ). t ≢ c.args.thread) lent →
    IsKept v.image main c.take_turn.new.vm c.reserve.new.self.items lent) c.program.view_is
    (λ there main lent k home.
    kept_again _ main c.args.vm.now c.take_turn.new.vm c.args.log.now.items c.reserve.new.self.items lent k (c.in_err-steps.ensures.turned k.typings k.machine k.good k.stands (there main lent k)) c.in_ok-reserve.ensures.items)
    c.requires.may

pub returns-clause-kept : goal.returns-clause-kept
returns-clause-kept c =
    let logs : c.push.new.self.items ≡ logged c.args.log.now.items c.args.worker c.args.thread c.in_ok-steps.steps =
    c.in_ok-push.ensures.items ∙ ap (λ (l : List Entry). logged l c.args.worker c.args.thread c.in_ok-steps.steps) c.in_ok-reserve.ensures.items in
    subst (λ (v : VerifiedValue). MayStepThere v.image c.args.vm.now c.args.log.now.items c.args.thread → (main : MethodId) (lent : List ℕ) → IsKept v.image main c.args.vm.now c.args.log.now.items lent → All (λ (t : ℕ). t ≢ c.args.thread) lent →
    IsKept v.image main c.take_turn.new.vm c.push.new.self.items lent) c.program.view_is
    (λ there main lent k home.
    let may = there main lent k in
    subst (λ (l : List Entry). IsKept c.program.inside.image main c.take_turn.new.vm l lent) (sym logs)
    (kept_turn _ main c.args.vm.now c.args.log.now.items lent k c.args.thread c.args.most c.in_ok-steps.steps c.args.worker c.take_turn.new.vm may c.requires.some
    (c.in_ok-steps.ensures.turned k.typings k.machine k.good k.stands may) home (c.take_turn.ensures.others k.typings k.machine k.good k.stands may)))
    c.requires.may

pub returns-clause-turned : goal.returns-clause-turned
returns-clause-turned c =
    let logs : c.push.new.self.items ≡ logged c.args.log.now.items c.args.worker c.args.thread c.in_ok-steps.steps =
    c.in_ok-push.ensures.items ∙ ap (λ (l : List Entry). logged l c.args.worker c.args.thread c.in_ok-steps.steps) c.in_ok-reserve.ensures.items in
    subst (λ (v : VerifiedValue). MayStepThere v.image c.args.vm.now c.args.log.now.items c.args.thread → (main : MethodId) (lent : List ℕ) (k : IsKept v.image main c.args.vm.now c.args.log.now.items lent) →
    TurnedFrom v.image main c.args.vm.now c.args.log.now.items lent k c.args.worker c.args.thread c.args.most c.in_ok-steps.steps c.take_turn.new.vm c.push.new.self.items) c.program.view_is
    (λ there main lent k.
    let may = there main lent k in
    turned_from _ main c.args.vm.now c.args.log.now.items lent k c.args.thread c.args.most c.in_ok-steps.steps c.args.worker c.take_turn.new.vm may c.requires.some
    (c.in_ok-steps.ensures.turned k.typings k.machine k.good k.stands may) c.push.new.self.items logs)
    c.requires.may

pub returns-clause-limits : goal.returns-clause-limits
returns-clause-limits c =
    subst (λ (v : VerifiedValue). MayStepThere v.image c.args.vm.now c.args.log.now.items c.args.thread → (main : MethodId) (lent : List ℕ) → IsKept v.image main c.args.vm.now c.args.log.now.items lent → c.take_turn.new.vm.limits ≡ c.args.vm.now.limits) c.program.view_is
    (λ there main lent k.
    let may = there main lent k in
    limits_stay _ main c.args.vm.now c.args.log.now.items lent k c.args.thread c.args.most c.in_ok-steps.steps c.args.worker c.take_turn.new.vm may c.requires.some
    (c.in_ok-steps.ensures.turned k.typings k.machine k.good k.stands may))
    c.requires.may

pub returns-clause-counted : goal.returns-clause-counted
returns-clause-counted c =
    subst (λ (v : VerifiedValue). MayStepThere v.image c.args.vm.now c.args.log.now.items c.args.thread → (main : MethodId) (lent : List ℕ) → IsKept v.image main c.args.vm.now c.args.log.now.items lent → c.take_turn.new.vm.steps ≡ c.args.vm.now.steps + c.in_ok-steps.steps) c.program.view_is
    (λ there main lent k.
    let may = there main lent k in
    turn_counted _ k.typings c.args.vm.now c.take_turn.new.vm k.machine c.args.thread c.args.most c.in_ok-steps.steps k.stands may c.requires.some (c.in_ok-steps.ensures.turned k.typings k.machine k.good k.stands may))
    c.requires.may

pub returns-clause-within : goal.returns-clause-within
returns-clause-within c =
    subst (λ (v : VerifiedValue). MayStepThere v.image c.args.vm.now c.args.log.now.items c.args.thread → (main : MethodId) (lent : List ℕ) → IsKept v.image main c.args.vm.now c.args.log.now.items lent → c.take_turn.new.vm.steps ≤ c.take_turn.new.vm.limits.budget) c.program.view_is
    (λ there main lent k. (c.in_ok-steps.ensures.turned k.typings k.machine k.good k.stands (there main lent k)).stands.spent)
    c.requires.may

pub returns-in_err-reserve-clause-stay : goal.returns-in_err-reserve-clause-stay
returns-in_err-reserve-clause-stay c main lent k home = frames_same (machine_of c.args.vm.now) (machine_of c.args.vm.now) lent refl

pub returns-in_err-steps-clause-stay : goal.returns-in_err-steps-clause-stay
returns-in_err-steps-clause-stay c =
    subst (λ (v : VerifiedValue). MayStepThere v.image c.args.vm.now c.args.log.now.items c.args.thread → (main : MethodId) (lent : List ℕ) → IsKept v.image main c.args.vm.now c.args.log.now.items lent → All (λ (t : ℕ). t ≢ c.args.thread) lent →
    FramesStay (machine_of c.args.vm.now) (machine_of c.take_turn.new.vm) lent) c.program.view_is
    (λ there main lent k home.
    frames_stay _ k.typings k.machine c.args.thread c.args.vm.now c.take_turn.new.vm lent k.stands (c.take_turn.ensures.others k.typings k.machine k.good k.stands (there main lent k)) home k.local)
    c.requires.may

pub returns-clause-stay : goal.returns-clause-stay
returns-clause-stay c =
    subst (λ (v : VerifiedValue). MayStepThere v.image c.args.vm.now c.args.log.now.items c.args.thread → (main : MethodId) (lent : List ℕ) → IsKept v.image main c.args.vm.now c.args.log.now.items lent → All (λ (t : ℕ). t ≢ c.args.thread) lent →
    FramesStay (machine_of c.args.vm.now) (machine_of c.take_turn.new.vm) lent) c.program.view_is
    (λ there main lent k home.
    frames_stay _ k.typings k.machine c.args.thread c.args.vm.now c.take_turn.new.vm lent k.stands (c.take_turn.ensures.others k.typings k.machine k.good k.stands (there main lent k)) home k.local)
    c.requires.may

pub returns-in_err-steps-clause-limits : goal.returns-in_err-steps-clause-limits
returns-in_err-steps-clause-limits c =
    subst (λ (v : VerifiedValue). MayStepThere v.image c.args.vm.now c.args.log.now.items c.args.thread → (main : MethodId) (lent : List ℕ) → IsKept v.image main c.args.vm.now c.args.log.now.items lent → c.take_turn.new.vm.limits ≡ c.args.vm.now.limits) c.program.view_is
    (λ there main lent k. ap (λ (w : WordMachine). w.limits) (c.in_err-steps.ensures.turned k.typings k.machine k.good k.stands (there main lent k)).machine)
    c.requires.may

pub returns-in_err-steps-clause-within : goal.returns-in_err-steps-clause-within
returns-in_err-steps-clause-within c =
    subst (λ (v : VerifiedValue). MayStepThere v.image c.args.vm.now c.args.log.now.items c.args.thread → (main : MethodId) (lent : List ℕ) → IsKept v.image main c.args.vm.now c.args.log.now.items lent → c.take_turn.new.vm.steps ≤ c.take_turn.new.vm.limits.budget) c.program.view_is
    (λ there main lent k. (c.in_err-steps.ensures.turned k.typings k.machine k.good k.stands (there main lent k)).stands.spent)
    c.requires.may

pub returns-in_err-steps-clause-refused : goal.returns-in_err-steps-clause-refused
returns-in_err-steps-clause-refused c =
    on_each_err c.from_residual-in_err-steps.result _
    (subst (λ (v : VerifiedValue). MayStepThere v.image c.args.vm.now c.args.log.now.items c.args.thread → (main : MethodId) (lent : List ℕ) → IsKept v.image main c.args.vm.now c.args.log.now.items lent →
    (machine_of c.take_turn.new.vm ≡ machine_of c.args.vm.now) × (c.reserve.new.self.items ≡ c.args.log.now.items)) c.program.view_is
    (λ there main lent k. ((c.in_err-steps.ensures.turned k.typings k.machine k.good k.stands (there main lent k)).machine, c.in_ok-reserve.ensures.items))
    c.requires.may)
