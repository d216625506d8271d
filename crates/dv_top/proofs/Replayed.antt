-- A machine that a schedule led to an ending stands at one.
use Rattle.std.proofs.Common.{◌≡◌, ◌≢◌, List, Option, Some, None, ap, sym, subst, ◌∙◌}
use Rattle.dv_defs.specs.declared.names.MethodId.{MethodId}
use Rattle.dv_defs.specs.declared.run.Ending.{Ending}
use Rattle.dv_defs.specs.declared.run.Entry.{Entry}
use Rattle.dv_defs.specs.declared.run.Limits.{Limits}
use Rattle.dv_defs.specs.Pools.{Method, method_at}
use Rattle.dv_machine.specs.Replaying.{IsFinished, Replayed, Stands}
use Rattle.dv_machine.specs.Running.{ending_of}
use Rattle.dv_machine.specs.State.{Machine}
use Rattle.dv_rules.specs.Verified.{VerifiedValue}
use Rattle.dv_sound.specs.Runs.{IsAt, Run}

-- the schedule of a program leads to an ending
abbrev Finishes : VerifiedValue → MethodId → Limits → List Entry → Type 0
Finishes v n l es = (x : Method) → method_at v.image n.0 ≡ Some x → IsFinished v.image x l es

same_state : (m n : Machine) → (let r : Replayed = Stands m in r) ≡ Stands n → m ≡ n
same_state m n e = cc

no_ending : (e : Ending) → (let o : Option Ending = Some e in o) ≡ None → ⊥
no_ending e none = cc

pub finished_ends : (r : Run) (v : VerifiedValue) (n : MethodId) (l : Limits) (es : List Entry) → r.verified ≡ v → r.main ≡ n → r.machine.limits ≡ l → r.log ≡ es → Finishes v n l es →
    (x : Method) (m : Machine) → IsAt r x m → ending_of r.verified.image m ≢ None
finished_ends r v n l es program main limits log finished x m at none =
    let one = subst (λ (w : VerifiedValue). Finishes w n l es) (sym program) finished in
    let two = subst (λ (k : MethodId). Finishes r.verified k l es) (sym main) one in
    let three = subst (λ (k : Limits). Finishes r.verified r.main k es) (sym limits) two in
    let own : Finishes r.verified r.main r.machine.limits r.log = subst (Finishes r.verified r.main r.machine.limits) (sym log) three in
    let (k, e, replayed, ends) = own x at.main_is in
    no_ending e (sym ends ∙ ap (ending_of r.verified.image) (same_state k m (sym replayed ∙ at.replayed)) ∙ none)
