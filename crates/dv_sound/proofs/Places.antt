-- The state to which a log leads: there is one, and it is well typed.
use Rattle.std.proofs.Common.{◌≡◌, ◌≢◌, ℕ, Bool, true, false, Option, Some, None, refl, sym, ap, ◌∙◌, subst}
use Rattle.std.specs.Prelude.{is_none, is_some, not}
use Rattle.dv_defs.specs.declared.run.Ending.{Ending}
use Rattle.dv_defs.specs.Pools.{Method}
use Rattle.dv_machine.specs.Accepted.{Accepted}
use Rattle.dv_machine.specs.Replaying.{Replayed, Stands, replay}
use Rattle.dv_machine.specs.Running.{ending_of, runnable}
use Rattle.dv_machine.specs.State.{Machine}
use Rattle.dv_machine.specs.WellTyped.{Typings, WellTyped}
use Rattle.dv_words.specs.Running as words
use Rattle.dv_core.specs.declared.vm.Vm.{Vm}
use Rattle.dv_core.specs.Machines.{machine_of}
use Rattle.dv_sound.specs.Runs.{IsAt, IsAtSome, IsKept, IsSameRun, Run}
use Rattle.dv_sound.specs.Moves.{goes_on}
use Rattle.dv_sound.proofs.Going.{alike, going}
use Rattle.dv_sound.proofs.Keeping.{machine_is}

same_state : (m n : Machine) → (let r : Replayed = Stands m in r) ≡ Stands n → m ≡ n
same_state m n e = cc

same_method : (a b : Method) → (let o : Option Method = Some a in o) ≡ Some b → a ≡ b
same_method a b e = cc

pub same_at : (r : Run) (a b : Method) (m n : Machine) → IsAt r a m → IsAt r b n → m ≡ n
same_at r a b m n x y =
    let main = same_method a b (sym x.main_is ∙ y.main_is) in
    same_state m n (sym x.replayed ∙ ap (λ (z : Method). replay r.verified.image z r.machine.limits r.log) main ∙ y.replayed)

-- what holds of that state
pub record IsTypedAt (r : Run) (m : Machine) : Type 0 where
  pub typings : Typings
  pub accepted : Accepted r.verified.image typings
  pub typed : WellTyped r.verified.image typings m

pub typed_at : (r : Run) (main : Method) (m : Machine) → IsAtSome r → IsAt r main m → IsTypedAt r m
typed_at r main m some at = record {
  typings = some.typings;
  accepted = some.accepted;
  typed = subst (WellTyped r.verified.image some.typings) (same_at r some.main main some.machine m some.at at) some.typed;
}

-- which threads are runnable there is told by the words
pub runnable_is : (r : Run) (v : Vm) (main : Method) (m : Machine) (t : ℕ) → IsKept r.verified.image r.main v r.log r.lent → machine_of v ≡ r.machine → IsAt r main m → words.runnable r.verified.image (machine_of v) t ≡ runnable r.verified.image m t
runnable_is r v main m t k same at =
    let told = alike r.verified.image k.typings v k.machine k.good k.stands in
    told.runnable t ∙ ap (λ (x : Machine). runnable r.verified.image x t) (machine_is r v k same main m at)

-- so is whether the run goes on there, where some thread is runnable
pub goes_is : (r : Run) (v : Vm) (main : Method) (m : Machine) (t : ℕ) → IsKept r.verified.image r.main v r.log r.lent → machine_of v ≡ r.machine → IsAt r main m → runnable r.verified.image m t ≡ true →
    goes_on v ≡ is_none (ending_of r.verified.image m)
goes_is r v main m t k same at =
    subst (λ (x : Machine). runnable r.verified.image x t ≡ true → goes_on v ≡ is_none (ending_of r.verified.image x)) (machine_is r v k same main m at)
    (going r.verified.image k.typings v k.machine k.good k.stands t)

-- ---- one run after another

pub same_then : (a b c : Run) → IsSameRun a b → IsSameRun b c → IsSameRun a c
same_then a b c first second = record {
  verified = second.verified ∙ first.verified;
  main = second.main ∙ first.main;
  limits = second.limits ∙ first.limits;
  lent = second.lent ∙ first.lent;
}

-- ---- whether there is an ending

pub none_is : (o : Option Ending) (b : Bool) → is_some o ≡ not b → b ≡ true → o ≡ None
none_is None b told is = refl
none_is (Some e) true told is = absurd (cc told)
none_is (Some e) false told is = absurd (cc is)

pub some_is : (o : Option Ending) (b : Bool) → is_some o ≡ not b → b ≡ false → o ≢ None
some_is (Some e) b told is = λ d. absurd (cc d)
some_is None true told is = absurd (cc is)
some_is None false told is = absurd (cc told)
