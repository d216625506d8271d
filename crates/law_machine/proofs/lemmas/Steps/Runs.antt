-- From steps to whole runs: on no schedule is the machine stuck.
use Rattle.std.proofs.Common.{◌≡◌, ℕ, zero, suc, Bool, true, false, List, [], ◌∷◌, Option, Some, None, subst, refl}
use Rattle.std.specs.Prelude.{Ok, Err}
use Rattle.dv_defs.specs.Images.{Image}
use Rattle.dv_defs.specs.declared.run.Ending.{Ending}
use Rattle.dv_defs.specs.declared.run.Entry.{Entry}
use Rattle.dv_machine.specs.Why.{Why}
use Rattle.dv_machine.specs.Accepted.{Accepted}
use Rattle.dv_machine.specs.Opening.{opening}
use Rattle.law_machine.specs.Premises.{HoldsOf}
use Rattle.dv_machine.specs.Replaying.{Replayed, Stands, NotRunnable, PastEnd, Wrong, on_stands, stands_on, one_step, steps_of, replay_from, replay}
use Rattle.dv_machine.specs.Running.{runnable, ending_of}
use Rattle.dv_machine.specs.State.{Machine, Reads}
use Rattle.dv_machine.specs.Step.{step}
use Rattle.law_machine.specs.StepLaws.{OpeningIsWellTyped, StepsAreSound}
use Rattle.dv_machine.specs.WellTyped.{Typings, WellTyped}
use Rattle.law_machine.specs.Bridge.{BridgeHolds}
use Rattle.law_machine.specs.Running.{AcceptedRunsNeverGoWrong}

-- a replay that isn't stuck; where it stands, the state is well typed
abbrev GoesWell : Image → Typings → Replayed → Type 0
GoesWell image T (Stands m) = WellTyped image T m
GoesWell image T (Wrong y) = ⊥
GoesWell image T (NotRunnable k) = Unit {0}
GoesWell image T (PastEnd k) = Unit {0}

read_well : (image : Image) (T : Typings) (r : Reads Machine) → HoldsOf (WellTyped image T) r → GoesWell image T (stands_on r)
read_well image T (Ok m) typed = typed
read_well image T (Err y) stuck = stuck

abbrev one_by : ℕ → Reads Machine → Option Ending → Bool → Replayed
one_by k r ending may = elim ending [ Some e ↦ PastEnd k | None ↦ elim may [ true ↦ stands_on r | false ↦ NotRunnable k ] ]

one_by_well : (image : Image) (T : Typings) (k : ℕ) (r : Reads Machine) (ending : Option Ending) (may : Bool) → (ending ≡ None → may ≡ true → HoldsOf (WellTyped image T) r) → GoesWell image T (one_by k r ending may)
one_by_well image T k r (Some e) may sound = tt
one_by_well image T k r None true sound = read_well image T r (sound refl refl)
one_by_well image T k r None false sound = tt

one_step_well : (image : Image) (T : Typings) (k t : ℕ) (m : Machine) → StepsAreSound → Accepted image T → WellTyped image T m → GoesWell image T (one_step image k t m)
one_step_well image T k t m sound accepted typed = one_by_well image T k (step image m t) (ending_of image m) (runnable image m t) (λ going may. sound image T m t accepted typed going may)

on_well : (image : Image) (T : Typings) (r : Replayed) (go : Machine → Replayed) → GoesWell image T r → ((m : Machine) → WellTyped image T m → GoesWell image T (go m)) → GoesWell image T (on_stands r go)
on_well image T (Stands m) go well next = next m well
on_well image T (NotRunnable k) go well next = tt
on_well image T (PastEnd k) go well next = tt
on_well image T (Wrong y) go well next = well

steps_well : (image : Image) (T : Typings) (k t n : ℕ) (m : Machine) → StepsAreSound → Accepted image T → WellTyped image T m → GoesWell image T (steps_of image k t n m)
steps_well image T k t zero m sound accepted typed = typed
steps_well image T k t (suc n) m sound accepted typed = on_well image T (one_step image k t m) (steps_of image k t n) (one_step_well image T k t m sound accepted typed) (λ next well. steps_well image T k t n next sound accepted well)

replay_well : (image : Image) (T : Typings) (k : ℕ) (log : List Entry) (m : Machine) → StepsAreSound → Accepted image T → WellTyped image T m → GoesWell image T (replay_from image k log m)
replay_well image T k [] m sound accepted typed = typed
replay_well image T k (e ∷ es) m sound accepted typed = on_well image T (steps_of image k e.thread e.steps m) (replay_from image (suc k) es) (steps_well image T k e.thread e.steps m sound accepted typed) (λ next well. replay_well image T (suc k) es next sound accepted well)

not_wrong : (image : Image) (T : Typings) (r : Replayed) (y : Why) → GoesWell image T r → r ≡ Wrong y → ⊥
not_wrong image T r y well is = subst (GoesWell image T) is well

-- with the bridge, the opening and the soundness of steps
pub runs_never_go_wrong : BridgeHolds → OpeningIsWellTyped → StepsAreSound → AcceptedRunsNeverGoWrong
runs_never_go_wrong bridge opens sound image linking accepts main is limits log why stuck =
    let (T, accepted) = bridge image linking accepts in
    not_wrong image T (replay image main limits log) why (replay_well image T 0 log (opening image main limits) sound accepted (opens image T main limits accepted is)) stuck
