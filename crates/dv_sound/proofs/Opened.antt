-- As a run begins, its words stand for the opening state.
use Rattle.std.proofs.Common.{◌≡◌, ◌<◌, ◌≤◌, ◌^◌, Result, Ok, Err, length, ap, sym, subst, arith}
use Rattle.std.specs.declared.alloc.AllocError.{AllocError}
use Rattle.std.specs.Prelude.{IfOk}
use Rattle.dv_defs.specs.declared.names.MethodId.{MethodId}
use Rattle.dv_defs.specs.declared.run.Limits.{Limits}
use Rattle.dv_defs.specs.Images.{Image}
use Rattle.dv_defs.specs.Pools.{Method}
use Rattle.dv_machine.specs.Accepted.{Accepted}
use Rattle.dv_machine.specs.Opening as tagged
use Rattle.dv_machine.specs.Mains.{IsMain}
use Rattle.dv_machine.specs.WellTyped.{Typings}
use Rattle.dv_words.specs.State.{WordMachine}
use Rattle.dv_words.specs.Opening as words
use Rattle.law_words.specs.StepLaws.{AllKeysRise, InitsAreTexts, StringsFit}
use Rattle.law_engine.specs.Laws.{IsSimulated}
use Rattle.law_engine.proofs.Statics.{statics_are_whole_of_linked}
use Rattle.law_engine.proofs.Steps.{openings_are_simulated}
use Rattle.dv_threads.specs.Kept.{threads_of}
use Rattle.dv_core.specs.declared.vm.Vm.{Vm}
use Rattle.dv_core.specs.Guests.{IsOrdered}
use Rattle.dv_core.specs.Machines.{machine_of}
use Rattle.dv_core.specs.Openings.{HasMainRoom}
use Rattle.dv_sound.specs.Moves.{AreUsable, StandsFor}
use Rattle.dv_machine.specs.Mains.{HasMain}
use Rattle.dv_sound.specs.Runs.{IsOpened}

has_main_room : (l : Limits) → AreUsable l → HasMainRoom l
has_main_room l u = record { room = record { levels = let two = u.levels in omega arith; words = u.words }; levels = u.levels }

module _ (image : Image) (T : Typings) (main : MethodId) (l : Limits) (v : Vm) (accepted : Accepted image T) (strings : StringsFit image) (keys : AllKeysRise image) (texts : InitsAreTexts image) (numbered : l.threads < 2 ^ 32) (counted : l.budget < 2 ^ 64)
    (opens : (m : Method) → m.id ≡ main.0 → IsMain image m → HasMainRoom l → machine_of v ≡ words.opening image m l) (ordered : IsOrdered l v.guest) (has : HasMain image main.0) (usable : AreUsable l) where
  opening_is : machine_of v ≡ words.opening image has.method l
  opening_is = opens has.method has.numbered has.is_main (has_main_room l usable)

  limits_are : v.limits ≡ l
  limits_are = ap (λ (w : WordMachine). w.limits) opening_is

  one_thread : length (threads_of v.guest.threads) ≡ 1
  one_thread = ap (λ (w : WordMachine). length w.threads) opening_is

  no_steps : v.steps ≡ 0
  no_steps = ap (λ (w : WordMachine). w.steps) opening_is

  simulated : IsSimulated image T (machine_of v) (tagged.opening image has.method l)
  simulated =
      subst (λ (w : WordMachine). IsSimulated image T w (tagged.opening image has.method l)) (sym opening_is)
      (openings_are_simulated image T has.method l accepted has.is_main (statics_are_whole_of_linked image accepted.inits) texts usable.heap)

  stands : StandsFor image T v (tagged.opening image has.method l)
  stands = record {
    simulated = simulated;
    ordered = subst (λ (k : Limits). IsOrdered k v.guest) (sym limits_are) ordered;
    usable = subst AreUsable (sym limits_are) usable;
    few = subst (λ (k : Limits). length (threads_of v.guest.threads) ≤ k.threads) (sym limits_are) (let some = usable.threads in omega (arith, one_thread));
    numbered = subst (λ (k : Limits). k.threads < 2 ^ 32) (sym limits_are) numbered;
    spent = omega (arith, no_steps);
    counted = subst (λ (k : Limits). k.budget < 2 ^ 64) (sym limits_are) counted;
  }

  -- the engine stands at the opening
  stands_opened : IsOpened image main l v
  stands_opened = record { has_main = has; typings = T; good = record { accepted = accepted; strings = strings; keys = keys }; stands = stands; limits = limits_are }

-- so it does where opening it didn't want memory
module _ (image : Image) (T : Typings) (main : MethodId) (l : Limits) (accepted : Accepted image T) (strings : StringsFit image) (keys : AllKeysRise image) (texts : InitsAreTexts image) (numbered : l.threads < 2 ^ 32) (counted : l.budget < 2 ^ 64) (has : HasMain image main.0)
    (usable : AreUsable l) where
  pub opened_if_ok : (r : Result Vm AllocError) →
      IfOk r (λ v. (m : Method) → m.id ≡ main.0 → IsMain image m → HasMainRoom l → machine_of v ≡ words.opening image m l) →
      IfOk r (λ v. IsOrdered l v.guest) → IfOk r (λ v. IsOpened image main l v)
  opened_if_ok (Ok v) opens ordered = stands_opened image T main l v accepted strings keys texts numbered counted opens ordered has usable
  opened_if_ok (Err e) opens ordered = tt
