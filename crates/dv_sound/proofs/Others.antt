-- While a thread steps, the others stand as they stood.
use Rattle.std.proofs.Common.{◌≡◌, ◌≢◌, ℕ, zero, suc, Bool, true, Option, Some, None, Ok, Err, Result, List, [], ◌∷◌, All, get_or, refl, sym, ap, ◌∙◌, subst}
use Rattle.std.specs.Prelude.{slice_get, slice_set}
use Rattle.dv_defs.specs.Images.{Image}
use Rattle.dv_machine.specs.Replaying.{next_is_local}
use Rattle.dv_machine.specs.State.{Machine}
use Rattle.dv_machine.specs.WellTyped.{Typings}
use Rattle.dv_words.specs.declared.state.Frame.{Frame}
use Rattle.dv_words.specs.declared.state.Level.{Level}
use Rattle.dv_words.specs.State.{WordMachine, WordThread}
use Rattle.dv_words.specs.Step.{step}
use Rattle.law_words.specs.StepLaws.{with_top}
use Rattle.law_engine.specs.KeepLaws.{next_is_local_of, thread_is_local_of}
use Rattle.law_engine.proofs.Others.{steps_leave_others}
use Rattle.law_engine.proofs.Staying.{next_is_alike}
use Rattle.dv_core.specs.declared.vm.Step.{Step}
use Rattle.dv_core.specs.declared.vm.Step.TheVariants.{Done, Held}
use Rattle.dv_core.specs.declared.vm.Vm.{Vm}
use Rattle.dv_core.specs.Advancing.{running_frame}
use Rattle.dv_core.specs.Machines.{machine_of}
use Rattle.dv_core.specs.Trying.{IsTried}
use Rattle.dv_sound.specs.Moves.{FramesStay, KeepsOthers, StandsFor}

set_other : {A : Type 0} (xs : List A) (t u : ℕ) (v : A) → u ≢ t → slice_get (slice_set xs t v) u ≡ slice_get xs u
set_other [] t u v ne = refl
set_other (x ∷ xs) zero zero v ne = absurd (ne refl)
set_other (x ∷ xs) zero (suc u) v ne = refl
set_other (x ∷ xs) (suc t) zero v ne = refl
set_other (x ∷ xs) (suc t) (suc u) v ne = set_other xs t u v (λ e. ne (ap suc e))

pub keeps_same : (t : ℕ) (old new : Vm) → machine_of new ≡ machine_of old → KeepsOthers t old new
keeps_same t old new same u th ne has = ap (λ (w : WordMachine). slice_get w.threads u) same ∙ has

pub keeps_then : (t : ℕ) (a b c : Vm) → KeepsOthers t a b → KeepsOthers t b c → KeepsOthers t a c
keeps_then t a b c one two u th ne has = two u th ne (one u th ne has)

pub keeps_run : (t n : ℕ) (old new : Vm) (own : WordThread) (f : Frame) (ls : List Level) → machine_of new ≡ with_top (machine_of old) t own f ls n → KeepsOthers t old new
keeps_run t n old new own f ls is u th ne has = ap (λ (w : WordMachine). slice_get w.threads u) is ∙ set_other (machine_of old).threads t u _ ne ∙ has

pub keeps_step : {E : Type 0} (image : Image) (t : ℕ) (old new : Vm) (r : Result Step E) (may : Bool) → IsTried r may old new (step image (machine_of old) t) → KeepsOthers t old new
keeps_step image t old new (Ok Done) may is v th ne has = ap (λ (w : WordMachine). slice_get w.threads v) is.1 ∙ (steps_leave_others image (machine_of old) t).others v th ne has
keeps_step image t old new (Ok Held) may is v th ne has = keeps_same t old new is.1 v th ne has
keeps_step image t old new (Err memory) may is v th ne has = keeps_same t old new is.0 v th ne has

-- ---- those whose next step is local

local_there : (image : Image) (w : WordMachine) (u : ℕ) → next_is_local_of image w u ≡ true → (th : WordThread) × (slice_get w.threads u ≡ Some th)
local_there image w u is = by (slice_get w.threads u) refl is
  where
    by : (o : Option WordThread) → slice_get w.threads u ≡ o → thread_is_local_of image o ≡ true → (th : WordThread) × (slice_get w.threads u ≡ Some th)
    by None there e = absurd (cc e)
    by (Some th) there e = (th, there)

module _ (image : Image) (t u : ℕ) (old new : Vm) (others : KeepsOthers t old new) (ne : u ≢ t) (local : next_is_local_of image (machine_of old) u ≡ true) where
  stays : slice_get (machine_of new).threads u ≡ slice_get (machine_of old).threads u
  stays = let x = local_there image (machine_of old) u local in others u x.0 ne x.1 ∙ sym x.1

  -- it stays local
  pub stays_local : next_is_local_of image (machine_of new) u ≡ true
  stays_local = ap (thread_is_local_of image) stays ∙ local

  -- the frame stays
  pub stays_at : running_frame (slice_get (machine_of new).threads u) ≡ running_frame (slice_get (machine_of old).threads u)
  stays_at = ap running_frame stays

-- ---- frames of threads

pub frames_same : (old new : WordMachine) (ts : List ℕ) → new ≡ old → FramesStay old new ts
frames_same old new ts same i d l = ap (λ (w : WordMachine). running_frame (slice_get w.threads (get_or ts i d))) same

pub frames_then : (a b c : WordMachine) (ts us : List ℕ) → us ≡ ts → FramesStay a b ts → FramesStay b c us → FramesStay a c ts
frames_then a b c ts us is one two i d l = subst (FramesStay b c) is two i d l ∙ one i d l

-- threads whose next steps are local, but for the one that steps
pub frames_stay : (image : Image) (T : Typings) (m : Machine) (t : ℕ) (old new : Vm) (ts : List ℕ) → StandsFor image T old m → KeepsOthers t old new → All (λ (u : ℕ). u ≢ t) ts → All (λ (u : ℕ). next_is_local image m u ≡ true) ts →
    FramesStay (machine_of old) (machine_of new) ts
frames_stay image T m t old new ts at others home local i d l =
    stays_at image t (get_or ts i d) old new others (home i d l) (next_is_alike image T (machine_of old) m (get_or ts i d) at.simulated ∙ local i d l)
