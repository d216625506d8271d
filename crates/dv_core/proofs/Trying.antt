-- A step that is tried.
use Rattle.std.proofs.Common.{◌≡◌, ◌∙◌, ℕ, Bool, true, false, Option, Some, None, Result, Ok, Err, refl, sym, ap, subst}
use Rattle.std.specs.Prelude.{◌&&◌, is_none, slice_get}
use Rattle.std.specs.declared.alloc.AllocError.{AllocError}
use Rattle.dv_defs.specs.declared.machine.End.{End}
use Rattle.dv_defs.specs.declared.machine.End.TheVariants as end
use Rattle.dv_defs.specs.declared.run.Ending.{Ending}
use Rattle.dv_defs.specs.declared.run.Limits.{Limits}
use Rattle.dv_defs.specs.declared.run.Next.{Next}
use Rattle.dv_defs.specs.declared.run.Preallocated.{Preallocated}
use Rattle.dv_defs.specs.Images.{Image}
use Rattle.dv_defs.specs.Op.{Enter, Invoke, New, Op, StaticGet, StaticPut, is_local}
use Rattle.dv_defs.specs.Pools.{Method}
use Rattle.dv_machine.specs.State.{Did}
use Rattle.dv_words.specs.declared.state.Frame.{Frame}
use Rattle.dv_words.specs.Running.{blocked_levels, blocked_of, blocked_op, runnable, runnable_one}
use Rattle.dv_words.specs.State.{WordMachine, WordThread}
use Rattle.dv_words.specs.Steps.{At, Left}
use Rattle.dv_words.specs.Threads.{is_alive, is_living}
use Rattle.dv_mem.specs.Stepping.{is_mem}
use Rattle.dv_core.specs.declared.guest.Guest.{Guest}
use Rattle.dv_core.specs.declared.vm.Step.{Step}
use Rattle.dv_core.specs.declared.vm.Vm.{Vm}
use Rattle.dv_core.specs.Guests.{Does, Stays}
use Rattle.dv_core.specs.Machines.{machine_with}
use Rattle.dv_core.specs.Trying.{IsTried, Tries, freely, is_free}
use Rattle.dv_core.proofs.Waits.{lives_waits, other_waits, runs}

-- ---- answers

-- of a thread that nothing holds up
pub tries_free : (r : Result Next AllocError) (b : Bool) (d : Did Left) (l : Limits) (old new : Guest) (own : WordThread) (h : At) → b ≡ true → Does r d l old new own h → Tries (freely r) b d l old new own h
tries_free (Ok a) b d l old new own h is does = (is, does)
tries_free (Err e) b d l old new own h is does = does

-- of an outcome that is the same
pub tries_by : (r : Result (Option Next) AllocError) (a b : Bool) (d e : Did Left) (l : Limits) (old new : Guest) (own : WordThread) (h : At) → a ≡ b → d ≡ e → Tries r b e l old new own h → Tries r a d l old new own h
tries_by r a b d e l old new own h free same does =
    subst (λ (c : Bool). Tries r c d l old new own h) (sym free) (subst (λ (y : Did Left). Tries r b y l old new own h) (sym same) does)

-- a guest that stays makes the same machine
pub machine_after : (l : Limits) (old mid : Guest) → Stays l old mid → (s : ℕ) (e : Option Ending) (p : Preallocated) → machine_with mid s e l p ≡ machine_with old s e l p
machine_after l old mid same s e p = λ j. record { threads = same.threads j; shared = same.shared j; steps = s; stop = e; limits = l; preallocated = p }

-- ---- operations that hold up no thread

module _ (image : Image) (m : WordMachine) (t : ℕ) (own : Method) (f : Frame) where
  pub mem_free : (op : Op) → is_mem op ≡ true → blocked_op image m t own f op ≡ None
  mem_free (Enter a) e = absurd (cc e)
  mem_free (Invoke c ks g) e = absurd (cc e)
  mem_free op e = refl

pub local_free : (m : WordMachine) (h : At) (op : Op) → is_local op ≡ true → is_free m h op ≡ true
local_free m h (Enter a) e = absurd (cc e)
local_free m h (Invoke c ks g) e = absurd (cc e)
local_free m h (New a c) e = absurd (cc e)
local_free m h (StaticGet s a x) e = absurd (cc e)
local_free m h (StaticPut s a x) e = absurd (cc e)
local_free m h op e = refl

-- ---- a thread by its number

module _ (image : Image) (m : WordMachine) (t : ℕ) where
  living_runs : (own : WordThread) → slice_get m.threads t ≡ Some own → (b : Bool) → is_alive own.end ≡ b → runnable image m t ≡ (b && is_none (blocked_of image m t))
  living_runs own there b e = runs image m t b (ap is_living there ∙ e)

  pub runs_free : (own : WordThread) → slice_get m.threads t ≡ Some own → own.end ≡ end.Living → runnable image m t ≡ is_none (blocked_levels image m t own.levels)
  runs_free own there living = living_runs own there true (ap is_alive living) ∙ ap is_none (sym (lives_waits image m t own there living))

  pub flying_runs : (own : WordThread) (o : ℕ) → slice_get m.threads t ≡ Some own → own.end ≡ end.Flying o → runnable image m t ≡ true
  flying_runs own o there flying =
      living_runs own there true (ap is_alive flying) ∙ ap is_none (sym (other_waits image m t (end.Flying o) own there flying (λ e. let d : end.Flying o ≡ end.Living = e in cc d)))

  ended_dies : (e : End) → ((e ≡ end.Living) → ⊥) → ((o : ℕ) → e ≡ end.Flying o → ⊥) → is_alive e ≡ false
  ended_dies end.Living living flying = absurd (living refl)
  ended_dies (end.Flying o) living flying = absurd (flying o refl)
  ended_dies end.Returned living flying = refl
  ended_dies (end.Died o) living flying = refl

  pub ended_stays : (own : WordThread) (e : End) → slice_get m.threads t ≡ Some own → own.end ≡ e → ((e ≡ end.Living) → ⊥) → ((o : ℕ) → e ≡ end.Flying o → ⊥) → runnable image m t ≡ false
  ended_stays own e there is living flying = living_runs own there false (ap is_alive is ∙ ended_dies e living flying)

  pub none_stays : slice_get m.threads t ≡ None → runnable image m t ≡ false
  none_stays none = ap (runnable_one image m t) none

-- ---- a machine

-- by what tells whether the thread may step, and what its step comes to
pub tried_by : {E : Type 0} (r : Result Step E) (a b : Bool) (old new : Vm) (m n : WordMachine) → a ≡ b → m ≡ n → IsTried r b old new n → IsTried r a old new m
tried_by r a b old new m n may same is =
    subst (λ (c : Bool). IsTried r c old new m) (sym may) (subst (λ (w : WordMachine). IsTried r b old new w) (sym same) is)
