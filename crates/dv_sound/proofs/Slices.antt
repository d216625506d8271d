-- Slices of local steps that come back: they are as many steps of the tagged machine.
use Rattle.std.proofs.Common.{◌≡◌, ◌<◌, ◌≤◌, ◌+◌, ◌-◌, ℕ, suc, Bool, true, false, Option, Some, None, List, refl, sym, ap, ◌∙◌, subst, arith, get_or}
use Rattle.std.specs.Prelude.{◌&&◌, is_none, is_some, length, min, nat_lt, slice_get, if◌then◌else◌}
use Rattle.std.proofs.lemmas.Bool.{and_right, ltb-false, ltb-true, true≢false}
use Rattle.std.proofs.lemmas.Option.{same_Some, slice_get_read}
use Rattle.dv_defs.specs.declared.machine.End.{End}
use Rattle.dv_defs.specs.declared.run.Ending.{Ending}
use Rattle.dv_defs.specs.Images.{Image}
use Rattle.dv_typing.specs.Statics.{fetch}
use Rattle.dv_machine.specs.Replaying.{next_is_local}
use Rattle.dv_machine.specs.Running.{ending_of}
use Rattle.dv_machine.specs.State.{Machine}
use Rattle.dv_machine.specs.WellTyped.{Typings}
use Rattle.dv_words.specs.declared.state.Frame.{Frame}
use Rattle.dv_words.specs.declared.state.Level.{Level}
use Rattle.dv_words.specs.Standing.{HeapFits, IsSmall}
use Rattle.dv_words.specs.State.{WordMachine, WordThread}
use Rattle.law_words.specs.StepLaws.{with_top}
use Rattle.dv_words.specs.Stepping.{RanLocally, local_here, locals_here, on_frame}
use Rattle.law_words.proofs.Slices.{local_was}
use Rattle.law_engine.proofs.Locals.{locals_follow}
use Rattle.law_engine.proofs.Staying.{next_is_alike}
use Rattle.dv_core.specs.declared.vm.Vm.{Vm}
use Rattle.dv_core.specs.Advancing.{RanSteps, RunsFrame, running_frame, runs_in}
use Rattle.dv_core.specs.Guests.{IsOrdered}
use Rattle.dv_core.specs.Machines.{machine_of}
use Rattle.dv_sound.specs.Lending.{IsDone, committed}
use Rattle.dv_sound.specs.Moves.{IsGood, StandsFor, may_step}
use Rattle.dv_sound.proofs.LocalRuns.{all_local, none_local, there}
use Rattle.dv_sound.proofs.Others.{keeps_run}
use Rattle.dv_sound.proofs.Sizes.{locals_keep, set_length}
use Rattle.dv_sound.proofs.Stepping.{IsWithin, stands_by}

-- ---- lists that a call reads

pub read_at : {X : Type 0} (xs ys : List X) (k : ℕ) (x : X) → xs ≡ ys → k < length xs → x ≡ get_or xs k x → slice_get ys k ≡ Some x
read_at xs ys k x same inside is = sym (ap (λ zs. slice_get zs k) same) ∙ slice_get_read xs (length xs) k x refl inside is

pub runs_at : (xs ys : List End) (k : ℕ) (b : Bool) → xs ≡ ys → runs_in (slice_get xs k) ≡ b → runs_in (slice_get ys k) ≡ b
runs_at xs ys k b same is = sym (ap (λ zs. runs_in (slice_get zs k)) same) ∙ is

-- a thread whose next step is local goes on at a frame
pub none_goes : (image : Image) (T : Typings) (v : Vm) (m : Machine) (t : ℕ) → IsGood image T → StandsFor image T v m → running_frame (slice_get (machine_of v).threads t) ≡ None → (may_step image m t && next_is_local image m t) ≡ false
none_goes image T v m t good at none =
    and_right (may_step image m t) (next_is_local image m t) (sym (next_is_alike image T (machine_of v) m t at.simulated) ∙ none_local image (slice_get (machine_of v).threads t) none)

-- ---- how many are done

abbrev by_ending : ℕ → Option Ending → ℕ
by_ending most o = if is_none o then most else 0

module _ (image : Image) (m : Machine) (steps : ℕ) where
  pub none_done : (o : Option Ending) → o ≡ ending_of image m → is_some o ≡ true → 0 ≡ committed image m steps
  none_done None is some = absurd (cc some)
  none_done (Some x) is some = ap (by_ending (min steps (m.limits.budget - m.steps))) is

  pub some_done : (o : Option Ending) → o ≡ ending_of image m → is_some o ≡ false → min steps (m.limits.budget - m.steps) ≡ committed image m steps
  some_done None is none = ap (by_ending (min steps (m.limits.budget - m.steps))) is
  some_done (Some x) is none = absurd (cc none)

  pub going_on : 0 < committed image m steps → ending_of image m ≡ None
  going_on some = by (ending_of image m) refl some
    where
      by : (o : Option Ending) → ending_of image m ≡ o → 0 < committed image m steps → ending_of image m ≡ None
      by None is l = is
      by (Some x) is l = let none : committed image m steps ≡ 0 = ap (by_ending (min steps (m.limits.budget - m.steps))) is in absurd (omega (arith, l, none))

  pub done_few : committed image m steps ≤ m.limits.budget - m.steps
  done_few = by (is_none (ending_of image m))
    where
      by : (b : Bool) → (if b then min steps (m.limits.budget - m.steps) else 0) ≤ m.limits.budget - m.steps
      by true = omega arith
      by false = omega arith

-- ---- a part of a slice

module _ (image : Image) (most : ℕ) (s u : Frame) (made : RanLocally image most most s u) (n : ℕ) (few : n ≤ most) where
  abbrev part_to : (v : Frame) → ((z : Frame) → locals_here image n s ≡ Some z → v ≡ z) → RanLocally image n n s v
  part_to v reached = record {
    few = omega arith;
    local = λ k z x l keys e found. made.local k z x (omega (arith, l, few)) keys e found;
    reached = λ keys z e. reached z e;
    whole = λ l x found. absurd (omega (arith, l));
  }

  first_part : (v : Frame) × RanLocally image n n s v
  first_part = by (locals_here image n s) refl
    where
      by : (o : Option Frame) → locals_here image n s ≡ o → (v : Frame) × RanLocally image n n s v
      by None is = (s, part_to s (λ z e. absurd (let d : None ≡ Some z = sym is ∙ e in cc d)))
      by (Some v) is = (v, part_to v (λ z e. same_Some v z (sym is ∙ e)))

-- ---- the steps of a slice

module _ (image : Image) (T : Typings) (old new : Vm) (m : Machine) (good : IsGood image T) (at : StandsFor image T old m) (going : ending_of image m ≡ None) (t n : ℕ) (own : WordThread) (f : Frame) (ls : List Level) (runs : RunsFrame (machine_of old) t own f ls)
    (small : IsSmall f) (heap : HeapFits (machine_of old).shared.heap) (room : old.steps + n ≤ old.limits.budget) (ordered : IsOrdered new.limits new.guest) where
  done_to : (v : Frame) → locals_here image n f ≡ Some v → machine_of new ≡ with_top (machine_of old) t own v ls n → IsDone image T m t n old new
  done_to v led is =
      let follows =
      (locals_follow image T (machine_of old) m t n own f v ls good.accepted good.strings at.simulated (record { there = runs.there; living = runs.living; levels = runs.levels }) small heap going led room).0 in
      record {
        after = follows.after;
        steps = follows.steps;
        stands = stands_by image T new (with_top (machine_of old) t own v ls n) follows.after is within_to follows.simulated ordered;
        limits = ap (λ (w : WordMachine). w.limits) is;
        others = keeps_run t n old new own v ls is;
      }
    where
      within_to : IsWithin (with_top (machine_of old) t own v ls n)
      within_to = record {
        usable = at.usable;
        few = subst (λ k. k ≤ old.limits.threads) (sym (set_length (machine_of old).threads t _)) at.few;
        numbered = at.numbered;
        spent = room;
        counted = at.counted;
      }

  module _ (most : ℕ) (end : Frame) (made : RanLocally image most most f end) where
    -- all of them
    pub done_all : n ≡ most → (length end.regs ≡ length f.regs → machine_of new ≡ with_top (machine_of old) t own end ls n) → IsDone image T m t n old new
    done_all all is =
        let whole : RanLocally image n n f end = subst (λ j. RanLocally image j j f end) (sym all) made in
        let led = all_local image T (machine_of old) m good at.simulated going t own f ls runs small heap n n end whole room in
        done_to end led (is (locals_keep image n f end led))

    -- the first ones
    module _ (few : n ≤ most) (done : ℕ) (r : RanSteps image n done (machine_of old) (machine_of new) t own f ls) where
      room_ran : old.steps + done ≤ old.limits.budget
      room_ran = let l = r.ran.few in let b = room in omega (arith, l, b)

      led_ran : locals_here image done f ≡ Some r.frame
      led_ran = all_local image T (machine_of old) m good at.simulated going t own f ls runs small heap n done r.frame r.ran room_ran

      -- one more might be done
      not_fewer : done < n → ⊥
      not_fewer l =
          let part = first_part image most f end made n few in
          let next = there image T (machine_of old) m good at.simulated going t own f ls runs small heap n n part.0 part.1 room (suc done) (omega (arith, l)) in
          let local : local_here image r.frame ≡ Some next.0 = sym (ap (λ (o : Option Frame). on_frame o (local_here image)) led_ran) ∙ next.1 in
          let was = local_was (fetch image r.frame.method.0 r.frame.at) r.frame next.0 local in
          true≢false (sym was.2 ∙ r.ran.whole l was.0 was.1)

      all_ran : done ≡ n
      all_ran = by (nat_lt done n) refl
        where
          by : (b : Bool) → nat_lt done n ≡ b → done ≡ n
          by true e = absurd (not_fewer (ltb-true done n e))
          by false e = let more = ltb-false done n e in let l = r.ran.few in omega (arith, more, l)

      pub done_first : IsDone image T m t n old new
      done_first =
          done_to r.frame (subst (λ k. locals_here image k f ≡ Some r.frame) all_ran led_ran)
          (subst (λ k. machine_of new ≡ with_top (machine_of old) t own r.frame ls k) all_ran r.machine)
