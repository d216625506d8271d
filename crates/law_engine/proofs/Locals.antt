-- Local steps of a frame on words are as many steps of the tagged machine.
use Rattle.std.proofs.Common.{◌≡◌, ◌≤◌, ◌<◌, ◌+◌, ℕ, zero, suc, Bool, true, false, Option, Some, None, Ok, Err, List, [], ◌∷◌, refl, sym, ap, ◌∙◌, subst, arith}
use Rattle.std.specs.Prelude.{◌&&◌, nat_eq, not, slice_get, slice_set}
use Rattle.std.proofs.lemmas.Bool.Decides.{nat_tests}
use Rattle.std.proofs.lemmas.Option.{same_Some}
use Rattle.dv_defs.specs.declared.machine.End.{End}
use Rattle.dv_defs.specs.declared.machine.End.TheVariants as end
use Rattle.dv_machine.specs.Level as tagged_level
use Rattle.dv_defs.specs.Images.{Image}
use Rattle.dv_defs.specs.Op.{ConstString, FieldGet, FieldPut, Op, is_local}
use Rattle.dv_typing.specs.Statics.{At, fetch}
use Rattle.dv_machine.specs.Accepted.{Accepted}
use Rattle.dv_machine.specs.Replaying.{Turned, last_step, next_is_local, on_stands, one_more, steps_of, turn}
use Rattle.dv_machine.specs.Running.{ending_of}
use Rattle.dv_machine.specs.State.{Machine, Reads, Thread, on_next}
use Rattle.dv_machine.specs.Step as machine
use Rattle.dv_machine.specs.WellTyped.{Typings}
use Rattle.dv_words.specs.declared.state.Frame.{Frame}
use Rattle.dv_words.specs.declared.state.Kept.{Kept}
use Rattle.dv_words.specs.declared.state.Kept.TheVariants as kept
use Rattle.dv_words.specs.declared.state.Level.{Level}
use Rattle.dv_words.specs.declared.state.Level.TheVariants as level
use Rattle.dv_words.specs.Standing.{HeapFits, IsSmall, KeptFits, LevelsStand, ResultFits}
use Rattle.dv_words.specs.State.{WordMachine, WordThread}
use Rattle.law_words.specs.Laws.{ConstantFits, OperandsFit}
use Rattle.dv_words.specs.Step.{step}
use Rattle.law_words.specs.StepLaws as words
use Rattle.law_words.specs.StepLaws.{ReadsFit, StringsFit, TopFits, with_top}
use Rattle.dv_words.specs.Stepping.{local_here, locals_here, on_frame}
use Rattle.law_words.proofs.Fitting.{fetched_operands_fit}
use Rattle.law_words.proofs.Slices.{local_was, locals_are_steps, of_method}
use Rattle.law_words.proofs.ThreadSteps.{BothStand, thread_at}
use Rattle.law_machine.proofs.lemmas.Common.Lists.{set_there}
use Rattle.law_engine.specs.Laws.{IsSimulated}
use Rattle.law_engine.specs.TurnLaws.{AreSimulatedLocals, IsLivingAt, LocalsFollow, more}
use Rattle.law_engine.proofs.Constants.{long_there}
use Rattle.law_engine.proofs.Fields.{accepted_images_fit}
use Rattle.law_engine.proofs.Going.{IsAtLocal, goes_on, is_next, may_step, not_stopped}
use Rattle.law_engine.proofs.Replays.{step_done, steps_after}
use Rattle.law_engine.proofs.Small.{stays_small}
use Rattle.law_engine.proofs.Steps.{accepted_steps_follow}

-- ---- turns

-- where the next step is a local one
pub turn_begins : (image : Image) (t k : ℕ) (m n : Machine) → next_is_local image m t ≡ true → nat_eq m.steps m.limits.budget ≡ false → machine.step image m t ≡ Ok n → turn image t (suc k) m ≡ one_more (turn image t k n)
turn_begins image t k m n local budget done =
    ap (λ (b : Bool). begun (b && not (nat_eq m.steps m.limits.budget)) (machine.step image m t)) local ∙
    ap (λ (b : Bool). begun (not b) (machine.step image m t)) budget ∙ ap (begun true) done
  where
    begun : Bool → Reads Machine → Reads Turned
    begun b r = elim b as (λ z. Reads Turned) [ true ↦ on_next r (λ z. one_more (turn image t k z)) | false ↦ last_step image t m ]

none_more : (r : Reads Turned) → more 0 r ≡ r
none_more (Err y) = refl
none_more (Ok x) = let none : 0 + x.count ≡ x.count = omega arith in ap (λ (n : ℕ). let y : Reads Turned = Ok (record { count = n; machine = x.machine }) in y) none

one_of_more : (n : ℕ) (r : Reads Turned) → more n (one_more r) ≡ more (suc n) r
one_of_more n (Err y) = refl
one_of_more n (Ok x) = let both : n + suc x.count ≡ suc n + x.count = omega arith in ap (λ (k : ℕ). let y : Reads Turned = Ok (record { count = k; machine = x.machine }) in y) both

-- ---- what one step reads

result_fits : (k : Kept) → KeptFits k → ResultFits k
result_fits kept.None f = tt
result_fits (kept.One w) f = f
result_fits (kept.Two low high) f = tt

constant_fits : (image : Image) (op : Op) → OperandsFit image op → ConstantFits op
constant_fits image (ConstString a s) f = tt
constant_fits image (FieldGet s a b x) f = tt
constant_fits image (FieldPut s a b x) f = tt
constant_fits image op f = f

less_than : (a b : ℕ) → a < b → nat_eq a b ≡ false
less_than a b l = grind (arith, nat_tests, l)

-- the tagged thread stands at the instruction at which the words stand
stands_at_local : (image : Image) (m : Machine) (t : ℕ) (x : At) (s : Frame) (ls : List Level) (o : ℕ) → is_local x.op ≡ true → fetch image s.method.0 s.at ≡ Some x → BothStand (Some (record { levels = level.Code s ∷ ls; end = end.Living; object = o })) (slice_get m.threads t) → IsAtLocal image m t
stands_at_local image m t x s ls o local found both = by (slice_get m.threads t) refl both
  where
    by_parts : (ks : List tagged_level.Level) (e : End) (p : ℕ) → slice_get m.threads t ≡ Some (record { levels = ks; end = e; object = p }) → LevelsStand (level.Code s ∷ ls) ks → end.Living ≡ e → IsAtLocal image m t
    by_parts [] e p there all lives = absurd all
    by_parts (tagged_level.Init c r ∷ ks) e p there all lives = absurd all.0
    by_parts (tagged_level.Code f ∷ ks) e p there all lives =
        let here : fetch image f.method.0 f.at ≡ Some x = rw (sym all.0.method, sym all.0.at) found in
        let own = of_method image f.method.0 f.at x here in
        record {
          frame = f;
          rest = ks;
          object = p;
          there = there ∙ ap (λ (z : End). let y : Thread = record { levels = tagged_level.Code f ∷ ks; end = z; object = p } in Some y) (sym lives);
          own = own.0;
          has_own = own.1;
          at = x;
          has_at = here;
          local = local;
        }

    by : (y : Option Thread) → slice_get m.threads t ≡ y → BothStand (Some (record { levels = level.Code s ∷ ls; end = end.Living; object = o })) y → IsAtLocal image m t
    by None there both = absurd both
    by (Some th) there both = by_parts th.levels th.end th.object there both.levels both.end

-- ---- one after another

module _ (image : Image) (T : Typings) (w : WordMachine) (m : Machine) (t : ℕ) (th : WordThread) (s : Frame) (ls : List Level) (accepted : Accepted image T) (strings : StringsFit image) (simulated : IsSimulated image T w m) (living : IsLivingAt w t th s ls) (small : IsSmall s) (heap : HeapFits w.shared.heap) (stop : w.stop ≡ None) where
  abbrev Done : ℕ → Frame → Type 0
  Done n u = AreSimulatedLocals image T w (with_top w t th u ls n) m t n × IsSmall u

  abbrev top : Frame → WordThread
  top v = record { levels = level.Code v ∷ ls; end = end.Living; object = th.object }

  has_top : (v : Frame) → slice_get (slice_set w.threads t (top v)) t ≡ Some (top v)
  has_top v = set_there w.threads t (top v) th living.there

  words_are : (n : ℕ) (v : Frame) → locals_here image n s ≡ Some v → words.steps_of image n w t ≡ with_top w t th v ls n
  words_are n v is = locals_are_steps image w t n th s v ls living.there living.living living.levels is

  reads : (n : ℕ) (v : Frame) → IsSmall v → ReadsFit (with_top w t th v ls n) t
  reads n v fits = record {
    top = λ y has. subst (λ (x : WordThread). TopFits x.levels) (same_Some (top v) y (sym (has_top v) ∙ has)) (fits.regs, result_fits v.result fits.result);
    heap = heap;
  }

  none_yet : Done 0 s
  none_yet = (
    record {
      after = m;
      simulated = subst (λ (z : WordMachine). IsSimulated image T z m) (words_are 0 s refl) simulated;
      turns = λ k. let none : 0 + k ≡ k = omega arith in ap (λ (i : ℕ). turn image t i m) none ∙ sym (none_more (turn image t k m));
      steps = λ k. refl;
    },
    small,
  )

  next : (n : ℕ) (v u : Frame) → locals_here image n s ≡ Some v → local_here image v ≡ Some u → locals_here image (suc n) s ≡ Some u → w.steps + suc n ≤ w.limits.budget → Done n v → Done (suc n) u
  next n v u was is both room before =
      let so_far : AreSimulatedLocals image T w (with_top w t th v ls n) m t n = before.0 in
      let after : Machine = so_far.after in
      let stands = so_far.simulated.stands in
      let one = local_was (fetch image v.method.0 v.at) v u is in
      let x : At = one.0 in
      let both_stand : BothStand (Some (top v)) (slice_get after.threads t) = subst (λ (z : Option WordThread). BothStand z (slice_get after.threads t)) (has_top v) (thread_at (slice_set w.threads t (top v)) after.threads t stands.threads) in
      let here : IsAtLocal image after t = stands_at_local image after t x v ls th.object one.2 one.1 both_stand in
      let budget : nat_eq after.steps after.limits.budget ≡ false = less_than after.steps after.limits.budget (rw (sym stands.steps, sym stands.limits) (omega (arith, room))) in
      let going : ending_of image after ≡ None = goes_on image after t here (sym stands.stop ∙ stop) budget in
      let may = may_step image after t here in
      let follows = accepted_steps_follow image T (with_top w t th v ls n) after t accepted strings (reads n v before.1) so_far.simulated going may in
      let stepped : step image (with_top w t th v ls n) t ≡ with_top w t th u ls (suc n) = sym (ap (λ (z : WordMachine). step image z t) (words_are n v was)) ∙ words_are (suc n) u both in
      let fits = (fetched_operands_fit image (accepted_images_fit image T accepted) strings v.method.0 v.at x one.1).0 in (
        record {
          after = follows.after;
          simulated = subst (λ (z : WordMachine). IsSimulated image T z follows.after) stepped follows.simulated;
          turns = λ k. let more_steps : suc n + k ≡ n + suc k = omega arith in ap (λ (i : ℕ). turn image t i m) more_steps ∙ so_far.turns (suc k) ∙ ap (more n) (turn_begins image t k after follows.after (is_next image after t here) budget follows.stepped) ∙ one_of_more n (turn image t k follows.after);
          steps = λ k. let last : suc n ≡ n + 1 = omega arith in ap (λ (i : ℕ). steps_of image k t i m) last ∙ steps_after image k t n 1 m ∙ ap (λ r. on_stands r (steps_of image k t 1)) (so_far.steps k) ∙ ap (λ r. on_stands r (steps_of image k t 0)) (step_done image k t after follows.after going may follows.stepped);
        },
        subst IsSmall one.3 (stays_small v before.1 x.op x.next (constant_fits image x.op fits) (long_there image v.method.0 v.at x one.1)),
      )

  so_many : (n : ℕ) (u : Frame) → locals_here image n s ≡ Some u → w.steps + n ≤ w.limits.budget → Done n u
  so_many zero u is room = let same : s ≡ u = cc in subst (Done 0) same none_yet
  so_many (suc n) u is room = by (locals_here image n s) refl is (λ v e. so_many n v e (omega (arith, room)))
    where
      by : (o : Option Frame) → locals_here image n s ≡ o → on_frame o (local_here image) ≡ Some u → ((v : Frame) → locals_here image n s ≡ Some v → Done n v) → Done (suc n) u
      by None was d before = absurd (cc)
      by (Some v) was d before = next n v u was d is room (before v was)

pub locals_follow : LocalsFollow
locals_follow image T w m t n th s u ls accepted strings simulated living small heap going is room =
    so_many image T w m t th s ls accepted strings simulated living small heap (simulated.stands.stop ∙ not_stopped image m going) n u is room
