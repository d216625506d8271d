-- Local steps in one go: the engine stands where as many steps of the tagged machine lead.
use Rattle.std.proofs.Common.{◌≡◌, ◌≢◌, ◌<◌, ◌≤◌, ◌+◌, ℕ, zero, suc, Bool, true, false, Option, Some, None, Ok, Err, List, [], ◌∷◌, refl, sym, ap, ◌∙◌, subst, arith}
use Rattle.std.specs.Prelude.{◌&&◌, nat_eq, nat_lt, not, slice_get, slice_set, if◌then◌else◌}
use Rattle.std.proofs.lemmas.Bool.{and_left, and_right, eq-eqb, ltb-false, ltb-true, true≢false}
use Rattle.dv_defs.specs.declared.machine.End.{End}
use Rattle.dv_defs.specs.declared.machine.End.TheVariants as end
use Rattle.dv_defs.specs.declared.run.Limits.{Limits}
use Rattle.dv_defs.specs.Images.{Image}
use Rattle.dv_defs.specs.Op.{is_local}
use Rattle.dv_typing.specs.Statics.{At, fetch}
use Rattle.dv_machine.specs.Replaying.{Stands, Turned, is_local_at, is_running, next_is_local, steps_of, turn}
use Rattle.dv_machine.specs.Running.{ending_of}
use Rattle.dv_machine.specs.State.{Machine, Reads}
use Rattle.dv_machine.specs.WellTyped.{Typings}
use Rattle.dv_words.specs.declared.state.Frame.{Frame}
use Rattle.dv_words.specs.declared.state.Level.{Level}
use Rattle.dv_words.specs.declared.state.Level.TheVariants as level
use Rattle.dv_words.specs.Standing.{HeapFits, IsSmall}
use Rattle.dv_words.specs.State.{WordMachine, WordThread}
use Rattle.dv_words.specs.Local.{word_local}
use Rattle.law_words.specs.StepLaws.{with_top}
use Rattle.dv_words.specs.Stepping.{RanLocally, local_by, local_here, locals_here, on_frame}
use Rattle.law_machine.proofs.lemmas.Common.Lists.{set_there}
use Rattle.law_engine.specs.KeepLaws.{is_local_level_of, thread_is_local_of}
use Rattle.law_engine.specs.Laws.{IsSimulated}
use Rattle.law_engine.specs.TurnLaws.{AreSimulatedLocals, IsLivingAt, more}
use Rattle.law_engine.proofs.Locals.{locals_follow}
use Rattle.law_engine.proofs.Staying.{next_is_alike}
use Rattle.dv_core.specs.declared.vm.Vm.{Vm}
use Rattle.dv_core.specs.Advancing.{RanNone, RanSteps, RunsFrame, running_frame, top_frame}
use Rattle.dv_core.specs.Guests.{IsOrdered}
use Rattle.dv_core.specs.Machines.{machine_of}
use Rattle.dv_core.specs.Watching.{IsTopWatched}
use Rattle.dv_core.proofs.Callers.{met_top, placed_stands}
use Rattle.dv_core.proofs.Seen.{set_same}
use Rattle.dv_core.proofs.Waits.{HasCode, has_code}
use Rattle.dv_sound.specs.Moves.{HasRun, IsAffordable, IsGood, IsRun, StandsFor, goes_locally}
use Rattle.dv_sound.proofs.Going.{watchable}
use Rattle.dv_sound.proofs.Sizes.{locals_keep, set_length}
use Rattle.dv_sound.proofs.Stepping.{IsWithin, stands_by, within}

some_of : {A : Type 0} (o : Option A) → o ≢ None → (x : A) × (o ≡ Some x)
some_of None none = absurd (none refl)
some_of (Some x) none = (x, refl)

-- ---- local instructions of a frame, each of which stands where those before it led

living_at : (w : WordMachine) (t : ℕ) (own : WordThread) (f : Frame) (ls : List Level) → RunsFrame w t own f ls → IsLivingAt w t own f ls
living_at w t own f ls r = record { there = r.there; living = r.living; levels = r.levels }

module _ (image : Image) (T : Typings) (w : WordMachine) (m : Machine) (good : IsGood image T) (sim : IsSimulated image T w m) (going : ending_of image m ≡ None) (t : ℕ) (own : WordThread) (f : Frame) (ls : List Level) (runs : RunsFrame w t own f ls)
    (small : IsSmall f) (heap : HeapFits w.shared.heap) (most done : ℕ) (u : Frame) (ran : RanLocally image most done f u) (room : w.steps + done ≤ w.limits.budget) where
  follow : (n : ℕ) (v : Frame) → n ≤ done → locals_here image n f ≡ Some v → AreSimulatedLocals image T w (with_top w t own v ls n) m t n × IsSmall v
  follow n v le e = locals_follow image T w m t n own f v ls good.accepted good.strings sim (living_at w t own f ls runs) small heap going e (let r = room in omega (arith, le, r))

  -- where so many of them led, an instruction stands
  stood : (n : ℕ) (v : Frame) → AreSimulatedLocals image T w (with_top w t own v ls n) m t n → (x : At) × (fetch image v.method.0 v.at ≡ Some x)
  stood n v led =
      let top : WordThread = record { levels = level.Code v ∷ ls; end = end.Living; object = own.object } in
      let now = with_top w t own v ls n in
      let met = met_top image T now led.after t top v ls led.simulated.typed led.simulated.stands (set_there w.threads t top own runs.there) refl refl in
      some_of (fetch image v.method.0 v.at) (placed_stands image T led.after.shared.heap _ v met.frame good.accepted met.placed met.stands).at

  -- it is local
  one_more : (n : ℕ) (v : Frame) → n < done → locals_here image n f ≡ Some v → (z : Frame) × (locals_here image (suc n) f ≡ Some z)
  one_more n v l e =
      let le : n ≤ done = omega (arith, l) in
      by (fetch image v.method.0 v.at) refl (stood n v (follow n v le e).0)
    where
      by : (o : Option At) → fetch image v.method.0 v.at ≡ o → (x : At) × (fetch image v.method.0 v.at ≡ Some x) → (z : Frame) × (locals_here image (suc n) f ≡ Some z)
      by None found x = let d : None ≡ Some x.0 = sym found ∙ x.1 in absurd (cc d)
      by (Some x) found y =
          let local : is_local x.op ≡ true = ran.local n v x l (λ k q y l e f. good.keys q.method.0 q.at y f) e found in
          (word_local x.op v x.next, ap (λ (o : Option Frame). on_frame o (local_here image)) e ∙ ap (λ (o : Option At). local_by o v) found ∙ ap (λ b. elim b as (λ q. Option Frame) [ true ↦ Some (word_local x.op v x.next) | false ↦ None ]) local)

  pub there : (n : ℕ) → n ≤ done → (v : Frame) × (locals_here image n f ≡ Some v)
  there zero le = (f, refl)
  there (suc n) le = let before = there n (omega (arith, le)) in one_more n before.0 (omega (arith, le)) before.1

  pub all_local : locals_here image done f ≡ Some u
  all_local =
      let all = there done (omega arith) in
      let same : u ≡ all.0 = ran.reached (λ k q y l e f. good.keys q.method.0 q.at y f) all.0 all.1 in
      subst (λ (z : Frame). locals_here image done f ≡ Some z) (sym same) all.1

  -- all of them
  led : AreSimulatedLocals image T w (with_top w t own u ls done) m t done
  led = (follow done u (omega arith) all_local).0

  -- the next one isn't local, where more might have been done
  next_stops : done < most → next_is_local image led.after t ≡ false
  next_stops l =
      let x = stood done u led in
      let now = with_top w t own u ls done in
      let top : WordThread = record { levels = level.Code u ∷ ls; end = end.Living; object = own.object } in
      sym (next_is_alike image T now led.after t led.simulated) ∙ ap (thread_is_local_of image) (set_there w.threads t top own runs.there) ∙ ap is_local_at x.1 ∙ ran.whole l x.0 x.1

-- ---- a run of an engine

spent_stops : (image : Image) (t : ℕ) (m : Machine) → m.steps ≡ m.limits.budget → goes_locally image t m ≡ false
spent_stops image t m e = and_right (next_is_local image m t) (not (nat_eq m.steps m.limits.budget)) (ap not (eq-eqb m.steps m.limits.budget e))

no_more : (r : Reads Turned) → r ≡ more 0 r
no_more (Ok x) = ap (λ n. let r : Reads Turned = Ok (record { count = n; machine = x.machine }) in r) (omega arith)
no_more (Err y) = refl

-- a thread that doesn't go on at a frame
pub none_local : (image : Image) (o : Option WordThread) → running_frame o ≡ None → thread_is_local_of image o ≡ false
none_local image None e = refl
none_local image (Some th) e = by th.end th.levels e
  where
    by_levels : (ls : List Level) → top_frame ls ≡ None → is_local_level_of image ls ≡ false
    by_levels [] e = refl
    by_levels (level.Code f ∷ ls) e = absurd (cc e)
    by_levels (level.Init c r ∷ ls) e = refl

    by : (x : End) (ls : List Level) → (if is_running x then top_frame ls else None) ≡ None → (is_running x && is_local_level_of image ls) ≡ false
    by end.Living ls e = by_levels ls e
    by (end.Flying o) ls e = refl
    by end.Returned ls e = refl
    by (end.Died o) ls e = refl

module _ (image : Image) (T : Typings) (old new : Vm) (m : Machine) (good : IsGood image T) (at : StandsFor image T old m) (t asked most done : ℕ) (may : IsAffordable old.steps old.limits.budget asked most) (ordered : IsOrdered new.limits new.guest) where
  -- none was done, since the next step isn't local
  still_ran : done ≡ 0 → machine_of new ≡ machine_of old → next_is_local image m t ≡ false → IsRun image T m t asked done new
  still_ran none same stays = record {
    after = m;
    stands = stands_by image T new (machine_of old) m same (within image T old m at) at.simulated ordered;
    turns = λ k. subst (λ n. turn image t (n + k) m ≡ more n (turn image t k m)) (sym none) (ap (λ j. turn image t j m) (let none_more : 0 + k ≡ k = omega arith in none_more) ∙ no_more (turn image t k m));
    steps = λ k. subst (λ n. steps_of image k t n m ≡ Stands m) (sym none) refl;
    limits = refl;
    whole = λ l. and_left (next_is_local image m t) (not (nat_eq m.steps m.limits.budget)) stays;
  }

  pub none_ran : running_frame (slice_get (machine_of old).threads t) ≡ None → RanNone done (machine_of old) (machine_of new) → IsRun image T m t asked done new
  none_ran stays ran = still_ran ran.none ran.same (sym (next_is_alike image T (machine_of old) m t at.simulated) ∙ none_local image (slice_get (machine_of old).threads t) stays)

  -- where the next step of a thread at a frame isn't local
  module _ (own : WordThread) (f : Frame) (ls : List Level) (runs : RunsFrame (machine_of old) t own f ls) (r : RanSteps image most done (machine_of old) (machine_of new) t own f ls) (stays : next_is_local image m t ≡ false) where
    here : HasCode image f
    here = has_code image f (subst (IsTopWatched image) runs.levels ((watchable image T old m good at).tops t own runs.there runs.living)).stands

    not_here : is_local here.x.op ≡ false
    not_here =
        ap is_local_at (sym here.fetched) ∙
        ap (λ (th : WordThread). is_running th.end && is_local_level_of image th.levels) (λ j. record { levels = sym runs.levels j; end = sym runs.living j; object = own.object }) ∙
        ap (thread_is_local_of image) (sym runs.there) ∙ next_is_alike image T (machine_of old) m t at.simulated ∙ stays

    none_done : done ≡ 0
    none_done = by done refl
      where
        by : (n : ℕ) → done ≡ n → done ≡ 0
        by zero e = e
        by (suc n) e =
            let some : 0 < done = omega (arith, e) in
            absurd (true≢false (sym (r.ran.local 0 f here.x some (λ k v y l. absurd (omega (arith, l))) refl here.fetched) ∙ not_here))

    same_top : machine_of new ≡ machine_of old
    same_top =
        let frame : r.frame ≡ f = r.ran.reached (λ k v y l e g. good.keys v.method.0 v.at y g) f (ap (λ n. locals_here image n f) none_done) in
        let steps : old.steps + done ≡ old.steps = (let z = none_done in omega (arith, z)) in
        let top : (let th : WordThread = record { levels = level.Code r.frame ∷ ls; end = end.Living; object = own.object } in th) ≡ own =
        λ j. record { levels = ((λ i. level.Code (frame i) ∷ ls) ∙ sym runs.levels) j; end = sym runs.living j; object = own.object } in
        r.machine ∙
        (λ j. record (machine_of old) { threads = (ap (slice_set (machine_of old).threads t) top ∙ set_same (machine_of old).threads t own runs.there) j; steps = steps j })

    pub not_ran : IsRun image T m t asked done new
    not_ran = still_ran none_done same_top stays

  module _ (going : ending_of image m ≡ None) (own : WordThread) (f : Frame) (ls : List Level) (runs : RunsFrame (machine_of old) t own f ls) (small : IsSmall f) (heap : HeapFits (machine_of old).shared.heap) (few : done ≤ most) (r : RanSteps image most done (machine_of old) (machine_of new) t own f ls) where
    room : old.steps + done ≤ old.limits.budget
    room = let some = may.room in let l = few in omega (arith, some, l)

    abbrev by : AreSimulatedLocals image T (machine_of old) (with_top (machine_of old) t own r.frame ls done) m t done
    by = led image T (machine_of old) m good at.simulated going t own f ls runs small heap most done r.frame r.ran room

    within_by : IsWithin (with_top (machine_of old) t own r.frame ls done)
    within_by = record {
      usable = at.usable;
      few = subst (λ n. n ≤ old.limits.threads) (sym (set_length (machine_of old).threads t _)) at.few;
      numbered = at.numbered;
      spent = room;
      counted = at.counted;
    }

    -- where the budget is spent
    by_spent : done < asked → most ≤ done → goes_locally image t by.after ≡ false
    by_spent l late =
        let steps : old.steps + done ≡ by.after.steps = by.simulated.stands.steps in
        let limits : old.limits ≡ by.after.limits = by.simulated.stands.limits in
        let cut : old.steps + most ≡ old.limits.budget = (let f = few in may.all (omega (arith, l, late, f))) in
        let budget : old.limits.budget ≡ by.after.limits.budget = ap (λ (x : Limits). x.budget) limits in
        spent_stops image t by.after (let f = few in omega (arith, steps, cut, budget, late, f))

    pub some_sized : HasRun (machine_of old) (machine_of new) t done own f ls
    some_sized = record {
      frame = r.frame;
      sized = locals_keep image done f r.frame (all_local image T (machine_of old) m good at.simulated going t own f ls runs small heap most done r.frame r.ran room);
      machine = r.machine;
    }

    pub some_ran : IsRun image T m t asked done new
    some_ran = record {
      after = by.after;
      stands = stands_by image T new (with_top (machine_of old) t own r.frame ls done) by.after r.machine within_by by.simulated ordered;
      turns = by.turns;
      steps = by.steps;
      limits = sym by.simulated.stands.limits ∙ at.simulated.stands.limits;
      whole = λ l. stops l (nat_lt done most) refl;
    }
      where
        stops : done < asked → (b : Bool) → nat_lt done most ≡ b → goes_locally image t by.after ≡ false
        stops l true e =
            and_left (next_is_local image by.after t) (not (nat_eq by.after.steps by.after.limits.budget))
            (next_stops image T (machine_of old) m good at.simulated going t own f ls runs small heap most done r.frame r.ran room (ltb-true done most e))
        stops l false e = by_spent l (ltb-false done most e)
