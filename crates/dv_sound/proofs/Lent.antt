-- A machine that lends threads, and to which slices of their steps come back.
use Rattle.std.proofs.Common.{◌≡◌, ◌≢◌, ◌++◌, ℕ, zero, suc, Bool, true, false, Option, Some, None, List, [], ◌∷◌, All, length, refl, sym, ap, ◌∙◌, subst}
use Rattle.std.specs.Prelude.{◌&&◌, IsSome, ◌↔◌, is_none, nat_eq, not, slice_get}
use Rattle.std.proofs.lemmas.Bool.{and_from, and_parts, eq-eqb, eqb-true, true≢false}
use Rattle.std.proofs.lemmas.List.Elements.{All-append, All-cons, All-filter, All-head, All-nil, All-tail, filter_passes}
use Rattle.dv_defs.specs.declared.names.MethodId.{MethodId}
use Rattle.dv_defs.specs.declared.run.Entry.{Entry}
use Rattle.dv_defs.specs.declared.run.Limits.{Limits}
use Rattle.dv_defs.specs.Images.{Image}
use Rattle.dv_defs.specs.Pools.{Method}
use Rattle.dv_machine.specs.Replaying.{Stands, next_is_local, replay, steps_of}
use Rattle.dv_machine.specs.Running.{ending_of, runnable}
use Rattle.dv_machine.specs.State.{Machine}
use Rattle.dv_machine.specs.WellTyped.{Typings}
use Rattle.dv_words.specs.State.{WordMachine}
use Rattle.dv_local.specs.declared.slice.Slice.{Slice}
use Rattle.law_engine.proofs.Replays.{replay_appends}
use Rattle.law_engine.proofs.Staying.{next_is_alike}
use Rattle.dv_core.specs.declared.vm.Vm.{Vm}
use Rattle.dv_core.specs.Advancing.{running_frame}
use Rattle.dv_core.specs.Machines.{machine_of}
use Rattle.dv_sound.specs.Lending.{IsCommitted, IsDone, IsFirstOf, IsFitting, IsLent, IsLocalRun, IsSameProgram, MayLend, committed, logged_some, without}
use Rattle.dv_sound.specs.Moves.{FramesStay, IsGood, StandsFor, may_step}
use Rattle.dv_sound.specs.Runs.{IsAt, IsKept, Run}
use Rattle.dv_sound.proofs.Going.{may_parts}
use Rattle.dv_sound.proofs.Keeping.{machine_is, main_is}
use Rattle.dv_sound.proofs.Others.{frames_stay, stays_local}

-- ---- a thread is lent

pub kept_lent : (image : Image) (main : MethodId) (v : Vm) (log : List Entry) (lent after : List ℕ) (t : ℕ) (k : IsKept image main v log lent) → next_is_local image k.machine t ≡ true → after ≡ lent ++ t ∷ [] → IsKept image main v log after
kept_lent image main v log lent after t k local is =
    let P : ℕ → Type 0 = λ u. next_is_local image k.machine u ≡ true in
    record {
      has_main = k.has_main;
      typings = k.typings;
      good = k.good;
      machine = k.machine;
      replayed = k.replayed;
      stands = k.stands;
      local = subst (All P) (sym is) (All-append P lent (t ∷ []) k.local (All-cons P t [] local (All-nil P)));
    }

-- what a call tells of an image it tells of the same one
pub first_of : (inner mine : Image) → inner ≡ mine → (v : Vm) (t : ℕ) (o : Option Slice) → ((T : Typings) (m : Machine) → IsGood inner T → StandsFor inner T v m → IsFirstOf o inner m v t) → (T : Typings) (m : Machine) → IsGood mine T → StandsFor mine T v m →
    IsFirstOf o mine m v t
first_of inner mine is v t o told = subst (λ (i : Image). (T : Typings) (m : Machine) → IsGood i T → StandsFor i T v m → IsFirstOf o i m v t) is told

pub first_local : (image : Image) (m : Machine) (v : Vm) (t : ℕ) (s : Slice) → IsFirstOf (Some s) image m v t → next_is_local image m t ≡ true
first_local image m v t s is = (and_parts (may_step image m t) (next_is_local image m t) is.0).1

module _ (r : Run) (v : Vm) (k : IsKept r.verified.image r.main v r.log r.lent) (same : machine_of v ≡ r.machine) (t : ℕ) (home : All (λ (u : ℕ). u ≢ t) r.lent) where
  may_lend : (may_step r.verified.image k.machine t && next_is_local r.verified.image k.machine t) ≡ true → (main : Method) (m : Machine) → IsAt r main m → MayLend r m t
  may_lend e main m at =
      let both = and_parts (may_step r.verified.image k.machine t) (next_is_local r.verified.image k.machine t) e in
      let parts = may_parts r.verified.image k.machine t both.0 in
      subst (λ (x : Machine). MayLend r x t) (machine_is r v k same main m at) (record { turns = record { goes_on = parts.0; runs = parts.1; at_home = home }; local = both.1 })

  may_not : (may_step r.verified.image k.machine t && next_is_local r.verified.image k.machine t) ≡ false → (main : Method) (m : Machine) → IsAt r main m → MayLend r m t → ⊥
  may_not e main m at may =
      let mine = subst (λ (x : Machine). MayLend r x t) (sym (machine_is r v k same main m at)) may in
      true≢false
      (sym
      (and_from (may_step r.verified.image k.machine t) (next_is_local r.verified.image k.machine t)
      (and_from (is_none (ending_of r.verified.image k.machine)) (runnable r.verified.image k.machine t) (ap is_none mine.turns.goes_on) mine.turns.runs) mine.local) ∙ e)

  pub lends : (o : Option Slice) → IsFirstOf o r.verified.image k.machine v t → (main : Method) (m : Machine) → IsAt r main m → (IsSome o ↔ MayLend r m t)
  lends None is main m at = (λ e. absurd (cc e), λ may. absurd (may_not is main m at may))
  lends (Some s) is main m at = (λ e. may_lend is.0 main m at, λ may. refl)

  pub run_lent : (s : Slice) (after : List ℕ) → IsFirstOf (Some s) r.verified.image k.machine v t → after ≡ r.lent ++ t ∷ [] → IsLent r (record { verified = r.verified; main = r.main; machine = machine_of v; log = r.log; lent = after }) t s
  run_lent s after is lent = record {
    first = is.1;
    stands = ap (λ (w : WordMachine). running_frame (slice_get w.threads t)) (sym same) ∙ is.2;
    now = λ i. record { verified = r.verified; main = r.main; machine = same i; log = r.log; lent = lent i };
  }

-- ---- a slice comes back

pub done_of : (inner mine : Image) → inner ≡ mine → (v new : Vm) (s : Slice) (n : ℕ) →
    ((T : Typings) (m : Machine) → IsGood inner T → StandsFor inner T v m → IsLocalRun inner s → running_frame (slice_get (machine_of v).threads s.thread) ≡ Some s.start → IsDone inner T m s.thread n v new) → (T : Typings) (m : Machine) → IsGood mine T → StandsFor mine T v m → IsLocalRun mine s →
    running_frame (slice_get (machine_of v).threads s.thread) ≡ Some s.start → IsDone mine T m s.thread n v new
done_of inner mine is v new s n told =
    subst
    (λ (i : Image). (T : Typings) (m : Machine) → IsGood i T → StandsFor i T v m → IsLocalRun i s → running_frame (slice_get (machine_of v).threads s.thread) ≡ Some s.start →
    IsDone i T m s.thread n v new) is told

pub count_of : (inner mine : Image) → inner ≡ mine → (v : Vm) (steps n : ℕ) → ((T : Typings) (m : Machine) → IsGood inner T → StandsFor inner T v m → n ≡ committed inner m steps) → (T : Typings) (m : Machine) → IsGood mine T → StandsFor mine T v m → n ≡ committed mine m steps
count_of inner mine is v steps n told = subst (λ (i : Image). (T : Typings) (m : Machine) → IsGood i T → StandsFor i T v m → n ≡ committed i m steps) is told

not_same : (u t : ℕ) → not (nat_eq u t) ≡ true → u ≢ t
not_same u t e same = true≢false (sym e ∙ ap not (eq-eqb u t same))

module _ (image : Image) (main : MethodId) (v : Vm) (log : List Entry) (lent : List ℕ) (k : IsKept image main v log lent) (worker t n : ℕ) (new : Vm) (d : IsDone image k.typings k.machine t n v new) where
  pub brought : (after : List Entry) → after ≡ logged_some log worker t n → replay image k.has_main.method v.limits after ≡ Stands d.after
  brought after is = ap (replay image k.has_main.method v.limits) is ∙ by n (d.steps (length log))
    where
      by : (j : ℕ) → steps_of image (length log) t j k.machine ≡ Stands d.after → replay image k.has_main.method v.limits (logged_some log worker t j) ≡ Stands d.after
      by zero led = k.replayed ∙ led
      by (suc j) led = replay_appends image k.has_main.method v.limits log (record { worker = worker; thread = t; steps = suc j }) k.machine d.after k.replayed led

  -- other threads that are lent
  pub kept_among : (after : List Entry) (home : List ℕ) → after ≡ logged_some log worker t n → All (λ (u : ℕ). u ≢ t) home → All (λ (u : ℕ). next_is_local image k.machine u ≡ true) home → IsKept image main new after home
  kept_among after home logs other local = record {
    has_main = k.has_main;
    typings = k.typings;
    good = k.good;
    machine = d.after;
    replayed = subst (λ (l : Limits). replay image k.has_main.method l after ≡ Stands d.after) (sym d.limits) (brought after logs);
    stands = d.stands;
    local = λ i x l. stays _ (other i x l) (local i x l);
  }
    where
      stays : (u : ℕ) → u ≢ t → next_is_local image k.machine u ≡ true → next_is_local image d.after u ≡ true
      stays u ne e =
          sym (next_is_alike image k.typings (machine_of new) d.after u d.stands.simulated) ∙
          stays_local image t u v new d.others ne (next_is_alike image k.typings (machine_of v) k.machine u k.stands.simulated ∙ e)

  pub kept_home : (after : List Entry) (home : List ℕ) → after ≡ logged_some log worker t n → home ≡ without lent t → IsKept image main new after home
  kept_home after home logs is =
      kept_among after home logs
      (subst (All (λ (u : ℕ). u ≢ t)) (sym is) (λ i x l. not_same _ t (filter_passes (λ u. not (nat_eq u t)) lent i x l)))
      (subst (All (λ (u : ℕ). next_is_local image k.machine u ≡ true)) (sym is) (All-filter (λ u. not (nat_eq u t)) (λ (u : ℕ). next_is_local image k.machine u ≡ true) lent k.local))

  -- the other threads that are lent stand where they stood
  pub others_lent : FramesStay (machine_of v) (machine_of new) (without lent t)
  others_lent =
      frames_stay image k.typings k.machine t v new (without lent t) k.stands d.others (λ i x l. not_same _ t (filter_passes (λ u. not (nat_eq u t)) lent i x l))
      (All-filter (λ u. not (nat_eq u t)) (λ (u : ℕ). next_is_local image k.machine u ≡ true) lent k.local)

module _ (r : Run) (v new : Vm) (k : IsKept r.verified.image r.main v r.log r.lent) (same : machine_of v ≡ r.machine) (worker : ℕ) (s : Slice) (n : ℕ) (d : IsDone r.verified.image k.typings k.machine s.thread n v new) (after : List Entry) (home : List ℕ) where
  abbrev pub run_home : Run
  run_home = record { verified = r.verified; main = r.main; machine = machine_of new; log = after; lent = home }

  pub run_committed : n ≡ committed r.verified.image k.machine s.steps → after ≡ logged_some r.log worker s.thread n → home ≡ without r.lent s.thread → (main : Method) (m : Machine) → IsAt r main m → IsCommitted r run_home main m worker s n
  run_committed count logs is main m at =
      let machine : k.machine ≡ m = machine_is r v k same main m at in
      let method : k.has_main.method ≡ main = main_is r v k same main m at in
      record {
        count = subst (λ (x : Machine). n ≡ committed r.verified.image x s.steps) machine count;
        after = d.after;
        steps = λ j. subst (λ (x : Machine). steps_of r.verified.image j s.thread n x ≡ Stands d.after) machine (d.steps j);
        at = record {
          main_is = at.main_is;
          replayed = ap (λ (l : Limits). replay r.verified.image main l after) d.limits ∙ subst (λ (x : Method). replay r.verified.image x v.limits after ≡ Stands d.after) method (brought r.verified.image r.main v r.log r.lent k worker s.thread n new d after logs);
        };
        logs = logs;
        home = is;
      }

  pub run_program : IsSameProgram r run_home
  run_program = record { verified = refl; main = refl; limits = d.limits ∙ ap (λ (w : WordMachine). w.limits) same }

-- ---- a slice still fits

member : (P : ℕ → Type 0) (ts : List ℕ) (t : ℕ) → All P ts → (All (λ (u : ℕ). u ≢ t) ts → ⊥) → P t
member P [] t all some = absurd (some (All-nil _))
member P (u ∷ ts) t all some = by (nat_eq u t) refl (λ other. member P ts t (All-tail P u ts all) other)
  where
    by : (b : Bool) → nat_eq u t ≡ b → ((All (λ (v : ℕ). v ≢ t) ts → ⊥) → P t) → P t
    by true e rest = subst P (eqb-true u t e) (All-head P u ts all)
    by false e rest = rest (λ home. some (All-cons (λ (v : ℕ). v ≢ t) u ts (λ same. true≢false (sym (eq-eqb u t same) ∙ e)) home))

-- where its thread is still lent, and the threads that were lent stand where they stood
pub fits_still : (old new : Run) (s : Slice) → FramesStay old.machine new.machine old.lent → IsFitting old s → (All (λ (t : ℕ). t ≢ s.thread) new.lent → ⊥) → IsFitting new s
fits_still old new s stay fits lent = record {
  lent = lent;
  stands = member (λ t. running_frame (slice_get new.machine.threads t) ≡ running_frame (slice_get old.machine.threads t)) old.lent s.thread stay fits.lent ∙ fits.stands;
}
