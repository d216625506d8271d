-- What a machine keeps: its log leads to where its engine stands.
use Rattle.std.proofs.Common.{◌≡◌, ◌≢◌, ◌≤◌, ℕ, suc, true, Option, Some, None, Ok, Err, Result, List, [], ◌∷◌, All, refl, sym, ap, ◌∙◌, subst}
use Rattle.std.specs.Prelude.{IfOk, OnErr, is_none, length}
use Rattle.std.proofs.lemmas.Bool.{and_from}
use Rattle.std.proofs.lemmas.List.Elements.{All-nil}
use Rattle.std.specs.List.{AllZip}
use Rattle.dv_defs.specs.declared.names.MethodId.{MethodId}
use Rattle.dv_defs.specs.declared.run.Ending.{Ending}
use Rattle.dv_defs.specs.declared.run.Entry.{Entry}
use Rattle.dv_defs.specs.declared.run.Limits.{Limits}
use Rattle.dv_defs.specs.Images.{Image}
use Rattle.dv_defs.specs.Pools.{Method, method_at}
use Rattle.dv_machine.specs.Opening.{opening}
use Rattle.dv_machine.specs.Replaying.{IsFinished, Replayed, Stands, next_is_local, replay, turn}
use Rattle.dv_machine.specs.Running.{ending_by, ending_of, runnable}
use Rattle.dv_machine.specs.State.{Machine}
use Rattle.dv_machine.specs.WellTyped.{Typings}
use Rattle.dv_words.specs.Standing.{ThreadStands}
use Rattle.dv_words.specs.State.{WordMachine}
use Rattle.law_engine.proofs.Replays.{replay_appends}
use Rattle.law_engine.proofs.Staying.{next_is_alike}
use Rattle.law_engine.proofs.Counting.{turns_advance}
use Rattle.law_engine.proofs.Turns.{turns_replay}
use Rattle.dv_threads.specs.Kept.{threads_of}
use Rattle.dv_core.specs.declared.vm.Vm.{Vm}
use Rattle.dv_core.specs.Machines.{machine_of}
use Rattle.dv_core.proofs.Waits.{many}
use Rattle.dv_sound.specs.Moves.{IsKeptAt, IsTurn, KeepsOthers, StandsFor, may_step}
use Rattle.dv_sound.specs.declared.error.ReplayError.{ReplayError}
use Rattle.dv_sound.specs.Replays.{IsLedToEnd, IsRefused, StopsBefore}
use Rattle.dv_sound.specs.Runs.{AtItsState, IsAt, IsAtSome, IsKept, IsOpened, IsSameRun, IsTurned, MayStepThere, MayTurn, Run, TurnedFrom, logged}
use Rattle.dv_sound.proofs.Going.{may_is, may_parts}
use Rattle.dv_sound.proofs.Others.{stays_local}

none_stopped : (image : Image) (m : Machine) → ending_of image m ≡ None → m.stop ≡ None
none_stopped image m e = by m.stop refl
  where
    by : (o : Option Ending) → m.stop ≡ o → m.stop ≡ None
    by None is = is
    by (Some x) is = let d : None ≡ Some x = sym e ∙ ap (ending_by image m) is in absurd (cc d)

-- ---- as a run begins

pub kept_first : (image : Image) (main : MethodId) (l : Limits) (v : Vm) → IsOpened image main l v → IsKept image main v [] []
kept_first image main l v o = record {
  has_main = o.has_main;
  typings = o.typings;
  good = o.good;
  machine = opening image o.has_main.method l;
  replayed = ap (λ (k : Limits). let r : Replayed = Stands (opening image o.has_main.method k) in r) o.limits;
  stands = o.stands;
  local = All-nil _;
}

-- want of memory changes nothing
pub kept_again : (image : Image) (main : MethodId) (v new : Vm) (log after : List Entry) (lent : List ℕ) (k : IsKept image main v log lent) → IsKeptAt image k.typings k.machine v new → after ≡ log → IsKept image main new after lent
kept_again image main v new log after lent k same logs =
    let limits : new.limits ≡ v.limits = ap (λ (w : WordMachine). w.limits) same.machine in
    record {
      has_main = k.has_main;
      typings = k.typings;
      good = k.good;
      machine = k.machine;
      replayed = ap (λ (l : Limits). replay image k.has_main.method l after) limits ∙ ap (replay image k.has_main.method v.limits) logs ∙ k.replayed;
      stands = same.stands;
      local = k.local;
    }

-- ---- after a turn

module _ (image : Image) (main : MethodId) (v : Vm) (log : List Entry) (lent : List ℕ) (k : IsKept image main v log lent) (t most n worker : ℕ) (new : Vm) (may : may_step image k.machine t ≡ true) (some : 1 ≤ most)
    (turned : IsTurn image k.typings k.machine t most n new) where
  pub limits_stay : new.limits ≡ v.limits
  limits_stay =
      let parts = may_parts image k.machine t may in
      let ahead = turns_advance image k.typings k.machine (record { count = n; machine = turned.after }) t most k.stands.simulated.typed parts.0 parts.1 some turned.turned in
      turned.stands.simulated.stands.limits ∙ ahead.limits ∙ sym k.stands.simulated.stands.limits

  led : replay image k.has_main.method v.limits (logged log worker t n) ≡ Stands turned.after
  led =
      replay_appends image k.has_main.method v.limits log (record { worker = worker; thread = t; steps = n }) k.machine turned.after k.replayed
      (turns_replay image k.machine (record { count = n; machine = turned.after }) t most (length log) (none_stopped image k.machine (may_parts image k.machine t may).0) turned.turned)

  pub turned_from : (after : List Entry) → after ≡ logged log worker t n → TurnedFrom image main v log lent k worker t most n new after
  turned_from after logs = record {
    after = turned.after;
    turned = turned.turned;
    logs = logs;
    limits = limits_stay;
    replayed = ap (replay image k.has_main.method v.limits) logs ∙ led;
  }

  module _ (home : All (λ (u : ℕ). u ≢ t) lent) (others : KeepsOthers t v new) where
    pub kept_turn : IsKept image main new (logged log worker t n) lent
    kept_turn = record {
      has_main = k.has_main;
      typings = k.typings;
      good = k.good;
      machine = turned.after;
      replayed = subst (λ (l : Limits). replay image k.has_main.method l (logged log worker t n) ≡ Stands turned.after) (sym limits_stay) led;
      stands = turned.stands;
      local = λ i d l. stays _ (home i d l) (k.local i d l);
    }
      where
        stays : (u : ℕ) → u ≢ t → next_is_local image k.machine u ≡ true → next_is_local image turned.after u ≡ true
        stays u ne e =
            sym (next_is_alike image k.typings (machine_of new) turned.after u turned.stands.simulated) ∙
            stays_local image t u v new others ne (next_is_alike image k.typings (machine_of v) k.machine u k.stands.simulated ∙ e)

-- ---- what is said of a machine

same_state : (m n : Machine) → (let r : Replayed = Stands m in r) ≡ Stands n → m ≡ n
same_state m n e = cc

same_method : (a b : Method) → (let o : Option Method = Some a in o) ≡ Some b → a ≡ b
same_method a b e = cc

-- the state to which the log leads is the one that is kept
module _ (r : Run) (v : Vm) (k : IsKept r.verified.image r.main v r.log r.lent) (same : machine_of v ≡ r.machine) where
  main_there : method_at r.verified.image r.main.0 ≡ Some k.has_main.method
  main_there = subst (λ n. method_at r.verified.image n ≡ Some k.has_main.method) k.has_main.numbered k.has_main.is_main.there

  limits_same : v.limits ≡ r.machine.limits
  limits_same = ap (λ (w : WordMachine). w.limits) same

  pub at_kept : IsAt r k.has_main.method k.machine
  at_kept = record { main_is = main_there; replayed = subst (λ (l : Limits). replay r.verified.image k.has_main.method l r.log ≡ Stands k.machine) limits_same k.replayed }

  pub at_some : IsAtSome r
  at_some = record {
    main = k.has_main.method;
    is_main = k.has_main.is_main;
    machine = k.machine;
    at = at_kept;
    typings = k.typings;
    accepted = k.good.accepted;
    typed = k.stands.simulated.typed;
  }

  -- a thread that may turn may step there
  pub may_there : (t : ℕ) → AtItsState r (λ main m. MayTurn r m t) → MayStepThere r.verified.image v r.log t
  may_there t may main lent j =
      let here = may k.has_main.method k.machine at_kept in
      sym (may_is r.verified.image j.typings v j.machine j.good j.stands t) ∙ may_is r.verified.image k.typings v k.machine k.good k.stands t ∙
      and_from (is_none (ending_of r.verified.image k.machine)) (runnable r.verified.image k.machine t) (ap is_none here.goes_on) here.runs

  -- and is at home
  pub home_there : (t : ℕ) → AtItsState r (λ main m. MayTurn r m t) → All (λ (u : ℕ). u ≢ t) r.lent
  home_there t may = (may k.has_main.method k.machine at_kept).at_home

  module _ (main : Method) (m : Machine) (at : IsAt r main m) where
    pub main_is : k.has_main.method ≡ main
    main_is = same_method k.has_main.method main (sym main_there ∙ at.main_is)

    pub machine_is : k.machine ≡ m
    machine_is =
        same_state k.machine m (sym at_kept.replayed ∙ ap (λ (x : Method). replay r.verified.image x r.machine.limits r.log) main_is ∙ at.replayed)

module _ (r : Run) (v : Vm) (k : IsKept r.verified.image r.main v r.log r.lent) (same : machine_of v ≡ r.machine) where
  -- the same of any state to which the log leads
  pub may_at : (t : ℕ) (main : Method) (m : Machine) → IsAt r main m → MayTurn r m t → may_step r.verified.image k.machine t ≡ true
  may_at t main m at may =
      let here = subst (λ (x : Machine). MayTurn r x t) (sym (machine_is r v k same main m at)) may in
      and_from (is_none (ending_of r.verified.image k.machine)) (runnable r.verified.image k.machine t) (ap is_none here.goes_on) here.runs

-- ---- after a turn of a machine

abbrev pub run_with : Run → Vm → List Entry → Run
run_with r v log = record { verified = r.verified; main = r.main; machine = machine_of v; log = log; lent = r.lent }

module _ (r : Run) (v new : Vm) (log : List Entry) (k : IsKept r.verified.image r.main v r.log r.lent) (same : machine_of v ≡ r.machine) where
  pub run_turned : (worker t most n : ℕ) → TurnedFrom r.verified.image r.main v r.log r.lent k worker t most n new log → (main : Method) (m : Machine) → IsAt r main m →
      IsTurned r (run_with r new log) main m worker t most n
  run_turned worker t most n d main m at =
      let method : k.has_main.method ≡ main = main_is r v k same main m at in
      record {
        after = d.after;
        turned = subst (λ (x : Machine). turn r.verified.image t most x ≡ Ok (record { count = n; machine = d.after })) (machine_is r v k same main m at) d.turned;
        logs = d.logs;
        at = record {
          main_is = at.main_is;
          replayed = ap (λ (l : Limits). replay r.verified.image main l log) d.limits ∙ subst (λ (x : Method). replay r.verified.image x v.limits log ≡ Stands d.after) method d.replayed;
        };
      }

  pub run_same : new.limits ≡ v.limits → IsSameRun r (run_with r new log)
  run_same limits = record { verified = refl; main = refl; limits = limits ∙ ap (λ (w : WordMachine). w.limits) same; lent = refl }

  pub run_kept : machine_of new ≡ machine_of v → log ≡ r.log → run_with r new log ≡ r
  run_kept machine logs = ap (λ (w : WordMachine). record r { machine = w; log = log }) (machine ∙ same) ∙ ap (λ (l : List Entry). record r { log = l }) logs

-- what follows of what a result carries
pub if_ok : {A E : Type 0} {P Q : A → Type 0} (r : Result A E) → ((a : A) → P a → Q a) → IfOk r P → IfOk r Q
if_ok (Ok a) f p = f a p
if_ok (Err e) f p = tt

pub on_err : {A E : Type 0} {P Q : Type 0} (r : Result A E) → (P → Q) → OnErr r P → OnErr r Q
on_err (Ok a) f p = tt
on_err (Err e) f p = f p

pub on_each_err : {A E : Type 0} (r : Result A E) (P : Type 0) → P → OnErr r P
on_each_err (Ok a) P p = tt
on_each_err (Err e) P p = p

zip_length : {A B : Type 0} (P : A → B → Type 0) (xs : List A) (ys : List B) → AllZip P xs ys → length xs ≡ length ys
zip_length P [] [] all = refl
zip_length P [] (y ∷ ys) all = absurd all
zip_length P (x ∷ xs) [] all = absurd all
zip_length P (x ∷ xs) (y ∷ ys) all = ap suc (zip_length P xs ys all.1)

-- as many threads as there are stacks
pub threads_are : (image : Image) (T : Typings) (v : Vm) (m : Machine) → StandsFor image T v m → length v.guest.threads.stacks.items ≡ length m.threads
threads_are image T v m at =
    let ts = v.guest.threads in
    sym (many ts.stacks.items ts.ends.items ts.objects.items at.ordered.aligned.ends at.ordered.aligned.objects) ∙
    zip_length ThreadStands (threads_of ts) m.threads at.simulated.stands.threads

-- ---- led by a schedule

module _ (image : Image) (main : MethodId) (l : Limits) (v : Vm) (o : IsOpened image main l v) where
  opened_main : method_at image main.0 ≡ Some o.has_main.method
  opened_main = subst (λ n. method_at image n ≡ Some o.has_main.method) o.has_main.numbered o.has_main.is_main.there

  pub refused_by : (log : List Entry) (e : ReplayError) → StopsBefore e image log (opening image o.has_main.method l) → (m : Method) → method_at image main.0 ≡ Some m → IsRefused e image m l log
  refused_by log e stops m has = subst (λ (x : Method). IsRefused e image x l log) (same_method o.has_main.method m (sym opened_main ∙ has)) stops

  module _ (new : Vm) (log : List Entry) (led : IsLedToEnd image o.typings log (opening image o.has_main.method l) new) where
    pub led_limits : new.limits ≡ l
    led_limits = led.stands.simulated.stands.limits ∙ led.limits

    pub finished_by : (m : Method) → method_at image main.0 ≡ Some m → IsFinished image m l log
    finished_by m has =
        subst (λ (x : Method). IsFinished image x l log) (same_method o.has_main.method m (sym opened_main ∙ has)) (led.after, led.ending, led.leads, led.ends)

    pub kept_led : (copy : List Entry) (lent : List ℕ) → copy ≡ log → lent ≡ [] → IsKept image main new copy lent
    kept_led copy lent copies none = record {
      has_main = o.has_main;
      typings = o.typings;
      good = o.good;
      machine = led.after;
      replayed = ap (λ (k : Limits). replay image o.has_main.method k copy) led_limits ∙ ap (replay image o.has_main.method l) copies ∙ led.leads;
      stands = led.stands;
      local = subst (All (λ (t : ℕ). next_is_local image led.after t ≡ true)) (sym none) (All-nil _);
    }
