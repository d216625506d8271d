-- Monitors, waiting, starting and joining on words go where the tagged machine's go.
use Rattle.std.proofs.Common.{◌≡◌, ℕ, zero, suc, ◌-◌, ◌++◌, Bool, true, false, Option, Some, None, List, [], ◌∷◌, length, replicate, refl, sym, ap, ◌∙◌, subst}
use Rattle.std.specs.Prelude.{nat_eq, nat_lt, slice_get}
use Rattle.std.specs.List.{AllZip}
use Rattle.std.specs.Option.{option_map}
use Rattle.dv_defs.specs.declared.machine.End.{End}
use Rattle.dv_defs.specs.declared.machine.End.TheVariants as end
use Rattle.dv_machine.specs.Kind as tagged_kind
use Rattle.dv_defs.specs.declared.run.Limits.{Limits}
use Rattle.dv_defs.specs.declared.run.Named.TheVariants as named
use Rattle.dv_machine.specs.Value.{Value}
use Rattle.dv_machine.specs.Value as v
use Rattle.dv_machine.specs.Heap as tagged
use Rattle.dv_defs.specs.Images.{Image}
use Rattle.dv_machine.specs.Monitors.{Held, Monitors, Wait, entered, exited, held_of, notified_all, notified_one, owner_of, resumed, wait_of, waiting}
use Rattle.dv_defs.specs.Pools.{Method}
use Rattle.dv_machine.specs.Calls as calls
use Rattle.dv_machine.specs.Calls.{Landing, Lacks, Lands}
use Rattle.dv_machine.specs.State.{Did, Here, Left, Thread, with_monitors}
use Rattle.dv_machine.specs.Threads as machine
use Rattle.dv_machine.specs.Threads.{run_landing}
use Rattle.dv_words.specs.Erasure.{erased_kind}
use Rattle.dv_words.specs.Heaps as words
use Rattle.dv_words.specs.Stacks as stacks
use Rattle.dv_words.specs.Standing.{AreWords, FrameStands, ThreadStands}
use Rattle.dv_words.specs.State.{WordThread}
use Rattle.law_words.specs.StepLaws.{AtStands, OutcomeStands}
use Rattle.dv_words.specs.Steps as steps
use Rattle.dv_words.specs.Threads as over
use Rattle.law_words.proofs.Objects.{kind_is, same_length}
use Rattle.law_words.proofs.Outcomes.{goes_on, gone_stands, if_alike, onward_stands, stays_on, where_alike, with_same_monitors}

-- ---- frames as they are entered

abbrev undefined : ℕ → List Value
undefined n = replicate n v.Undef

zeros_above : (n : ℕ) (ws : List ℕ) (xs : List Value) → AreWords ws xs → AreWords (replicate n 0 ++ ws) (undefined n ++ xs)
zeros_above zero ws xs are = are
zeros_above (suc n) ws xs are = (refl, zeros_above n ws xs are)

pub entered_stands : (m : Method) (ws : List ℕ) (xs : List Value) (p : Bool) → AreWords ws xs → FrameStands (stacks.entered (record { 0 = m.id }) (calls.registers_of m) ws) (calls.entered_frame m xs p)
entered_stands m ws xs p are =
    let n = same_length ws xs are in
    record {
      method = refl;
      at = refl;
      regs = subst (λ (k : ℕ). AreWords (replicate (calls.registers_of m - k) 0 ++ ws) (undefined (calls.registers_of m - length xs) ++ xs)) (sym n) (zeros_above (calls.registers_of m - length xs) ws xs are);
      result = tt;
      caught = refl;
    }

-- ---- classes of objects

pub class_by : (image : Image) (k : Option tagged_kind.Kind) → over.class_of_kind image (option_map erased_kind k) ≡ calls.class_of_kind image k
class_by image None = refl
class_by image (Some (tagged_kind.Object c)) = refl
class_by image (Some (tagged_kind.Array t)) = refl
class_by image (Some (tagged_kind.Str s)) = refl
class_by image (Some (tagged_kind.ClassOf t)) = refl

-- ---- threads

abbrev one_or : ℕ → Bool → Option ℕ → Option ℕ
one_or k b rest = elim b [ true ↦ Some k | false ↦ rest ]

same_or : (k : ℕ) (a b : Bool) (x y : Option ℕ) → a ≡ b → x ≡ y → one_or k a x ≡ one_or k b y
same_or k true true x y e rest = refl
same_or k false false x y e rest = rest
same_or k true false x y e rest = absurd (cc)
same_or k false true x y e rest = absurd (cc)

pub thread_from_is : (ws : List WordThread) (ts : List Thread) (k o : ℕ) → AllZip ThreadStands ws ts → over.thread_from ws k o ≡ machine.thread_from ts k o
thread_from_is [] [] k o stand = refl
thread_from_is [] (t ∷ ts) k o stand = absurd stand
thread_from_is (w ∷ ws) [] k o stand = absurd stand
thread_from_is (w ∷ ws) (t ∷ ts) k o stand = same_or k _ _ _ _ (ap (λ (n : ℕ). nat_eq n o) stand.0.object) (thread_from_is ws ts (suc k) o stand.1)

-- both are there, or neither is
abbrev pub BothStand : Option WordThread → Option Thread → Type 0
BothStand None None = Unit {0}
BothStand (Some w) (Some t) = ThreadStands w t
BothStand w t = ⊥

pub thread_at : (ws : List WordThread) (ts : List Thread) (k : ℕ) → AllZip ThreadStands ws ts → BothStand (slice_get ws k) (slice_get ts k)
thread_at [] [] k stand = tt
thread_at [] (t ∷ ts) k stand = absurd stand
thread_at (w ∷ ws) [] k stand = absurd stand
thread_at (w ∷ ws) (t ∷ ts) zero stand = stand.0
thread_at (w ∷ ws) (t ∷ ts) (suc k) stand = thread_at ws ts k stand.1

alive_is : (e : End) (t : Thread) → e ≡ t.end → over.is_alive e ≡ machine.is_living (Some t)
alive_is e t same = ap over.is_alive same ∙ by t.end refl
  where
    by : (f : End) → t.end ≡ f → over.is_alive f ≡ machine.is_living (Some t)
    by end.Living is = rw is refl
    by (end.Flying o) is = rw is refl
    by end.Returned is = rw is refl
    by (end.Died o) is = rw is refl

pub living_is : (w : Option WordThread) (t : Option Thread) → BothStand w t → over.is_living w ≡ machine.is_living t
living_is None None stand = refl
living_is None (Some t) stand = absurd stand
living_is (Some w) None stand = absurd stand
living_is (Some w) (Some t) stand = alive_is w.end t stand.end

object_is : (w : Option WordThread) (t : Option Thread) → BothStand w t → over.object_of_thread w ≡ machine.object_of_thread t
object_is None None stand = refl
object_is None (Some t) stand = absurd stand
object_is (Some w) None stand = absurd stand
object_is (Some w) (Some t) stand = stand.object

count_threads : (ws : List WordThread) (ts : List Thread) → AllZip ThreadStands ws ts → length ws ≡ length ts
count_threads [] [] stand = refl
count_threads [] (t ∷ ts) stand = absurd stand
count_threads (w ∷ ws) [] stand = absurd stand
count_threads (w ∷ ws) (t ∷ ts) stand = ap suc (count_threads ws ts stand.1)

module _ (w : steps.At) (h : Here) (stands : AtStands w h) where
  same : w.shared.monitors ≡ h.shared.monitors
  same = stands.shared.monitors

  pub class_is : (o : ℕ) → over.class_of_kind w.image (words.kind_of w.shared.heap o) ≡ calls.class_of_kind h.image (tagged.kind_of h.shared.heap o)
  class_is o = ap (λ i. over.class_of_kind i (words.kind_of w.shared.heap o)) stands.image ∙ ap (over.class_of_kind h.image) (kind_is w.shared.heap h.shared.heap o stands.shared.heap) ∙ class_by h.image (tagged.kind_of h.shared.heap o)

  -- the instruction is done, with these monitors
  with_them : (a b : Monitors) → a ≡ b → OutcomeStands (steps.goes w (steps.with_monitors w.shared a)) (machine.goes h (with_monitors h.shared b))
  with_them a b e = goes_on w h stands (steps.with_monitors w.shared a) (with_monitors h.shared b) (with_same_monitors w.shared h.shared a b stands.shared e) stands.bounded

  free_is : (a b : Option ℕ) → a ≡ b → over.free_or_mine w a ≡ machine.free_or_mine h b
  free_is a b e = ap (over.free_or_mine w) e ∙ by b
    where
      by : (b : Option ℕ) → over.free_or_mine w b ≡ machine.free_or_mine h b
      by None = refl
      by (Some t) = ap (nat_eq t) stands.thread

  pub enter_stands : (o : ℕ) → OutcomeStands (over.monitor_enter w o) (machine.monitor_enter h o)
  enter_stands o =
      if_alike (over.free_or_mine w (owner_of w.shared.monitors o)) (machine.free_or_mine h (owner_of h.shared.monitors o))
      (steps.goes w (steps.with_monitors w.shared (entered w.shared.monitors o w.thread 1))) (steps.stays w)
      (machine.goes h (with_monitors h.shared (entered h.shared.monitors o h.thread 1))) (machine.stays h)
      (free_is _ _ (ap (λ m. owner_of m o) same))
      (with_them _ _ (ap (λ m. entered m o w.thread 1) same ∙ ap (λ (t : ℕ). entered h.shared.monitors o t 1) stands.thread))
      (stays_on w h stands)

  holding_by : (go : ℕ → Did steps.Left) (on : ℕ → Did Left) (b : Option Held) → ((n : ℕ) → OutcomeStands (go n) (on n)) → OutcomeStands (over.holding_it w go b) (machine.holding_it h on b)
  holding_by go on None s = refl
  holding_by go on (Some x) s = where_alike (nat_eq x.thread w.thread) (nat_eq x.thread h.thread) named.IllegalMonitorState (go x.count) (on x.count) (ap (nat_eq x.thread) stands.thread) (s x.count)

  holds : (o : ℕ) (go : ℕ → Did steps.Left) (on : ℕ → Did Left) → ((n : ℕ) → OutcomeStands (go n) (on n)) → OutcomeStands (over.holding w o go) (machine.holding h o on)
  holds o go on s = subst (λ (m : Monitors). OutcomeStands (over.holding_it w go (held_of m o)) (machine.holding h o on)) (sym same) (holding_by go on (held_of h.shared.monitors o) s)

  pub exit_stands : (o : ℕ) → OutcomeStands (over.monitor_exit w o) (machine.monitor_exit h o)
  exit_stands o = holds o _ _ (λ n. with_them (exited w.shared.monitors o) (exited h.shared.monitors o) (ap (λ m. exited m o) same))

  taken_by : (x : Wait) (b : Bool) (o : Option ℕ) → OutcomeStands (over.taken_back w x b o) (machine.taken_back h x b o)
  taken_by x true None = with_them (resumed w.shared.monitors x) (resumed h.shared.monitors x) (ap (λ m. resumed m x) same)
  taken_by x true (Some t) = stays_on w h stands
  taken_by x false o = stays_on w h stands

  wait_by : (o : ℕ) (x : Option Wait) → OutcomeStands (over.wait_step w o x) (machine.wait_step h o x)
  wait_by o None =
      holds o _ _ (λ n. onward_stands w h stands (steps.with_monitors w.shared (waiting w.shared.monitors o w.thread n)) (with_monitors h.shared (waiting h.shared.monitors o h.thread n)) w.frame h.frame
      (with_same_monitors w.shared h.shared _ _ stands.shared (ap (λ m. waiting m o w.thread n) same ∙ ap (λ (t : ℕ). waiting h.shared.monitors o t n) stands.thread)) stands.frame stands.bounded)
  wait_by o (Some x) = subst (λ (m : Monitors). OutcomeStands (over.taken_back w x x.notified (owner_of m x.object)) (machine.wait_step h o (Some x))) (sym same) (taken_by x x.notified (owner_of h.shared.monitors x.object))

  pub wait_stands : (o : ℕ) → OutcomeStands (over.wait_on w o) (machine.wait_on h o)
  wait_stands o =
      let e : wait_of w.shared.monitors w.thread ≡ wait_of h.shared.monitors h.thread = ap (λ m. wait_of m w.thread) same ∙ ap (wait_of h.shared.monitors) stands.thread in
      subst (λ (x : Option Wait). OutcomeStands (over.wait_step w o x) (machine.wait_on h o)) (sym e) (wait_by o (wait_of h.shared.monitors h.thread))

  pub notify_stands : (o : ℕ) → OutcomeStands (over.notify_on w o) (machine.notify_on h o)
  notify_stands o = holds o _ _ (λ n. with_them (notified_one w.shared.monitors o) (notified_one h.shared.monitors o) (ap (λ m. notified_one m o) same))

  pub notify_all_stands : (o : ℕ) → OutcomeStands (over.notify_all_on w o) (machine.notify_all_on h o)
  notify_all_stands o = holds o _ _ (λ n. with_them (notified_all w.shared.monitors o) (notified_all h.shared.monitors o) (ap (λ m. notified_all m o) same))

  -- ---- starting and joining

  with_is : (o : ℕ) → over.thread_with w.threads o ≡ machine.thread_with h.threads o
  with_is o = thread_from_is w.threads h.threads 0 o stands.threads

  started_by : (o : ℕ) (l : Landing) → OutcomeStands (over.started_on w o l) (machine.started_on h o l)
  started_by o (Lacks n) = refl
  started_by o (Lands m) = record { levels = (gone_stands w h stands, stands.rest); shared = stands.shared; started = record { levels = (entered_stands m (o ∷ []) (v.Ref o ∷ []) false (refl, tt), tt); end = refl; object = refl }; bounded = stands.bounded }

  run_is : (o : ℕ) → run_landing w.image (over.class_of_kind w.image (words.kind_of w.shared.heap o)) ≡ run_landing h.image (calls.class_of_kind h.image (tagged.kind_of h.shared.heap o))
  run_is o =
      ap (λ i. run_landing i (over.class_of_kind w.image (words.kind_of w.shared.heap o))) stands.image ∙ ap (run_landing h.image) (class_is o)

  start_by : (o : ℕ) (u : Option ℕ) → OutcomeStands (over.start_unless w o u) (machine.start_unless h o u)
  start_by o (Some u) = refl
  start_by o None =
      let few : nat_lt (length w.threads) w.limits.threads ≡ nat_lt (length h.threads) h.limits.threads =
      ap (λ (n : ℕ). nat_lt n w.limits.threads) (count_threads w.threads h.threads stands.threads) ∙ ap (λ (l : Limits). nat_lt (length h.threads) l.threads) stands.limits in
      let l = run_landing h.image (calls.class_of_kind h.image (tagged.kind_of h.shared.heap o)) in
      where_alike _ _ named.OutOfMemory (over.started_on w o (run_landing w.image (over.class_of_kind w.image (words.kind_of w.shared.heap o)))) (machine.started_on h o l) few
      (subst (λ (k : Landing). OutcomeStands (over.started_on w o k) (machine.started_on h o l)) (sym (run_is o)) (started_by o l))

  pub start_stands : (o : ℕ) → OutcomeStands (over.start_on w o) (machine.start_on h o)
  start_stands o = subst (λ (u : Option ℕ). OutcomeStands (over.start_unless w o u) (machine.start_on h o)) (sym (with_is o)) (start_by o (machine.thread_with h.threads o))

  join_by : (u : Option ℕ) → OutcomeStands (over.join_with w u) (machine.join_with h u)
  join_by None = goes_on w h stands w.shared h.shared stands.shared stands.bounded
  join_by (Some u) =
      if_alike (over.is_living (slice_get w.threads u)) (machine.is_living (slice_get h.threads u)) (steps.stays w) (steps.goes w w.shared) (machine.stays h) (machine.goes h h.shared)
      (living_is _ _ (thread_at w.threads h.threads u stands.threads)) (stays_on w h stands) (goes_on w h stands w.shared h.shared stands.shared stands.bounded)

  pub join_stands : (o : ℕ) → OutcomeStands (over.join_on w o) (machine.join_on h o)
  join_stands o = subst (λ (u : Option ℕ). OutcomeStands (over.join_with w u) (machine.join_on h o)) (sym (with_is o)) (join_by (machine.thread_with h.threads o))

  pub own_object_is : over.own_object w ≡ machine.own_object h
  own_object_is = ap (λ (t : ℕ). over.object_of_thread (slice_get w.threads t)) stands.thread ∙ object_is _ _ (thread_at w.threads h.threads h.thread stands.threads)
