-- What holds threads up.
use Rattle.std.proofs.Common.{◌≡◌, ◌∙◌, ◌+◌, ◌<◌, ◌^◌, ℕ, zero, suc, Bool, true, false, List, [], ◌∷◌, length, map, Option, Some, None, refl, sym, ap, subst, arith}
use Rattle.std.specs.List.{list_all}
use Rattle.std.specs.Option.{is_some}
use Rattle.std.specs.Prelude.{◌==◌, ◌&&◌, if◌then◌else◌, is_none, nat_lt, not, position, slice_get}
use Rattle.std.proofs.lemmas.Bool.Decides.{nat_tests}
use Rattle.std.proofs.lemmas.Iterator.Adapters.{position_from-zero}
use Rattle.std.proofs.lemmas.Option.{same_Some}
use Rattle.dv_defs.specs.declared.machine.Blocked.{Blocked}
use Rattle.dv_defs.specs.declared.machine.Blocked.TheVariants as blocked
use Rattle.dv_defs.specs.declared.machine.End.{End}
use Rattle.dv_defs.specs.declared.machine.End.TheVariants as end
use Rattle.dv_defs.specs.declared.run.Named.TheVariants as named
use Rattle.dv_defs.specs.declared.run.Native.{Native}
use Rattle.dv_defs.specs.Images.{Image}
use Rattle.dv_defs.specs.Op.{Invoke}
use Rattle.dv_defs.specs.Parts.{Call}
use Rattle.dv_defs.specs.Pools.{Method, is_abstract, is_constructor, is_static, method_at}
use Rattle.dv_typing.specs.Statics as statics
use Rattle.dv_typing.specs.Statics.{fetch}
use Rattle.dv_machine.specs.Calls.{Landing, Lacks, Lands, native_of, receiver_of, unless_abstract}
use Rattle.dv_words.specs.declared.state.Frame.{Frame}
use Rattle.dv_words.specs.declared.state.Level.{Level}
use Rattle.dv_words.specs.declared.state.Level.TheVariants as level
use Rattle.dv_words.specs.Stacks.{first}
use Rattle.dv_words.specs.State.{WordMachine, WordStack, WordThread}
use Rattle.dv_frames.specs.declared.levels.Top.TheVariants as top
use Rattle.dv_frames.specs.Tops.{top_of}
use Rattle.dv_defs.specs.declared.names.MethodId.{MethodId}
use Rattle.dv_words.specs.Answering.{IsStackOf}
use Rattle.dv_words.specs.Calls.{dispatch}
use Rattle.dv_words.specs.Local.{reg_word}
use Rattle.dv_words.specs.Running.{blocked_call, blocked_join, blocked_landing, blocked_levels, blocked_native, blocked_of, blocked_one, blocked_op, blocked_receiver, blocked_thread, all_ended, any_runnable, runnable, runnable_one, runnable_thread}
use Rattle.dv_words.specs.Steps.{At}
use Rattle.dv_words.specs.Threads.{is_alive, is_living, thread_with}
use Rattle.dv_threads.specs.Kept.{threads_of, zipped}
use Rattle.dv_threads.proofs.Begins.{found_from}
use Rattle.dv_threads.proofs.Begins as begins
use Rattle.law_engine.proofs.Landings.{NoNative, lands_on_no_native}
use Rattle.dv_call.specs.Landings.{Enters, Fails, Landed, Runs, Stays, called_in, constructs, first_of, is_native, on_landing, on_object, on_receiver, run_by}
use Rattle.dv_core.specs.declared.guest.Guest.{Guest}
use Rattle.dv_core.specs.declared.vm.Vm.{Vm}
use Rattle.dv_fetch.specs.Standing.{IsAtOp}
use Rattle.dv_core.specs.Guests.{shared_of}
use Rattle.dv_core.specs.Machines.{Stands}
use Rattle.dv_core.specs.Watching.{AreNumbered, AreWatchable, alive_in, blocked_landed}

-- ---- joining

module _ (g : Guest) (are : AreNumbered g) (o : ℕ) where
  thread_is : thread_with (threads_of g.threads) o ≡ position (λ x. x == o) g.threads.objects.items
  thread_is =
      found_from g.threads.stacks.items g.threads.ends.items g.threads.objects.items 0 o are.aligned.ends are.aligned.objects ∙
      sym (position_from-zero (λ x. x == o) g.threads.objects.items)

  living_is : (u : ℕ) → is_living (slice_get (threads_of g.threads) u) ≡ alive_in (slice_get g.threads.ends.items u)
  living_is u = begins.living_at g.threads.stacks.items g.threads.ends.items g.threads.objects.items u are.aligned.ends are.aligned.objects ∙ same_test (slice_get g.threads.ends.items u)
    where
      same_test : (e : Option End) → begins.alive_in e ≡ alive_in e
      same_test None = refl
      same_test (Some e) = refl

  join_by : (u : Option ℕ) → u ≡ position (λ x. x == o) g.threads.objects.items → blocked_join (threads_of g.threads) (thread_with (threads_of g.threads) o) ≡ blocked_join (threads_of g.threads) u
  join_by u e = ap (blocked_join (threads_of g.threads)) (thread_is ∙ sym e)

  pub no_join : None ≡ position (λ x. x == o) g.threads.objects.items → None ≡ blocked_join (threads_of g.threads) (thread_with (threads_of g.threads) o)
  no_join e = sym (join_by None e)

  by_living : (u : ℕ) (b : Bool) → b ≡ alive_in (slice_get g.threads.ends.items u) → blocked_join (threads_of g.threads) (Some u) ≡ if b then Some (blocked.Join u) else None
  by_living u b e = ap (λ b. if b then Some (blocked.Join u) else None) (living_is u ∙ sym e)

  pub joins : (u : ℕ) (b : Bool) → Some u ≡ position (λ x. x == o) g.threads.objects.items → b ≡ alive_in (slice_get g.threads.ends.items u)
      → (if b then Some (blocked.Join u) else None) ≡ blocked_join (threads_of g.threads) (thread_with (threads_of g.threads) o)
  joins u b at e = sym (join_by (Some u) at ∙ by_living u b e)

  within : (es : List End) (u : ℕ) → true ≡ alive_in (slice_get es u) → u < length es
  within [] u e = absurd (cc e)
  within (x ∷ es) zero e = omega arith
  within (x ∷ es) (suc u) e = let less = within es u e in omega (arith, less)

  -- so its number has 32 bits
  pub is_few : (u : ℕ) → true ≡ alive_in (slice_get g.threads.ends.items u) → u < 2 ^ 32
  is_few u e = let less = within g.threads.ends.items u e in omega (arith, less, are.few, are.aligned.ends)

-- ---- an invoke

module _ (image : Image) (m : WordMachine) (t : ℕ) (own : Method) (f : Frame) (c : Call) (g : Method) where
  no_landing : (l : Landing) (o : ℕ) → NoNative image l → blocked_landing image m t o l ≡ None
  no_landing (Lacks n) o e = refl
  no_landing (Lands g) o e = ap (blocked_native m t o) e

  none_called : is_constructor g ≡ true → (r : ℕ) → blocked_call image m t own c g r ≡ None
  none_called is zero = refl
  none_called is (suc o) = no_landing (dispatch image m.shared.heap own c g (suc o)) (suc o) (lands_on_no_native image g is m.shared.heap own c (suc o))

  by_native : (g : Method) (o : ℕ) (n : Option Native) → blocked_landed m t o (run_by g n) ≡ blocked_native m t o n
  by_native g o None = refl
  by_native g o (Some n) = refl

  by_landing : (l : Landing) (o : ℕ) → blocked_landed m t o (on_landing image l) ≡ blocked_landing image m t o l
  by_landing (Lacks n) o = refl
  by_landing (Lands g) o = by_native g o (native_of image g)

  on_objects : (r : ℕ) → blocked_landed m t r (on_object image m.shared.heap own c g r) ≡ blocked_call image m t own c g r
  on_objects zero = refl
  on_objects (suc o) = by_landing (dispatch image m.shared.heap own c g (suc o)) (suc o)

  constructs_none : (r : ℕ) → blocked_landed m t r (constructs g) ≡ None
  constructs_none r = by (is_abstract g)
    where
      by : (b : Bool) → blocked_landed m t r (if b then Fails named.AbstractMethod else Enters g) ≡ None
      by true = refl
      by false = refl

  on_word : (r : ℕ) → blocked_landed m t r (on_receiver image m.shared.heap own c g (Some r)) ≡ blocked_call image m t own c g r
  on_word r = by (is_constructor g) refl
    where
      by : (b : Bool) → is_constructor g ≡ b → blocked_landed m t r (if b then constructs g else on_object image m.shared.heap own c g r) ≡ blocked_call image m t own c g r
      by true e = constructs_none r ∙ sym (none_called e r)
      by false e = on_objects r

  pub invoke_waits : (ks : List ℕ) (o : ℕ) → is_static g ≡ false → Some o ≡ first_of (map (reg_word f) ks)
      → blocked_landed m t o (called_in image m.shared.heap own c g (map (reg_word f) ks)) ≡ blocked_receiver image m t own f c g (receiver_of (Invoke c ks g))
  invoke_waits [] o s e = absurd (cc e)
  invoke_waits (k ∷ ks) o s e =
      let same : o ≡ reg_word f k = same_Some o (reg_word f k) e in
      let r = reg_word f k in
      ap (λ x. blocked_landed m t x (called_in image m.shared.heap own c g (map (reg_word f) (k ∷ ks)))) same ∙
      (ap (λ (b : Bool). blocked_landed m t r (if b then on_landing image (unless_abstract g) else on_receiver image m.shared.heap own c g (Some r))) s ∙
      (on_word r ∙ ap (λ (b : Bool). blocked_receiver image m t own f c g (if b then None else Some k)) (sym s)))

  -- a call that runs no native
  pub none_runs_of : (l : Landed) → is_native l ≡ false → (o : ℕ) → blocked_landed m t o l ≡ None
  none_runs_of (Enters k) other o = refl
  none_runs_of (Runs n) other o = absurd (cc other)
  none_runs_of (Fails n) other o = refl
  none_runs_of Stays other o = refl

  -- a static call has no receiver
  pub static_free : (ks : List ℕ) → is_static g ≡ true → blocked_op image m t own f (Invoke c ks g) ≡ None
  static_free [] s = refl
  static_free (k ∷ ks) s = ap (λ (b : Bool). blocked_receiver image m t own f c g (if b then None else Some k)) s

  -- by what a call on the receiver comes to
  pub waits_by : (ks : List ℕ) (l : Landed) → is_static g ≡ false → called_in image m.shared.heap own c g (map (reg_word f) ks) ≡ l → (o : ℕ) → Some o ≡ first_of (map (reg_word f) ks) → blocked_landed m t o l ≡ blocked_op image m t own f (Invoke c ks g)
  waits_by ks l s lands o e = ap (blocked_landed m t o) (sym lands) ∙ invoke_waits ks o s e

  pub unreceived : (ks : List ℕ) → None ≡ first_of (map (reg_word f) ks) → blocked_op image m t own f (Invoke c ks g) ≡ None
  unreceived [] e = refl
  unreceived (k ∷ ks) e = absurd (cc e)

  pub invoke_free : (ks : List ℕ) (l : Landed) → called_in image m.shared.heap own c g (map (reg_word f) ks) ≡ l → is_native l ≡ false → blocked_op image m t own f (Invoke c ks g) ≡ None
  invoke_free ks l lands other = by (is_static g) refl ks lands
    where
      by : (b : Bool) → is_static g ≡ b → (ks : List ℕ) → called_in image m.shared.heap own c g (map (reg_word f) ks) ≡ l → blocked_op image m t own f (Invoke c ks g) ≡ None
      by true s ks lands = static_free ks s
      by false s [] lands = refl
      by false s (k ∷ ks) lands = sym (waits_by (k ∷ ks) l s lands (reg_word f k) refl) ∙ none_runs_of l other (reg_word f k)

-- ---- a frame at an instruction

pub record HasCode (image : Image) (f : Frame) : Type 0 where
  pub own : Method
  pub x : statics.At
  pub method : method_at image f.method.0 ≡ Some own
  pub fetched : fetch image f.method.0 f.at ≡ Some x

pub has_code : (image : Image) (f : Frame) → Stands image f → HasCode image f
has_code image f s = by (method_at image f.method.0) (fetch image f.method.0 f.at) refl refl
  where
    by : (o : Option Method) (x : Option statics.At) → method_at image f.method.0 ≡ o → fetch image f.method.0 f.at ≡ x → HasCode image f
    by None x e d = absurd (s.method e)
    by (Some own) None e d = absurd (s.at d)
    by (Some own) (Some x) e d = record { own = own; x = x; method = e; fetched = d }

module _ (image : Image) (g : Guest) (s : WordStack) (f : Frame) (ls : List Level) (levels : s.levels ≡ level.Code f ∷ ls) (t : ℕ) (has : HasCode image f) where
  abbrev pub here : At
  here = record {
    image = image;
    limits = record { budget = 0; heap = 0; output = 0; threads = 0; levels = s.most_levels; words = s.most_words };
    threads = [];
    thread = t;
    own = has.own;
    shared = shared_of g;
    frame = f;
    rest = ls;
    next = has.x.next;
  }

  abbrev pub thread_here : WordThread
  thread_here = record { levels = s.levels; end = end.Living; object = 0 }

  pub stack_here : IsStackOf s here
  stack_here = record { levels = levels; most_levels = refl; most_words = refl }

  pub at_here : IsAtOp thread_here here has.x
  at_here = record { levels = levels; method = has.method; fetched = has.fetched; next = refl }

-- ---- code on top

pub record CodeOn (ls : List Level) : Type 0 where
  pub frame : Frame
  pub rest : List Level
  pub is : ls ≡ level.Code frame ∷ rest

pub code_on : (ls : List Level) (m : MethodId) (at : ℕ) → Some (top.Code m at) ≡ top_of (first ls) → CodeOn ls
code_on [] m at e = absurd (cc e)
code_on (level.Code f ∷ ls) m at e = record { frame = f; rest = ls; is = refl }
code_on (level.Init c r ∷ ls) m at e = absurd (cc e)

-- ---- a thread by its number

pub record OwnAt (ts : List WordThread) (t : ℕ) (e : End) : Type 0 where
  pub own : WordThread
  pub there : slice_get ts t ≡ Some own
  pub ends : own.end ≡ e

pub zip_own : (ss : List WordStack) (es : List End) (os : List ℕ) (t : ℕ) (e : End) → length es ≡ length ss → length os ≡ length ss → Some e ≡ slice_get es t → OwnAt (zipped ss es os) t e
zip_own ss [] os t e es_long os_long is = absurd (cc is)
zip_own [] (f ∷ es) os t e es_long os_long is = absurd (omega arith)
zip_own (x ∷ ss) (f ∷ es) [] t e es_long os_long is = absurd (omega arith)
zip_own (x ∷ ss) (f ∷ es) (p ∷ os) zero e es_long os_long is =
    record { own = record { levels = x.levels; end = f; object = p }; there = refl; ends = sym (same_Some e f is) }
zip_own (x ∷ ss) (f ∷ es) (p ∷ os) (suc t) e es_long os_long is =
    let rest = zip_own ss es os t e (omega arith) (omega arith) is in
    record { own = rest.own; there = rest.there; ends = rest.ends }

none_own : (ss : List WordStack) (es : List End) (os : List ℕ) (t : ℕ) → None ≡ slice_get es t → slice_get (zipped ss es os) t ≡ None
none_own [] es os t is = refl
none_own (x ∷ ss) [] os t is = refl
none_own (x ∷ ss) (f ∷ es) [] t is = refl
none_own (x ∷ ss) (f ∷ es) (p ∷ os) zero is = absurd (cc is)
none_own (x ∷ ss) (f ∷ es) (p ∷ os) (suc t) is = none_own ss es os t is

abbrev pub standing : WordThread → End → WordThread
standing th e = record { levels = th.levels; end = e; object = th.object }

module _ (image : Image) (m : WordMachine) (t : ℕ) where
  pub lives_waits : (own : WordThread) → slice_get m.threads t ≡ Some own → own.end ≡ end.Living → blocked_levels image m t own.levels ≡ blocked_of image m t
  lives_waits own there e = sym (ap (blocked_one image m t) there ∙ ap (λ d. blocked_thread image m t (standing own d)) e)

  waits_none : (own : WordThread) (e : End) → (e ≡ end.Living → ⊥) → blocked_thread image m t (standing own e) ≡ None
  waits_none own end.Living other = absurd (other refl)
  waits_none own (end.Flying o) other = refl
  waits_none own end.Returned other = refl
  waits_none own (end.Died o) other = refl

  pub other_waits : (e : End) (own : WordThread) → slice_get m.threads t ≡ Some own → own.end ≡ e → (e ≡ end.Living → ⊥) → None ≡ blocked_of image m t
  other_waits e own there is other = sym (ap (blocked_one image m t) there ∙ (ap (λ d. blocked_thread image m t (standing own d)) is ∙ waits_none own e other))

  pub none_waits : slice_get m.threads t ≡ None → None ≡ blocked_of image m t
  none_waits none = sym (ap (blocked_one image m t) none)

  runs_by : (o : Option WordThread) → runnable_one image m t o ≡ (is_living o && is_none (blocked_one image m t o))
  runs_by None = refl
  runs_by (Some own) = refl

  pub runs : (b : Bool) → is_living (slice_get m.threads t) ≡ b → runnable image m t ≡ (b && is_none (blocked_of image m t))
  runs b e = runs_by (slice_get m.threads t) ∙ ap (λ (a : Bool). a && is_none (blocked_of image m t)) e

module _ (g : Guest) (are : AreNumbered g) (t : ℕ) where
  pub own_at : (e : End) → Some e ≡ slice_get g.threads.ends.items t → OwnAt (threads_of g.threads) t e
  own_at e is = zip_own g.threads.stacks.items g.threads.ends.items g.threads.objects.items t e are.aligned.ends are.aligned.objects is

  pub no_own : None ≡ slice_get g.threads.ends.items t → slice_get (threads_of g.threads) t ≡ None
  no_own is = none_own g.threads.stacks.items g.threads.ends.items g.threads.objects.items t is

  pub alive_is : is_living (slice_get (threads_of g.threads) t) ≡ alive_in (slice_get g.threads.ends.items t)
  alive_is = living_is g are 0 t

pub are_numbered : (image : Image) (v : Vm) → AreWatchable image v → AreNumbered v.guest
are_numbered image v w = record { aligned = w.ordered.aligned; few = w.few }

pub none_by : (x : Option Blocked) (b : Bool) → is_some x ≡ not b → b ≡ is_none x
none_by None true e = refl
none_by None false e = absurd (cc e)
none_by (Some y) true e = absurd (cc e)
none_by (Some y) false e = refl

pub not_none : (x : Option Blocked) → is_none x ≡ not (is_some x)
not_none None = refl
not_none (Some y) = refl

-- ---- the threads of a run

pub all_ends : (ss : List WordStack) (es : List End) (os : List ℕ) → length es ≡ length ss → length os ≡ length ss → list_all (λ e. not (is_alive e)) es ≡ all_ended (zipped ss es os)
all_ends [] [] os es_long os_long = refl
all_ends [] (f ∷ es) os es_long os_long = absurd (omega arith)
all_ends (x ∷ ss) [] os es_long os_long = absurd (omega arith)
all_ends (x ∷ ss) (f ∷ es) [] es_long os_long = absurd (omega arith)
all_ends (x ∷ ss) (f ∷ es) (p ∷ os) es_long os_long = ap (λ b. not (is_alive f) && b) (all_ends ss es os (omega arith) (omega arith))

pub many : (ss : List WordStack) (es : List End) (os : List ℕ) → length es ≡ length ss → length os ≡ length ss → length (zipped ss es os) ≡ length ss
many [] es os es_long os_long = refl
many (x ∷ ss) [] os es_long os_long = absurd (omega arith)
many (x ∷ ss) (f ∷ es) [] es_long os_long = absurd (omega arith)
many (x ∷ ss) (f ∷ es) (p ∷ os) es_long os_long = ap suc (many ss es os (omega arith) (omega arith))

module _ (image : Image) (m : WordMachine) where
  by_first : (th : WordThread) (ts : List WordThread) (k : ℕ) (b : Bool) → runnable_thread image m k th ≡ b
      → any_runnable image m (th ∷ ts) k ≡ (elim b as (λ _. Bool) [ true ↦ true | false ↦ any_runnable image m ts (suc k) ])
  by_first th ts k b e = ap (λ (a : Bool). elim a as (λ _. Bool) [ true ↦ true | false ↦ any_runnable image m ts (suc k) ]) e

  none_plus : (k : ℕ) → k ≡ 0 + k
  none_plus k = omega arith

  next : (j k : ℕ) → j + suc k ≡ suc j + k
  next j k = omega arith

  -- none of these, which are those of the machine from the k-th on
  no_from : (ts : List WordThread) (k : ℕ) → ((j : ℕ) → j < length ts → runnable_one image m (j + k) (slice_get ts j) ≡ false) → any_runnable image m ts k ≡ false
  no_from [] k none = refl
  no_from (th ∷ ts) k none =
      by_first th ts k false (ap (λ n. runnable_thread image m n th) (none_plus k) ∙ none 0 (omega arith)) ∙
      no_from ts (suc k) (λ j less. ap (λ n. runnable_one image m n (slice_get ts j)) (next j k) ∙ none (suc j) (omega (arith, less)))

  by_later : (th : WordThread) (ts : List WordThread) (k : ℕ) (b : Bool) → runnable_thread image m k th ≡ b → any_runnable image m ts (suc k) ≡ true → any_runnable image m (th ∷ ts) k ≡ true
  by_later th ts k true e later = by_first th ts k true e
  by_later th ts k false e later = by_first th ts k false e ∙ later

  some_from : (ts : List WordThread) (k j : ℕ) → runnable_one image m (j + k) (slice_get ts j) ≡ true → any_runnable image m ts k ≡ true
  some_from [] k j is = absurd (cc is)
  some_from (th ∷ ts) k zero is = by_first th ts k true (ap (λ n. runnable_thread image m n th) (none_plus k) ∙ is)
  some_from (th ∷ ts) k (suc j) is =
      by_later th ts k (runnable_thread image m k th) refl (some_from ts (suc k) j (ap (λ n. runnable_one image m n (slice_get ts j)) (next j k) ∙ is))

  plus_zero : (j : ℕ) → j + 0 ≡ j
  plus_zero j = omega arith

  pub none_runs : ((j : ℕ) → j < length m.threads → runnable image m j ≡ false) → false ≡ any_runnable image m m.threads 0
  none_runs none = sym (no_from m.threads 0 (λ j less. ap (λ n. runnable_one image m n (slice_get m.threads j)) (plus_zero j) ∙ none j less))

  pub one_runs : (j : ℕ) → runnable image m j ≡ true → true ≡ any_runnable image m m.threads 0
  one_runs j is = sym (some_from m.threads 0 j (ap (λ n. runnable_one image m n (slice_get m.threads j)) (plus_zero j) ∙ is))

pub below : (P : ℕ → Type 0) (k : ℕ) → ((j : ℕ) → j < k → P j) → P k → (j : ℕ) → j < k + 1 → P j
below P k all at j less = by (nat_lt j k) refl
  where
    by : (b : Bool) → nat_lt j k ≡ b → P j
    by true e = all j (grind (arith, nat_tests))
    by false e = let same : k ≡ j = grind (arith, nat_tests) in subst P same at

pub many_threads : (image : Image) (v : Vm) → AreWatchable image v → length (threads_of v.guest.threads) ≡ length v.guest.threads.stacks.items
many_threads image v w = many v.guest.threads.stacks.items v.guest.threads.ends.items v.guest.threads.objects.items w.ordered.aligned.ends w.ordered.aligned.objects
