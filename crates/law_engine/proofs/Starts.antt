-- An operation on words starts a thread only where the limit has room for one more, and most operations start none.
use Rattle.std.proofs.Common.{◌≡◌, ◌⊎◌, inl, inr, ℕ, zero, suc, ◌+◌, ◌++◌, ◌<◌, ◌&&◌, List, [], ◌∷◌, length, ℤ, pos, negsuc, Bool, true, false, Option, Some, None, refl}
use Rattle.std.proofs.lemmas.Bool.{ltb-true}
use Rattle.std.specs.Prelude.{if◌then◌else◌, map, nat_le, nat_lt, slice_get}
use Rattle.dv_defs.specs.declared.machine.Ask.{Ask}
use Rattle.dv_defs.specs.declared.machine.Ask.TheVariants as ask
use Rattle.dv_defs.specs.declared.run.Named.{Named}
use Rattle.dv_defs.specs.declared.run.Named.TheVariants as named
use Rattle.dv_defs.specs.declared.run.Native.{Native}
use Rattle.dv_defs.specs.declared.run.Native.TheVariants as native
use Rattle.dv_machine.specs.Classes.{InProgress, ask_of, with_state}
use Rattle.dv_machine.specs.Monitors.{Held, Wait, held_of, owner_of, wait_of}
use Rattle.dv_defs.specs.Op.{Op, Enter, Exit, Invoke, Return, ReturnVoid, is_local}
use Rattle.dv_defs.specs.Parts.{Call}
use Rattle.dv_defs.specs.Pools.{Method, initialiser, is_abstract, is_constructor, is_static}
use Rattle.dv_typing.specs.Statics as statics
use Rattle.dv_typing.specs.Statics.{fetch}
use Rattle.dv_defs.specs.Texts.{utf8}
use Rattle.dv_machine.specs.Calls.{Landing, Lacks, Lands, native_of, unless_abstract}
use Rattle.dv_machine.specs.Mem.{on_object}
use Rattle.dv_machine.specs.State.{Did, Go, NoRoom, Throws, where_room, where_true}
use Rattle.dv_defs.specs.Prior.{prior_at}
use Rattle.dv_machine.specs.Threads.{run_landing}
use Rattle.dv_words.specs.declared.state.Kept.{Kept}
use Rattle.dv_words.specs.declared.state.Kept.TheVariants as kept
use Rattle.dv_words.specs.declared.state.Frame.{Frame}
use Rattle.dv_words.specs.declared.state.Level.{Level}
use Rattle.dv_words.specs.declared.state.Level.TheVariants as level
use Rattle.dv_words.specs.Heaps.{alloc_string, kind_of}
use Rattle.dv_words.specs.Stacks.{size_of, words_in}
use Rattle.dv_words.specs.State.{WordHeap, WordShared}
use Rattle.dv_words.specs.Words.{int_of}
use Rattle.dv_words.specs.Calls as calls
use Rattle.dv_words.specs.Local.{reg_word}
use Rattle.dv_words.specs.Mem.{WordLeft, word_mem}
use Rattle.dv_words.specs.Natives as natives
use Rattle.dv_words.specs.Step as over
use Rattle.dv_words.specs.Steps as steps
use Rattle.dv_words.specs.Steps.{At, Left}
use Rattle.dv_words.specs.Threads as threads
use Rattle.dv_words.specs.Unwinding as falling
use Rattle.dv_words.specs.Unwinding.{Caught, Flies, Lacking, Unwound}

-- no thread is started, or there is room for one more
abbrev pub HasRoom : At → Left → Type 0
HasRoom h l = (l.started ≡ None) ⊎ (length h.threads < h.limits.threads)

-- what a step leaves, where it leaves something
abbrev pub StartsInRoom : At → Did Left → Type 0
StartsInRoom h (Go l) = HasRoom h l
StartsInRoom h d = Unit {0}

-- the same of an exception in flight
abbrev pub FliesInRoom : At → Unwound → Type 0
FliesInRoom h (Caught l) = HasRoom h l
FliesInRoom h (Flies o l) = HasRoom h l
FliesInRoom h (Lacking l) = HasRoom h l

module _ (h : At) where
  -- ---- the parts that operations share

  if_starts : (b : Bool) (d e : Did Left) → StartsInRoom h d → StartsInRoom h e → StartsInRoom h (if b then d else e)
  if_starts true d e one two = one
  if_starts false d e one two = two

  where_starts : (b : Bool) (n : Named) (d : Did Left) → StartsInRoom h d → StartsInRoom h (where_true b n d)
  where_starts true n d one = one
  where_starts false n d one = tt

  room_starts : (heap : Option WordHeap) (go : WordHeap → Did Left) → ((x : WordHeap) → StartsInRoom h (go x)) → StartsInRoom h (where_room heap go)
  room_starts (Some x) go all = all x
  room_starts None go all = tt

  object_starts : (go : ℕ → Did Left) (o : ℕ) → ((p : ℕ) → StartsInRoom h (go p)) → StartsInRoom h (on_object go o)
  object_starts go zero all = tt
  object_starts go (suc o) all = all (suc o)

  pushed_starts : (sh : WordShared) (l : Level) (ls : List Level) → StartsInRoom h (steps.pushed h sh l ls)
  pushed_starts sh l ls = if_starts (nat_le (suc (length ls)) h.limits.levels && nat_le (size_of l + words_in ls) h.limits.words) (steps.left sh (l ∷ ls)) NoRoom (inl refl) tt

  carried_starts : (d : Did WordLeft) → StartsInRoom h (steps.carried h d)
  carried_starts (Go l) = inl refl
  carried_starts d = tt

  -- ---- monitors, waiting and joining

  holding_starts : (go : ℕ → Did Left) (x : Option Held) → ((n : ℕ) → StartsInRoom h (go n)) → StartsInRoom h (threads.holding_it h go x)
  holding_starts go None all = tt
  holding_starts go (Some x) all = where_starts _ _ (go x.count) (all x.count)

  enter_starts : (o : ℕ) → StartsInRoom h (threads.monitor_enter h o)
  enter_starts o = if_starts (threads.free_or_mine h (owner_of h.shared.monitors o)) _ _ (inl refl) (inl refl)

  exit_starts : (o : ℕ) → StartsInRoom h (threads.monitor_exit h o)
  exit_starts o = holding_starts _ (held_of h.shared.monitors o) (λ n. inl refl)

  taken_starts : (x : Wait) (b : Bool) (owner : Option ℕ) → StartsInRoom h (threads.taken_back h x b owner)
  taken_starts x true None = inl refl
  taken_starts x b owner = inl refl

  wait_starts : (o : ℕ) (x : Option Wait) → StartsInRoom h (threads.wait_step h o x)
  wait_starts o None = holding_starts _ (held_of h.shared.monitors o) (λ n. inl refl)
  wait_starts o (Some x) = taken_starts x x.notified (owner_of h.shared.monitors x.object)

  notify_starts : (o : ℕ) → StartsInRoom h (threads.notify_on h o)
  notify_starts o = holding_starts _ (held_of h.shared.monitors o) (λ n. inl refl)

  notify_all_starts : (o : ℕ) → StartsInRoom h (threads.notify_all_on h o)
  notify_all_starts o = holding_starts _ (held_of h.shared.monitors o) (λ n. inl refl)

  join_starts : (u : Option ℕ) → StartsInRoom h (threads.join_with h u)
  join_starts None = inl refl
  join_starts (Some u) = if_starts (threads.is_living (slice_get h.threads u)) (steps.stays h) (steps.goes h h.shared) (inl refl) (inl refl)

  -- ---- starting

  started_starts : (o : ℕ) (l : Landing) → length h.threads < h.limits.threads → StartsInRoom h (threads.started_on h o l)
  started_starts o (Lacks n) few = tt
  started_starts o (Lands m) few = inr few

  start_starts : (o : ℕ) (u : Option ℕ) → StartsInRoom h (threads.start_unless h o u)
  start_starts o (Some u) = tt
  start_starts o None = by (nat_lt (length h.threads) h.limits.threads) refl
    where
      run : Landing
      run = run_landing h.image (threads.class_of_kind h.image (kind_of h.shared.heap o))

      by : (b : Bool) → nat_lt (length h.threads) h.limits.threads ≡ b → StartsInRoom h (where_true b named.OutOfMemory (threads.started_on h o run))
      by true few = started_starts o run (ltb-true _ _ few)
      by false few = tt

  -- ---- natives

  text_starts : (s : List ℕ) → StartsInRoom h (natives.new_text h s)
  text_starts s = room_starts (alloc_string h.shared.heap s) (natives.gives_object h) (λ x. inl refl)

  unit_starts : (u : Option ℕ) → StartsInRoom h (natives.gives_char h u)
  unit_starts None = tt
  unit_starts (Some u) = inl refl

  char_starts : (s : List ℕ) (k : ℤ) → StartsInRoom h (natives.char_at h s k)
  char_starts s (negsuc k) = tt
  char_starts s (pos k) = unit_starts (slice_get s k)

  chars_starts : (o : ℕ) (start count : ℤ) → StartsInRoom h (natives.some_chars h o start count)
  chars_starts o (pos start) (pos count) = where_starts _ _ _ (text_starts _)
  chars_starts o start count = tt

  printed_starts : (bs : List ℕ) → StartsInRoom h (natives.printed h bs)
  printed_starts bs = if_starts (nat_le (length h.shared.output + length bs) h.limits.output) _ _ (inl refl) tt

  native_starts : (n : Native) (ws : List ℕ) → StartsInRoom h (natives.native_step h n ws)
  native_starts native.Wait ws = wait_starts (natives.arg ws 0) (wait_of h.shared.monitors h.thread)
  native_starts native.Notify ws = notify_starts (natives.arg ws 0)
  native_starts native.NotifyAll ws = notify_all_starts (natives.arg ws 0)
  native_starts native.Start ws = start_starts (natives.arg ws 0) (threads.thread_with h.threads (natives.arg ws 0))
  native_starts native.Join ws = join_starts (threads.thread_with h.threads (natives.arg ws 0))
  native_starts native.CurrentThread ws = inl refl
  native_starts native.Length ws = inl refl
  native_starts native.CharAt ws = char_starts _ (int_of (natives.arg ws 1))
  native_starts native.Equals ws = inl refl
  native_starts native.Concat ws = object_starts _ (natives.arg ws 1) (λ o. text_starts (natives.text_of h.shared.heap (natives.arg ws 0) ++ natives.text_of h.shared.heap o))
  native_starts native.OfLong ws = text_starts _
  native_starts native.OfChars ws = object_starts _ (natives.arg ws 0) (λ o. chars_starts o (int_of (natives.arg ws 1)) (int_of (natives.arg ws 2)))
  native_starts native.Print ws = object_starts _ (natives.arg ws 0) (λ o. printed_starts (utf8 (natives.text_of h.shared.heap o)))
  native_starts native.Println ws = printed_starts _

  -- ---- invokes and returns

  entered_starts : (m : Method) (ws : List ℕ) → StartsInRoom h (calls.enter h m ws)
  entered_starts m ws = pushed_starts h.shared (level.Code (calls.entered_frame m ws)) (level.Code h.frame ∷ h.rest)

  on_starts : (m : Method) (ws : List ℕ) (n : Option Native) → StartsInRoom h (calls.landed_on h m ws n)
  on_starts m ws None = entered_starts m ws
  on_starts m ws (Some n) = native_starts n ws

  landed_starts : (l : Landing) (ws : List ℕ) → StartsInRoom h (calls.landed h l ws)
  landed_starts (Lacks n) ws = tt
  landed_starts (Lands m) ws = on_starts m ws (native_of h.image m)

  instance_starts : (c : Call) (g : Method) (ws : List ℕ) (r : ℕ) → StartsInRoom h (calls.call_instance h c g ws r)
  instance_starts c g ws r = object_starts _ r (λ o. landed_starts (calls.dispatch h.image h.shared.heap h.own c g o) ws)

  construct_starts : (g : Method) (ws : List ℕ) → StartsInRoom h (calls.construct h g ws)
  construct_starts g ws = if_starts (is_abstract g) (Throws named.AbstractMethod) (calls.enter h g ws) tt (entered_starts g ws)

  receiver_starts : (c : Call) (g : Method) (ws : List ℕ) → StartsInRoom h (calls.with_receiver h c g ws)
  receiver_starts c g [] = inl refl
  receiver_starts c g (r ∷ ws) = if_starts (is_constructor g) (calls.construct h g (r ∷ ws)) (calls.call_instance h c g (r ∷ ws) r) (construct_starts g (r ∷ ws)) (instance_starts c g (r ∷ ws) r)

  invoked_starts : (c : Call) (g : Method) (ws : List ℕ) → StartsInRoom h (calls.invoked h c g ws)
  invoked_starts c g ws = if_starts (is_static g) (calls.landed h (unless_abstract g) ws) (calls.with_receiver h c g ws) (landed_starts (unless_abstract g) ws) (receiver_starts c g ws)

  caller_starts : (k : Kept) (g : Frame) (ls : List Level) (a : Option statics.At) → StartsInRoom h (calls.back_to h k g ls a)
  caller_starts k g ls None = inl refl
  caller_starts k g ls (Some x) = inl refl

  back_starts : (k : Kept) (ls : List Level) → StartsInRoom h (calls.back_on h k ls)
  back_starts k [] = inl refl
  back_starts k (level.Init c r ∷ ls) = inl refl
  back_starts k (level.Code g ∷ ls) = caller_starts k g ls (fetch h.image g.method.0 g.at)

  -- ---- every operation, and a record

  pub act_starts : (op : Op) → StartsInRoom h (over.act h op)
  act_starts (Invoke c ks g) = invoked_starts c g (map (reg_word h.frame) ks)
  act_starts ReturnVoid = back_starts kept.None h.rest
  act_starts (Return w a) = back_starts (calls.kept_at h.frame a (calls.is_wide h.own.def.proto.ret)) h.rest
  act_starts (Enter a) = object_starts (threads.monitor_enter h) (reg_word h.frame a) enter_starts
  act_starts (Exit a) = object_starts (threads.monitor_exit h) (reg_word h.frame a) exit_starts
  act_starts op = if_starts (is_local op) (steps.local_left h op) (steps.mem_left h op) (inl refl) (carried_starts (word_mem (steps.mem_here h) op))

  class_starts : (ls : List Level) (c : ℕ) (a : Ask) (go : Did Left) → StartsInRoom h go → StartsInRoom h (over.for_class h ls c a go)
  class_starts ls c ask.Go go one = one
  class_starts ls c ask.Begin go one = pushed_starts (steps.with_classes h.shared (with_state h.shared.classes c (InProgress h.thread))) (level.Init (record { 0 = c }) false) ls
  class_starts ls c (ask.Wait u) go one = inl refl
  class_starts ls c ask.Bad go one = tt

  pub ready_starts : (op : Op) (n : Option ℕ) → StartsInRoom h (over.with_ready h op n)
  ready_starts op None = act_starts op
  ready_starts op (Some c) = class_starts (level.Code h.frame ∷ h.rest) c (ask_of h.shared.classes c h.thread) (over.act h op) (act_starts op)

  initialised_starts : (c : ℕ) (m : Option Method) → StartsInRoom h (over.initialised_by h c m)
  initialised_starts c None = inl refl
  initialised_starts c (Some m) = pushed_starts h.shared (level.Code (calls.entered_frame m [])) (level.Init (record { 0 = c }) true ∷ h.rest)

  looked_starts : (c : ℕ) (ps : List ℕ) → StartsInRoom h (over.look_at h c ps)
  looked_starts c [] = initialised_starts c (initialiser h.image c)
  looked_starts c (p ∷ ps) = class_starts (level.Init (record { 0 = c }) false ∷ h.rest) p (ask_of h.shared.classes p h.thread) (over.look_at h c ps) (looked_starts c ps)

  pub record_starts : (c : ℕ) (ready : Bool) → StartsInRoom h (over.record_step h c ready)
  record_starts c true = inl refl
  record_starts c false = looked_starts c (prior_at h.image c)

  -- ---- exceptions in flight

  pub frame_starts : (f : Frame) (o : ℕ) (to : Option ℕ) → FliesInRoom h (falling.unwind_frame h f o to)
  frame_starts f o None = inl refl
  frame_starts f o (Some to) = inl refl

  wrapped_starts : (c o : ℕ) (heap : Option WordHeap) → FliesInRoom h (falling.wrapped h c o heap)
  wrapped_starts c o None = inl refl
  wrapped_starts c o (Some heap) = inl refl

  pub unwound_starts : (c o : ℕ) → FliesInRoom h (falling.unwind_record h c o)
  unwound_starts c o = by (falling.is_error h o)
    where
      wrap : Unwound
      wrap = falling.wrapped h c o (falling.made_object h.image h.shared.heap named.InInitializer)

      by : (b : Bool) → FliesInRoom h (if b then Flies o (steps.leaves (falling.erroneous c h.shared) (falling.below_record h c)) else wrap)
      by true = inl refl
      by false = wrapped_starts c o (falling.made_object h.image h.shared.heap named.InInitializer)
