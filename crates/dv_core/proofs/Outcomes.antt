-- What the answers of the calls leave of the guest.
use Rattle.std.proofs.Common.{◌≡◌, ℕ, ◌++◌, Bool, true, false, List, [], ◌∷◌, All, map, Option, Some, None, Result, Ok, Err, refl, sym, ap, ◌∙◌, subst}
use Rattle.std.specs.Prelude.{slice_get, slice_set}
use Rattle.std.specs.declared.alloc.AllocError.{AllocError}
use Rattle.std.specs.Option.{option_to_list}
use Rattle.dv_defs.specs.declared.run.Limits.{Limits}
use Rattle.dv_defs.specs.declared.run.Next.{Next}
use Rattle.dv_defs.specs.declared.run.Next.TheVariants as next
use Rattle.dv_defs.specs.Images.{Image}
use Rattle.dv_defs.specs.declared.code.Regs.{Regs}
use Rattle.dv_defs.specs.Op.{Code, Op, is_local, named_registers}
use Rattle.dv_typing.specs.Statics as statics
use Rattle.dv_typing.specs.Statics.{fetch}
use Rattle.dv_defs.specs.Tiling.{tiles_in, tiling}
use Rattle.dv_machine.specs.State.{Did, Go, NoOutput, NoRoom, NoWords, Throws, ThrowsRef}
use Rattle.dv_words.specs.declared.state.Frame.{Frame}
use Rattle.dv_words.specs.declared.state.Level.{Level}
use Rattle.dv_words.specs.declared.state.Level.TheVariants as level
use Rattle.dv_words.specs.Stacks.{arg_words, changed, first, on_top, top_regs, with_levels}
use Rattle.dv_words.specs.State.{WordHeap, WordShared, WordStack, WordThread}
use Rattle.dv_words.specs.Words.{word_at}
use Rattle.dv_words.specs.Answering.{IsStackOf, Leads, LeavesStack}
use Rattle.dv_words.specs.Local.{reg_word, word_local}
use Rattle.dv_words.specs.Mem.{WordHere, WordLeft, word_mem}
use Rattle.dv_words.specs.Stepping.{Answered, KeysRise, StepsLocally}
use Rattle.dv_words.specs.Steps.{At, Left, carried, leaves, mem_here, mem_left, with_heap, with_left, with_monitors}
use Rattle.dv_mem.specs.Operands.{AreOperands}
use Rattle.dv_mem.specs.Stepping.{is_mem}
use Rattle.dv_mem.specs.Tops.{frame_in, seen, top_frame}
use Rattle.dv_ops.specs.Meaning.{meant}
use Rattle.dv_local.specs.Tops.{StepsTop, TopBecame, SteppedAtLevel}
use Rattle.dv_builtin.specs.Seeing.{Does}
use Rattle.dv_threads.specs.Kept.{AreAsBefore, IsThreadOf, LeavesThreads, bounds}
use Rattle.dv_threads.specs.Owning.{TriesTo}
use Rattle.dv_core.specs.declared.guest.Guest.{Guest}
use Rattle.dv_fetch.specs.declared.instruction.Instruction.{Instruction}
use Rattle.dv_fetch.specs.Standing.{IsAtOp, IsHere}
use Rattle.dv_core.specs.Guests.{IsSeen, Leaves, Stays, shared_of}
use Rattle.dv_core.specs.Trying.{Tries}
use Rattle.dv_core.proofs.Seen.{all_first, all_more, all_rest, has_bounds, has_stack, is_stack, kept_stack, led, stayed, wrote}

-- ---- a step of the frame and the heap

module _ (i : Image) (lim : Limits) (old new : Guest) (thread : ℕ) (own : WordThread) (h : At) (seen : IsSeen i lim old thread own h) (s r : WordStack) (w : WordHeap)
    (ends : new.threads.ends.items ≡ old.threads.ends.items) (objects : new.threads.objects.items ≡ old.threads.objects.items)
    (there : slice_get old.threads.stacks.items thread ≡ Some s) (stacks : new.threads.stacks.items ≡ slice_set old.threads.stacks.items thread r) (shared : shared_of new ≡ with_heap (shared_of old) w) where
  mem_went : (t : WordLeft) → IsStackOf s h → r ≡ changed (λ f. t.frame) s → w ≡ t.heap → Leaves old new own h (with_left h t)
  mem_went t is frame heap =
      wrote i lim old thread own h seen new ends objects r (with_left h t) stacks
      (ap bounds frame ∙ has_bounds i lim old thread own h seen s there)
      (ap (λ (k : WordStack). k.levels) frame ∙ ap (on_top (λ f. t.frame)) is.levels)
      ((λ j. with_heap (seen.shared j) (sym heap j)) ∙ sym shared) refl

  mem_kept : r ≡ s → w ≡ old.heap → Stays lim old new
  mem_kept same heap = kept_stack i lim old thread own h seen new ends objects s r there stacks (shared ∙ ap (with_heap (shared_of old)) heap) same

  pub led_mem : {E : Type 0} (a : Result Next E) (d : Did WordLeft) → IsStackOf s h → Answered a d s old.heap r w → Leads a (carried h d) (Leaves old new own h) (Stays lim old new)
  led_mem (Ok next.On) (Go t) is x = mem_went t is x.0 x.1
  led_mem (Ok (next.Throw n)) (Throws m) is x = (x.0, mem_kept x.1 x.2)
  led_mem (Ok (next.ThrowRef o)) (ThrowsRef p) is x = (x.0, mem_kept x.1 x.2)
  led_mem (Ok next.NoWords) NoWords is x = mem_kept x.0 x.1
  led_mem (Err memory) (Go t) is x = mem_kept x.0 x.1
  led_mem (Err memory) (Throws m) is x = mem_kept x.0 x.1
  led_mem (Err memory) (ThrowsRef m) is x = mem_kept x.0 x.1
  led_mem (Err memory) NoWords is x = mem_kept x.0 x.1
  led_mem (Err memory) NoRoom is x = mem_kept x.0 x.1
  led_mem (Err memory) NoOutput is x = mem_kept x.0 x.1
  led_mem (Err memory) (Did.IsStuck y) is x = mem_kept x.0 x.1
  led_mem a d is x = absurd x

-- what the step of the frame and the heap sees
sees_mem : (i : Image) (lim : Limits) (old : Guest) (thread : ℕ) (own : WordThread) (h : At) (s : WordStack) (n : ℕ) → IsSeen i lim old thread own h → IsStackOf s h → n ≡ h.next → seen i s old.heap n ≡ mem_here h
sees_mem i lim old thread own h s n is_seen is next =
    let top : top_frame s ≡ h.frame = ap frame_in is.levels in
    λ j. record { image = sym is_seen.image j; frame = top j; heap = (sym is_seen.shared j).heap; next = next j }

pub touched : {E : Type 0} (i : Image) (lim : Limits) (old new : Guest) (thread : ℕ) (own : WordThread) (h : At) (x : statics.At) (it : Instruction) (s r : WordStack) (w : WordHeap) (a : Result Next E)
    → ((code : Code) (at : ℕ) → code.tiles ≡ tiles_in (tiling it.units.now) → is_mem (meant code at it.op) ≡ true → AreOperands (seen i s old.heap it.next) (meant code at it.op) → Answered a (word_mem (seen i s old.heap it.next) (meant code at it.op)) s old.heap r w)
    → new.threads.ends.items ≡ old.threads.ends.items → new.threads.objects.items ≡ old.threads.objects.items → slice_get old.threads.stacks.items thread ≡ Some s → new.threads.stacks.items ≡ slice_set old.threads.stacks.items thread r
    → shared_of new ≡ with_heap (shared_of old) w → IsSeen i lim old thread own h → IsAtOp own h x → IsHere it h x.op → is_mem x.op ≡ true → AreOperands (mem_here h) x.op
    → Leads a (mem_left h x.op) (Leaves old new own h) (Stays lim old new)
touched i lim old new thread own h x it s r w a does ends objects there stacks shared is_seen at here mem are =
    let is = is_stack i lim old thread own h is_seen at.levels s there in
    let sees = sees_mem i lim old thread own h s it.next is_seen is here.next in
    let Q : Op → Type 0 = λ o. is_mem o ≡ true → AreOperands (seen i s old.heap it.next) o → Answered a (word_mem (seen i s old.heap it.next) o) s old.heap r w in
    let by_op : Q x.op = subst Q here.means (does here.code here.at here.tiled) in
    let P : WordHere → Type 0 = λ k. AreOperands k x.op → Answered a (word_mem k x.op) s old.heap r w in
    let done : P (mem_here h) = subst P sees (by_op mem) in
    led_mem i lim old new thread own h is_seen s r w ends objects there stacks shared a (word_mem (mem_here h) x.op) is (done are)

-- ---- a native of texts

pub led_text : {E : Type 0} (i : Image) (lim : Limits) (old new : Guest) (thread : ℕ) (own : WordThread) (h : At) (seen : IsSeen i lim old thread own h) (s r : WordStack) (w : WordHeap) (out : List ℕ) (a : Result Next E) (d : Did Left)
    → new.threads.ends.items ≡ old.threads.ends.items → new.threads.objects.items ≡ old.threads.objects.items → slice_get old.threads.stacks.items thread ≡ Some s → new.threads.stacks.items ≡ slice_set old.threads.stacks.items thread r
    → shared_of new ≡ record (shared_of old) { heap = w; output = out } → Does a d h.shared s old.heap old.output.items r w out → Leads a d (Leaves old new own h) (Stays lim old new)
led_text i lim old new thread own h seen s r w out a d ends objects there stacks shared does =
    let after : WordShared = record h.shared { heap = w; output = out } in
    led a d (LeavesStack after s r) (Leaves old new own h) ((r ≡ s) × (w ≡ old.heap) × (out ≡ old.output.items)) (Stays lim old new)
    (λ l x. wrote i lim old thread own h seen new ends objects r l stacks (ap bounds x.levels ∙ has_bounds i lim old thread own h seen s there) (ap (λ (k : WordStack). k.levels) x.levels)
    (x.shared ∙ ((λ j. record (seen.shared j) { heap = w; output = out }) ∙ sym shared)) x.started)
    (λ x. kept_stack i lim old thread own h seen new ends objects s r there stacks (shared ∙ (λ j. record (shared_of old) { heap = x.1 j; output = x.2 j })) x.0)
    does

-- ---- calls on the threads

all_bounded : (lim : ℕ × ℕ) (ss rs : List WordStack) (ts : List WordThread) → map bounds rs ≡ map bounds ss ++ map (λ (t : WordThread). lim) ts → All (λ (s : WordStack). bounds s ≡ lim) ss → All (λ (s : WordStack). bounds s ≡ lim) rs
all_bounded lim [] [] ts e all = all
all_bounded lim (s ∷ ss) [] ts e all = absurd (cc)
all_bounded lim [] (r ∷ rs) [] e all = absurd (cc)
all_bounded lim [] (r ∷ rs) (t ∷ ts) e all =
    let top : bounds r ≡ lim = cc in
    let rest : map bounds rs ≡ map (λ (t : WordThread). lim) ts = cc in
    all_more (λ (s : WordStack). bounds s ≡ lim) r rs top (all_bounded lim [] rs ts rest all)
all_bounded lim (s ∷ ss) (r ∷ rs) ts e all =
    let top : bounds r ≡ bounds s = cc in
    let rest : map bounds rs ≡ map bounds ss ++ map (λ (t : WordThread). lim) ts = cc in
    let P : WordStack → Type 0 = λ s. bounds s ≡ lim in
    all_more P r rs (top ∙ all_first P s ss all) (all_bounded lim ss rs ts rest (all_rest P s ss all))

module _ (i : Image) (lim : Limits) (old : Guest) (thread : ℕ) (own : WordThread) (h : At) (seen : IsSeen i lim old thread own h) where
  pub is_thread : (x : statics.At) (next : ℕ) → IsAtOp own h x → h.next ≡ next → IsThreadOf old.threads thread next own h
  is_thread x next at after =
      let has = has_stack i lim old thread own h seen at.levels in
      record {
        number = seen.number;
        after = after;
        threads = seen.threads;
        monitors = ap (λ (k : WordShared). k.monitors) seen.shared;
        aligned = seen.ordered.aligned;
        there = seen.there;
        stack = has.stack;
        has_stack = has.there;
        is_stack = has.is;
      }

module _ (i : Image) (lim : Limits) (old new : Guest) (thread : ℕ) (own : WordThread) (h : At) (seen : IsSeen i lim old thread own h) where
  stays_threads : shared_of new ≡ with_monitors (shared_of old) new.threads.monitors.monitors → AreAsBefore old.threads new.threads → Stays lim old new
  stays_threads shared x = stayed i lim old thread own h seen new x.ends x.objects x.stacks (shared ∙ ap (with_monitors (shared_of old)) x.monitors)

  pub led_threads : {E : Type 0} (a : Result Next E) (d : Did Left) → shared_of new ≡ with_monitors (shared_of old) new.threads.monitors.monitors
      → Leads a d (LeavesThreads old.threads new.threads own h) (AreAsBefore old.threads new.threads) → Leads a d (Leaves old new own h) (Stays lim old new)
  led_threads a d shared does =
      led a d (LeavesThreads old.threads new.threads own h) (Leaves old new own h) (AreAsBefore old.threads new.threads) (Stays lim old new)
      (λ l x. record {
        threads = x.threads;
        shared = x.shared ∙ (ap (λ (k : WordShared). with_monitors k new.threads.monitors.monitors) seen.shared ∙ sym shared);
        ordered = record {
          aligned = x.aligned;
          bounded =
              let limits : (lim.levels, lim.words) ≡ (h.limits.levels, h.limits.words) = λ j. ((sym seen.limits j).levels, (sym seen.limits j).words) in
              let P : ℕ × ℕ → Type 0 = λ b. All (λ (s : WordStack). bounds s ≡ b) old.threads.stacks.items in
              all_bounded (h.limits.levels, h.limits.words) old.threads.stacks.items new.threads.stacks.items (option_to_list l.started) x.bounded (subst P limits seen.ordered.bounded);
        };
      })
      (stays_threads shared)
      does

  -- the same of a call that is tried
  pub tries_threads : (a : Result (Option Next) AllocError) (free : Bool) (d : Did Left) → shared_of new ≡ with_monitors (shared_of old) new.threads.monitors.monitors
      → TriesTo a free d (LeavesThreads old.threads new.threads own h) (AreAsBefore old.threads new.threads) → Tries a free d lim old new own h
  tries_threads (Ok (Some answer)) free d shared does = (does.0, led_threads {E = AllocError} (Ok answer) d shared does.1)
  tries_threads (Ok None) free d shared does = (does.0, stays_threads shared does.1)
  tries_threads (Err memory) free d shared does = stays_threads shared does

-- ---- a local step

top_became : (i : Image) (b : Bool) (l m : Option Level) (s r : WordStack) → l ≡ m → SteppedAtLevel i b l s r → SteppedAtLevel i b m s r
top_became i b l m s r e x = let P : Option Level → Type 0 = λ k. SteppedAtLevel i b k s r in subst P e x

locally : (i : Image) (b : Bool) (s r : WordStack) (h : At) → IsStackOf s h → StepsTop i b s r → TopBecame (StepsLocally i b) h.frame s r
locally i b s r h is x = top_became i b (first s.levels) (Some (level.Code h.frame)) s r (ap first is.levels) x

module _ (i : Image) (lim : Limits) (old : Guest) (thread : ℕ) (own : WordThread) (h : At) (x : statics.At) (seen : IsSeen i lim old thread own h) (at : IsAtOp own h x) (b : Bool) (s r : WordStack)
    (there : slice_get old.threads.stacks.items thread ≡ Some s) (steps : StepsTop i b s r) where
  is : IsStackOf s h
  is = is_stack i lim old thread own h seen at.levels s there

  top : TopBecame (StepsLocally i b) h.frame s r
  top = locally i b s r h is steps

  fetched : fetch i h.frame.method.0 h.frame.at ≡ Some x
  fetched = ap (λ (k : Image). fetch k h.frame.method.0 h.frame.at) (sym seen.image) ∙ at.fetched

  levels_are : r.levels ≡ level.Code top.frame ∷ h.rest
  levels_are = ap (λ (k : WordStack). k.levels) top.only_top ∙ ap (on_top (λ f. top.frame)) is.levels

  pub local_is : is_local x.op ≡ b
  local_is = top.becomes.local x fetched

  same_stack : b ≡ false → r ≡ s
  same_stack e =
      top.only_top ∙
      ap (with_levels s) (ap (on_top (λ f. top.frame)) is.levels ∙ (ap (λ (f : Frame). level.Code f ∷ h.rest) (top.becomes.stays e) ∙ sym is.levels))

  module _ (new : Guest) (ends : new.threads.ends.items ≡ old.threads.ends.items) (objects : new.threads.objects.items ≡ old.threads.objects.items)
      (stacks : new.threads.stacks.items ≡ slice_set old.threads.stacks.items thread r) (shared : shared_of new ≡ shared_of old) where
    pub local_went : KeysRise x.op → b ≡ true → Leaves old new own h (leaves h.shared (level.Code (word_local x.op h.frame h.next) ∷ h.rest))
    local_went keys e =
        wrote i lim old thread own h seen new ends objects r (leaves h.shared (level.Code (word_local x.op h.frame h.next) ∷ h.rest)) stacks
        (ap bounds top.only_top ∙ has_bounds i lim old thread own h seen s there)
        (levels_are ∙ ((λ j. level.Code (top.becomes.goes x fetched (local_is ∙ e) keys j) ∷ h.rest) ∙ (λ j. level.Code (word_local x.op h.frame (sym at.next j)) ∷ h.rest)))
        (seen.shared ∙ sym shared) refl

    pub local_stayed : b ≡ false → Stays lim old new
    local_stayed e = kept_stack i lim old thread own h seen new ends objects s r there stacks shared (same_stack e)

-- ---- the words in registers that an invoke names

pub args_are : (s : WordStack) (h : At) (r : Regs) → IsStackOf s h → arg_words s r ≡ map (reg_word h.frame) (named_registers r)
args_are s h r is = ap (λ (ls : List Level). map (word_at (top_regs ls)) (named_registers r)) is.levels
