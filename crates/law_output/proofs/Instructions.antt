-- What each kind of instruction leaves of the output begins with what was there.
use Rattle.std.proofs.Common.{◌≡◌, ◌∙◌, ℕ, suc, ◌+◌, Bool, true, false, List, [], ◌∷◌, length, Option, Some, None, refl, sym, append-nil}
use Rattle.std.specs.Prelude.{ℤ, pos, negsuc, if◌then◌else◌, nat_le, nat_lt, slice_get, ◌&&◌}
use Rattle.dv_defs.specs.declared.machine.Ask.{Ask}
use Rattle.dv_defs.specs.declared.machine.Ask.TheVariants as ask
use Rattle.dv_defs.specs.declared.names.Ty.{Ty}
use Rattle.dv_defs.specs.declared.run.Native.{Native}
use Rattle.dv_defs.specs.declared.run.Native.TheVariants as native
use Rattle.dv_defs.specs.Parts.{Call, Width}
use Rattle.dv_defs.specs.Pools.{Method, is_constructor, is_static}
use Rattle.dv_defs.specs.Op.{Op, is_local, IntDivide, LongDivide, ConstString, ConstClass, Cast, InstanceOf, ArrayLength, New, NewArray, Filled, Fill, Throw, ArrayGet, ArrayPut, FieldGet, FieldPut, StaticGet, StaticPut, Invoke, ReturnVoid, Return, Enter, Exit}
use Rattle.dv_typing.specs.Statics.{At}
use Rattle.dv_machine.specs.Classes.{ask_of}
use Rattle.dv_machine.specs.Heap.{length_of}
use Rattle.dv_machine.specs.Frame.{Frame}
use Rattle.dv_machine.specs.Level.{Level}
use Rattle.dv_machine.specs.Level as level
use Rattle.dv_machine.specs.Monitors.{Held, Wait, owner_of}
use Rattle.dv_machine.specs.Pending.{Pending}
use Rattle.dv_machine.specs.Value.{Value}
use Rattle.dv_machine.specs.Why as why
use Rattle.dv_machine.specs.State.{Shared, Left, Did, Go, Here, reading, reg_at, read_args, regs_in, words_in, pushed, IsStuck}
use Rattle.dv_machine.specs.Mem.{mem, on_index, new_array}
use Rattle.dv_machine.specs.Natives.{native_step, printed, gives_char, char_at, some_chars}
use Rattle.dv_machine.specs.Threads.{wait_step, taken_back, start_unless, started_on, join_with, holding_it, monitor_enter, monitor_exit, free_or_mine, is_living}
use Rattle.dv_machine.specs.Calls.{Landing, Lands, Lacks, invoke, landed, landed_on, call_instance, call_constructor, with_receiver, back_on, back_to, unless_pending, return_void, return_form, return_value, enter, unless_abstract}
use Rattle.dv_machine.specs.Step.{local_left, act, for_class, with_ready, look_at, initialised_by, record_step}
use Rattle.law_output.proofs.Parts.{Leaves, leaves_go, is_quiet, quiet, by_reading, by_room, by_truth, by_test, by_object}

-- an outcome at hand leaves the output, or adds to it
abbrev pub Fine : Here → Did Left → Type 0
Fine h d = Leaves h.shared.output d

kept : (h : Here) (l : Left) → l.shared.output ≡ h.shared.output → Fine h (Go l)
kept h l is = leaves_go h.shared.output l ([], is ∙ sym (append-nil h.shared.output))

silent : (h : Here) (d : Did Left) → is_quiet d ≡ true → Fine h d
silent h d is = quiet h.shared.output d is

-- ---- the heap

on_index_fine : (h : Here) (o : ℕ) (k : ℤ) (go : ℕ → Did Left) → ((j : ℕ) → Fine h (go j)) → Fine h (on_index h o k go)
on_index_fine h o (negsuc n) go all = silent h _ refl
on_index_fine h o (pos k) go all = by_test h.shared.output (nat_lt k (length_of h.shared.heap o)) _ _ (all _) (silent h _ refl)

new_array_fine : (h : Here) (a : ℕ) (t : Ty) (n : ℤ) → Fine h (new_array h a t n)
new_array_fine h a t (negsuc n) = silent h _ refl
new_array_fine h a t (pos n) = by_room h.shared.output _ _ (λ heap. kept h _ refl)

mem_fine : (h : Here) (op : Op) → Fine h (mem h op)
mem_fine h (IntDivide o a b c) = search (by_reading h.shared.output, by_truth h.shared.output, kept h)
mem_fine h (LongDivide o a b c) = search (by_reading h.shared.output, by_truth h.shared.output, kept h)
mem_fine h (ConstString a s) = search (by_room h.shared.output, kept h)
mem_fine h (ConstClass a t) = search (by_room h.shared.output, kept h)
mem_fine h (Cast a t) = search (by_reading h.shared.output, by_truth h.shared.output, kept h)
mem_fine h (InstanceOf a b t) = search (by_reading h.shared.output, kept h)
mem_fine h (ArrayLength a b) = search (by_reading h.shared.output, by_object h.shared.output, kept h)
mem_fine h (New a c) = search (by_room h.shared.output, kept h)
mem_fine h (NewArray a b t) = search (by_reading h.shared.output, new_array_fine h)
mem_fine h (Filled rs t) = search (by_reading h.shared.output, by_room h.shared.output, kept h)
mem_fine h (Fill a n ns) = search (by_reading h.shared.output, by_object h.shared.output, by_truth h.shared.output, kept h)
mem_fine h (Throw a) = search (by_reading h.shared.output, by_object h.shared.output, silent h)
mem_fine h (ArrayGet s a b c) = search (by_reading h.shared.output, by_object h.shared.output, on_index_fine h, kept h)
mem_fine h (ArrayPut s a b c) = search (by_reading h.shared.output, by_object h.shared.output, on_index_fine h, by_truth h.shared.output, kept h) depth 9
mem_fine h (FieldGet s a b x) = search (by_reading h.shared.output, by_object h.shared.output, kept h)
mem_fine h (FieldPut s a b x) = search (by_reading h.shared.output, by_object h.shared.output, kept h)
mem_fine h (StaticGet s a x) = kept h _ refl
mem_fine h (StaticPut s a x) = search (by_reading h.shared.output, kept h)
mem_fine h op = silent h _ refl

-- ---- monitors and threads

holding_it_fine : (h : Here) (go : ℕ → Did Left) (o : Option Held) → ((n : ℕ) → Fine h (go n)) → Fine h (holding_it h go o)
holding_it_fine h go None all = silent h _ refl
holding_it_fine h go (Some x) all = by_truth h.shared.output _ _ _ (all x.count)

taken_back_fine : (h : Here) (w : Wait) (b : Bool) (o : Option ℕ) → Fine h (taken_back h w b o)
taken_back_fine h w true None = kept h _ refl
taken_back_fine h w true (Some u) = kept h _ refl
taken_back_fine h w false o = kept h _ refl

wait_fine : (h : Here) (o : ℕ) (w : Option Wait) → Fine h (wait_step h o w)
wait_fine h o None = holding_it_fine h _ _ (λ n. kept h _ refl)
wait_fine h o (Some w) = taken_back_fine h w _ _

started_fine : (h : Here) (o : ℕ) (l : Landing) → Fine h (started_on h o l)
started_fine h o (Lacks n) = silent h _ refl
started_fine h o (Lands m) = kept h _ refl

start_fine : (h : Here) (o : ℕ) (u : Option ℕ) → Fine h (start_unless h o u)
start_fine h o (Some u) = silent h _ refl
start_fine h o None = search (by_truth h.shared.output, started_fine h)

join_fine : (h : Here) (u : Option ℕ) → Fine h (join_with h u)
join_fine h None = kept h _ refl
join_fine h (Some u) = by_test h.shared.output (is_living (slice_get h.threads u)) _ _ (kept h _ refl) (kept h _ refl)

-- ---- natives

printed_fine : (h : Here) (bs : List ℕ) → Fine h (printed h bs)
printed_fine h bs = by_test h.shared.output (nat_le (length h.shared.output + length bs) h.limits.output) _ _ (leaves_go h.shared.output _ (bs, refl)) (silent h _ refl)

gives_char_fine : (h : Here) (c : Option ℕ) → Fine h (gives_char h c)
gives_char_fine h None = silent h _ refl
gives_char_fine h (Some c) = kept h _ refl

char_at_fine : (h : Here) (s : List ℕ) (k : ℤ) → Fine h (char_at h s k)
char_at_fine h s (negsuc n) = silent h _ refl
char_at_fine h s (pos k) = gives_char_fine h _

some_chars_fine : (h : Here) (o : ℕ) (start count : ℤ) → Fine h (some_chars h o start count)
some_chars_fine h o (pos start) (pos count) = by_truth h.shared.output _ _ _ (by_room h.shared.output _ _ (λ heap. kept h _ refl))
some_chars_fine h o (pos start) (negsuc count) = silent h _ refl
some_chars_fine h o (negsuc start) count = silent h _ refl

native_fine : (h : Here) (n : Native) (xs : List Value) → Fine h (native_step h n xs)
native_fine h native.Wait xs = wait_fine h _ _
native_fine h native.Notify xs = holding_it_fine h _ _ (λ n. kept h _ refl)
native_fine h native.NotifyAll xs = holding_it_fine h _ _ (λ n. kept h _ refl)
native_fine h native.Start xs = start_fine h _ _
native_fine h native.Join xs = join_fine h _
native_fine h native.CurrentThread xs = kept h _ refl
native_fine h native.Length xs = kept h _ refl
native_fine h native.CharAt xs = search (char_at_fine h)
native_fine h native.Equals xs = kept h _ refl
native_fine h native.Concat xs = search (by_object h.shared.output, by_room h.shared.output, kept h)
native_fine h native.OfLong xs = by_room h.shared.output _ _ (λ heap. kept h _ refl)
native_fine h native.OfChars xs = search (by_object h.shared.output, some_chars_fine h)
native_fine h native.Print xs = search (by_object h.shared.output, printed_fine h)
native_fine h native.Println xs = search (printed_fine h)

-- ---- calls and returns

pushed_fine : (h : Here) (sh : Shared) (l : Level) (ls : List Level) → sh.output ≡ h.shared.output → Fine h (pushed h sh l ls)
pushed_fine h sh l ls is = by_test h.shared.output (nat_le (suc (length ls)) h.limits.levels && nat_le (regs_in l + words_in ls) h.limits.words) _ _ (kept h _ is) (silent h _ refl)

enter_fine : (h : Here) (m : Method) (xs : List Value) (p : Bool) → Fine h (enter h m xs p)
enter_fine h m xs p = search (pushed_fine h)

landed_on_fine : (h : Here) (m : Method) (xs : List Value) (n : Option Native) → Fine h (landed_on h (native_step h) m xs n)
landed_on_fine h m xs None = enter_fine h m xs false
landed_on_fine h m xs (Some n) = native_fine h n xs

landed_fine : (h : Here) (g : Landing) (xs : List Value) → Fine h (landed h (native_step h) g xs)
landed_fine h (Lacks n) xs = silent h _ refl
landed_fine h (Lands m) xs = landed_on_fine h m xs _

constructor_fine : (h : Here) (g : Method) (x : Value) (ks : List ℕ) → Fine h (call_constructor h g x ks)
constructor_fine h g x ks = search (by_reading h.shared.output, by_test h.shared.output, silent h, enter_fine h)

instance_fine : (h : Here) (c : Call) (g : Method) (x : Value) (ks : List ℕ) → Fine h (call_instance h (native_step h) c g x ks)
instance_fine h c g x ks = search (by_reading h.shared.output, by_object h.shared.output, landed_fine h)

receiver_fine : (h : Here) (c : Call) (g : Method) (ks : List ℕ) → Fine h (with_receiver h (native_step h) c g ks)
receiver_fine h c g [] = silent h _ refl
receiver_fine h c g (k ∷ ks) = by_made (is_constructor g)
  where
    by_made : (b : Bool) → Fine h (elim b as (λ x. Did Left) [ true ↦ call_constructor h g (reg_at h.frame.regs k) ks | false ↦ call_instance h (native_step h) c g (reg_at h.frame.regs k) ks ])
    by_made true = constructor_fine h g (reg_at h.frame.regs k) ks
    by_made false = instance_fine h c g (reg_at h.frame.regs k) ks

invoke_fine : (h : Here) (c : Call) (ks : List ℕ) (g : Method) → Fine h (invoke h (native_step h) c ks g)
invoke_fine h c ks g = by_static (is_static g)
  where
    by_static : (b : Bool) → Fine h (elim b as (λ x. Did Left) [ true ↦ reading (read_args h.image h.shared.heap h.frame.regs g.def.proto.params ks) (landed h (native_step h) (unless_abstract g)) | false ↦ with_receiver h (native_step h) c g ks ])
    by_static true = search (by_reading h.shared.output, landed_fine h)
    by_static false = receiver_fine h c g ks

back_to_fine : (h : Here) (p : Pending) (g : Frame) (ls : List Level) (x : Option At) → Fine h (back_to h p g ls x)
back_to_fine h p g ls None = silent h _ refl
back_to_fine h p g ls (Some x) = kept h _ refl

back_on_fine : (h : Here) (p : Pending) (ls : List Level) → Fine h (back_on h p ls)
back_on_fine h p [] = kept h _ refl
back_on_fine h p (level.Init c r ∷ ls) = kept h _ refl
back_on_fine h p (level.Code g ∷ ls) = back_to_fine h p g ls _

pending_fine : (h : Here) (go : Did Left) → Fine h go → Fine h (unless_pending h go)
pending_fine h go is = by_test h.shared.output (is_constructor h.own && h.frame.this_pending) (IsStuck why.Uninitialised) go (silent h _ refl) is

value_fine : (h : Here) (a : ℕ) (t : Option Ty) → Fine h (return_value h a t)
value_fine h a None = silent h _ refl
value_fine h a (Some t) = by_reading h.shared.output _ _ (λ xs. back_on_fine h _ h.rest)

return_fine : (h : Here) (w : Width) (a : ℕ) → Fine h (return_form h w a)
return_fine h w a = search (by_test h.shared.output, pending_fine h, value_fine h, silent h)

void_fine : (h : Here) → Fine h (return_void h)
void_fine h = search (by_test h.shared.output, pending_fine h, back_on_fine h, silent h)

-- ---- a code level

local_fine : (h : Here) (op : Op) → Fine h (local_left h op)
local_fine h op = by_reading h.shared.output _ _ (λ f. kept h _ refl)

other_fine : (h : Here) (op : Op) → Fine h (if is_local op then local_left h op else mem h op)
other_fine h op = by_test h.shared.output (is_local op) (local_left h op) (mem h op) (local_fine h op) (mem_fine h op)

enter_monitor_fine : (h : Here) (o : ℕ) → Fine h (monitor_enter h o)
enter_monitor_fine h o = by_test h.shared.output (free_or_mine h (owner_of h.shared.monitors o)) _ _ (kept h _ refl) (kept h _ refl)

exit_monitor_fine : (h : Here) (o : ℕ) → Fine h (monitor_exit h o)
exit_monitor_fine h o = search (holding_it_fine h, kept h)

act_fine : (h : Here) (op : Op) → Fine h (act h op)
act_fine h (Invoke c ks g) = invoke_fine h c ks g
act_fine h ReturnVoid = void_fine h
act_fine h (Return w a) = return_fine h w a
act_fine h (Enter a) = search (by_reading h.shared.output, by_object h.shared.output, enter_monitor_fine h)
act_fine h (Exit a) = search (by_reading h.shared.output, by_object h.shared.output, exit_monitor_fine h)
act_fine h op = other_fine h op

class_fine : (h : Here) (ls : List Level) (c : ℕ) (a : Ask) (go : Did Left) → Fine h go → Fine h (for_class h ls c a go)
class_fine h ls c ask.Go go is = is
class_fine h ls c ask.Begin go is = search (pushed_fine h)
class_fine h ls c (ask.Wait u) go is = kept h _ refl
class_fine h ls c ask.Bad go is = silent h _ refl

pub ready_fine : (h : Here) (op : Op) (c : Option ℕ) → Fine h (with_ready h op c)
ready_fine h op None = act_fine h op
ready_fine h op (Some c) = class_fine h (level.Code h.frame ∷ h.rest) c (ask_of h.shared.classes c h.thread) (act h op) (act_fine h op)

-- ---- a record

initialised_fine : (h : Here) (c : ℕ) (m : Option Method) → Fine h (initialised_by h c m)
initialised_fine h c None = kept h _ refl
initialised_fine h c (Some m) = search (pushed_fine h)

look_fine : (h : Here) (c : ℕ) (ps : List ℕ) → Fine h (look_at h c ps)
look_fine h c [] = initialised_fine h c _
look_fine h c (p ∷ ps) = class_fine h (level.Init (record { 0 = c }) false ∷ h.rest) p (ask_of h.shared.classes p h.thread) (look_at h c ps) (look_fine h c ps)

pub record_fine : (h : Here) (c : ℕ) (r : Bool) → Fine h (record_step h c r)
record_fine h c true = kept h _ refl
record_fine h c false = look_fine h c _
