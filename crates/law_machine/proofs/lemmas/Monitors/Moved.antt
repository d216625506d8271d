-- Monitors stay in order while a thread moves on and objects are added.
use Rattle.std.proofs.Common.{◌≡◌, ◌≢◌, ◌⊎◌, inl, inr, ℕ, zero, suc, ◌≤◌, List, ◌∷◌, ◌++◌, true, not, Option, Some, None, refl, sym, ap, ◌∙◌, subst, arith}
use Rattle.std.specs.Prelude.{◌&&◌, slice_get, slice_set, nat_lt, All, if◌then◌else◌}
use Rattle.std.proofs.lemmas.Bool.{cases_eq}
use Rattle.std.proofs.lemmas.List.Elements.{All-weaker, All-head}
use Rattle.dv_defs.specs.Images.{Image}
use Rattle.dv_machine.specs.Value.{Value}
use Rattle.dv_machine.specs.Value as v
use Rattle.dv_defs.specs.declared.names.Ty.{Ty}
use Rattle.dv_defs.specs.declared.run.Named.TheVariants as named
use Rattle.dv_machine.specs.Kind.{Kind}
use Rattle.dv_machine.specs.Frame.{Frame}
use Rattle.dv_machine.specs.Level.{Level}
use Rattle.dv_machine.specs.Level as level
use Rattle.dv_defs.specs.declared.machine.End.{End}
use Rattle.dv_defs.specs.Parts.{Call}
use Rattle.dv_defs.specs.Pools.{Method, is_interface, own_type}
use Rattle.dv_defs.specs.Order.{instance}
use Rattle.dv_machine.specs.Heap.{Heap, kind_of}
use Rattle.dv_machine.specs.Monitors.{Held, Wait, Monitors, owner_of, wait_of}
use Rattle.dv_machine.specs.State.{Thread, Shared, type_of}
use Rattle.dv_machine.specs.Calls.{dispatch, Landing, Lacks, class_of_kind, selected_from, by_object}
use Rattle.dv_machine.specs.Conforming.{IsThere, RefFine, RefsFine}
use Rattle.dv_machine.specs.WellTyped.{IsWaiting, WaitFine, HeldFine, MonitorsFine}
use Rattle.law_machine.specs.Premises.{KeepsKinds}
use Rattle.law_machine.proofs.lemmas.Common.Facts.{ref_at}
use Rattle.law_machine.proofs.lemmas.Common.Lists.{get_front, set_there, set_other, all_at}
use Rattle.law_machine.proofs.lemmas.Growth.Kinds.{same_type}
use Rattle.law_machine.proofs.lemmas.Monitors.Owners.{quiet_from}

-- a call by the class of an object of a type and kind
abbrev object_lands : Image → Method → Ty → Option Kind → Landing
object_lands image g t x =
    if is_interface image g.info.class.0 && not (instance image t (own_type image g)) then Lacks named.ClassChange
    else selected_from image (class_of_kind image x) g.def.name g.def.proto

object_grown : (image : Image) (before after : Heap) (g : Method) (o : ℕ) (k : Kind) → kind_of before o ≡ Some k → kind_of after o ≡ Some k → by_object image before g o ≡ by_object image after g o
object_grown image before after g o k e f =
    ap (λ (t : Ty). object_lands image g t (kind_of before o)) (same_type image before after o k e f) ∙
    ap (object_lands image g (type_of image after o)) (e ∙ sym f)

-- the method that a call lands on is determined by the kind of its object
dispatch_grown : (image : Image) (before after : Heap) (own : Method) (c : Call) (g : Method) (o : ℕ) (k : Kind) → kind_of before o ≡ Some k → kind_of after o ≡ Some k → dispatch image before own c g o ≡ dispatch image after own c g o
unfolding dispatch
dispatch_grown image before after own Call.Static g o k e f = refl
dispatch_grown image before after own Call.Direct g o k e f = refl
dispatch_grown image before after own Call.Super g o k e f = refl
dispatch_grown image before after own Call.Virtual g o k e f = object_grown image before after g o k e f
dispatch_grown image before after own Call.Interface g o k e f = object_grown image before after g o k e f

-- a register that holds an object holds one that is there
ref_there : (image : Image) (heap : Heap) (x : Value) (o : ℕ) → RefFine image heap x → x ≡ v.Ref o → IsThere image heap o
ref_there image heap x o r e = subst (λ (y : Value). RefFine image heap y) e r

there_kind : (image : Image) (heap : Heap) (o : ℕ) → IsThere image heap o → nat_lt 0 o ≡ true → (k : Kind) × (kind_of heap o ≡ Some k)
there_kind image heap zero h e = absurd (cc)
there_kind image heap (suc o) h e = (h.kind, h.has_kind)

frame_refs : (image : Image) (heap : Heap) (ls rest : List Level) (f : Frame) → ls ≡ level.Code f ∷ rest → All (RefsFine image heap) ls → All (RefFine image heap) f.regs
frame_refs image heap ls rest f e a = (All-head (RefsFine image heap) (level.Code f) rest (subst (λ (x : List Level). All (RefsFine image heap) x) e a)).0

pub waiting_grown : (image : Image) (before after : Heap) → KeepsKinds before after → (ls : List Level) (e : End) (o : ℕ) → All (RefsFine image before) ls → IsWaiting image before ls e o → IsWaiting image after ls e o
waiting_grown image before after g ls e o r w = record {
  running = w.running;
  frame = w.frame;
  rest = w.rest;
  levels = w.levels;
  method = w.method;
  has_method = w.has_method;
  at = w.at;
  has_at = w.has_at;
  call = w.call;
  args = w.args;
  callee = w.callee;
  is_invoke = w.is_invoke;
  receiver = w.receiver;
  has_receiver = w.has_receiver;
  holds = w.holds;
  there = w.there;
  landed = w.landed;
  lands = sym (dispatch_grown image before after w.method w.call w.callee o k.0 k.1 (g o k.0 k.1)) ∙ w.lands;
  is_wait = w.is_wait;
}
  where
    k : (k : Kind) × (kind_of before o ≡ Some k)
    k = there_kind image before o (ref_there image before _ o (ref_at image before w.frame.regs w.receiver (frame_refs image before ls w.rest w.frame w.levels r)) w.holds) w.there

-- all threads' references
abbrev pub AllRefs : Image → Heap → List Thread → Type 0
AllRefs image heap threads = All (λ th. All (RefsFine image heap) th.levels) threads

module _ (image : Image) (threads : List Thread) (t : ℕ) (thread after : Thread) (more : List Thread) (sh sh' : Shared) (n n' : ℕ) (g : KeepsKinds sh.heap sh'.heap) (same : sh'.monitors ≡ sh.monitors) (later : n ≤ n') (has : slice_get threads t ≡ Some thread) (refs : AllRefs image sh.heap threads) where
  -- where each thread is found after the step
  found_other : (u : ℕ) (x : Thread) → u ≢ t → slice_get threads u ≡ Some x → slice_get (slice_set threads t after ++ more) u ≡ Some x
  found_other u x d e = get_front (slice_set threads t after) more u x (set_other threads t u after d ∙ e)

  found_own : slice_get (slice_set threads t after ++ more) t ≡ Some after
  found_own = get_front (slice_set threads t after) more t after (set_there threads t after thread has)

  found_some : (u : ℕ) → (x : Thread) × (slice_get threads u ≡ Some x) → (y : Thread) × (slice_get (slice_set threads t after ++ more) u ≡ Some y)
  found_some u x = go (cases_eq u t)
    where
      go : (u ≡ t) ⊎ (u ≢ t) → (y : Thread) × (slice_get (slice_set threads t after ++ more) u ≡ Some y)
      go (inl e) = (after, subst (λ (k : ℕ). slice_get (slice_set threads t after ++ more) k ≡ Some after) (sym e) found_own)
      go (inr d) = (x.0, found_other u x.0 d x.1)

  wait_moved : (w : Wait) → (w.thread ≡ t → IsWaiting image sh'.heap after.levels after.end w.object) → WaitFine image threads sh w → WaitFine image (slice_set threads t after ++ more) sh' w
  wait_moved w own f = go (cases_eq w.thread t)
    where
      owner : owner_of sh'.monitors w.object ≢ Some w.thread
      owner = subst (λ (ms : Monitors). owner_of ms w.object ≢ Some w.thread) (sym same) f.not_owner

      go : (w.thread ≡ t) ⊎ (w.thread ≢ t) → WaitFine image (slice_set threads t after ++ more) sh' w
      go (inl e) = record { thread = after; has_thread = subst (λ (k : ℕ). slice_get (slice_set threads t after ++ more) k ≡ Some after) (sym e) found_own; waits = own e; not_owner = owner }
      go (inr d) = record { thread = f.thread; has_thread = found_other w.thread f.thread d f.has_thread; waits = waiting_grown image sh.heap sh'.heap g f.thread.levels f.thread.end w.object (all_at (λ th. All (RefsFine image sh.heap) th.levels) threads w.thread f.thread refs f.has_thread) f.waits; not_owner = owner }

  held_moved : (h : Held) → HeldFine threads n h → HeldFine (slice_set threads t after ++ more) n' h
  held_moved h f = record { owner = found_some h.thread f.owner; low = f.low; high = omega (arith, f.high, later) }

  -- monitors that are as they were
  pub moved : All (λ w. w.thread ≡ t → IsWaiting image sh'.heap after.levels after.end w.object) sh.monitors.waits → MonitorsFine image threads sh n → MonitorsFine image (slice_set threads t after ++ more) sh' n'
  moved own m = record {
    waits = subst (λ (ms : Monitors). All (WaitFine image (slice_set threads t after ++ more) sh') ms.waits) (sym same) (λ k d l. wait_moved _ (own k d l) (m.waits k d l));
    held = subst (λ (ms : Monitors). All (HeldFine (slice_set threads t after ++ more) n') ms.held) (sym same) (All-weaker (HeldFine threads n) (HeldFine (slice_set threads t after ++ more) n') held_moved sh.monitors.held m.held);
    kept = subst (λ (ms : Monitors). All (λ (w : Wait). (1 ≤ w.kept) × (w.kept ≤ n')) ms.waits) (sym same) (All-weaker (λ (w : Wait). (1 ≤ w.kept) × (w.kept ≤ n)) (λ (w : Wait). (1 ≤ w.kept) × (w.kept ≤ n')) (λ w k. (k.0, omega (arith, k.1, later))) sh.monitors.waits m.kept);
    once = subst (λ (ms : Monitors). (i j : ℕ) (w x : Wait) → slice_get ms.waits i ≡ Some w → slice_get ms.waits j ≡ Some x → w.thread ≡ x.thread → i ≡ j) (sym same) m.once;
    one_owner = subst (λ (ms : Monitors). (i j : ℕ) (w x : Held) → slice_get ms.held i ≡ Some w → slice_get ms.held j ≡ Some x → w.object ≡ x.object → i ≡ j) (sym same) m.one_owner;
  }

  -- a thread that doesn't wait may go anywhere
  pub quiet_moved : wait_of sh.monitors t ≡ None → MonitorsFine image threads sh n → MonitorsFine image (slice_set threads t after ++ more) sh' n'
  quiet_moved quiet m = moved (λ k d l e. absurd (quiet_from t sh.monitors.waits quiet k d l e)) m
