-- A step of a thread, by how it stands and what is on top.
use Rattle.std.proofs.Common.{◌≡◌, ℕ, zero, suc, Bool, true, List, [], ◌∷◌, length, Option, Some, None, Result, Ok, Err, refl, ap, sym, ◌∙◌, subst, arith}
use Rattle.std.specs.Prelude.{IsErr, OnErr, OnOk, slice_get}
use Rattle.std.specs.declared.alloc.AllocError.{AllocError}
use Rattle.dv_defs.specs.declared.machine.End.{End}
use Rattle.dv_defs.specs.declared.machine.End.TheVariants as end
use Rattle.dv_defs.specs.declared.names.ClassId.{ClassId}
use Rattle.dv_defs.specs.declared.names.MethodId.{MethodId}
use Rattle.dv_defs.specs.declared.run.Limits.{Limits}
use Rattle.dv_defs.specs.declared.run.Next.{Next}
use Rattle.dv_typing.specs.Flow.{handlers_at}
use Rattle.dv_defs.specs.Images.{Image}
use Rattle.dv_defs.specs.Op as ops
use Rattle.dv_defs.specs.Pools.{Method, method_at}
use Rattle.dv_typing.specs.Statics as statics
use Rattle.dv_typing.specs.Statics.{fetch}
use Rattle.dv_machine.specs.Step.{no_method}
use Rattle.dv_words.specs.declared.state.Frame.{Frame}
use Rattle.dv_words.specs.declared.state.Level.{Level}
use Rattle.dv_words.specs.declared.state.Level.TheVariants as level
use Rattle.dv_words.specs.Stacks.{first}
use Rattle.dv_words.specs.State.{WordMachine, WordStack, WordThread}
use Rattle.dv_frames.specs.declared.levels.Top.TheVariants as top
use Rattle.dv_frames.specs.declared.levels.Top.{Top}
use Rattle.dv_frames.specs.Tops.{top_of}
use Rattle.dv_words.specs.Step.{here, no_frame, record_step, settled, settled_flight, step, step_at, step_code, step_flight, step_living, step_of, step_thread, with_ready}
use Rattle.dv_words.specs.Steps.{At, Left}
use Rattle.dv_words.specs.Unwinding.{Unwound, handler_for, unwind_frame, unwind_record}
use Rattle.dv_throw.specs.Answers.{Unwinds}
use Rattle.dv_threads.specs.Kept.{threads_of, zipped}
use Rattle.dv_core.specs.declared.guest.Guest.{Guest}
use Rattle.dv_core.specs.declared.vm.Step.{Step}
use Rattle.dv_core.specs.declared.vm.Vm.{Vm}
use Rattle.dv_core.specs.Guests.{IsOrdered, IsSeen, Stays}
use Rattle.dv_core.specs.Machines.{machine_of}
use Rattle.dv_core.specs.Trying.{IsTried, done_by}
use Rattle.dv_defs.specs.declared.run.Next.TheVariants as next
use Rattle.dv_words.specs.Unwinding.{Caught, Flies, Lacking}

-- ---- answers

-- a step that was done, or wanted memory
pub tried : (r : Result (Unit {0}) AllocError) (old new : Vm) (m : WordMachine) (may : Bool) → may ≡ true → OnOk r (machine_of new ≡ m) → OnErr r (machine_of new ≡ machine_of old) → IsOrdered old.limits new.guest → IsTried (done_by r) may old new m
tried (Ok u) old new m may is ok err ordered = (is, ok, ordered)
tried (Err e) old new m may is ok err ordered = (err, ordered)

pub err_tried : (r : Result Step AllocError) (may : Bool) (old new : Vm) (m : WordMachine) → IsErr r → machine_of new ≡ machine_of old → IsOrdered old.limits new.guest → IsTried r may old new m
err_tried (Ok s) may old new m is same ordered = absurd (cc is)
err_tried (Err e) may old new m is same ordered = (same, ordered)

-- by the limits that the step sees
pub seen_by : (i : Image) (lim : Limits) (g : Guest) (t : ℕ) (own : WordThread) (h : At) → IsSeen i lim g t own h → IsSeen i h.limits g t own h
seen_by i lim g t own h seen = subst (λ l. IsSeen i l g t own h) (sym seen.limits) seen

pub stays_by : (lim lim' : Limits) (g k : Guest) → lim ≡ lim' → Stays lim g k → Stays lim' g k
stays_by lim lim' g k same stays = subst (λ l. Stays l g k) same stays

pub unwound_by : (r : Result Next AllocError) (u : Unwound) (P : Left → Type 0) (S T : Type 0) → (S → T) → Unwinds r u P S → Unwinds r u P T
unwound_by (Ok next.On) (Caught l) P S T f x = x
unwound_by (Ok (next.ThrowRef o)) (Flies p l) P S T f x = x
unwound_by (Ok next.NoWords) (Lacking l) P S T f x = x
unwound_by (Err memory) u P S T f x = f x
unwound_by r u P S T f x = absurd x

-- ---- what is there

pub some_of : {A : Type 0} (o : Option A) → ((o ≡ None) → ⊥) → (a : A) × (o ≡ Some a)
some_of None fails = absurd (fails refl)
some_of (Some a) fails = (a, refl)

pub nothing_on_top : (ls : List Level) → (let q : Option Top = None in q) ≡ top_of (first ls) → ls ≡ []
nothing_on_top [] e = refl
nothing_on_top (level.Code f ∷ ls) e = absurd (cc)
nothing_on_top (level.Init c r ∷ ls) e = absurd (cc)

pub record IsCodeOn (ls : List Level) : Type 0 where
  pub frame : Frame
  pub rest : List Level
  pub is : ls ≡ level.Code frame ∷ rest

pub code_on_top : (ls : List Level) (m : MethodId) (at : ℕ) → Some (top.Code m at) ≡ top_of (first ls) → IsCodeOn ls
code_on_top [] m at e = absurd (cc)
code_on_top (level.Code f ∷ ls) m at e = record { frame = f; rest = ls; is = refl }
code_on_top (level.Init c r ∷ ls) m at e = absurd (cc)

pub record IsRecordOn (ls : List Level) (c : ClassId) (r : Bool) : Type 0 where
  pub rest : List Level
  pub is : ls ≡ level.Init c r ∷ rest

pub record_on_top : (ls : List Level) (c : ClassId) (r : Bool) → Some (top.Init c r) ≡ top_of (first ls) → IsRecordOn ls c r
record_on_top [] c r e = absurd (cc)
record_on_top (level.Code f ∷ ls) c r e = absurd (cc)
record_on_top (level.Init d q ∷ ls) c r e =
    let same : (c ≡ d) × (r ≡ q) = (cc, cc) in
    record { rest = ls; is = λ j. level.Init (sym same.0 j) (sym same.1 j) ∷ ls }

pub record IsThread (ts : List WordThread) (t : ℕ) (e : End) : Type 0 where
  pub own : WordThread
  pub there : slice_get ts t ≡ Some own
  pub end : own.end ≡ e

pub thread_of : (ss : List WordStack) (es : List End) (os : List ℕ) (t : ℕ) (e : End) → length es ≡ length ss → length os ≡ length ss → slice_get es t ≡ Some e → IsThread (zipped ss es os) t e
thread_of ss [] os t e es_long os_long has = absurd (cc)
thread_of [] (f ∷ es) os t e es_long os_long has = absurd (omega arith)
thread_of (s ∷ ss) (f ∷ es) [] t e es_long os_long has = absurd (omega arith)
thread_of (s ∷ ss) (f ∷ es) (o ∷ os) zero e es_long os_long has = record { own = record { levels = s.levels; end = f; object = o }; there = refl; end = cc }
thread_of (s ∷ ss) (f ∷ es) (o ∷ os) (suc t) e es_long os_long has =
    let rest = thread_of ss es os t e (omega arith) (omega arith) has in
    record { own = rest.own; there = rest.there; end = rest.end }

pub no_thread : (ss : List WordStack) (es : List End) (os : List ℕ) (t : ℕ) → slice_get es t ≡ None → slice_get (zipped ss es os) t ≡ None
no_thread [] es os t has = refl
no_thread (s ∷ ss) [] os t has = refl
no_thread (s ∷ ss) (f ∷ es) [] t has = refl
no_thread (s ∷ ss) (f ∷ es) (o ∷ os) zero has = absurd (cc)
no_thread (s ∷ ss) (f ∷ es) (o ∷ os) (suc t) has = no_thread ss es os t has

-- what a step sees of a machine
pub sees_here : (image : Image) (v : Vm) (t : ℕ) (own : WordThread) (method : Method) (f : Frame) (ls : List Level) (n : ℕ) → IsOrdered v.limits v.guest → slice_get (threads_of v.guest.threads) t ≡ Some own
    → IsSeen image v.limits v.guest t own (here image (machine_of v) t method f ls n)
sees_here image v t own method f ls n ordered there = record { image = refl; limits = refl; number = refl; threads = refl; shared = refl; there = there; ordered = ordered }

-- ---- steps

module _ (image : Image) (m : WordMachine) (t : ℕ) (own : WordThread) where
  pub living_code : (f : Frame) (ls : List Level) (method : Method) (x : statics.At) → own.levels ≡ level.Code f ∷ ls → method_at image f.method.0 ≡ Some method → fetch image f.method.0 f.at ≡ Some x
      → step_living image m t own own.levels ≡ settled image m t own (Some x) (with_ready (here image m t method f ls x.next) x.op (ops.needs x.op))
  living_code f ls method x levels has fetched =
      ap (step_living image m t own) levels ∙ (ap (step_code image m t own f ls) has ∙ ap (step_at image m t own method f ls) fetched)

  pub living_record : (c : ClassId) (r : Bool) (ls : List Level) → own.levels ≡ level.Init c r ∷ ls
      → step_living image m t own own.levels ≡ settled image m t own None (record_step (here image m t no_method no_frame ls 0) c.0 r)
  living_record c r ls levels = ap (step_living image m t own) levels

  pub living_none : own.levels ≡ [] → step_living image m t own own.levels ≡ m
  living_none levels = ap (step_living image m t own) levels

  pub flight_code : (o : ℕ) (f : Frame) (ls : List Level) → own.levels ≡ level.Code f ∷ ls
      → step_flight image m t own o own.levels ≡ settled_flight m t own (unwind_frame (here image m t no_method f ls 0) f o (handler_for image m.shared.heap o (handlers_at image f.method.0 f.at)))
  flight_code o f ls levels = ap (step_flight image m t own o) levels

  pub flight_record : (o : ℕ) (c : ClassId) (r : Bool) (ls : List Level) → own.levels ≡ level.Init c r ∷ ls
      → step_flight image m t own o own.levels ≡ settled_flight m t own (unwind_record (here image m t no_method no_frame ls 0) c.0 o)
  flight_record o c r ls levels = ap (step_flight image m t own o) levels

  pub flight_none : (o : ℕ) → own.levels ≡ [] → step_flight image m t own o own.levels ≡ m
  flight_none o levels = ap (step_flight image m t own o) levels

  pub by_end : (e : End) → slice_get m.threads t ≡ Some own → own.end ≡ e → step image m t ≡ step_thread image m t own e
  by_end e there is = ap (step_of image m t) there ∙ ap (step_thread image m t own) is

  pub ended : (e : End) → ((e ≡ end.Living) → ⊥) → ((o : ℕ) → e ≡ end.Flying o → ⊥) → step_thread image m t own e ≡ m
  ended end.Living living flying = absurd (living refl)
  ended (end.Flying o) living flying = absurd (flying o refl)
  ended end.Returned living flying = refl
  ended (end.Died o) living flying = refl
