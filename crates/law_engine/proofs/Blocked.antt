-- What holds a thread up is told by the words.
use Rattle.std.proofs.Common.{◌≡◌, ℕ, List, [], ◌∷◌, Bool, true, false, Option, Some, None, All, refl, sym, ap, ◌∙◌, subst}
use Rattle.std.specs.Prelude.{slice_get}
use Rattle.dv_defs.specs.declared.machine.Blocked.{Blocked}
use Rattle.dv_defs.specs.declared.machine.End.{End}
use Rattle.dv_defs.specs.declared.machine.End.TheVariants as end
use Rattle.dv_machine.specs.Frame as tagged
use Rattle.dv_machine.specs.Level as tagged_level
use Rattle.dv_defs.specs.declared.names.ClassId.{ClassId}
use Rattle.dv_defs.specs.declared.names.MethodId.{MethodId}
use Rattle.dv_machine.specs.Classes.{Classes, ask_of}
use Rattle.dv_machine.specs.Heap.{Heap}
use Rattle.dv_defs.specs.Images.{Image}
use Rattle.dv_defs.specs.Op.{needs}
use Rattle.dv_defs.specs.Pools.{Method, method_at}
use Rattle.dv_typing.specs.Statics.{At, fetch}
use Rattle.dv_machine.specs.Accepted.{Accepted}
use Rattle.dv_machine.specs.Running as machine
use Rattle.dv_machine.specs.Running.{blocked_record, by_ask}
use Rattle.dv_machine.specs.State.{Machine, Thread}
use Rattle.dv_defs.specs.Prior.{prior_at}
use Rattle.dv_machine.specs.WellTyped.{IsPlaced, ThreadFine, Typings, WellTyped, this_above}
use Rattle.dv_words.specs.declared.state.Frame.{Frame}
use Rattle.dv_words.specs.declared.state.Level.{Level}
use Rattle.dv_words.specs.declared.state.Level.TheVariants as level
use Rattle.dv_words.specs.Standing.{FrameStands, LevelsStand, MachineStands, ThreadStands}
use Rattle.dv_words.specs.State.{WordMachine, WordThread}
use Rattle.law_machine.proofs.lemmas.Common.Lists.{all_from}
use Rattle.dv_words.specs.Running as words
use Rattle.law_engine.proofs.Receivers.{op_is}

-- ---- the frame on top of a living thread stands where its method's typing has a state

abbrev pub IsPlacedOnTop : Image → Typings → Heap → List tagged_level.Level → Type 0
IsPlacedOnTop image T heap ls = (f : tagged.Frame) (ks : List tagged_level.Level) → ls ≡ tagged_level.Code f ∷ ks → IsPlaced image T heap (this_above image ks) f

abbrev pub IsPlacedThread : Image → Typings → Heap → Thread → Type 0
IsPlacedThread image T heap th = th.end ≡ end.Living → IsPlacedOnTop image T heap th.levels

placed : (image : Image) (T : Typings) (heap : Heap) (t : ℕ) (ls : List tagged_level.Level) (e : End) → ThreadFine image T heap t ls e → e ≡ end.Living → IsPlacedOnTop image T heap ls
placed image T heap t ls e fine living f ks top =
    let one = subst (λ (z : End). ThreadFine image T heap t ls z) living fine in
    let two = subst (λ (z : List tagged_level.Level). ThreadFine image T heap t z end.Living) top one in
    two.1.1

pub placed_thread : (image : Image) (T : Typings) (m : Machine) → WellTyped image T m → (t : ℕ) (th : Thread) → slice_get m.threads t ≡ Some th → IsPlacedThread image T m.shared.heap th
placed_thread image T m typed t th has = placed image T m.shared.heap t th.levels th.end (typed.each t th has)

pub all_placed : (image : Image) (T : Typings) (m : Machine) → WellTyped image T m → All (IsPlacedThread image T m.shared.heap) m.threads
all_placed image T m typed = all_from (IsPlacedThread image T m.shared.heap) m.threads (placed_thread image T m typed)

-- ---- threads

module _ (image : Image) (T : Typings) (accepted : Accepted image T) (w : WordMachine) (m : Machine) (stands : MachineStands w m) (t : ℕ) where
  classes : w.shared.classes ≡ m.shared.classes
  classes = stands.shared.classes

  ask_is : (c : ℕ) (a b : Option Blocked) → a ≡ b → by_ask (ask_of w.shared.classes c t) a c ≡ by_ask (ask_of m.shared.classes c t) b c
  ask_is c a b rest = ap (λ (cs : Classes). by_ask (ask_of cs c t) a c) classes ∙ ap (λ (r : Option Blocked). by_ask (ask_of m.shared.classes c t) r c) rest

  needing_is : (own : Method) (s : Frame) (f : tagged.Frame) (x : At) (n : Option ℕ) → words.blocked_op image w t own s x.op ≡ machine.blocked_op image m t own f x.op → words.blocked_needing image w t own s x.op n ≡ machine.blocked_needing image m t own f x.op n
  needing_is own s f x None same = same
  needing_is own s f x (Some c) same = ask_is c _ _ same

  at_is : (s : Frame) (f : tagged.Frame) (own : Option Method) (a : Option At) → ((caller : Method) (x : At) → a ≡ Some x → words.blocked_op image w t caller s x.op ≡ machine.blocked_op image m t caller f x.op) → words.blocked_at image w t s own a ≡ machine.blocked_at image m t f own a
  at_is s f (Some own) (Some x) same = needing_is own s f x (needs x.op) (same own x refl)
  at_is s f (Some own) None same = refl
  at_is s f None (Some x) same = refl
  at_is s f None None same = refl

  frame_is : (s : Frame) (f : tagged.Frame) (this : Option ℕ) → FrameStands s f → IsPlaced image T m.shared.heap this f → words.blocked_at image w t s (method_at image s.method.0) (fetch image s.method.0 s.at) ≡ machine.blocked_at image m t f (method_at image f.method.0) (fetch image f.method.0 f.at)
  frame_is s f this frame there =
      ap (λ (k : MethodId). words.blocked_at image w t s (method_at image k.0) (fetch image k.0 s.at)) frame.method ∙
      ap (λ (a : ℕ). words.blocked_at image w t s (method_at image f.method.0) (fetch image f.method.0 a)) frame.at ∙
      at_is s f (method_at image f.method.0) (fetch image f.method.0 f.at) by_op
    where
      by_op : (caller : Method) (x : At) → fetch image f.method.0 f.at ≡ Some x → words.blocked_op image w t caller s x.op ≡ machine.blocked_op image m t caller f x.op
      by_op caller x found =
          let e = accepted.typed.each f.method.0 f.at there.state there.has_state in
          let same : ◌≡◌ {A = Option At} (Some e.1) (Some x) = sym e.3 ∙ found in
          let op : e.1 ≡ x = cc in
          subst (λ (y : At). words.blocked_op image w t caller s y.op ≡ machine.blocked_op image m t caller f y.op) op
          (op_is image w m stands t _ e.0.method caller s f there.state there.conform.good.regs frame.regs e.1.op e.4.ok)

  record_is : (ss : List Level) (ls : List tagged_level.Level) (c d : ClassId) (r q : Bool) → c ≡ d → r ≡ q → words.blocked_levels image w t (level.Init c r ∷ ss) ≡ machine.blocked_levels image m t (tagged_level.Init d q ∷ ls)
  record_is ss ls c d r q class ready =
      ap (λ (x : ClassId). words.blocked_levels image w t (level.Init x r ∷ ss)) class ∙
      ap (λ (b : Bool). words.blocked_levels image w t (level.Init d b ∷ ss)) ready ∙ by q
    where
      by : (q : Bool) → words.blocked_levels image w t (level.Init d q ∷ ss) ≡ machine.blocked_levels image m t (tagged_level.Init d q ∷ ls)
      by true = refl
      by false = ap (λ (cs : Classes). blocked_record cs t (prior_at image d.0)) classes

  levels_is : (ss : List Level) (ls : List tagged_level.Level) → LevelsStand ss ls → IsPlacedOnTop image T m.shared.heap ls → words.blocked_levels image w t ss ≡ machine.blocked_levels image m t ls
  levels_is [] [] all top = refl
  levels_is [] (l ∷ ls) all top = absurd all
  levels_is (s ∷ ss) [] all top = absurd all
  levels_is (level.Code s ∷ ss) (tagged_level.Code f ∷ ls) all top = frame_is s f (this_above image ls) all.0 (top f ls refl)
  levels_is (level.Init c r ∷ ss) (tagged_level.Init d q ∷ ls) all top = record_is ss ls c d r q all.0.0 all.0.1
  levels_is (level.Code s ∷ ss) (tagged_level.Init d q ∷ ls) all top = absurd all.0
  levels_is (level.Init c r ∷ ss) (tagged_level.Code f ∷ ls) all top = absurd all.0

  pub thread_is : (x : WordThread) (th : Thread) → ThreadStands x th → IsPlacedThread image T m.shared.heap th → words.blocked_thread image w t x ≡ machine.blocked_thread image m t th
  thread_is x th one top = by th.end refl
    where
      by : (e : End) → th.end ≡ e → words.blocked_thread image w t x ≡ machine.blocked_thread image m t th
      by end.Living is = let same = one.end ∙ is in rw (same, is) (levels_is x.levels th.levels one.levels (top is))
      by (end.Flying o) is = let same = one.end ∙ is in rw (same, is) refl
      by end.Returned is = let same = one.end ∙ is in rw (same, is) refl
      by (end.Died o) is = let same = one.end ∙ is in rw (same, is) refl
