-- The frame on top of a living thread is placed, and its caller stands at the invoke.
use Rattle.std.proofs.Common.{◌≡◌, ◌≢◌, ℕ, List, [], ◌∷◌, Option, Some, None, sym, ap, ◌∙◌, subst}
use Rattle.std.specs.Prelude.{slice_get}
use Rattle.dv_defs.specs.declared.machine.End.{End}
use Rattle.dv_defs.specs.declared.machine.End.TheVariants as end
use Rattle.dv_machine.specs.Frame as tagged
use Rattle.dv_machine.specs.Level as tagged_level
use Rattle.dv_defs.specs.declared.names.MethodId.{MethodId}
use Rattle.dv_machine.specs.Heap.{Heap}
use Rattle.dv_defs.specs.Images.{Image}
use Rattle.dv_defs.specs.Pools.{Method, method_at}
use Rattle.dv_typing.specs.Statics.{fetch}
use Rattle.dv_machine.specs.Accepted.{Accepted}
use Rattle.dv_machine.specs.State.{Machine}
use Rattle.dv_machine.specs.WellTyped.{BelowCode, IsPlaced, ThreadFine, Typings, WellTyped, this_above}
use Rattle.dv_words.specs.declared.state.Frame.{Frame}
use Rattle.dv_words.specs.declared.state.Level.{Level}
use Rattle.dv_words.specs.declared.state.Level.TheVariants as level
use Rattle.dv_words.specs.Standing.{FrameStands, LevelsStand, MachineStands}
use Rattle.dv_words.specs.State.{WordMachine, WordThread}
use Rattle.dv_call.specs.Returns.{TopStands}
use Rattle.dv_core.specs.Machines.{Stands}
use Rattle.dv_core.proofs.Stands.{matched, top_of}

some_is : {A : Type 0} (a : Option A) (x : A) → a ≡ Some x → a ≢ None
some_is a x is none = absurd (cc)

-- the words' frame is at the same instruction
pub same_fetch : (image : Image) (s : Frame) (f : tagged.Frame) → FrameStands s f → fetch image s.method.0 s.at ≡ fetch image f.method.0 f.at
same_fetch image s f stands =
    ap (λ (k : MethodId). fetch image k.0 s.at) stands.method ∙ ap (λ (a : ℕ). fetch image f.method.0 a) stands.at

pub same_method : (image : Image) (s : Frame) (f : tagged.Frame) → FrameStands s f → method_at image s.method.0 ≡ method_at image f.method.0
same_method image s f stands = ap (λ (k : MethodId). method_at image k.0) stands.method

-- where the typing has a state there is an instruction
pub placed_stands : (image : Image) (T : Typings) (heap : Heap) (this : Option ℕ) (s : Frame) (f : tagged.Frame) → Accepted image T → IsPlaced image T heap this f → FrameStands s f → Stands image s
placed_stands image T heap this s f acc placed stands =
    let e = acc.typed.each f.method.0 f.at placed.state placed.has_state in
    record {
      method = some_is (method_at image s.method.0) placed.method (same_method image s f stands ∙ placed.has_method);
      at = some_is (fetch image s.method.0 s.at) e.1 (same_fetch image s f stands ∙ e.3);
    }

-- what stands below a frame of a living thread called it, or is a record
pub caller_stands : (image : Image) (m : Method) (ss : List Level) (ls : List tagged_level.Level) → LevelsStand ss ls → BelowCode image m ls → TopStands image ss
caller_stands image m [] ls all below = tt
caller_stands image m (level.Init c r ∷ ss) ls all below = tt
caller_stands image m (level.Code s ∷ ss) [] all below = absurd all
caller_stands image m (level.Code s ∷ ss) (tagged_level.Init d q ∷ ls) all below = absurd all.0
caller_stands image m (level.Code s ∷ ss) (tagged_level.Code g ∷ ls) all below = (below.0.at, same_fetch image s g all.0 ∙ below.0.has_at)

-- ---- the frame on top of a living thread

-- it is placed, and what stands below called its method
record IsInOrder (image : Image) (T : Typings) (heap : Heap) (f : tagged.Frame) (ls : List tagged_level.Level) : Type 0 where
  placed : IsPlaced image T heap (this_above image ls) f
  method : Method
  below : BelowCode image method ls

in_order : (image : Image) (T : Typings) (heap : Heap) (t : ℕ) (f : tagged.Frame) (ls ks : List tagged_level.Level) (e : End) → ThreadFine image T heap t ls e → e ≡ end.Living → ls ≡ tagged_level.Code f ∷ ks → IsInOrder image T heap f ks
in_order image T heap t f ls ks e fine living top =
    let one = subst (λ (z : End). ThreadFine image T heap t ls z) living fine in
    let two = subst (λ (z : List tagged_level.Level). ThreadFine image T heap t z end.Living) top one in
    record { placed = two.1.1; method = two.1.0.frame.code.method; below = two.1.0.below }

pub record IsMet (image : Image) (T : Typings) (m : Machine) (f : Frame) (rest : List Level) : Type 0 where
  pub frame : tagged.Frame
  pub below : List tagged_level.Level
  pub stands : FrameStands f frame
  pub rest_stands : LevelsStand rest below
  pub placed : IsPlaced image T m.shared.heap (this_above image below) frame
  pub method : Method
  pub called : BelowCode image method below

pub met_top : (image : Image) (T : Typings) (w : WordMachine) (m : Machine) (t : ℕ) (own : WordThread) (f : Frame) (rest : List Level) → WellTyped image T m → MachineStands w m → slice_get w.threads t ≡ Some own → own.end ≡ end.Living → own.levels ≡ level.Code f ∷ rest → IsMet image T m f rest
met_top image T w m t own f rest typed stands there living levels =
    let th = matched w.threads m.threads t own stands.threads there in
    let top = top_of f rest th.thread.levels (subst (λ (ls : List Level). LevelsStand ls th.thread.levels) levels th.stands.levels) in
    let fine = in_order image T m.shared.heap t top.frame th.thread.levels top.below th.thread.end (typed.each t th.thread th.there) (sym th.stands.end ∙ living) top.levels in
    record { frame = top.frame; below = top.below; stands = top.stands; rest_stands = top.rest_stands; placed = fine.placed; method = fine.method; called = fine.below }
