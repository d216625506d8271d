-- Steps at the address of a frame, as calls do them.
use Rattle.std.specs.Prelude.{◌≡◌, ◌≤◌, ◌<◌, ◌<ℤ◌, ℕ, zero, suc, Bool, true, false, List, Option, Some, None, Result, Ok, Err, slice_get}
use Rattle.dv_defs.specs.declared.run.Next.{Next}
use Rattle.dv_defs.specs.declared.run.Next.TheVariants as next
use Rattle.dv_defs.specs.Images.{Image}
use Rattle.dv_defs.specs.Op.{Case, Op, Switch, is_local}
use Rattle.dv_typing.specs.Statics.{At, fetch}
use Rattle.dv_machine.specs.State.{Did, Go, NoWords, Throws, ThrowsRef}
use Rattle.dv_words.specs.declared.state.Frame.{Frame}
use Rattle.dv_words.specs.State.{WordHeap, WordStack}
use Rattle.dv_words.specs.Stacks.{changed}
use Rattle.dv_words.specs.Local.{word_local}
use Rattle.dv_words.specs.Mem.{WordLeft}

-- ---- local instructions

-- each case's key is below those of the cases behind it
abbrev pub AreRising : List Case → Type 0
AreRising cases = (j k : ℕ) (c d : Case) → j < k → slice_get cases j ≡ Some c → slice_get cases k ≡ Some d → c.key <ℤ d.key

-- a switch's keys rise
abbrev pub KeysRise : Op → Type 0
KeysRise (Switch a cases) = AreRising cases
KeysRise op = Unit {0}

abbrev pub local_by : Option At → Frame → Option Frame
local_by None s = None
local_by (Some x) s = elim (is_local x.op) [ true ↦ Some (word_local x.op s x.next) | false ↦ None ]

-- the local instruction at a frame's address, done; none where none stands there
abbrev pub local_here : Image → Frame → Option Frame
local_here image s = local_by (fetch image s.method.0 s.at) s

abbrev pub on_frame : Option Frame → (Frame → Option Frame) → Option Frame
on_frame None go = None
on_frame (Some s) go = go s

-- so many of them, one after another
abbrev pub locals_here : Image → ℕ → Frame → Option Frame
locals_here image zero s = Some s
locals_here image (suc n) s = on_frame (locals_here image n s) (local_here image)

-- the keys of the switches among so many rise
abbrev pub KeysRiseAmong : Image → ℕ → Frame → Type 0
KeysRiseAmong image n s =
    (k : ℕ) (v : Frame) (x : At) → k < n → locals_here image k s ≡ Some v → fetch image v.method.0 v.at ≡ Some x → KeysRise x.op

-- a step of what stands at the frame's address: a local instruction is done, a switch where its keys rise; any other changes nothing
pub record StepsLocally (image : Image) (done : Bool) (s t : Frame) : Type 0 where
  pub local : (x : At) → fetch image s.method.0 s.at ≡ Some x → is_local x.op ≡ done
  pub goes : (x : At) → fetch image s.method.0 s.at ≡ Some x → is_local x.op ≡ true → KeysRise x.op → t ≡ word_local x.op s x.next
  pub stays : done ≡ false → t ≡ s

-- so many local instructions were done, each where it stands, and no more than may be; fewer only where none stands then. Where they
-- stand is known as far as the keys of the switches before rise
pub record RanLocally (image : Image) (most done : ℕ) (s t : Frame) : Type 0 where
  pub few : done ≤ most
  pub local :
      (k : ℕ) (u : Frame) (x : At) → k < done → KeysRiseAmong image k s → locals_here image k s ≡ Some u →
      fetch image u.method.0 u.at ≡ Some x → is_local x.op ≡ true
  pub reached : KeysRiseAmong image done s → (u : Frame) → locals_here image done s ≡ Some u → t ≡ u
  pub whole : done < most → (x : At) → fetch image t.method.0 t.at ≡ Some x → is_local x.op ≡ false

-- ---- instructions that touch more than the frame

-- what a step leaves of the stack and the heap, by its answer
abbrev pub Answered : {E : Type 0} → Result Next E → Did WordLeft → WordStack → WordHeap → WordStack → WordHeap → Type 0
Answered (Ok next.On) (Go t) s h s' h' = (s' ≡ changed (λ f. t.frame) s) × (h' ≡ t.heap)
Answered (Ok (next.Throw n)) (Throws m) s h s' h' = (n ≡ m) × (s' ≡ s) × (h' ≡ h)
Answered (Ok (next.ThrowRef o)) (ThrowsRef p) s h s' h' = (o ≡ p) × (s' ≡ s) × (h' ≡ h)
Answered (Ok next.NoWords) NoWords s h s' h' = (s' ≡ s) × (h' ≡ h)
Answered (Err memory) d s h s' h' = (s' ≡ s) × (h' ≡ h)
Answered answer d s h s' h' = ⊥
