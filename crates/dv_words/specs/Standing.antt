-- The tagged values, frames and heaps that words stand for, by cases.
use Rattle.std.specs.Prelude.{◌≡◌, ◌<◌, ◌^◌, ℕ, List, [], ◌∷◌, ℤ, pos, negsuc, Option, Some, None, All, map}
use Rattle.std.specs.List.{AllZip}
use Rattle.dv_machine.specs.Value.{Value}
use Rattle.dv_machine.specs.Value as v
use Rattle.dv_machine.specs.Frame as tagged
use Rattle.dv_machine.specs.Kind as tagged_kind
use Rattle.dv_machine.specs.Level as tagged_level
use Rattle.dv_machine.specs.Pending.{Pending}
use Rattle.dv_machine.specs.Pending as pending
use Rattle.dv_machine.specs.Heap.{Heap}
use Rattle.dv_machine.specs.State.{Machine, Shared, Thread}
use Rattle.dv_words.specs.declared.state.Frame.{Frame}
use Rattle.dv_words.specs.declared.state.Kept.{Kept}
use Rattle.dv_words.specs.declared.state.Kept.TheVariants as kept
use Rattle.dv_words.specs.declared.state.Level.{Level}
use Rattle.dv_words.specs.declared.state.Level.TheVariants as level
use Rattle.dv_words.specs.Erasure.{erased_kind}
use Rattle.dv_words.specs.State.{WordHeap, WordMachine, WordShared, WordThread}
use Rattle.dv_words.specs.Words.{int_of}

-- what was never written is 0, and so are null and the int 0; an int is the word read as a signed number; a half of a long and the number of
-- an object are the word itself
abbrev pub IsWord : ℕ → Value → Type 0
IsWord w v.Undef = w ≡ 0
IsWord w v.Zero = w ≡ 0
IsWord w (v.Num n) = int_of w ≡ n
IsWord w (v.Lo n) = w ≡ n
IsWord w (v.Hi n) = w ≡ n
IsWord w (v.Ref o) = w ≡ o
IsWord w (v.Uninit a o) = w ≡ o
IsWord w (v.UninitThis o) = w ≡ o

abbrev pub AreWords : List ℕ → List Value → Type 0
AreWords ws xs = AllZip IsWord ws xs

-- a result is kept exactly where one is pending
abbrev pub IsResult : Kept → Pending → Type 0
IsResult kept.None pending.None = Unit {0}
IsResult (kept.One w) (pending.One x) = IsWord w x
IsResult (kept.Two low high) (pending.Two lo hi) = (low ≡ lo) × (high ≡ hi)
IsResult k p = ⊥

pub record FrameStands (s : Frame) (f : tagged.Frame) : Type 0 where
  pub method : s.method ≡ f.method
  pub at : s.at ≡ f.at
  pub regs : AreWords s.regs f.regs
  pub result : IsResult s.result f.result
  pub caught : s.caught ≡ f.caught

abbrev pub LevelStands : Level → tagged_level.Level → Type 0
LevelStands (level.Code s) (tagged_level.Code f) = FrameStands s f
LevelStands (level.Init c r) (tagged_level.Init d q) = (c ≡ d) × (r ≡ q)
LevelStands s l = ⊥

abbrev pub LevelsStand : List Level → List tagged_level.Level → Type 0
LevelsStand ss ls = AllZip LevelStands ss ls

-- the words of an object
abbrev pub ObjectStands : List ℕ → tagged_kind.Kind → List Value → Type 0
ObjectStands ws (tagged_kind.Str s) xs = ws ≡ s
ObjectStands ws k xs = AreWords ws xs

abbrev pub ObjectsStand : List (List ℕ) → List tagged_kind.Kind → List (List Value) → Type 0
ObjectsStand [] [] [] = Unit {0}
ObjectsStand (ws ∷ wss) (k ∷ ks) (xs ∷ xss) = ObjectStands ws k xs × ObjectsStand wss ks xss
ObjectsStand wss ks xss = ⊥

pub record HeapStands (w : WordHeap) (h : Heap) : Type 0 where
  pub kinds : w.kinds ≡ map erased_kind h.kinds
  pub cells : ObjectsStand w.cells h.kinds h.cells
  pub statics : AllZip AreWords w.statics h.statics
  pub interned : w.interned ≡ h.interned
  pub class_objects : w.class_objects ≡ h.class_objects
  pub used : w.used ≡ h.used
  pub limit : w.limit ≡ h.limit

pub record ThreadStands (w : WordThread) (t : Thread) : Type 0 where
  pub levels : LevelsStand w.levels t.levels
  pub end : w.end ≡ t.end
  pub object : w.object ≡ t.object

pub record SharedStands (w : WordShared) (s : Shared) : Type 0 where
  pub heap : HeapStands w.heap s.heap
  pub classes : w.classes ≡ s.classes
  pub monitors : w.monitors ≡ s.monitors
  pub output : w.output ≡ s.output

pub record MachineStands (w : WordMachine) (m : Machine) : Type 0 where
  pub threads : AllZip ThreadStands w.threads m.threads
  pub shared : SharedStands w.shared m.shared
  pub steps : w.steps ≡ m.steps
  pub stop : w.stop ≡ m.stop
  pub limits : w.limits ≡ m.limits
  pub preallocated : w.preallocated ≡ m.preallocated

-- ---- 32 bits

abbrev pub FitsInt : ℤ → Type 0
FitsInt (pos n) = n < 2 ^ 31
FitsInt (negsuc n) = n < 2 ^ 31

-- a value whose int has 32 bits
abbrev pub IsWhole : Value → Type 0
IsWhole (v.Num n) = FitsInt n
IsWhole x = Unit {0}

abbrev pub AreWhole : List Value → Type 0
AreWhole xs = All IsWhole xs

abbrev pub IsWholeResult : Pending → Type 0
IsWholeResult (pending.One x) = IsWhole x
IsWholeResult p = Unit {0}

abbrev pub IsWholeFrame : tagged.Frame → Type 0
IsWholeFrame f = AreWhole f.regs × IsWholeResult f.result

abbrev pub IsWholeLevel : tagged_level.Level → Type 0
IsWholeLevel (tagged_level.Code f) = IsWholeFrame f
IsWholeLevel (tagged_level.Init c r) = Unit {0}

abbrev pub IsWholeHeap : Heap → Type 0
IsWholeHeap h = All AreWhole h.cells × All AreWhole h.statics

-- a word has 32 bits
abbrev pub Fits : ℕ → Type 0
Fits w = w < 2 ^ 32

abbrev pub AllFit : List ℕ → Type 0
AllFit ws = All Fits ws

abbrev pub ResultFits : Kept → Type 0
ResultFits (kept.One w) = Fits w
ResultFits k = Unit {0}

abbrev pub FrameFits : Frame → Type 0
FrameFits s = AllFit s.regs × ResultFits s.result

-- the same of both words of a long
abbrev pub KeptFits : Kept → Type 0
KeptFits kept.None = Unit {0}
KeptFits (kept.One w) = Fits w
KeptFits (kept.Two low high) = Fits low × Fits high

-- ... and of the number of an object that is caught
abbrev pub CaughtFits : Option ℕ → Type 0
CaughtFits None = Unit {0}
CaughtFits (Some o) = Fits o

-- all that a frame holds has 32 bits
pub record IsSmall (s : Frame) : Type 0 where
  pub regs : AllFit s.regs
  pub result : KeptFits s.result
  pub caught : CaughtFits s.caught

abbrev pub LevelFits : Level → Type 0
LevelFits (level.Code s) = FrameFits s
LevelFits (level.Init c r) = Unit {0}

abbrev pub IsWholeThread : Thread → Type 0
IsWholeThread t = All IsWholeLevel t.levels

abbrev pub IsWholeMachine : Machine → Type 0
IsWholeMachine m = All IsWholeThread m.threads × IsWholeHeap m.shared.heap

abbrev pub HeapFits : WordHeap → Type 0
HeapFits w = All AllFit w.cells × All AllFit w.statics

abbrev pub ThreadFits : WordThread → Type 0
ThreadFits w = All LevelFits w.levels

abbrev pub MachineFits : WordMachine → Type 0
MachineFits w = All ThreadFits w.threads × HeapFits w.shared.heap
