-- A step of a thread on words goes where the tagged machine's goes, wherever that isn't stuck.
use Rattle.std.specs.Prelude.{◌≡◌, ◌<◌, ◌^◌, ◌∷◌, ◌+◌, ℕ, zero, suc, true, false, List, Option, Some, None, Ok, All, length, slice_get, slice_set}
use Rattle.std.specs.List.{AllZip}
use Rattle.dv_defs.specs.declared.machine.End.TheVariants as end
use Rattle.dv_machine.specs.Frame.{Frame}
use Rattle.dv_machine.specs.Level.{Level}
use Rattle.dv_machine.specs.Level as level
use Rattle.dv_defs.specs.declared.run.Limits.{Limits}
use Rattle.dv_machine.specs.Value.{Value}
use Rattle.dv_machine.specs.Value as v
use Rattle.dv_machine.specs.Heap.{Heap, cells_at, kind_of}
use Rattle.dv_defs.specs.Images.{Image}
use Rattle.dv_defs.specs.Op.{Code, Op, Invoke, code_at}
use Rattle.dv_defs.specs.Pools.{Field, Method, field_at, is_interface, is_static_field, method_at}
use Rattle.dv_typing.specs.Statics as statics
use Rattle.dv_typing.specs.Statics.{arg_words, fetch}
use Rattle.dv_machine.specs.Accepted.{FindsRightly, HasBodies}
use Rattle.dv_machine.specs.Calls.{chars_type}
use Rattle.dv_machine.specs.State.{fits_kind, passes}
use Rattle.dv_machine.specs.State.{Did, Go, Here, IsStuck, Left, Machine, NoOutput, NoRoom, NoWords, Thread, Throws, ThrowsRef}
use Rattle.dv_machine.specs.Opening.{field_cells, opening, string_of}
use Rattle.dv_machine.specs.Step as machine
use Rattle.dv_words.specs.declared.state.Frame as words_frame
use Rattle.dv_words.specs.declared.state.Level as words_level
use Rattle.dv_words.specs.declared.state.Level.TheVariants as level_of_words
use Rattle.dv_words.specs.Standing.{AreWhole, FrameFits, FrameStands, HeapFits, LevelsStand, MachineStands, SharedStands, ThreadStands}
use Rattle.dv_words.specs.State.{WordMachine, WordThread}
use Rattle.law_words.specs.Laws.{IsBounded, IsNoString, IsPlain, IsUnit, OperandsFit, PutsInMade}
use Rattle.dv_words.specs.Opening as words_opening
use Rattle.dv_words.specs.Step.{act, step}
use Rattle.dv_words.specs.Stepping.{KeysRise, locals_here}
use Rattle.dv_words.specs.Steps as words

-- ---- what the image gives

-- look-ups find what they say, natives have their own prototypes, and strings have no field that has a place in an object
pub record ImageFits (image : Image) : Type 0 where
  pub finds : FindsRightly image
  pub bodies : HasBodies image
  pub no_strings :
      (n : ℕ) (x : Field) → field_at image n ≡ Some x → is_static_field x ≡ false → is_interface image x.info.class.0 ≡ false →
      IsNoString image x

-- an invoke is of a method of the image, and names as many registers as that has argument words
abbrev pub CallFits : Image → Op → Type 0
CallFits image (Invoke c ks g) = (length ks ≡ arg_words g) × (method_at image g.id ≡ Some g)
CallFits image op = Unit {0}

-- what stands at an address has operands that fit
abbrev pub OperationsFit : Image → Type 0
OperationsFit image = (n at : ℕ) (x : statics.At) → fetch image n at ≡ Some x → OperandsFit image x.op × CallFits image x.op

-- each switch's keys rise
abbrev pub AllKeysRise : Image → Type 0
AllKeysRise image = (n at : ℕ) (x : statics.At) → fetch image n at ≡ Some x → KeysRise x.op

-- ---- a step at an instruction

-- a value that is a number
abbrev pub IsNumber : Value → Type 0
IsNumber v.Zero = Unit {0}
IsNumber (v.Num n) = Unit {0}
IsNumber x = ⊥

-- what is an array of chars is no string, and its cells are numbers
abbrev pub CharsAreNumbers : Image → Heap → Type 0
CharsAreNumbers image heap =
    (o : ℕ) → passes (fits_kind image chars_type) (kind_of heap (suc o)) ≡ true →
    IsPlain (kind_of heap (suc o)) × All IsNumber (cells_at heap (suc o))

-- the words stand for what the instruction at hand sees
pub record AtStands (w : words.At) (h : Here) : Type 0 where
  pub image : w.image ≡ h.image
  pub limits : w.limits ≡ h.limits
  pub thread : w.thread ≡ h.thread
  pub own : w.own ≡ h.own
  pub next : w.next ≡ h.next
  pub threads : AllZip ThreadStands w.threads h.threads
  pub shared : SharedStands w.shared h.shared
  pub frame : FrameStands w.frame h.frame
  pub rest : LevelsStand w.rest h.rest
  pub bounded : IsBounded h.shared.heap
  pub chars : CharsAreNumbers h.image h.shared.heap
  pub frame_fits : FrameFits w.frame
  pub heap_fits : HeapFits w.shared.heap

abbrev pub StartedStands : Option WordThread → Option Thread → Type 0
StartedStands None None = Unit {0}
StartedStands (Some w) (Some t) = ThreadStands w t
StartedStands w t = ⊥

pub record LeavesStand (w : words.Left) (l : Left) : Type 0 where
  pub levels : LevelsStand w.levels l.levels
  pub shared : SharedStands w.shared l.shared
  pub started : StartedStands w.started l.started
  pub bounded : IsBounded l.shared.heap

-- a step does what the tagged one does; where that is stuck it may do anything
abbrev pub OutcomeStands : Did words.Left → Did Left → Type 0
OutcomeStands d (IsStuck why) = Unit {0}
OutcomeStands (Go w) (Go l) = LeavesStand w l
OutcomeStands (Throws n) (Throws m) = n ≡ m
OutcomeStands (ThrowsRef o) (ThrowsRef p) = o ≡ p
OutcomeStands NoWords NoWords = Unit {0}
OutcomeStands NoRoom NoRoom = Unit {0}
OutcomeStands NoOutput NoOutput = Unit {0}
OutcomeStands d e = ⊥

-- of every operation
abbrev pub ActsFollow : Type 0
ActsFollow =
    (op : Op) (w : words.At) (h : Here) → ImageFits h.image → OperandsFit h.image op → PutsInMade h.shared.heap h.frame.regs op → CallFits h.image op → AtStands w h → OutcomeStands (act w op) (machine.act h op)

-- ---- a step of a thread

-- where a thread is about to put a field of an object that isn't initialised, a constructor makes that object
abbrev pub PutsAreMade : Image → Machine → Type 0
PutsAreMade image m =
    (t : ℕ) (th : Thread) (f : Frame) (ls : List Level) (x : statics.At) → slice_get m.threads t ≡ Some th → th.end ≡ end.Living →
    th.levels ≡ level.Code f ∷ ls → fetch image f.method.0 f.at ≡ Some x → PutsInMade m.shared.heap f.regs x.op

-- what a step takes of the tagged machine's state; all of it holds in well-typed states whose heap is bounded
pub record IsFit (image : Image) (m : Machine) : Type 0 where
  pub bounded : IsBounded m.shared.heap
  pub chars : CharsAreNumbers image m.shared.heap
  pub made : PutsAreMade image m

-- the words of the frame on top, where that is code, have 32 bits
abbrev pub TopFits : List words_level.Level → Type 0
TopFits (level_of_words.Code s ∷ ls) = FrameFits s
TopFits ls = Unit {0}

-- the words that a step of this thread reads: those of its frame on top, and those of the heap
pub record ReadsFit (w : WordMachine) (t : ℕ) : Type 0 where
  pub top : (th : WordThread) → slice_get w.threads t ≡ Some th → TopFits th.levels
  pub heap : HeapFits w.shared.heap

-- from words that stand for a state, the step on words leads to words that stand for the state after the tagged step
abbrev pub StepsFollow : Type 0
StepsFollow =
    (image : Image) (w : WordMachine) (m n : Machine) (t : ℕ) → ImageFits image → OperationsFit image → ReadsFit w t → IsFit image m →
    MachineStands w m → machine.step image m t ≡ Ok n → MachineStands (step image w t) n × IsBounded n.shared.heap

-- ---- what the units and pools spell

-- strings in pools have UTF-16 units
abbrev pub StringsFit : Image → Type 0
StringsFit image =
    (n : ℕ) (code : Code) (k : ℕ) (s : List ℕ) → code_at image n ≡ Some code → slice_get code.body.strings k ≡ Some s → All IsUnit s

-- so what stands at an address has operands that fit
abbrev pub FetchedOperandsFit : Type 0
FetchedOperandsFit = (image : Image) → ImageFits image → StringsFit image → OperationsFit image

-- ---- the opening

-- numbers with which static fields are declared have 32 bits, or are a long's
abbrev pub StaticsAreWhole : Image → Type 0
StaticsAreWhole image = All AreWhole (field_cells image image.fields 0)

-- strings with which they are declared are short, and have UTF-16 units
abbrev pub InitsAreTexts : Image → Type 0
InitsAreTexts image =
    (k : ℕ) (x : Field) (s : List ℕ) → field_at image k ≡ Some x → string_of x.def.init ≡ Some s → (length s < 2 ^ 31) × All IsUnit s

-- the words in which a run begins stand for the tagged machine's opening state
abbrev pub OpeningStands : Type 0
OpeningStands =
    (image : Image) (m : Method) (l : Limits) → StaticsAreWhole image → InitsAreTexts image → l.heap < 2 ^ 31 →
    MachineStands (words_opening.opening image m l) (opening image m l) × IsBounded (opening image m l).shared.heap

-- ---- slices

-- so many steps of a thread
abbrev pub steps_of : Image → ℕ → WordMachine → ℕ → WordMachine
steps_of image zero w t = w
steps_of image (suc n) w t = step image (steps_of image n w t) t

-- a living thread has another frame on top, after so many steps
abbrev pub with_top : WordMachine → ℕ → WordThread → words_frame.Frame → List words_level.Level → ℕ → WordMachine
with_top w t th s ls n =
    record w {
      threads = slice_set w.threads t (record { levels = level_of_words.Code s ∷ ls; end = end.Living; object = th.object });
      steps = w.steps + n;
    }

-- so many local instructions of a frame are as many steps of its thread
abbrev pub LocalsAreSteps : Type 0
LocalsAreSteps =
    (image : Image) (w : WordMachine) (t n : ℕ) (th : WordThread) (s u : words_frame.Frame) (ls : List words_level.Level) →
    slice_get w.threads t ≡ Some th → th.end ≡ end.Living → th.levels ≡ level_of_words.Code s ∷ ls → locals_here image n s ≡ Some u →
    steps_of image n w t ≡ with_top w t th u ls n
