-- The tagged machine's states, and how a step reads and writes them.
use Rattle.std.specs.Prelude.{ℕ, suc, ◌+◌, ◌++◌, Bool, true, false, ◌&&◌, ◌||◌, List, [], ◌∷◌, length, ℤ, pos, Option, Some, None, Result, Ok, Err, slice_set, slice_index_or, nat_eq, nat_le, if◌then◌else◌}
use Rattle.dv_defs.specs.declared.names.Ty.{Ty}
use Rattle.dv_defs.specs.Images.{Image}
use Rattle.dv_machine.specs.Value.{Value}
use Rattle.dv_machine.specs.Value as v
use Rattle.dv_defs.specs.declared.run.Limits.{Limits}
use Rattle.dv_defs.specs.declared.run.Ending.{Ending}
use Rattle.dv_defs.specs.declared.run.Preallocated.{Preallocated}
use Rattle.dv_defs.specs.declared.run.Named.{Named}
use Rattle.dv_machine.specs.Why.{Why}
use Rattle.dv_machine.specs.Why as why
use Rattle.dv_machine.specs.Pending.{Pending}
use Rattle.dv_machine.specs.Pending as pending
use Rattle.dv_machine.specs.Frame.{Frame}
use Rattle.dv_machine.specs.Level.{Level}
use Rattle.dv_machine.specs.Level as level
use Rattle.dv_machine.specs.Kind.{Kind}
use Rattle.dv_machine.specs.Kind as kind
use Rattle.dv_defs.specs.declared.machine.End.{End}
use Rattle.dv_defs.specs.Names.{object_name}
use Rattle.dv_defs.specs.Types.{of_class, component, is_reference, is_long}
use Rattle.dv_defs.specs.Pools.{Method}
use Rattle.dv_defs.specs.Order.{fits}
use Rattle.dv_defs.specs.Numbers.{lo_of, hi_of, long_of}
use Rattle.dv_machine.specs.Heap.{Heap, kind_of, kind_type}
use Rattle.dv_machine.specs.Monitors.{Monitors}
use Rattle.dv_machine.specs.Classes.{Classes}

-- a guest thread: its levels, the top one first, and how it stands
pub record Thread : Type 0 where
  pub levels : List Level
  pub end : End
  -- its Thread object
  pub object : ℕ

-- what all threads share
pub record Shared : Type 0 where
  pub heap : Heap
  pub classes : Classes
  pub monitors : Monitors
  pub output : List ℕ

-- threads by number, the steps done, what stopped the run where something did, and the exceptions that the opening made
pub record Machine : Type 0 where
  pub threads : List Thread
  pub shared : Shared
  pub steps : ℕ
  pub stop : Option Ending
  pub limits : Limits
  pub preallocated : Preallocated

-- what a step of a thread leaves, with a thread that it started
pub record Left : Type 0 where
  pub levels : List Level
  pub shared : Shared
  pub started : Option Thread

-- what a step does: all but `Go` leave everything as it was
pub data Did (A : Type 0) : Type 0 where
  Go : (left : A) → Did A
  Throws : (named : Named) → Did A
  ThrowsRef : (object : ℕ) → Did A
  NoWords : Did A
  NoRoom : Did A
  NoOutput : Did A
  IsStuck : (why : Why) → Did A

-- what a register gives, else why the step is stuck
abbrev pub Reads : Type 0 → Type 0
Reads A = Result A Why

-- a read after a read
abbrev pub on_next : {A B : Type 0} → Reads A → (A → Reads B) → Reads B
on_next (Ok x) go = go x
on_next (Err y) go = Err y

-- a read inside a step
abbrev pub reading : {A B : Type 0} → Reads A → (A → Did B) → Did B
reading (Ok x) go = go x
reading (Err y) go = IsStuck y

-- where the heap lacks words, the step makes nothing
abbrev pub where_room : {A B : Type 0} → Option A → (A → Did B) → Did B
where_room (Some x) go = go x
where_room None go = NoWords

-- else an exception of this class
abbrev pub where_true : {A : Type 0} → Bool → Named → Did A → Did A
where_true true n go = go
where_true false n go = Throws n

-- ---- registers

-- a register that isn't there is undefined
abbrev pub reg_at : List Value → ℕ → Value
reg_at regs k = slice_index_or regs k v.Undef

-- why a value is no number
abbrev pub why_not_int : Value → Why
why_not_int v.Undef = why.Undefined
why_not_int (v.Lo n) = why.Pair
why_not_int (v.Hi n) = why.Pair
why_not_int (v.Uninit a o) = why.Uninitialised
why_not_int (v.UninitThis o) = why.Uninitialised
why_not_int x = why.Reference

-- a number; 0 is one
abbrev pub read_int : Value → Reads ℤ
read_int v.Zero = Ok (pos 0)
read_int (v.Num n) = Ok n
read_int x = Err (why_not_int x)

-- as it is, tag and all
abbrev pub kept_int : Value → Reads Value
kept_int x = on_next (read_int x) (λ n. Ok x)

-- the low word of a long
abbrev pub read_lo : Value → Reads ℕ
read_lo (v.Lo n) = Ok n
read_lo x = Err why.Pair

-- the high word of a long
abbrev pub read_hi : Value → Reads ℕ
read_hi (v.Hi n) = Ok n
read_hi x = Err why.Pair

-- the two words of a long
pub record Two : Type 0 where
  pub lo : ℕ
  pub hi : ℕ

-- a long stands in a register and the next one
abbrev pub read_two : List Value → ℕ → Reads Two
read_two regs k = on_next (read_lo (reg_at regs k)) (λ lo. on_next (read_hi (reg_at regs (suc k))) (λ hi. Ok (record { lo = lo; hi = hi })))

abbrev pub read_long : List Value → ℕ → Reads ℤ
read_long regs k = on_next (read_two regs k) (λ p. Ok (long_of p.lo p.hi))

-- what move-object moves
abbrev pub kept_object : Value → Reads Value
kept_object v.Zero = Ok v.Zero
kept_object (v.Ref o) = Ok (v.Ref o)
kept_object (v.Uninit a o) = Ok (v.Uninit a o)
kept_object (v.UninitThis o) = Ok (v.UninitThis o)
kept_object x = Err (why_not_int x)

-- an object that passes the test
abbrev pub where_ref : Bool → ℕ → Reads ℕ
where_ref true o = Ok o
where_ref false o = Err why.Reference

abbrev pub passes : (Kind → Bool) → Option Kind → Bool
passes good None = false
passes good (Some k) = good k

-- null, or an object that a test takes; a number that no object has is none
abbrev pub tested : (Kind → Bool) → Heap → ℕ → Bool
tested good heap o = nat_eq o 0 || passes good (kind_of heap o)

-- the object of a reference, 0 for null; anything else is wrong
abbrev pub read_tested : (Kind → Bool) → Heap → Value → Reads ℕ
read_tested good heap v.Zero = Ok 0
read_tested good heap (v.Ref o) = where_ref (tested good heap o) o
read_tested good heap x = Err (why_not_int x)

abbrev pub any_kind : Kind → Bool
any_kind k = true

-- of a reference to anything
abbrev pub read_any : Heap → Value → Reads ℕ
read_any heap x = read_tested any_kind heap x

-- an object of this kind fits a type
abbrev pub fits_kind : Image → Ty → Kind → Bool
fits_kind image t k = fits image (kind_type image k) t

-- the object of a reference to a type, 0 for null
abbrev pub read_ref : Image → Heap → Ty → Value → Reads ℕ
read_ref image heap t x = read_tested (fits_kind image t) heap x

-- an array whose elements the test takes
abbrev pub is_array_kind : (Ty → Bool) → Kind → Bool
is_array_kind good (kind.Array t) = good (component t)
is_array_kind good k = false

-- of a reference to such an array, or null
abbrev pub read_array : (Ty → Bool) → Heap → Value → Reads ℕ
read_array good heap x = read_tested (is_array_kind good) heap x

-- a value of one word, by its type
abbrev pub read_single : Image → Heap → Ty → Value → Reads Value
read_single image heap t x = if is_reference t then on_next (read_ref image heap t x) (λ o. Ok x) else kept_int x

-- the words of a value of a declared type, as they are
abbrev pub read_value : Image → Heap → List Value → ℕ → Ty → Reads (List Value)
read_value image heap regs k t =
    if is_long t then on_next (read_two regs k) (λ p. Ok (v.Lo p.lo ∷ v.Hi p.hi ∷ []))
    else on_next (read_single image heap t (reg_at regs k)) (λ x. Ok (x ∷ []))

-- a long's second register is the next one
abbrev pub are_neighbours : ℕ → ℕ → Reads Bool
are_neighbours k j = if nat_eq j (suc k) then Ok true else Err why.Pair

-- the argument words by the parameters; a long's two registers are neighbours
abbrev pub read_args : Image → Heap → List Value → List Ty → List ℕ → Reads (List Value)
read_args image heap regs [] ks = Ok []
read_args image heap regs (p ∷ ps) [] = Err why.Instruction
read_args image heap regs (p ∷ ps) (k ∷ ks) =
    elim (is_long p) [
      | true ↦ elim ks [
        | [] ↦ Err why.Instruction
        | j ∷ js ↦ on_next (read_value image heap regs k p)
            (λ xs.
            on_next (are_neighbours k j)
            (λ b. on_next (read_args image heap regs ps js) (λ ys. Ok (xs ++ ys))))
      ]
      | false ↦ on_next (read_value image heap regs k p)
          (λ xs. on_next (read_args image heap regs ps ks) (λ ys. Ok (xs ++ ys)))
    ]

-- ---- frames

-- the frame goes on at an address with these registers
abbrev pub gone : Frame → ℕ → List Value → Frame
gone f to regs = record f { at = to; regs = regs; result = pending.None; caught = None }

-- a write changes that register alone
abbrev pub put : Frame → ℕ → ℕ → Value → Frame
put f to a x = gone f to (slice_set f.regs a x)

-- a long is written at once
abbrev pub put_two : Frame → ℕ → ℕ → ℕ → ℕ → Frame
put_two f to a lo hi = gone f to (slice_set (slice_set f.regs a (v.Lo lo)) (suc a) (v.Hi hi))

abbrev pub put_long : Frame → ℕ → ℕ → ℤ → Frame
put_long f to a n = put_two f to a (lo_of n) (hi_of n)

-- the frame goes on with a pending result
abbrev pub with_result : Frame → ℕ → Pending → Frame
with_result f to p = record f { at = to; result = p; caught = None }

-- words as they lie in registers, from one on
abbrev pub put_words : Frame → ℕ → ℕ → List Value → Frame
put_words f to a [] = gone f to f.regs
put_words f to a (x ∷ []) = put f to a x
put_words f to a (x ∷ y ∷ ys) = gone f to (slice_set (slice_set f.regs a x) (suc a) y)

-- ---- what a case of a step sees

-- the thread and its frame at an instruction, with all that the threads share
pub record Here : Type 0 where
  pub image : Image
  pub limits : Limits
  pub threads : List Thread
  pub thread : ℕ
  pub own : Method
  pub shared : Shared
  pub frame : Frame
  pub rest : List Level
  -- the address after the instruction
  pub next : ℕ

-- the levels as they are left
abbrev pub left : Here → Shared → List Level → Did Left
left h sh ls = Go (record { levels = ls; shared = sh; started = None })

-- the frame goes on, with this that all share
abbrev pub onward : Here → Shared → Frame → Did Left
onward h sh f = left h sh (level.Code f ∷ h.rest)

abbrev pub with_heap : Shared → Heap → Shared
with_heap sh heap = record sh { heap = heap }

abbrev pub with_monitors : Shared → Monitors → Shared
with_monitors sh m = record sh { monitors = m }

abbrev pub with_classes : Shared → Classes → Shared
with_classes sh cs = record sh { classes = cs }

abbrev pub with_output : Shared → List ℕ → Shared
with_output sh out = record sh { output = out }

-- a record has no registers
abbrev pub regs_in : Level → ℕ
regs_in (level.Code f) = length f.regs
regs_in (level.Init c r) = 0

-- a stack's register words
abbrev pub words_in : List Level → ℕ
words_in [] = 0
words_in (l ∷ ls) = regs_in l + words_in ls

-- one level more, where the stack has room
abbrev pub pushed : Here → Shared → Level → List Level → Did Left
pushed h sh l ls =
    if nat_le (suc (length ls)) h.limits.levels && nat_le (regs_in l + words_in ls) h.limits.words
    then left h sh (l ∷ ls) else NoRoom

-- a truth as a number that a step computes
abbrev pub truth : Bool → Value
truth true = v.Num (pos 1)
truth false = v.Num (pos 0)

abbrev pub type_of_kind : Image → Option Kind → Ty
type_of_kind image None = of_class object_name
type_of_kind image (Some k) = kind_type image k

-- the type of an object; Object where there is none
abbrev pub type_of : Image → Heap → ℕ → Ty
type_of image heap o = type_of_kind image (kind_of heap o)
