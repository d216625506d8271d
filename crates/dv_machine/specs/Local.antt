-- Steps that touch one frame alone.
use Rattle.std.specs.Prelude.{ℕ, zero, suc, Bool, true, false, List, [], ◌∷◌, ℤ, pos, negsuc, Option, Some, None, Ok, Err, if◌then◌else◌}
use Rattle.dv_machine.specs.Value.{Value}
use Rattle.dv_machine.specs.Value as v
use Rattle.dv_machine.specs.Why as why
use Rattle.dv_machine.specs.Pending.{Pending}
use Rattle.dv_machine.specs.Pending as pending
use Rattle.dv_machine.specs.Frame.{Frame}
use Rattle.dv_defs.specs.Parts.{Test, is_equality}
use Rattle.dv_defs.specs.Numbers.{operate32, operate64, unary_at, compare, compare_long, from32}
use Rattle.dv_defs.specs.Op.{Op, Nop, MoveInt, MoveLong, MoveObject, ResultInt, ResultLong, ResultObject, TakeCaught, Const, ConstLong, IntUnary, LongUnary, IntToLong, LongToInt, IntOp, LongOp, LongShift, CompareLong, Goto, IfBoth, IfZero, Switch, Arg, Reg, Lit, Case}
use Rattle.dv_machine.specs.State.{Reads, on_next, reg_at, read_int, kept_int, read_two, read_long, kept_object, why_not_int, gone, put, put_two, put_long}
use Rattle.std.specs.Int.{w32, w64}

-- a constant 0 is Zero
abbrev pub const_value : ℤ → Value
const_value (pos zero) = v.Zero
const_value (pos (suc n)) = v.Num (pos (suc n))
const_value (negsuc n) = v.Num (negsuc n)

-- a pending result of the kind that is moved
abbrev pub pending_int : Pending → Reads Value
pending_int (pending.One v.Zero) = Ok v.Zero
pending_int (pending.One (v.Num n)) = Ok (v.Num n)
pending_int p = Err why.Result

abbrev pub pending_object : Pending → Reads Value
pending_object (pending.One v.Zero) = Ok v.Zero
pending_object (pending.One (v.Ref o)) = Ok (v.Ref o)
pending_object p = Err why.Result

-- both words of a pending long
abbrev pub put_pending_two : Frame → ℕ → ℕ → Pending → Reads Frame
put_pending_two f next a (pending.Two lo hi) = Ok (put_two f next a lo hi)
put_pending_two f next a p = Err why.Result

-- the exception that a handler was entered with
abbrev pub caught_of : Option ℕ → Reads ℕ
caught_of None = Err why.Exception
caught_of (Some o) = Ok o

-- the second operand of an int operation
abbrev pub read_arg : List Value → Arg → Reads ℤ
read_arg regs (Reg r) = read_int (reg_at regs r)
read_arg regs (Lit n) = Ok n

-- what an equality test may read, with whether it is a reference's: zero is either
pub data Word : Type 0 where
  Nil : Word
  Number : (n : ℤ) → Word
  Object : (o : ℕ) → Word

-- an uninitialised object and a half of a long aren't compared
abbrev pub read_word : Value → Reads Word
read_word v.Zero = Ok Nil
read_word (v.Num n) = Ok (Number n)
read_word (v.Ref o) = Ok (Object o)
read_word x = Err (why_not_int x)

-- 0 is the int and null; a number and a reference aren't compared
abbrev pub compare_words : Test → Word → Word → Reads Bool
compare_words t Nil Nil = Ok (compare t (pos 0) (pos 0))
compare_words t Nil (Number n) = Ok (compare t (pos 0) n)
compare_words t Nil (Object o) = Ok (compare t (pos 0) (pos o))
compare_words t (Number n) Nil = Ok (compare t n (pos 0))
compare_words t (Number n) (Number m) = Ok (compare t n m)
compare_words t (Number n) (Object o) = Err why.Reference
compare_words t (Object o) Nil = Ok (compare t (pos o) (pos 0))
compare_words t (Object o) (Number m) = Err why.Reference
compare_words t (Object o) (Object p) = Ok (compare t (pos o) (pos p))

-- equality compares numbers or references, the other tests numbers alone
abbrev pub test_both : Test → Value → Value → Reads Bool
test_both t x y =
    if is_equality t then on_next (read_word x) (λ a. on_next (read_word y) (λ b. compare_words t a b))
    else on_next (read_int x) (λ a. on_next (read_int y) (λ b. Ok (compare t a b)))

-- against 0, or null
abbrev pub test_zero : Test → Value → Reads Bool
test_zero t x = test_both t x v.Zero

-- a branch is taken or not
abbrev pub branched : Frame → ℕ → ℕ → Bool → Frame
branched f next to true = gone f to f.regs
branched f next to false = gone f next f.regs

-- where a switch leads: on, where no key matches
abbrev pub case_of : List Case → ℤ → ℕ → ℕ
case_of [] n next = next
case_of (c ∷ cs) n next = elim (compare Test.Eq c.key n) [ true ↦ c.to | false ↦ case_of cs n next ]

-- an instruction that needs the frame alone; the others are no business of this one
abbrev pub local : Op → Frame → ℕ → Reads Frame
local Nop f next = Ok (gone f next f.regs)
local (MoveInt a b) f next = on_next (kept_int (reg_at f.regs b)) (λ x. Ok (put f next a x))
local (MoveLong a b) f next = on_next (read_two f.regs b) (λ p. Ok (put_two f next a p.lo p.hi))
local (MoveObject a b) f next = on_next (kept_object (reg_at f.regs b)) (λ x. Ok (put f next a x))
local (ResultInt a) f next = on_next (pending_int f.result) (λ x. Ok (put f next a x))
local (ResultLong a) f next = put_pending_two f next a f.result
local (ResultObject a) f next = on_next (pending_object f.result) (λ x. Ok (put f next a x))
local (TakeCaught a) f next = on_next (caught_of f.caught) (λ o. Ok (put f next a (v.Ref o)))
local (Const a n) f next = Ok (put f next a (const_value n))
local (ConstLong a n) f next = Ok (put_long f next a n)
local (IntUnary o a b) f next = on_next (read_int (reg_at f.regs b)) (λ x. Ok (put f next a (v.Num (unary_at w32 o x))))
local (LongUnary o a b) f next = on_next (read_long f.regs b) (λ x. Ok (put_long f next a (unary_at w64 o x)))
local (IntToLong a b) f next = on_next (read_int (reg_at f.regs b)) (λ x. Ok (put_long f next a x))
local (LongToInt a b) f next = on_next (read_two f.regs b) (λ p. Ok (put f next a (v.Num (from32 p.lo))))
local (IntOp o a b c) f next =
    on_next (read_int (reg_at f.regs b))
    (λ x. on_next (read_arg f.regs c) (λ y. Ok (put f next a (v.Num (operate32 o x y)))))
local (LongOp o a b c) f next =
    on_next (read_long f.regs b) (λ x. on_next (read_long f.regs c) (λ y. Ok (put_long f next a (operate64 o x y))))
local (LongShift o a b c) f next =
    on_next (read_long f.regs b)
    (λ x. on_next (read_int (reg_at f.regs c)) (λ y. Ok (put_long f next a (operate64 o x y))))
local (CompareLong a b c) f next =
    on_next (read_long f.regs b)
    (λ x. on_next (read_long f.regs c) (λ y. Ok (put f next a (v.Num (compare_long x y)))))
local (Goto to) f next = Ok (gone f to f.regs)
local (IfBoth t a b to) f next = on_next (test_both t (reg_at f.regs a) (reg_at f.regs b)) (λ c. Ok (branched f next to c))
local (IfZero t a to) f next = on_next (test_zero t (reg_at f.regs a)) (λ c. Ok (branched f next to c))
local (Switch a cases) f next = on_next (read_int (reg_at f.regs a)) (λ n. Ok (gone f (case_of cases n next) f.regs))
local op f next = Err why.Instruction
