-- What local instructions make of words: as the tagged machine's, with no read that can fail.
use Rattle.std.specs.Prelude.{ℕ, suc, Bool, true, false, ℤ, pos, Option, Some, None}
use Rattle.std.specs.Int.{w32, w64}
use Rattle.dv_defs.specs.Numbers.{operate32, operate64, unary_at, compare, compare_long, lo_of, hi_of, long_of, from32}
use Rattle.dv_defs.specs.Op.{Op, Nop, MoveInt, MoveLong, MoveObject, ResultInt, ResultLong, ResultObject, TakeCaught, Const, ConstLong, IntUnary, LongUnary, IntToLong, LongToInt, IntOp, LongOp, LongShift, CompareLong, Goto, IfBoth, IfZero, Switch, Arg, Reg, Lit}
use Rattle.dv_machine.specs.Local.{case_of}
use Rattle.dv_words.specs.declared.state.Frame.{Frame}
use Rattle.dv_words.specs.Stacks.{gone, high_word, low_word, with_word}
use Rattle.dv_words.specs.Words.{int_of, word_at, word_of}

-- ---- what registers hold

abbrev pub reg_word : Frame → ℕ → ℕ
reg_word s k = word_at s.regs k

abbrev pub int_at : Frame → ℕ → ℤ
int_at s k = int_of (reg_word s k)

-- a long stands in a register and the next one
abbrev pub long_at : Frame → ℕ → ℤ
long_at s k = long_of (reg_word s k) (reg_word s (suc k))

abbrev pub arg_at : Frame → Arg → ℤ
arg_at s (Reg r) = int_at s r
arg_at s (Lit n) = n

-- the object that was caught, 0 where there is none
abbrev pub caught_word : Option ℕ → ℕ
caught_word None = 0
caught_word (Some o) = o

-- ---- writes, after which the frame goes on at an address

abbrev pub put : Frame → ℕ → ℕ → ℕ → Frame
put s to a w = gone (with_word s a w) to

abbrev pub put_two : Frame → ℕ → ℕ → ℕ → ℕ → Frame
put_two s to a low high = gone (with_word (with_word s a low) (suc a) high) to

abbrev pub put_int : Frame → ℕ → ℕ → ℤ → Frame
put_int s to a n = put s to a (word_of n)

abbrev pub put_long : Frame → ℕ → ℕ → ℤ → Frame
put_long s to a n = put_two s to a (lo_of n) (hi_of n)

abbrev pub branched : Frame → ℕ → ℕ → Bool → Frame
branched s next to true = gone s to
branched s next to false = gone s next

-- ---- an instruction that needs the frame alone; the others are no business of this one

abbrev pub word_local : Op → Frame → ℕ → Frame
word_local Nop s next = gone s next
word_local (MoveInt a b) s next = put s next a (reg_word s b)
word_local (MoveLong a b) s next = put_two s next a (reg_word s b) (reg_word s (suc b))
word_local (MoveObject a b) s next = put s next a (reg_word s b)
word_local (ResultInt a) s next = put s next a (low_word s.result)
word_local (ResultLong a) s next = put_two s next a (low_word s.result) (high_word s.result)
word_local (ResultObject a) s next = put s next a (low_word s.result)
word_local (TakeCaught a) s next = put s next a (caught_word s.caught)
word_local (Const a n) s next = put_int s next a n
word_local (ConstLong a n) s next = put_long s next a n
word_local (IntUnary o a b) s next = put_int s next a (unary_at w32 o (int_at s b))
word_local (LongUnary o a b) s next = put_long s next a (unary_at w64 o (long_at s b))
word_local (IntToLong a b) s next = put_long s next a (int_at s b)
word_local (LongToInt a b) s next = put_int s next a (from32 (reg_word s b))
word_local (IntOp o a b c) s next = put_int s next a (operate32 o (int_at s b) (arg_at s c))
word_local (LongOp o a b c) s next = put_long s next a (operate64 o (long_at s b) (long_at s c))
word_local (LongShift o a b c) s next = put_long s next a (operate64 o (long_at s b) (int_at s c))
word_local (CompareLong a b c) s next = put_int s next a (compare_long (long_at s b) (long_at s c))
word_local (Goto to) s next = gone s to
word_local (IfBoth t a b to) s next = branched s next to (compare t (int_at s a) (int_at s b))
word_local (IfZero t a to) s next = branched s next to (compare t (int_at s a) (pos 0))
word_local (Switch a cases) s next = gone s (case_of cases (int_at s a) next)
word_local op s next = s
