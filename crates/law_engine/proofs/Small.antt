-- A local instruction leaves a frame all of whose words have 32 bits.
use Rattle.std.proofs.Common.{ℕ, zero, suc, List, [], ◌∷◌, Bool, true, false, Option, Some, None, ℤ, arith}
use Rattle.std.specs.Prelude.{slice_set}
use Rattle.std.proofs.lemmas.List.Elements.{All-head, All-set, All-tail}
use Rattle.dv_defs.specs.Op.{Arg, CompareLong, Const, ConstLong, Goto, IfBoth, IfZero, IntOp, IntToLong, IntUnary, Lit, LongOp, LongShift, LongToInt, LongUnary, MoveInt, MoveLong, MoveObject, Nop, Op, Reg, ResultInt, ResultLong, ResultObject, Switch, TakeCaught}
use Rattle.dv_words.specs.declared.state.Frame.{Frame}
use Rattle.dv_words.specs.declared.state.Kept.{Kept}
use Rattle.dv_words.specs.declared.state.Kept.TheVariants as kept
use Rattle.dv_words.specs.Stacks.{gone, high_word, low_word}
use Rattle.dv_words.specs.Standing.{AllFit, CaughtFits, Fits, IsSmall, KeptFits}
use Rattle.dv_words.specs.Words.{word_at, word_of}
use Rattle.law_words.specs.Laws.{ArgFits, ConstantFits}
use Rattle.dv_words.specs.Local.{arg_at, branched, caught_word, int_at, long_at, put, put_int, put_long, put_two, reg_word, word_local}
use Rattle.law_engine.proofs.Bits.{IsInt, IsLong, as_long, comparison, from_is, high_fits, int_is, int_result, int_unary, long_is, long_result, long_unary, low_fits, of_fitting, word_fits}
use Rattle.law_engine.proofs.Constants.{HasLong}

-- ---- what is read

at_fits : (ws : List ℕ) (k : ℕ) → AllFit ws → Fits (word_at ws k)
at_fits [] k f = omega arith
at_fits (w ∷ ws) zero f = All-head Fits w ws f
at_fits (w ∷ ws) (suc k) f = at_fits ws k (All-tail Fits w ws f)

low_is : (k : Kept) → KeptFits k → Fits (low_word k)
low_is kept.None f = omega arith
low_is (kept.One w) f = f
low_is (kept.Two low high) f = f.0

high_is : (k : Kept) → KeptFits k → Fits (high_word k)
high_is kept.None f = omega arith
high_is (kept.One w) f = omega arith
high_is (kept.Two low high) f = f.1

caught_is : (c : Option ℕ) → CaughtFits c → Fits (caught_word c)
caught_is None f = omega arith
caught_is (Some o) f = f

-- ---- what is written

module _ (s : Frame) (small : IsSmall s) where
  on : (to : ℕ) → IsSmall (gone s to)
  on to = record { regs = small.regs; result = tt; caught = tt }

  on_at : (to next : ℕ) (b : Bool) → IsSmall (branched s next to b)
  on_at to next true = on to
  on_at to next false = on next

  one : (to a w : ℕ) → Fits w → IsSmall (put s to a w)
  one to a w f = record { regs = All-set Fits s.regs a w f small.regs; result = tt; caught = tt }

  two : (to a low high : ℕ) → Fits low → Fits high → IsSmall (put_two s to a low high)
  two to a low high l h = record { regs = All-set Fits (slice_set s.regs a low) (suc a) high h (All-set Fits s.regs a low l small.regs); result = tt; caught = tt }

  int : (to a : ℕ) (n : ℤ) → IsInt n → IsSmall (put_int s to a n)
  int to a n f = one to a (word_of n) (word_fits n f)

  long : (to a : ℕ) (n : ℤ) → IsLong n → IsSmall (put_long s to a n)
  long to a n f = two to a _ _ (low_fits n) (high_fits n f)

  reg : (k : ℕ) → Fits (reg_word s k)
  reg k = at_fits s.regs k small.regs

  int_there : (k : ℕ) → IsInt (int_at s k)
  int_there k = int_is (reg_word s k) (reg k)

  long_there : (k : ℕ) → IsLong (long_at s k)
  long_there k = long_is (reg_word s k) (reg_word s (suc k)) (reg k) (reg (suc k))

  arg_there : (c : Arg) → ArgFits c → IsInt (arg_at s c)
  arg_there (Reg r) f = int_there r
  arg_there (Lit n) f = of_fitting n f

  pub stays_small : (op : Op) (next : ℕ) → ConstantFits op → HasLong op → IsSmall (word_local op s next)
  stays_small Nop next fits wide = on next
  stays_small (MoveInt a b) next fits wide = one next a _ (reg b)
  stays_small (MoveLong a b) next fits wide = two next a _ _ (reg b) (reg (suc b))
  stays_small (MoveObject a b) next fits wide = one next a _ (reg b)
  stays_small (ResultInt a) next fits wide = one next a _ (low_is s.result small.result)
  stays_small (ResultLong a) next fits wide = two next a _ _ (low_is s.result small.result) (high_is s.result small.result)
  stays_small (ResultObject a) next fits wide = one next a _ (low_is s.result small.result)
  stays_small (TakeCaught a) next fits wide = one next a _ (caught_is s.caught small.caught)
  stays_small (Const a n) next fits wide = int next a n (of_fitting n fits)
  stays_small (ConstLong a n) next fits wide = long next a n wide
  stays_small (IntUnary o a b) next fits wide = int next a _ (int_unary o _ (int_there b))
  stays_small (LongUnary o a b) next fits wide = long next a _ (long_unary o _ (long_there b))
  stays_small (IntToLong a b) next fits wide = long next a _ (as_long _ (int_there b))
  stays_small (LongToInt a b) next fits wide = int next a _ (from_is (reg_word s b))
  stays_small (IntOp o a b c) next fits wide = int next a _ (int_result o _ _ (int_there b) (arg_there c fits))
  stays_small (LongOp o a b c) next fits wide = long next a _ (long_result o _ _ (long_there b) (long_there c))
  stays_small (LongShift o a b c) next fits wide = long next a _ (long_result o _ _ (long_there b) (as_long _ (int_there c)))
  stays_small (CompareLong a b c) next fits wide = int next a _ (comparison (long_at s b) (long_at s c))
  stays_small (Goto to) next fits wide = on to
  stays_small (IfBoth t a b to) next fits wide = on_at to next _
  stays_small (IfZero t a to) next fits wide = on_at to next _
  stays_small (Switch a cases) next fits wide = on _
  stays_small op next fits wide = small
