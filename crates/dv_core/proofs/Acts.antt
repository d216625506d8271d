-- What an operation does, by its kind.
use Rattle.std.proofs.Common.{◌≡◌, ℕ, true, false, Result, refl, sym, subst}
use Rattle.dv_defs.specs.declared.run.Next.{Next}
use Rattle.dv_defs.specs.declared.run.Native.{Native}
use Rattle.dv_defs.specs.declared.run.Native.TheVariants as native
use Rattle.dv_defs.specs.Op.{Op, Nop, MoveInt, MoveLong, MoveObject, ResultInt, ResultLong, ResultObject, TakeCaught, Const, ConstLong, IntUnary, LongUnary, IntToLong, LongToInt, IntOp, LongOp, LongShift, CompareLong, Goto, IfBoth, IfZero, Switch, IntDivide, LongDivide, ConstString, ConstClass, Enter, Exit, Cast, InstanceOf, ArrayLength, New, NewArray, Filled, Fill, Throw, ArrayGet, ArrayPut, FieldGet, FieldPut, StaticGet, StaticPut, Invoke, ReturnVoid, Return, is_local, needs}
use Rattle.dv_defs.specs.Op.{Code}
use Rattle.dv_defs.specs.declared.code.Regs.{Regs}
use Rattle.dv_optable.specs.declared.family.Call.{Call as CallIs}
use Rattle.dv_optable.specs.declared.family.Width.{Width as WidthIs}
use Rattle.dv_ops.specs.declared.members.Method.{Method as MethodIs}
use Rattle.dv_ops.specs.declared.op.Op as op
use Rattle.dv_ops.specs.declared.op.Op.TheVariants as op_is
use Rattle.dv_ops.specs.Meaning.{meant}
use Rattle.dv_machine.specs.State.{Did}
use Rattle.dv_words.specs.Answering.{Leads}
use Rattle.dv_words.specs.Step.{act, with_ready}
use Rattle.dv_words.specs.Steps.{At, Left, local_left, mem_left}
use Rattle.dv_mem.specs.Stepping.{is_mem}
use Rattle.dv_threads.specs.Stepping.{is_of_threads}
use Rattle.dv_builtin.specs.Natives.{is_of_texts}

-- a local operation needs no class
pub local_acts : (h : At) (op : Op) → is_local op ≡ true → with_ready h op (needs op) ≡ local_left h op
local_acts h Nop local = refl
local_acts h (MoveInt a b) local = refl
local_acts h (MoveLong a b) local = refl
local_acts h (MoveObject a b) local = refl
local_acts h (ResultInt a) local = refl
local_acts h (ResultLong a) local = refl
local_acts h (ResultObject a) local = refl
local_acts h (TakeCaught a) local = refl
local_acts h (Const a b) local = refl
local_acts h (ConstLong a b) local = refl
local_acts h (IntUnary a b c) local = refl
local_acts h (LongUnary a b c) local = refl
local_acts h (IntToLong a b) local = refl
local_acts h (LongToInt a b) local = refl
local_acts h (IntOp a b c d) local = refl
local_acts h (LongOp a b c d) local = refl
local_acts h (LongShift a b c d) local = refl
local_acts h (CompareLong a b c) local = refl
local_acts h (Goto a) local = refl
local_acts h (IfBoth a b c d) local = refl
local_acts h (IfZero a b c) local = refl
local_acts h (Switch a b) local = refl
local_acts h (IntDivide a b c d) local = absurd (cc local)
local_acts h (LongDivide a b c d) local = absurd (cc local)
local_acts h (ConstString a b) local = absurd (cc local)
local_acts h (ConstClass a b) local = absurd (cc local)
local_acts h (Enter a) local = absurd (cc local)
local_acts h (Exit a) local = absurd (cc local)
local_acts h (Cast a b) local = absurd (cc local)
local_acts h (InstanceOf a b c) local = absurd (cc local)
local_acts h (ArrayLength a b) local = absurd (cc local)
local_acts h (New a b) local = absurd (cc local)
local_acts h (NewArray a b c) local = absurd (cc local)
local_acts h (Filled a b) local = absurd (cc local)
local_acts h (Fill a b c) local = absurd (cc local)
local_acts h (Throw a) local = absurd (cc local)
local_acts h (ArrayGet a b c d) local = absurd (cc local)
local_acts h (ArrayPut a b c d) local = absurd (cc local)
local_acts h (FieldGet a b c d) local = absurd (cc local)
local_acts h (FieldPut a b c d) local = absurd (cc local)
local_acts h (StaticGet a b c) local = absurd (cc local)
local_acts h (StaticPut a b c) local = absurd (cc local)
local_acts h (Invoke a b c) local = absurd (cc local)
local_acts h ReturnVoid local = absurd (cc local)
local_acts h (Return a b) local = absurd (cc local)

pub mem_acts : (h : At) (op : Op) → is_mem op ≡ true → act h op ≡ mem_left h op
mem_acts h Nop mem = absurd (cc mem)
mem_acts h (MoveInt a b) mem = absurd (cc mem)
mem_acts h (MoveLong a b) mem = absurd (cc mem)
mem_acts h (MoveObject a b) mem = absurd (cc mem)
mem_acts h (ResultInt a) mem = absurd (cc mem)
mem_acts h (ResultLong a) mem = absurd (cc mem)
mem_acts h (ResultObject a) mem = absurd (cc mem)
mem_acts h (TakeCaught a) mem = absurd (cc mem)
mem_acts h (Const a b) mem = absurd (cc mem)
mem_acts h (ConstLong a b) mem = absurd (cc mem)
mem_acts h (IntUnary a b c) mem = absurd (cc mem)
mem_acts h (LongUnary a b c) mem = absurd (cc mem)
mem_acts h (IntToLong a b) mem = absurd (cc mem)
mem_acts h (LongToInt a b) mem = absurd (cc mem)
mem_acts h (IntOp a b c d) mem = absurd (cc mem)
mem_acts h (LongOp a b c d) mem = absurd (cc mem)
mem_acts h (LongShift a b c d) mem = absurd (cc mem)
mem_acts h (CompareLong a b c) mem = absurd (cc mem)
mem_acts h (Goto a) mem = absurd (cc mem)
mem_acts h (IfBoth a b c d) mem = absurd (cc mem)
mem_acts h (IfZero a b c) mem = absurd (cc mem)
mem_acts h (Switch a b) mem = absurd (cc mem)
mem_acts h (IntDivide a b c d) mem = refl
mem_acts h (LongDivide a b c d) mem = refl
mem_acts h (ConstString a b) mem = refl
mem_acts h (ConstClass a b) mem = refl
mem_acts h (Enter a) mem = absurd (cc mem)
mem_acts h (Exit a) mem = absurd (cc mem)
mem_acts h (Cast a b) mem = refl
mem_acts h (InstanceOf a b c) mem = refl
mem_acts h (ArrayLength a b) mem = refl
mem_acts h (New a b) mem = refl
mem_acts h (NewArray a b c) mem = refl
mem_acts h (Filled a b) mem = refl
mem_acts h (Fill a b c) mem = refl
mem_acts h (Throw a) mem = refl
mem_acts h (ArrayGet a b c d) mem = refl
mem_acts h (ArrayPut a b c d) mem = refl
mem_acts h (FieldGet a b c d) mem = refl
mem_acts h (FieldPut a b c d) mem = refl
mem_acts h (StaticGet a b c) mem = refl
mem_acts h (StaticPut a b c) mem = refl
mem_acts h (Invoke a b c) mem = absurd (cc mem)
mem_acts h ReturnVoid mem = absurd (cc mem)
mem_acts h (Return a b) mem = absurd (cc mem)

pub texts_else : (n : Native) → is_of_threads n ≡ false → is_of_texts n ≡ true
texts_else native.Length e = refl
texts_else native.CharAt e = refl
texts_else native.Equals e = refl
texts_else native.Concat e = refl
texts_else native.OfLong e = refl
texts_else native.OfChars e = refl
texts_else native.Print e = refl
texts_else native.Println e = refl
texts_else n e = absurd (cc e)

-- an answer of an outcome that is the same
pub led_by : {E : Type 0} (r : Result Next E) (d e : Did Left) (P : Left → Type 0) (S : Type 0) → d ≡ e → Leads r e P S → Leads r d P S
led_by r d e P S same does = let Q : Did Left → Type 0 = λ y. Leads r y P S in subst Q (sym same) does

-- what is neither local nor an invoke, a return or of monitors is done by the heap
pub mem_else : (code : Code) (at : ℕ) (o : op.Op) → ((c : CallIs) (r : Regs) (m : MethodIs) → o ≡ op_is.Invoke c r m → ⊥) → (o ≡ op_is.ReturnVoid → ⊥) → ((w : WidthIs) (a : ℕ) → o ≡ op_is.Return w a → ⊥) → ((a : ℕ) → o ≡ op_is.Enter a → ⊥) → ((a : ℕ) → o ≡ op_is.Exit a → ⊥)
    → is_local (meant code at o) ≡ false → is_mem (meant code at o) ≡ true
mem_else code at op_is.Nop invoke leave give enter exit local = absurd (cc local)
mem_else code at (op_is.MoveInt v w) invoke leave give enter exit local = absurd (cc local)
mem_else code at (op_is.MoveLong v w) invoke leave give enter exit local = absurd (cc local)
mem_else code at (op_is.MoveObject v w) invoke leave give enter exit local = absurd (cc local)
mem_else code at (op_is.ResultInt v) invoke leave give enter exit local = absurd (cc local)
mem_else code at (op_is.ResultLong v) invoke leave give enter exit local = absurd (cc local)
mem_else code at (op_is.ResultObject v) invoke leave give enter exit local = absurd (cc local)
mem_else code at (op_is.TakeCaught v) invoke leave give enter exit local = absurd (cc local)
mem_else code at (op_is.Const v w) invoke leave give enter exit local = absurd (cc local)
mem_else code at (op_is.ConstLong v w) invoke leave give enter exit local = absurd (cc local)
mem_else code at (op_is.IntUnary v w x) invoke leave give enter exit local = absurd (cc local)
mem_else code at (op_is.LongUnary v w x) invoke leave give enter exit local = absurd (cc local)
mem_else code at (op_is.IntToLong v w) invoke leave give enter exit local = absurd (cc local)
mem_else code at (op_is.LongToInt v w) invoke leave give enter exit local = absurd (cc local)
mem_else code at (op_is.IntOp v w x y) invoke leave give enter exit local = absurd (cc local)
mem_else code at (op_is.LongOp v w x y) invoke leave give enter exit local = absurd (cc local)
mem_else code at (op_is.LongShift v w x y) invoke leave give enter exit local = absurd (cc local)
mem_else code at (op_is.CompareLong v w x) invoke leave give enter exit local = absurd (cc local)
mem_else code at (op_is.Goto v) invoke leave give enter exit local = absurd (cc local)
mem_else code at (op_is.IfBoth v w x y) invoke leave give enter exit local = absurd (cc local)
mem_else code at (op_is.IfZero v w x) invoke leave give enter exit local = absurd (cc local)
mem_else code at (op_is.Switch v w) invoke leave give enter exit local = absurd (cc local)
mem_else code at (op_is.IntDivide v w x y) invoke leave give enter exit local = refl
mem_else code at (op_is.LongDivide v w x y) invoke leave give enter exit local = refl
mem_else code at (op_is.ConstString v w) invoke leave give enter exit local = refl
mem_else code at (op_is.ConstClass v w) invoke leave give enter exit local = refl
mem_else code at (op_is.Enter v) invoke leave give enter exit local = absurd (enter v refl)
mem_else code at (op_is.Exit v) invoke leave give enter exit local = absurd (exit v refl)
mem_else code at (op_is.Cast v w) invoke leave give enter exit local = refl
mem_else code at (op_is.InstanceOf v w x) invoke leave give enter exit local = refl
mem_else code at (op_is.ArrayLength v w) invoke leave give enter exit local = refl
mem_else code at (op_is.New v w) invoke leave give enter exit local = refl
mem_else code at (op_is.NewArray v w x) invoke leave give enter exit local = refl
mem_else code at (op_is.Filled v w) invoke leave give enter exit local = refl
mem_else code at (op_is.Fill v w) invoke leave give enter exit local = refl
mem_else code at (op_is.Throw v) invoke leave give enter exit local = refl
mem_else code at (op_is.ArrayGet v w x y) invoke leave give enter exit local = refl
mem_else code at (op_is.ArrayPut v w x y) invoke leave give enter exit local = refl
mem_else code at (op_is.FieldGet v w x y) invoke leave give enter exit local = refl
mem_else code at (op_is.FieldPut v w x y) invoke leave give enter exit local = refl
mem_else code at (op_is.StaticGet v w x) invoke leave give enter exit local = refl
mem_else code at (op_is.StaticPut v w x) invoke leave give enter exit local = refl
mem_else code at (op_is.Invoke v w x) invoke leave give enter exit local = absurd (invoke v w x refl)
mem_else code at op_is.ReturnVoid invoke leave give enter exit local = absurd (leave refl)
mem_else code at (op_is.Return v w) invoke leave give enter exit local = absurd (give v w refl)
