-- Local instructions keep the number of registers.
use Rattle.std.proofs.Common.{◌≡◌, ℕ, zero, suc, Bool, true, false, Option, Some, None, refl, sym, ap, ◌∙◌}
use Rattle.std.specs.Prelude.{List, [], ◌∷◌, length, slice_set}
use Rattle.dv_defs.specs.Images.{Image}
use Rattle.dv_defs.specs.Op.{Op, Nop, MoveInt, MoveLong, MoveObject, ResultInt, ResultLong, ResultObject, TakeCaught, Const, ConstLong, IntUnary, LongUnary, IntToLong, LongToInt, IntOp, LongOp, LongShift, CompareLong, Goto, IfBoth, IfZero, Switch, is_local}
use Rattle.dv_typing.specs.Statics.{At, fetch}
use Rattle.dv_words.specs.declared.state.Frame.{Frame}
use Rattle.dv_words.specs.Local.{branched, put, put_two, word_local}
use Rattle.dv_words.specs.Stepping.{local_by, local_here, locals_here, on_frame}

pub set_length : {A : Type 0} (xs : List A) (k : ℕ) (v : A) → length (slice_set xs k v) ≡ length xs
set_length [] k v = refl
set_length (x ∷ xs) zero v = refl
set_length (x ∷ xs) (suc k) v = ap suc (set_length xs k v)

abbrev size : Frame → ℕ
size f = length f.regs

one : (s : Frame) (to a w : ℕ) → size (put s to a w) ≡ size s
one s to a w = set_length s.regs a w

two : (s : Frame) (to a low high : ℕ) → size (put_two s to a low high) ≡ size s
two s to a low high = set_length _ (suc a) high ∙ set_length s.regs a low

branch : (s : Frame) (next to : ℕ) (b : Bool) → size (branched s next to b) ≡ size s
branch s next to true = refl
branch s next to false = refl

op_keeps : (op : Op) (s : Frame) (next : ℕ) → size (word_local op s next) ≡ size s
op_keeps Nop s next = refl
op_keeps (MoveInt a b) s next = one s next a _
op_keeps (MoveLong a b) s next = two s next a _ _
op_keeps (MoveObject a b) s next = one s next a _
op_keeps (ResultInt a) s next = one s next a _
op_keeps (ResultLong a) s next = two s next a _ _
op_keeps (ResultObject a) s next = one s next a _
op_keeps (TakeCaught a) s next = one s next a _
op_keeps (Const a n) s next = one s next a _
op_keeps (ConstLong a n) s next = two s next a _ _
op_keeps (IntUnary o a b) s next = one s next a _
op_keeps (LongUnary o a b) s next = two s next a _ _
op_keeps (IntToLong a b) s next = two s next a _ _
op_keeps (LongToInt a b) s next = one s next a _
op_keeps (IntOp o a b c) s next = one s next a _
op_keeps (LongOp o a b c) s next = two s next a _ _
op_keeps (LongShift o a b c) s next = two s next a _ _
op_keeps (CompareLong a b c) s next = one s next a _
op_keeps (Goto to) s next = refl
op_keeps (IfBoth t a b to) s next = branch s next to _
op_keeps (IfZero t a to) s next = branch s next to _
op_keeps (Switch a cases) s next = refl
op_keeps op s next = refl

-- a local instruction where one stands
here_keeps : (image : Image) (v u : Frame) → local_here image v ≡ Some u → size u ≡ size v
here_keeps image v u e = by_at (fetch image v.method.0 v.at) e
  where
    by_local : (b : Bool) (x : At) → elim b as (λ q. Option Frame) [ true ↦ Some (word_local x.op v x.next) | false ↦ None ] ≡ Some u → size u ≡ size v
    by_local true x e = let same : word_local x.op v x.next ≡ u = cc in ap size (sym same) ∙ op_keeps x.op v x.next
    by_local false x e = absurd (cc e)

    by_at : (o : Option At) → local_by o v ≡ Some u → size u ≡ size v
    by_at None e = absurd (cc e)
    by_at (Some x) e = by_local (is_local x.op) x e

-- so many of them
pub locals_keep : (image : Image) (n : ℕ) (s u : Frame) → locals_here image n s ≡ Some u → size u ≡ size s
locals_keep image zero s u e = let same : s ≡ u = cc in ap size (sym same)
locals_keep image (suc n) s u e = by (λ v f. locals_keep image n s v f) (locals_here image n s) refl e
  where
    by : ((v : Frame) → locals_here image n s ≡ Some v → size v ≡ size s) → (o : Option Frame) → locals_here image n s ≡ o → on_frame o (local_here image) ≡ Some u → size u ≡ size s
    by before None f e = absurd (cc e)
    by before (Some v) f e = here_keeps image v u e ∙ before v f
