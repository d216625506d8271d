-- Local instructions on words go where the tagged ones go.
use Rattle.std.proofs.Common.{◌≡◌, ℕ, zero, suc, List, [], ◌∷◌, Bool, true, false, Ok, ℤ, pos, negsuc, refl, subst, arith}
use Rattle.std.proofs.lemmas.List.Elements.{All-head, All-tail}
use Rattle.dv_machine.specs.Frame as tagged_frame
use Rattle.dv_machine.specs.Pending.{Pending}
use Rattle.dv_machine.specs.Pending as pending
use Rattle.dv_machine.specs.Value.{Value}
use Rattle.dv_machine.specs.Value as v
use Rattle.dv_defs.specs.Op.{Op, Nop, MoveInt, MoveLong, MoveObject, ResultInt, ResultLong, ResultObject, TakeCaught, Const, ConstLong, IntUnary, LongUnary, IntToLong, LongToInt, IntOp, LongOp, LongShift, CompareLong, Goto, IfBoth, IfZero, Switch, Arg, Reg, Lit}
use Rattle.dv_defs.specs.Parts.{Bin}
use Rattle.dv_machine.specs.Local as tagged_local
use Rattle.dv_machine.specs.Local.{local, const_value, put_pending_two, read_arg}
use Rattle.dv_machine.specs.State as tagged
use Rattle.dv_machine.specs.State.{Reads, on_next, reg_at}
use Rattle.dv_words.specs.declared.state.Frame.{Frame}
use Rattle.dv_words.specs.declared.state.Kept.{Kept}
use Rattle.dv_words.specs.declared.state.Kept.TheVariants as kept
use Rattle.dv_words.specs.Standing.{AllFit, Fits, FitsInt, FrameFits, FrameStands, IsResult, IsWord}
use Rattle.dv_words.specs.Words.{word_at, word_of}
use Rattle.law_words.specs.Laws.{ArgFits, ConstantFits, LocalStepsFollow}
use Rattle.dv_words.specs.Stacks.{high_word, low_word}
use Rattle.dv_words.specs.Local.{branched, caught_word, int_at, long_at, put, put_two, reg_word, word_local}
use Rattle.law_words.proofs.Comparing.{on_test}
use Rattle.law_words.proofs.Numbers.{again, compare_again, from_again, int_fits, operate_again, unary_again}
use Rattle.law_words.proofs.Reading.{on_caught, on_int, on_kept_int, on_kept_object, on_long, on_pending_int, on_pending_object, on_two}
use Rattle.law_words.proofs.Registers.{is_word_at, stand_gone, stand_put, stand_put_two}

same_frame : (f g : tagged_frame.Frame) → (let r : Reads tagged_frame.Frame = Ok f in r) ≡ Ok g → f ≡ g
same_frame f g e = cc

along : (t : Frame) (f g : tagged_frame.Frame) → FrameStands t f → (let r : Reads tagged_frame.Frame = Ok f in r) ≡ Ok g → FrameStands t g
along t f g h e = subst (λ (x : tagged_frame.Frame). FrameStands t x) (same_frame f g e) h

pub word_fits : (ws : List ℕ) (k : ℕ) → AllFit ws → Fits (word_at ws k)
word_fits [] k f = omega arith
word_fits (w ∷ ws) zero f = All-head Fits w ws f
word_fits (w ∷ ws) (suc k) f = word_fits ws k (All-tail Fits w ws f)

const_stands : (n : ℤ) → FitsInt n → IsWord (word_of n) (const_value n)
const_stands (pos zero) fits = refl
const_stands (pos (suc k)) fits = again (pos (suc k)) fits
const_stands (negsuc k) fits = again (negsuc k) fits

module _ (next : ℕ) (s : Frame) (f g : tagged_frame.Frame) (fits : FrameFits s) (h : FrameStands s f) where
  abbrev is_at : (k : ℕ) → IsWord (reg_word s k) (reg_at f.regs k)
  is_at k = is_word_at s.regs f.regs k h.regs

  reg_fits : (k : ℕ) → Fits (reg_word s k)
  reg_fits k = word_fits s.regs k fits.0

  int_there : (k : ℕ) → FitsInt (int_at s k)
  int_there k = int_fits (reg_word s k) (reg_fits k)

  -- the frame stands at what was put
  putting : (a w : ℕ) (x : Value) → IsWord w x → (let r : Reads tagged_frame.Frame = Ok (tagged.put f next a x) in r) ≡ Ok g → FrameStands (put s next a w) g
  putting a w x is e = along (put s next a w) (tagged.put f next a x) g (stand_put s f next a w x h is) e

  putting_two : (a low high : ℕ) → (let r : Reads tagged_frame.Frame = Ok (tagged.put_two f next a low high) in r) ≡ Ok g → FrameStands (put_two s next a low high) g
  putting_two a low high e = along (put_two s next a low high) (tagged.put_two f next a low high) g (stand_put_two s f next a low high h) e

  moved_long : (k : Kept) (p : Pending) (a : ℕ) → IsResult k p → put_pending_two f next a p ≡ Ok g → FrameStands (put_two s next a (low_word k) (high_word k)) g
  moved_long (kept.Two low high) (pending.Two lo hi) a is e = putting_two a low high (rw (is.0, is.1) e)
  moved_long kept.None (pending.Two lo hi) a is e = absurd is
  moved_long (kept.One w) (pending.Two lo hi) a is e = absurd is
  moved_long k p a is e = absurd (cc)

  going : (c : Bool) (to : ℕ) → (let r : Reads tagged_frame.Frame = Ok (tagged_local.branched f next to c) in r) ≡ Ok g → FrameStands (branched s next to c) g
  going true to e = along _ (tagged.gone f to f.regs) g (stand_gone s f to h) e
  going false to e = along _ (tagged.gone f next f.regs) g (stand_gone s f next h) e

  calculated : (o : Bin) (a b : ℕ) (c : Arg) → ArgFits c → local (IntOp o a b c) f next ≡ Ok g → FrameStands (word_local (IntOp o a b c) s next) g
  calculated o a b (Reg r) l e =
      let x = on_int (reg_at f.regs b) (reg_word s b) _ g (is_at b) e in
      let y = on_int (reg_at f.regs r) (reg_word s r) _ g (is_at r) x in
      putting a _ _ (operate_again o (int_at s b) (int_at s r) (int_there b) (int_there r)) y
  calculated o a b (Lit n) l e =
      let x = on_int (reg_at f.regs b) (reg_word s b) _ g (is_at b) e in
      putting a _ _ (operate_again o (int_at s b) n (int_there b) l) x

  pub follows : (op : Op) → ConstantFits op → local op f next ≡ Ok g → FrameStands (word_local op s next) g
  follows Nop l e = along _ (tagged.gone f next f.regs) g (stand_gone s f next h) e
  follows (MoveInt a b) l e = on_kept_int (FrameStands (put s next a (reg_word s b))) (reg_at f.regs b) (reg_word s b) _ g (is_at b) (λ x is d. putting a _ x is d) e
  follows (MoveLong a b) l e = putting_two a _ _ (on_two (reg_at f.regs b) (reg_at f.regs (suc b)) (reg_word s b) (reg_word s (suc b)) _ g (is_at b) (is_at (suc b)) e)
  follows (MoveObject a b) l e = on_kept_object (FrameStands (put s next a (reg_word s b))) (reg_at f.regs b) (reg_word s b) _ g (is_at b) (λ x is d. putting a _ x is d) e
  follows (ResultInt a) l e = on_pending_int (FrameStands (put s next a (low_word s.result))) f.result s.result _ g h.result (λ x is d. putting a _ x is d) e
  follows (ResultLong a) l e = moved_long s.result f.result a h.result e
  follows (ResultObject a) l e = on_pending_object (FrameStands (put s next a (low_word s.result))) f.result s.result _ g h.result (λ x is d. putting a _ x is d) e
  follows (TakeCaught a) l e = putting a (caught_word s.caught) (v.Ref (caught_word s.caught)) refl (on_caught f.caught s.caught _ g h.caught e)
  follows (Const a n) l e = putting a (word_of n) (const_value n) (const_stands n l) e
  follows (ConstLong a n) l e = putting_two a _ _ e
  follows (IntUnary o a b) l e = putting a _ _ (unary_again o (int_at s b) (int_there b)) (on_int (reg_at f.regs b) (reg_word s b) _ g (is_at b) e)
  follows (LongUnary o a b) l e = putting_two a _ _ (on_long (reg_at f.regs b) (reg_at f.regs (suc b)) (reg_word s b) (reg_word s (suc b)) _ g (is_at b) (is_at (suc b)) e)
  follows (IntToLong a b) l e = putting_two a _ _ (on_int (reg_at f.regs b) (reg_word s b) _ g (is_at b) e)
  follows (LongToInt a b) l e = putting a _ _ (from_again (reg_word s b)) (on_two (reg_at f.regs b) (reg_at f.regs (suc b)) (reg_word s b) (reg_word s (suc b)) _ g (is_at b) (is_at (suc b)) e)
  follows (IntOp o a b c) l e = calculated o a b c l e
  follows (LongOp o a b c) l e =
      let x = on_long (reg_at f.regs b) (reg_at f.regs (suc b)) (reg_word s b) (reg_word s (suc b)) _ g (is_at b) (is_at (suc b)) e in
      putting_two a _ _ (on_long (reg_at f.regs c) (reg_at f.regs (suc c)) (reg_word s c) (reg_word s (suc c)) _ g (is_at c) (is_at (suc c)) x)
  follows (LongShift o a b c) l e =
      let x = on_long (reg_at f.regs b) (reg_at f.regs (suc b)) (reg_word s b) (reg_word s (suc b)) _ g (is_at b) (is_at (suc b)) e in
      putting_two a _ _ (on_int (reg_at f.regs c) (reg_word s c) _ g (is_at c) x)
  follows (CompareLong a b c) l e =
      let x = on_long (reg_at f.regs b) (reg_at f.regs (suc b)) (reg_word s b) (reg_word s (suc b)) _ g (is_at b) (is_at (suc b)) e in
      putting a _ _ (compare_again (long_at s b) (long_at s c)) (on_long (reg_at f.regs c) (reg_at f.regs (suc c)) (reg_word s c) (reg_word s (suc c)) _ g (is_at c) (is_at (suc c)) x)
  follows (Goto to) l e = along _ (tagged.gone f to f.regs) g (stand_gone s f to h) e
  follows (IfBoth t a b to) l e = going _ to (on_test t (reg_at f.regs a) (reg_at f.regs b) (reg_word s a) (reg_word s b) _ g (reg_fits a) (reg_fits b) (is_at a) (is_at b) e)
  follows (IfZero t a to) l e = going _ to (on_test t (reg_at f.regs a) v.Zero (reg_word s a) 0 _ g (reg_fits a) (omega arith) (is_at a) refl e)
  follows (Switch a cases) l e = along _ _ g (stand_gone s f _ h) (on_int (reg_at f.regs a) (reg_word s a) _ g (is_at a) e)
  follows op l e = absurd (cc)

pub local_steps_follow : LocalStepsFollow
local_steps_follow op next s f g l fits h e = follows next s f g fits h op l e
