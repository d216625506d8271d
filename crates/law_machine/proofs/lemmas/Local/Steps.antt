-- What each instruction that needs its frame alone makes of it.
use Rattle.std.proofs.Common.{◌≡◌, ◌⊎◌, inl, inr, ℕ, zero, suc, List, [], ◌∷◌, length, Bool, true, false, Option, Some, None, refl, sym, ◌∙◌, subst}
use Rattle.std.specs.Prelude.{slice_set, map, ℤ, pos, negsuc, is_some, All}
use Rattle.std.proofs.lemmas.List.{length-set}
use Rattle.std.proofs.lemmas.List.Elements.{All-head, All-tail, All-set}
use Rattle.dv_defs.specs.declared.names.Ty.{Ty}
use Rattle.dv_defs.specs.Images.{Image}
use Rattle.dv_machine.specs.Value.{Value}
use Rattle.dv_machine.specs.Value as v
use Rattle.dv_machine.specs.Pending.{Pending}
use Rattle.dv_machine.specs.Pending as pending
use Rattle.dv_machine.specs.Frame.{Frame}
use Rattle.dv_machine.specs.Level as level
use Rattle.dv_typing.specs.declared.typing.RegType.{RegType}
use Rattle.dv_typing.specs.declared.typing.RegType.TheVariants as ty
use Rattle.dv_typing.specs.declared.typing.PendingType.{PendingType}
use Rattle.dv_typing.specs.declared.typing.PendingType.TheVariants as pend
use Rattle.dv_typing.specs.declared.typing.RegState.{RegState}
use Rattle.dv_defs.specs.Parts.{Test, Bin}
use Rattle.dv_defs.specs.Numbers.{compare}
use Rattle.dv_defs.specs.Pools.{Method}
use Rattle.dv_defs.specs.Op.{Op, Nop, MoveInt, MoveLong, MoveObject, ResultInt, ResultLong, ResultObject, TakeCaught, Const, ConstLong, IntUnary, LongUnary, IntToLong, LongToInt, IntOp, LongOp, LongShift, CompareLong, Goto, IfBoth, IfZero, Switch, Arg, Case, is_local}
use Rattle.dv_typing.specs.Statics.{At}
use Rattle.dv_typing.specs.RegTypes.{Types, type_at}
use Rattle.dv_typing.specs.Demands.{demands, int, long, arg_int, is_int, is_movable, is_pending_int, is_pending_long, is_pending_ref}
use Rattle.dv_typing.specs.Transfer.{out, going, write_type, write_long, copied_int, copied_object, const_type, result_int, result_ref, after_result_long, caught_type}
use Rattle.dv_typing.specs.Flow.{targets}
use Rattle.dv_machine.specs.Heap.{Heap}
use Rattle.dv_machine.specs.State.{Reads, on_next, reg_at, read_int, read_two, read_long, kept_int, kept_object, gone, put, put_two}
use Rattle.dv_machine.specs.Local.{local, const_value, pending_int, pending_object, put_pending_two, caught_of, read_arg, test_both, test_zero, branched, case_of}
use Rattle.dv_machine.specs.Conforming.{Own, Conforms, IsGood, IsUninit, IsThere, RefFine, RefsFine, ResultConforms, CaughtConforms, Conform}
use Rattle.law_machine.specs.Premises.{HoldsOf}
use Rattle.law_machine.specs.Reading.{Anything}
use Rattle.law_types.proofs.Facts.{no}
use Rattle.law_machine.proofs.lemmas.Common.Facts.{fits_of, ref_at}
use Rattle.law_types.proofs.Demanded.{first_none, demanded}
use Rattle.law_machine.proofs.lemmas.Registers.Written.{Source, old, plain, write_source, write_long_good}
use Rattle.law_machine.proofs.lemmas.Readers.Plain.{next_holds, kept_int_holds, object_holds, there_of, reads_int, reads_argument, reads_two, reads_long, tests_both, tests_zero, moves_int, moves_reference}
use Rattle.law_machine.proofs.lemmas.Readers.Words.{int_word, class_word}
use Rattle.dv_defs.specs.declared.faults.Rule.TheVariants as rule

abbrev pub IsIn : ℕ → List ℕ → Type 0
IsIn x [] = ⊥
IsIn x (y ∷ ys) = (x ≡ y) ⊎ IsIn x ys

pub all_in : (P : ℕ → Type 0) (x : ℕ) (xs : List ℕ) → All P xs → IsIn x xs → P x
all_in P x [] a i = absurd i
all_in P x (y ∷ ys) a (inl e) = subst P (sym e) (All-head P y ys a)
all_in P x (y ∷ ys) a (inr i) = all_in P x ys (All-tail P y ys a) i

-- where a switch leads is the next address or that of one of its cases
case_in : (cases : List Case) (n : ℤ) (next : ℕ) → IsIn (case_of cases n next) (next ∷ map (λ (c : Case). c.to) cases)
case_in [] n next = inl refl
case_in (c ∷ cs) n next = by_test (compare Test.Eq c.key n) (case_in cs n next)
  where
    by_test : (b : Bool) → IsIn (case_of cs n next) (next ∷ map (λ (c : Case). c.to) cs) → IsIn (elim b as (λ w. ℕ) [ true ↦ c.to | false ↦ case_of cs n next ]) (next ∷ c.to ∷ map (λ (c : Case). c.to) cs)
    by_test true h = inr (inl refl)
    by_test false (inl e) = inl e
    by_test false (inr i) = inr (inr i)

copied_int_is : (t : RegType) → is_int t ≡ true → copied_int t ≡ t
copied_int_is ty.Zero e = refl
copied_int_is ty.Int e = refl
copied_int_is t e = no e

copied_object_is : (t : RegType) → is_movable t ≡ true → copied_object t ≡ t
copied_object_is ty.Zero e = refl
copied_object_is (ty.Class c) e = refl
copied_object_is (ty.Uninit a) e = refl
copied_object_is ty.UninitThis e = refl
copied_object_is t e = no e

result_int_is : (r : PendingType) → is_pending_int r ≡ true → result_int r ≡ ty.Int
result_int_is (pend.One ty.Int) e = refl
result_int_is r e = no e

result_ref_is : (r : PendingType) → is_pending_ref r ≡ true → (t : Ty) × (result_ref r ≡ ty.Class t)
result_ref_is (pend.One (ty.Class t)) e = (t, refl)
result_ref_is r e = no e

module _ (image : Image) (heap : Heap) (own : Own) where
  -- what a handler was entered with
  record IsCaught (o : ℕ) (t : RegType) : Type 0 where
    conforms : Conforms image heap own (v.Ref o) t
    plain : IsUninit t → ⊥
    there : IsThere image heap o

  caught_holds : (o : Option ℕ) (c : Option Ty) → is_some c ≡ true → CaughtConforms image heap o c → HoldsOf (λ p. IsCaught p (caught_type c)) (caught_of o)
  caught_holds (Some p) (Some t) e h = record { conforms = fits_of image heap p t h; plain = λ u. u; there = there_of image heap own p t (fits_of image heap p t h) }
  caught_holds None (Some t) e h = absurd h
  caught_holds o None e h = no e

  module _ (m : Method) (f : Frame) (s : RegState) (next : ℕ) (c : Conform image heap own f s) (r : RefsFine image heap (level.Code f)) where
    -- what such a step makes of the frame: it stands at one of the targets
    pub record IsWent (g : Frame) (tos : List ℕ) (st : RegState) : Type 0 where
      pub place : IsIn g.at tos
      pub conform : Conform image heap own g st
      pub method : g.method ≡ f.method
      pub count : length g.regs ≡ length f.regs
      pub refs : RefsFine image heap (level.Code g)

    went : (to : ℕ) (tos : List ℕ) (xs : List Value) (ts : Types) → IsIn to tos → length xs ≡ length f.regs → All (RefFine image heap) xs → IsGood image heap own xs ts → IsWent (gone f to xs) tos (going s ts)
    went to tos xs ts i n a g = record {
      place = i;
      conform = record { good = g; result = tt; caught = tt; this_pending = c.this_pending };
      method = refl;
      count = n;
      refs = (a, tt, tt);
    }

    put_went : (a : ℕ) (y : Value) (t : RegType) (tos : List ℕ) → IsIn next tos → RefFine image heap y → Source image heap own f.regs s.regs y t → IsWent (put f next a y) tos (going s (write_type s.regs a t))
    put_went a y t tos i q src = went next tos _ _ i (length-set f.regs a y) (All-set (RefFine image heap) f.regs a y q r.0) (write_source image heap own f.regs s.regs a y t c.good src)

    put_two_went : (a lo hi : ℕ) (tos : List ℕ) → IsIn next tos → IsWent (put_two f next a lo hi) tos (going s (write_long s.regs a))
    put_two_went a lo hi tos i = went next tos _ _ i (length-set (slice_set f.regs a (v.Lo lo)) (suc a) (v.Hi hi) ∙ length-set f.regs a (v.Lo lo)) (All-set (RefFine image heap) (slice_set f.regs a (v.Lo lo)) (suc a) (v.Hi hi) tt (All-set (RefFine image heap) f.regs a (v.Lo lo) tt r.0)) (write_long_good image heap own f.regs s.regs a lo hi c.good)

    same_went : (to : ℕ) (tos : List ℕ) → IsIn to tos → IsWent (gone f to f.regs) tos (going s s.regs)
    same_went to tos i = went to tos f.regs s.regs i refl r.0 c.good

    abbrev At_op : Op → At
    At_op op = record { op = op; next = next }

    abbrev WentOf : Op → Frame → Type 0
    WentOf op g = IsWent g (targets (At_op op)) (out image m f.at op s)

    abbrev pub Sound : Op → Type 0
    Sound op = demands image m op s ≡ None → HoldsOf (WentOf op) (local op f next)

    -- ---- moves and constants

    move_int : (a b : ℕ) → Sound (MoveInt a b)
    move_int a b d =
        let i = demanded (is_int (type_at s.regs b)) (rule.V 2) d in
        next_holds (λ y. y ≡ reg_at f.regs b) _ (kept_int (reg_at f.regs b)) _ (kept_int_holds image heap own _ _ i (c.good.regs b))
        (λ y e. put_went a y _ _ (inl refl) (subst (RefFine image heap) (sym e) (ref_at image heap f.regs b r.0)) (old b e (copied_int_is _ i)))

    move_long : (a b : ℕ) → Sound (MoveLong a b)
    move_long a b d = next_holds Anything _ (read_two f.regs b) _ (reads_two image heap own f.regs s.regs b c.good.regs d) (λ p q. put_two_went a p.lo p.hi _ (inl refl))

    move_object : (a b : ℕ) → Sound (MoveObject a b)
    move_object a b d =
        let i = demanded (is_movable (type_at s.regs b)) (rule.V 6) d in
        next_holds (λ y. y ≡ reg_at f.regs b) _ (kept_object (reg_at f.regs b)) _ (object_holds image heap own _ _ i (c.good.regs b))
        (λ y e. put_went a y _ _ (inl refl) (subst (RefFine image heap) (sym e) (ref_at image heap f.regs b r.0)) (old b e (copied_object_is _ i)))

    moved_int : (a : ℕ) → Sound (ResultInt a)
    moved_int a d =
        let e = result_int_is s.result (demanded (is_pending_int s.result) (rule.V 7) d) in
        next_holds (λ y. Conforms image heap own y ty.Int) _ (pending_int f.result) _ (moves_int image heap own f.result s.result c.result e)
        (λ y k. subst (λ t. IsWent (put f next a y) (next ∷ []) (going s (write_type s.regs a t))) (sym e) (put_went a y ty.Int _ (inl refl) (int_word image heap y own ty.Int refl k).fine (plain (λ u. u) k)))

    moved_long : (a : ℕ) (p : Pending) (q : PendingType) → is_pending_long q ≡ true → ResultConforms image heap own p q → HoldsOf (λ g. IsWent g (next ∷ []) (going s (after_result_long s.regs a q))) (put_pending_two f next a p)
    moved_long a (pending.Two lo hi) pend.Long e k = put_two_went a lo hi _ (inl refl)
    moved_long a p pend.Long e k = absurd k
    moved_long a p q e k = no e

    moved_object : (a : ℕ) → Sound (ResultObject a)
    moved_object a d =
        let q = result_ref_is s.result (demanded (is_pending_ref s.result) (rule.V 7) d) in
        next_holds (λ y. Conforms image heap own y (ty.Class q.0)) _ (pending_object f.result) _ (moves_reference image heap own f.result s.result q.0 c.result q.1)
        (λ y k. subst (λ t. IsWent (put f next a y) (next ∷ []) (going s (write_type s.regs a t))) (sym q.1) (put_went a y (ty.Class q.0) _ (inl refl) (class_word image heap y q.0 own k).fine (plain (λ u. u) k)))

    take_caught : (a : ℕ) → Sound (TakeCaught a)
    take_caught a d =
        next_holds (λ p. IsCaught p (caught_type s.caught)) _ (caught_of f.caught) _ (caught_holds f.caught s.caught (demanded (is_some s.caught) (rule.V 8) d) c.caught)
        (λ p k. put_went a (v.Ref p) (caught_type s.caught) _ (inl refl) k.there (plain k.plain k.conforms))

    const : (a : ℕ) (n : ℤ) → IsWent (put f next a (const_value n)) (next ∷ []) (going s (write_type s.regs a (const_type n)))
    const a (pos zero) = put_went a v.Zero ty.Zero _ (inl refl) tt (plain (λ u. u) tt)
    const a (pos (suc n)) = put_went a (v.Num (pos (suc n))) ty.Int _ (inl refl) tt (plain (λ u. u) tt)
    const a (negsuc n) = put_went a (v.Num (negsuc n)) ty.Int _ (inl refl) tt (plain (λ u. u) tt)

    -- ---- arithmetic

    number : (a : ℕ) (n : ℤ) → IsWent (put f next a (v.Num n)) (next ∷ []) (going s (write_type s.regs a ty.Int))
    number a n = put_went a (v.Num n) ty.Int _ (inl refl) tt (plain (λ u. u) tt)

    one_int : {B : Type 0} (Q : B → Type 0) (b : ℕ) (go : ℤ → Reads B) → int s.regs b ≡ None → ((n : ℤ) → HoldsOf Q (go n)) → HoldsOf Q (on_next (read_int (reg_at f.regs b)) go)
    one_int Q b go d k = next_holds Anything Q (read_int (reg_at f.regs b)) go (reads_int image heap own f.regs s.regs b c.good.regs d) (λ n q. k n)

    one_long : {B : Type 0} (Q : B → Type 0) (b : ℕ) (go : ℤ → Reads B) → long s.regs b ≡ None → ((n : ℤ) → HoldsOf Q (go n)) → HoldsOf Q (on_next (read_long f.regs b) go)
    one_long Q b go d k = next_holds Anything Q (read_long f.regs b) go (reads_long image heap own f.regs s.regs b c.good.regs d) (λ n q. k n)

    int_op : (o : Bin) (a b : ℕ) (y : Arg) → Sound (IntOp o a b y)
    int_op o a b y d =
        let q = first_none (int s.regs b) (arg_int s.regs y) d in
        one_int _ b _ q.0 (λ n. next_holds Anything _ (read_arg f.regs y) _ (reads_argument image heap own f.regs s.regs y c.good.regs q.1) (λ k w. number a _))

    long_op : (o : Bin) (a b e : ℕ) → Sound (LongOp o a b e)
    long_op o a b e d =
        let q = first_none (long s.regs b) (long s.regs e) d in
        one_long _ b _ q.0 (λ n. one_long _ e _ q.1 (λ k. put_two_went a _ _ _ (inl refl)))

    long_shift : (o : Bin) (a b e : ℕ) → Sound (LongShift o a b e)
    long_shift o a b e d =
        let q = first_none (long s.regs b) (int s.regs e) d in
        one_long _ b _ q.0 (λ n. one_int _ e _ q.1 (λ k. put_two_went a _ _ _ (inl refl)))

    compare_longs : (a b e : ℕ) → Sound (CompareLong a b e)
    compare_longs a b e d =
        let q = first_none (long s.regs b) (long s.regs e) d in
        one_long _ b _ q.0 (λ n. one_long _ e _ q.1 (λ k. number a _))

    -- ---- branches

    branch : (to : ℕ) (b : Bool) → IsWent (branched f next to b) (next ∷ to ∷ []) (going s s.regs)
    branch to true = same_went to _ (inr (inl refl))
    branch to false = same_went next _ (inl refl)

    if_both : (t : Test) (a b to : ℕ) → Sound (IfBoth t a b to)
    if_both t a b to d = next_holds Anything _ (test_both t (reg_at f.regs a) (reg_at f.regs b)) _ (tests_both image heap own f.regs s.regs t a b c.good.regs d) (λ k q. branch to k)

    if_zero : (t : Test) (a to : ℕ) → Sound (IfZero t a to)
    if_zero t a to d = next_holds Anything _ (test_zero t (reg_at f.regs a)) _ (tests_zero image heap own f.regs s.regs t a c.good.regs d) (λ k q. branch to k)

    switch : (a : ℕ) (cases : List Case) → Sound (Switch a cases)
    switch a cases d = one_int _ a _ d (λ n. same_went (case_of cases n next) _ (case_in cases n next))

    -- ---- all of them

    pub sound : (op : Op) → is_local op ≡ true → Sound op
    sound Nop e d = same_went next _ (inl refl)
    sound (MoveInt a b) e d = move_int a b d
    sound (MoveLong a b) e d = move_long a b d
    sound (MoveObject a b) e d = move_object a b d
    sound (ResultInt a) e d = moved_int a d
    sound (ResultLong a) e d = moved_long a f.result s.result (demanded (is_pending_long s.result) (rule.V 7) d) c.result
    sound (ResultObject a) e d = moved_object a d
    sound (TakeCaught a) e d = take_caught a d
    sound (Const a n) e d = const a n
    sound (ConstLong a n) e d = put_two_went a _ _ _ (inl refl)
    sound (IntUnary o a b) e d = one_int _ b _ d (λ n. number a _)
    sound (LongUnary o a b) e d = one_long _ b _ d (λ n. put_two_went a _ _ _ (inl refl))
    sound (IntToLong a b) e d = one_int _ b _ d (λ n. put_two_went a _ _ _ (inl refl))
    sound (LongToInt a b) e d = next_holds Anything _ (read_two f.regs b) _ (reads_two image heap own f.regs s.regs b c.good.regs d) (λ p q. number a _)
    sound (IntOp o a b y) e d = int_op o a b y d
    sound (LongOp o a b k) e d = long_op o a b k d
    sound (LongShift o a b k) e d = long_shift o a b k d
    sound (CompareLong a b k) e d = compare_longs a b k d
    sound (Goto to) e d = same_went to _ (inl refl)
    sound (IfBoth t a b to) e d = if_both t a b to d
    sound (IfZero t a to) e d = if_zero t a to d
    sound (Switch a cases) e d = switch a cases d
    sound op e d = no e
