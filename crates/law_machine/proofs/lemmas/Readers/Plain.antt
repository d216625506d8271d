-- Reads of numbers, references and pending results find what they want.
use Rattle.std.proofs.Common.{◌≡◌, ◌⊎◌, inl, inr, ℕ, zero, suc, List, Bool, true, false, Some, None, refl, ap, ◌∙◌, subst}
use Rattle.std.proofs.lemmas.Bool.{and_parts, or_cases, ne_eqb}
use Rattle.std.specs.Prelude.{◌&&◌, ◌||◌, Ok, Err, if◌then◌else◌}
use Rattle.dv_defs.specs.declared.names.Ty.{Ty}
use Rattle.dv_defs.specs.Images.{Image}
use Rattle.dv_machine.specs.Value.{Value}
use Rattle.dv_machine.specs.Value as v
use Rattle.dv_machine.specs.Kind.{Kind}
use Rattle.dv_machine.specs.Pending as pending
use Rattle.dv_typing.specs.declared.typing.RegType.{RegType}
use Rattle.dv_typing.specs.declared.typing.RegType.TheVariants as ty
use Rattle.dv_typing.specs.declared.typing.PendingType.TheVariants as pend
use Rattle.dv_defs.specs.Parts.{Test, is_equality}
use Rattle.dv_defs.specs.Numbers.{compare}
use Rattle.dv_defs.specs.Order.{assignable}
use Rattle.dv_defs.specs.Op.{Reg, Lit}
use Rattle.dv_typing.specs.RegTypes.{Types, type_at}
use Rattle.dv_typing.specs.Demands.{Demand, first, demand, is_int, is_lo, is_hi, is_ref, is_movable, is_assignable, long, ref}
use Rattle.dv_machine.specs.Heap.{Heap, kind_of}
use Rattle.dv_machine.specs.State.{passes, Reads, on_next, reg_at, read_int, kept_int, read_lo, read_hi, read_two, read_any, read_ref, tested, any_kind, fits_kind, where_ref, kept_object}
use Rattle.dv_machine.specs.Local.{Word, Nil, Number, Object, read_word, compare_words}
use Rattle.dv_machine.specs.Conforming.{Own, Conforms, RegsConform, IsThere, Fits}
use Rattle.law_types.specs.Hierarchy.{IsOrder}
use Rattle.law_machine.specs.Premises.{HoldsOf}
use Rattle.law_machine.specs.Reading.{Anything, ReadsInt, KeepsInt, ReadsArgument, ReadsTwo, ReadsLong, ReadsReference, ReadsReferenceTo, KeepsObject, TestsBoth, TestsZero, MovesInt, MovesReference}
use Rattle.law_types.proofs.Facts.{no}
use Rattle.law_types.proofs.Demanded.{first_none, demanded}
use Rattle.dv_defs.specs.declared.faults.Rule.TheVariants as rule

-- one read after another
pub next_holds : {A B : Type 0} (P : A → Type 0) (Q : B → Type 0) (r : Reads A) (go : A → Reads B) → HoldsOf P r → ((x : A) → P x → HoldsOf Q (go x)) → HoldsOf Q (on_next r go)
next_holds P Q (Ok x) go h n = n x h
next_holds P Q (Err y) go h n = absurd h

pub holds_more : {A : Type 0} (P Q : A → Type 0) (r : Reads A) → HoldsOf P r → ((x : A) → P x → Q x) → HoldsOf Q r
holds_more P Q (Ok x) h n = n x h
holds_more P Q (Err y) h n = absurd h

module _ (image : Image) (heap : Heap) (own : Own) where
  -- ---- numbers

  pub int_holds : (x : Value) (t : RegType) → is_int t ≡ true → Conforms image heap own x t → HoldsOf Anything (read_int x)
  int_holds v.Zero t e c = tt
  int_holds (v.Num n) t e c = tt
  int_holds x ty.Zero e c = absurd c
  int_holds x ty.Int e c = absurd c
  int_holds x t e c = no e

  pub kept_int_holds : (x : Value) (t : RegType) → is_int t ≡ true → Conforms image heap own x t → HoldsOf (λ y. y ≡ x) (kept_int x)
  kept_int_holds x t e c = next_holds Anything (λ y. y ≡ x) (read_int x) (λ n. Ok x) (int_holds x t e c) (λ n k. refl)

  lo_holds : (x : Value) (t : RegType) → is_lo t ≡ true → Conforms image heap own x t → HoldsOf Anything (read_lo x)
  lo_holds (v.Lo n) t e c = tt
  lo_holds x ty.LongLo e c = absurd c
  lo_holds x t e c = no e

  hi_holds : (x : Value) (t : RegType) → is_hi t ≡ true → Conforms image heap own x t → HoldsOf Anything (read_hi x)
  hi_holds (v.Hi n) t e c = tt
  hi_holds x ty.LongHi e c = absurd c
  hi_holds x t e c = no e

  pub two_holds : (xs : List Value) (ts : Types) (k : ℕ) → RegsConform image heap own xs ts → long ts k ≡ None → HoldsOf Anything (read_two xs k)
  two_holds xs ts k h d =
      let e = and_parts (is_lo (type_at ts k)) (is_hi (type_at ts (suc k))) (demanded _ _ d) in
      next_holds Anything Anything (read_lo (reg_at xs k)) _ (lo_holds _ _ e.0 (h k))
      (λ lo x. next_holds Anything Anything (read_hi (reg_at xs (suc k))) _ (hi_holds _ _ e.1 (h (suc k))) (λ hi y. tt))

  -- ---- references

  pub tested_there : (good : Kind → Bool) (o : ℕ) (k : Kind) → kind_of heap (suc o) ≡ Some k → good k ≡ true → tested good heap (suc o) ≡ true
  tested_there good o k e g =
      ap (λ z. z || passes good (kind_of heap (suc o))) (ne_eqb (suc o) 0 (λ q. absurd (cc))) ∙ ap (passes good) e ∙ g

  pub where_holds : (P : ℕ → Type 0) (b : Bool) (o : ℕ) → b ≡ true → P o → HoldsOf P (where_ref b o)
  where_holds P true o e p = p
  where_holds P false o e p = no e

  pub there_of : (o : ℕ) (t : Ty) → Fits image heap o t → IsThere image heap o
  there_of zero t h = tt
  there_of (suc o) t h = h.object

  any_tested : (o : ℕ) (t : Ty) → Fits image heap o t → tested any_kind heap o ≡ true
  any_tested zero t h = refl
  any_tested (suc o) t h = tested_there any_kind o h.object.kind h.object.has_kind refl

  pub fits_tested : (o : ℕ) (t : Ty) → Fits image heap o t → tested (fits_kind image t) heap o ≡ true
  fits_tested zero t h = refl
  fits_tested (suc o) t h = tested_there (fits_kind image t) o h.object.kind h.object.has_kind h.fits

  pub any_holds : (x : Value) (t : RegType) → is_ref t ≡ true → Conforms image heap own x t → HoldsOf (IsThere image heap) (read_any heap x)
  any_holds v.Zero t e c = tt
  any_holds (v.Ref o) (ty.Class d) e c = where_holds (IsThere image heap) _ o (any_tested o d c) (there_of o d c)
  any_holds x ty.Zero e c = absurd c
  any_holds x (ty.Class d) e c = absurd c
  any_holds x t e c = no e

  -- what fits a type fits one that it is assignable to
  pub fits_more : IsOrder image → (o : ℕ) (s t : Ty) → assignable image s t ≡ true → Fits image heap o s → Fits image heap o t
  fits_more ord zero s t e h = tt
  fits_more ord (suc o) s t e h = record { object = h.object; fits = ord.fits_assignable _ s t h.fits e }

  pub ref_conforms : IsOrder image → (x : Value) (s : RegType) (t : Ty) → is_ref s ≡ true → is_assignable image s t ≡ true → Conforms image heap own x s → Conforms image heap own x (ty.Class t)
  ref_conforms ord v.Zero s t e a c = tt
  ref_conforms ord (v.Ref o) (ty.Class d) t e a c = fits_more ord o d t a c
  ref_conforms ord x ty.Zero t e a c = absurd c
  ref_conforms ord x (ty.Class d) t e a c = absurd c
  ref_conforms ord x s t e a c = no e

  pub ref_holds : IsOrder image → (x : Value) (s : RegType) (t : Ty) → is_ref s ≡ true → is_assignable image s t ≡ true → Conforms image heap own x s → HoldsOf (λ o. Fits image heap o t) (read_ref image heap t x)
  ref_holds ord v.Zero s t e a c = tt
  ref_holds ord (v.Ref o) (ty.Class d) t e a c = let f = fits_more ord o d t a c in where_holds (λ p. Fits image heap p t) _ o (fits_tested o t f) f
  ref_holds ord x ty.Zero t e a c = absurd c
  ref_holds ord x (ty.Class d) t e a c = absurd c
  ref_holds ord x s t e a c = no e

  pub object_holds : (x : Value) (t : RegType) → is_movable t ≡ true → Conforms image heap own x t → HoldsOf (λ y. y ≡ x) (kept_object x)
  object_holds v.Zero t e c = refl
  object_holds (v.Ref o) t e c = refl
  object_holds (v.Uninit a o) t e c = refl
  object_holds (v.UninitThis o) t e c = refl
  object_holds x ty.Zero e c = absurd c
  object_holds x (ty.Class d) e c = absurd c
  object_holds x (ty.Uninit a) e c = absurd c
  object_holds x ty.UninitThis e c = absurd c
  object_holds x t e c = no e

  -- ---- tests

  -- a number, or null
  abbrev IsNumber : Word → Type 0
  IsNumber (Object o) = ⊥
  IsNumber w = Unit {0}

  -- a reference, null among them
  abbrev IsReference : Word → Type 0
  IsReference (Number n) = ⊥
  IsReference w = Unit {0}

  number_holds : (x : Value) (t : RegType) → is_int t ≡ true → Conforms image heap own x t → HoldsOf IsNumber (read_word x)
  number_holds v.Zero t e c = tt
  number_holds (v.Num n) t e c = tt
  number_holds x ty.Zero e c = absurd c
  number_holds x ty.Int e c = absurd c
  number_holds x t e c = no e

  reference_holds : (x : Value) (t : RegType) → is_ref t ≡ true → Conforms image heap own x t → HoldsOf IsReference (read_word x)
  reference_holds v.Zero t e c = tt
  reference_holds (v.Ref o) t e c = tt
  reference_holds x ty.Zero e c = absurd c
  reference_holds x (ty.Class d) e c = absurd c
  reference_holds x t e c = no e

  numbers_compare : (t : Test) (a b : Word) → IsNumber a → IsNumber b → HoldsOf Anything (compare_words t a b)
  numbers_compare t Nil Nil m n = tt
  numbers_compare t Nil (Number k) m n = tt
  numbers_compare t (Number j) Nil m n = tt
  numbers_compare t (Number j) (Number k) m n = tt
  numbers_compare t (Object o) b m n = absurd m
  numbers_compare t a (Object o) m n = absurd n

  references_compare : (t : Test) (a b : Word) → IsReference a → IsReference b → HoldsOf Anything (compare_words t a b)
  references_compare t Nil Nil m n = tt
  references_compare t Nil (Object o) m n = tt
  references_compare t (Object o) Nil m n = tt
  references_compare t (Object o) (Object p) m n = tt
  references_compare t (Number k) b m n = absurd m
  references_compare t a (Number k) m n = absurd n

  -- two numbers, or two references
  AreAlike : Value → Value → RegType → RegType → Type 0
  AreAlike x y s u = ((is_int s ≡ true) × (is_int u ≡ true)) ⊎ ((is_ref s ≡ true) × (is_ref u ≡ true))

  words_hold : (t : Test) (x y : Value) (s u : RegType) → AreAlike x y s u → Conforms image heap own x s → Conforms image heap own y u → HoldsOf Anything (on_next (read_word x) (λ a. on_next (read_word y) (λ b. compare_words t a b)))
  unfolding AreAlike
  words_hold t x y s u (inl e) c d = next_holds IsNumber Anything (read_word x) _ (number_holds x s e.0 c) (λ a p. next_holds IsNumber Anything (read_word y) _ (number_holds y u e.1 d) (λ b q. numbers_compare t a b p q))
  words_hold t x y s u (inr e) c d = next_holds IsReference Anything (read_word x) _ (reference_holds x s e.0 c) (λ a p. next_holds IsReference Anything (read_word y) _ (reference_holds y u e.1 d) (λ b q. references_compare t a b p q))

  ints_hold : (t : Test) (x y : Value) (s u : RegType) → is_int s ≡ true → is_int u ≡ true → Conforms image heap own x s → Conforms image heap own y u → HoldsOf Anything (on_next (read_int x) (λ a. on_next (read_int y) (λ b. Ok (compare t a b))))
  ints_hold t x y s u e f c d = next_holds Anything Anything (read_int x) _ (int_holds x s e c) (λ a p. next_holds Anything Anything (read_int y) _ (int_holds y u f d) (λ b q. tt))

  both_hold : (t : Test) (x y : Value) (s u : RegType) (b : Bool) → (elim b as (λ w. Demand) [ true ↦ demand ((is_int s && is_int u) || (is_ref s && is_ref u)) (rule.V 9) | false ↦ first (demand (is_int s) (rule.V 2)) (demand (is_int u) (rule.V 2)) ]) ≡ None → Conforms image heap own x s → Conforms image heap own y u → HoldsOf Anything (if b then on_next (read_word x) (λ a. on_next (read_word y) (λ b. compare_words t a b)) else on_next (read_int x) (λ a. on_next (read_int y) (λ b. Ok (compare t a b))))
  unfolding AreAlike
  both_hold t x y s u true d c e = words_hold t x y s u (alike (or_cases _ _ (demanded _ _ d))) c e
    where
      alike : ((is_int s && is_int u) ≡ true) ⊎ ((is_ref s && is_ref u) ≡ true) → AreAlike x y s u
      alike (inl p) = inl (and_parts _ _ p)
      alike (inr p) = inr (and_parts _ _ p)
  both_hold t x y s u false d c e = let q = first_none _ _ d in ints_hold t x y s u (demanded _ _ q.0) (demanded _ _ q.1) c e

  -- a test against zero is one with null
  zero_demand : (b : Bool) (s : RegType) → (elim b as (λ w. Demand) [ true ↦ demand (is_int s || is_ref s) (rule.V 9) | false ↦ demand (is_int s) (rule.V 2) ]) ≡ None → (elim b as (λ w. Demand) [ true ↦ demand ((is_int s && true) || (is_ref s && true)) (rule.V 9) | false ↦ first (demand (is_int s) (rule.V 2)) None ]) ≡ None
  zero_demand true ty.Zero d = refl
  zero_demand true ty.Int d = refl
  zero_demand true (ty.Class c) d = refl
  zero_demand true s d = absurd (cc)
  zero_demand false ty.Zero d = refl
  zero_demand false ty.Int d = refl
  zero_demand false s d = absurd (cc)

pub reads_int : ReadsInt
reads_int image heap own xs ts k h d = int_holds image heap own _ _ (demanded _ _ d) (h k)

pub keeps_int : KeepsInt
keeps_int image heap own xs ts k h d = kept_int_holds image heap own _ _ (demanded _ _ d) (h k)

pub reads_argument : ReadsArgument
reads_argument image heap own xs ts (Reg r) h d = reads_int image heap own xs ts r h d
reads_argument image heap own xs ts (Lit n) h d = tt

pub reads_two : ReadsTwo
reads_two image heap own xs ts k h d = two_holds image heap own xs ts k h d

pub reads_long : ReadsLong
reads_long image heap own xs ts k h d = next_holds Anything Anything (read_two xs k) _ (two_holds image heap own xs ts k h d) (λ p q. tt)

pub reads_reference : ReadsReference
reads_reference image heap own xs ts k h d = any_holds image heap own _ _ (demanded _ _ d) (h k)

pub reads_reference_to : ReadsReferenceTo
reads_reference_to image heap own xs ts k t ord h d =
    let q = first_none (ref ts k) (demand (is_assignable image (type_at ts k) t) (rule.V 5)) d in
    ref_holds image heap own ord _ _ t (demanded _ _ q.0) (demanded _ _ q.1) (h k)

pub keeps_object : KeepsObject
keeps_object image heap own xs ts k h e = object_holds image heap own _ _ e (h k)

pub tests_both : TestsBoth
tests_both image heap own xs ts t a b h d = both_hold image heap own t (reg_at xs a) (reg_at xs b) (type_at ts a) (type_at ts b) (is_equality t) d (h a) (h b)

pub tests_zero : TestsZero
tests_zero image heap own xs ts t a h d = both_hold image heap own t (reg_at xs a) v.Zero (type_at ts a) ty.Zero (is_equality t) (zero_demand image heap own (is_equality t) (type_at ts a) d) (h a) tt

pub moves_int : MovesInt
moves_int image heap own (pending.One v.Zero) (pend.One ty.Int) c e = tt
moves_int image heap own (pending.One (v.Num n)) (pend.One ty.Int) c e = tt
moves_int image heap own p (pend.One ty.Int) c e = absurd c
moves_int image heap own p r c e = absurd (cc)

pub moves_reference : MovesReference
moves_reference image heap own (pending.One v.Zero) (pend.One (ty.Class d)) t c e = tt
moves_reference image heap own (pending.One (v.Ref o)) (pend.One (ty.Class d)) t c e = subst (λ z. Conforms image heap own (v.Ref o) z) e c
moves_reference image heap own p (pend.One (ty.Class d)) t c e = absurd c
moves_reference image heap own p r t c e = absurd (cc)
