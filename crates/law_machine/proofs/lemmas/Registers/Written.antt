-- Registers that are written from conforming values conform.
use Rattle.std.proofs.Common.{◌≡◌, ◌≢◌, ◌↔◌, ◌⊎◌, inl, inr, ℕ, zero, suc, ◌<◌, ◌≤◌, List, length, refl, sym, ◌∙◌, arith}
use Rattle.std.specs.Prelude.{slice_set}
use Rattle.std.proofs.lemmas.Bool.{cases_lt, cases_eq}
use Rattle.std.proofs.lemmas.List.{length-set, get_or-set_same, get_or-set_other, set_past}
use Rattle.dv_defs.specs.Images.{Image}
use Rattle.dv_machine.specs.Value.{Value}
use Rattle.dv_machine.specs.Value as v
use Rattle.dv_typing.specs.declared.typing.RegType.{RegType}
use Rattle.dv_typing.specs.declared.typing.RegType.TheVariants as ty
use Rattle.dv_typing.specs.RegTypes.{Types, type_at}
use Rattle.dv_typing.specs.Transfer.{write_type, write_two, break_before, break_after, broken_lo, broken_hi}
use Rattle.dv_machine.specs.Heap.{Heap}
use Rattle.dv_machine.specs.State.{reg_at}
use Rattle.dv_machine.specs.Calls.{object_of}
use Rattle.dv_machine.specs.Conforming.{Own, Conforms, RegsConform, IsUninit, AreApart, IsGood}
use Rattle.law_machine.specs.StepLaws.{WriteKeeps, LongWriteKeeps, IsFrom}

module _ (image : Image) (heap : Heap) (own : Own) where
  -- what a register holds after a write: what an old register holds, or no uninitialised object
  pub data Source (xs : List Value) (ts : Types) (x : Value) (t : RegType) : Type 0 where
    old : (i : ℕ) → x ≡ reg_at xs i → t ≡ type_at ts i → Source xs ts x t
    plain : (IsUninit t → ⊥) → Conforms image heap own x t → Source xs ts x t

  pub source_conforms : (xs : List Value) (ts : Types) (x : Value) (t : RegType) → RegsConform image heap own xs ts → Source xs ts x t → Conforms image heap own x t
  source_conforms xs ts x t h (old i e f) = rw (e, f) (h i)
  source_conforms xs ts x t h (plain n c) = c

  both_apart : (xs : List Value) (ts : Types) (x y : Value) (t u : RegType) → AreApart xs ts → Source xs ts x t → Source xs ts y u → IsUninit t → IsUninit u → (t ≡ u) ↔ (object_of x ≡ object_of y)
  both_apart xs ts x y t u h (plain n c) q a b = absurd (n a)
  both_apart xs ts x y t u h (old i e f) (plain n c) a b = absurd (n b)
  both_apart xs ts x y t u h (old i e f) (old j d g) a b = rw (e, f, d, g) (h i j (rw f at a) (rw g at b))

  -- each register of these has a source among those
  pub record AreFrom (xs : List Value) (ts : Types) (ys : List Value) (us : Types) : Type 0 where
    pub count : length ys ≡ length us
    pub each : (j : ℕ) → Source xs ts (reg_at ys j) (type_at us j)

  pub from_self : (xs : List Value) (ts : Types) → length xs ≡ length ts → AreFrom xs ts xs ts
  from_self xs ts n = record { count = n; each = λ j. old j refl refl }

  pub from_good : (xs ys : List Value) (ts us : Types) → IsGood image heap own xs ts → AreFrom xs ts ys us → IsGood image heap own ys us
  from_good xs ys ts us h s = record {
    regs = λ j. source_conforms xs ts _ _ h.regs (s.each j);
    count = s.count;
    apart = λ j k a b. both_apart xs ts _ _ _ _ h.apart (s.each j) (s.each k) a b;
  }

  -- one more register is written
  pub from_set : (xs ys : List Value) (ts us : Types) (k : ℕ) (x : Value) (t : RegType) → Source xs ts x t → AreFrom xs ts ys us → AreFrom xs ts (slice_set ys k x) (slice_set us k t)
  from_set xs ys ts us k x t s h = record { count = length-set ys k x ∙ h.count ∙ sym (length-set us k t); each = λ j. at_place j (cases_eq j k) (cases_lt k (length ys)) }
    where
      at_place : (j : ℕ) → (j ≡ k) ⊎ (j ≢ k) → (k < length ys) ⊎ (length ys ≤ k) → Source xs ts (reg_at (slice_set ys k x) j) (type_at (slice_set us k t) j)
      at_place j (inr d) w = rw (get_or-set_other ys k j x v.Undef d, get_or-set_other us k j t ty.Conflict d) (h.each j)
      at_place j (inl e) (inl l) = rw (e, get_or-set_same ys k x v.Undef l, get_or-set_same us k t ty.Conflict (omega (arith, l, h.count))) s
      at_place j (inl e) (inr g) = rw (set_past ys k x g, set_past us k t (omega (arith, g, h.count))) (h.each j)

  -- a type becomes unknown, or stays
  from_type : (xs ys : List Value) (ts us : Types) (k : ℕ) (t : RegType) → (t ≡ ty.Conflict) ⊎ (t ≡ type_at us k) → AreFrom xs ts ys us → AreFrom xs ts ys (slice_set us k t)
  from_type xs ys ts us k t o h = record { count = h.count ∙ sym (length-set us k t); each = λ j. at_place j o (cases_eq j k) (cases_lt k (length us)) }
    where
      at_place : (j : ℕ) → (t ≡ ty.Conflict) ⊎ (t ≡ type_at us k) → (j ≡ k) ⊎ (j ≢ k) → (k < length us) ⊎ (length us ≤ k) → Source xs ts (reg_at ys j) (type_at (slice_set us k t) j)
      at_place j o (inr d) w = rw (get_or-set_other us k j t ty.Conflict d) (h.each j)
      at_place j o (inl e) (inr g) = rw (set_past us k t g) (h.each j)
      at_place j (inl c) (inl e) (inl l) = rw (e, get_or-set_same us k t ty.Conflict l, c) (plain (λ x. x) tt)
      at_place j (inr c) (inl e) (inl l) = rw (e, get_or-set_same us k t ty.Conflict l, c) (h.each k)

  broken_lo_is : (t : RegType) → (broken_lo t ≡ ty.Conflict) ⊎ (broken_lo t ≡ t)
  broken_lo_is ty.LongLo = inl refl
  broken_lo_is t = inr refl

  broken_hi_is : (t : RegType) → (broken_hi t ≡ ty.Conflict) ⊎ (broken_hi t ≡ t)
  broken_hi_is ty.LongHi = inl refl
  broken_hi_is t = inr refl

  pub from_before : (xs ys : List Value) (ts us : Types) (k : ℕ) → AreFrom xs ts ys us → AreFrom xs ts ys (break_before us k)
  from_before xs ys ts us zero h = h
  from_before xs ys ts us (suc k) h = from_type xs ys ts us k _ (broken_lo_is _) h

  pub from_after : (xs ys : List Value) (ts us : Types) (k : ℕ) → AreFrom xs ts ys us → AreFrom xs ts ys (break_after us k)
  from_after xs ys ts us k h = from_type xs ys ts us (suc k) _ (broken_hi_is _) h

  -- the two halves of a pair are broken before one register is written
  pub broken : (xs : List Value) (ts : Types) (k : ℕ) → length xs ≡ length ts → AreFrom xs ts xs (break_after (break_before ts k) k)
  broken xs ts k n = from_after xs xs ts _ k (from_before xs xs ts ts k (from_self xs ts n))

  pub write_source : (xs : List Value) (ts : Types) (k : ℕ) (x : Value) (t : RegType) → IsGood image heap own xs ts → Source xs ts x t → IsGood image heap own (slice_set xs k x) (write_type ts k t)
  unfolding write_type
  write_source xs ts k x t h s = from_good xs _ ts _ h (from_set xs xs ts _ k x t s (broken xs ts k h.count))

  pub write_both : (xs : List Value) (ts : Types) (k : ℕ) (x y : Value) (t u : RegType) → IsGood image heap own xs ts → Source xs ts x t → Source xs ts y u → IsGood image heap own (slice_set (slice_set xs k x) (suc k) y) (write_two ts k t u)
  unfolding write_two
  write_both xs ts k x y t u h s r = from_good xs _ ts _ h (from_set xs _ ts _ (suc k) y u r (from_set xs xs ts _ k x t s (from_after xs xs ts _ (suc k) (from_before xs xs ts ts k (from_self xs ts h.count)))))

  pub write_long_good : (xs : List Value) (ts : Types) (k lo hi : ℕ) → IsGood image heap own xs ts → IsGood image heap own (slice_set (slice_set xs k (v.Lo lo)) (suc k) (v.Hi hi)) (write_two ts k ty.LongLo ty.LongHi)
  write_long_good xs ts k lo hi h = write_both xs ts k _ _ _ _ h (plain (λ x. x) tt) (plain (λ x. x) tt)

  source_of : (xs : List Value) (ts : Types) (x : Value) (t : RegType) → IsFrom image heap own xs ts x t → Source xs ts x t
  source_of xs ts x t (inl f) = old f.0 (sym f.1) (sym f.2)
  source_of xs ts x t (inr p) = plain p.0 p.1

pub write_keeps : WriteKeeps
write_keeps image heap own xs ts k x t h f = write_source image heap own xs ts k x t h (source_of image heap own xs ts x t f)

pub long_write_keeps : LongWriteKeeps
long_write_keeps image heap own xs ts k lo hi h = write_long_good image heap own xs ts k lo hi h
