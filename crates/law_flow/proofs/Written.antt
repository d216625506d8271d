-- Registers that fit still fit after a write, if what is written fits.
use Rattle.std.proofs.Common.{◌≡◌, ◌⊎◌, inl, inr, ℕ, zero, suc, ◌<◌, ◌≤◌, List, length, Bool, true, false, ◌&&◌, Option, Some, None, refl, ◌∙◌, arith}
use Rattle.std.specs.Prelude.{ℤ, pos, negsuc, map, slice_set, nat_eq, All, IfSome}
use Rattle.std.proofs.lemmas.Bool.{cases_lt, and_parts}
use Rattle.std.proofs.lemmas.List.{length-set, length-map, get_or_past}
use Rattle.std.proofs.lemmas.List.Elements.{All-set, All-map, All-get_or, All-weaker}
use Rattle.dv_defs.specs.declared.names.Ty.{Ty}
use Rattle.dv_typing.specs.declared.typing.RegType.{RegType}
use Rattle.dv_typing.specs.declared.typing.RegType.TheVariants as ty
use Rattle.dv_typing.specs.declared.typing.PendingType.{PendingType}
use Rattle.dv_typing.specs.declared.typing.PendingType.TheVariants as pend
use Rattle.dv_defs.specs.Types.{of_class, is_array, is_reference, is_long, component}
use Rattle.dv_defs.specs.Op.{Code}
use Rattle.dv_typing.specs.RegTypes.{Types, type_at, single_type}
use Rattle.dv_typing.specs.Transfer.{broken_lo, broken_hi, break_before, break_after, write_type, write_two, write_long, write_for, copied_int, copied_object, const_type, result_int, result_ref, after_result_long, caught_type, replaced, replaced_this, lost, object_element, pending_of}
use Rattle.law_flow.specs.Fitting.{TypeFits, RegFits, PendingFits}

-- a class without dimensions fits
pub class_fits : (most : ℕ) (name : List ℕ) → TypeFits most (of_class name)
class_fits most name = record { reference = refl; dims = omega arith }

pub array_refers : (t : Ty) → is_array t ≡ true → is_reference t ≡ true
array_refers t e = rw e refl

-- the body's registers, each with a type that fits
pub record AreFit (most : ℕ) (code : Code) (ts : Types) : Type 0 where
  pub count : length ts ≡ code.body.registers
  pub each : All (RegFits most code) ts

module _ (most : ℕ) (code : Code) where
  -- ---- one register

  pub fits_at : (ts : Types) (k : ℕ) → All (RegFits most code) ts → RegFits most code (type_at ts k)
  fits_at ts k h = by_place (cases_lt k (length ts))
    where
      by_place : (k < length ts) ⊎ (length ts ≤ k) → RegFits most code (type_at ts k)
      by_place (inl l) = All-get_or (RegFits most code) ts k ty.Conflict l h
      by_place (inr g) = rw (get_or_past ts k ty.Conflict g) tt

  set_fits : (ts : Types) (k : ℕ) (t : RegType) → AreFit most code ts → RegFits most code t → AreFit most code (slice_set ts k t)
  set_fits ts k t h f = record { count = length-set ts k t ∙ h.count; each = All-set (RegFits most code) ts k t f h.each }

  lo_fits : (t : RegType) → RegFits most code t → RegFits most code (broken_lo t)
  lo_fits ty.LongLo f = tt
  lo_fits t f = f

  hi_fits : (t : RegType) → RegFits most code t → RegFits most code (broken_hi t)
  hi_fits ty.LongHi f = tt
  hi_fits t f = f

  before_fits : (ts : Types) (k : ℕ) → AreFit most code ts → AreFit most code (break_before ts k)
  before_fits ts zero h = h
  before_fits ts (suc k) h = set_fits ts k (broken_lo (type_at ts k)) h (lo_fits (type_at ts k) (fits_at ts k h.each))

  after_fits : (ts : Types) (k : ℕ) → AreFit most code ts → AreFit most code (break_after ts k)
  after_fits ts k h = set_fits ts (suc k) (broken_hi (type_at ts (suc k))) h (hi_fits (type_at ts (suc k)) (fits_at ts (suc k) h.each))

  pub write_fits : (ts : Types) (k : ℕ) (t : RegType) → AreFit most code ts → RegFits most code t → AreFit most code (write_type ts k t)
  unfolding write_type
  write_fits ts k t h f = set_fits (break_after (break_before ts k) k) k t (after_fits (break_before ts k) k (before_fits ts k h)) f

  write_two_fits : (ts : Types) (k : ℕ) (lo hi : RegType) → AreFit most code ts → RegFits most code lo → RegFits most code hi → AreFit most code (write_two ts k lo hi)
  unfolding write_two
  write_two_fits ts k lo hi h f g =
      let broken = after_fits (break_before ts k) (suc k) (before_fits ts k h) in
      set_fits (slice_set (break_after (break_before ts k) (suc k)) k lo) (suc k) hi (set_fits (break_after (break_before ts k) (suc k)) k lo broken f) g

  pub write_long_fits : (ts : Types) (k : ℕ) → AreFit most code ts → AreFit most code (write_long ts k)
  write_long_fits ts k h = write_two_fits ts k ty.LongLo ty.LongHi h tt tt

  -- a declared type of at most so many dimensions
  pub single_fits : (t : Ty) → t.dims ≤ most → RegFits most code (single_type t)
  single_fits t l = by_sort (is_reference t) refl
    where
      by_sort : (b : Bool) → is_reference t ≡ b → RegFits most code (elim b as (λ w. RegType) [ true ↦ ty.Class t | false ↦ ty.Int ])
      by_sort true e = record { reference = e; dims = l }
      by_sort false e = tt

  pub write_for_fits : (ts : Types) (k : ℕ) (t : Ty) → AreFit most code ts → t.dims ≤ most → AreFit most code (write_for ts k t)
  write_for_fits ts k t h l = by_width (is_long t)
    where
      by_width : (w : Bool) → AreFit most code (elim w as (λ v. Types) [ true ↦ write_long ts k | false ↦ write_type ts k (single_type t) ])
      by_width true = write_long_fits ts k h
      by_width false = write_fits ts k (single_type t) h (single_fits t l)

  -- ---- all registers

  pub map_fits : (f : RegType → RegType) (ts : Types) → ((t : RegType) → RegFits most code t → RegFits most code (f t)) → AreFit most code ts → AreFit most code (map f ts)
  map_fits f ts g h = record {
    count = length-map ts f ∙ h.count;
    each = All-map (RegFits most code) f ts (All-weaker (RegFits most code) (λ t. RegFits most code (f t)) g ts h.each);
  }

  pub replaced_fits : (a : ℕ) (t u : RegType) → RegFits most code t → RegFits most code u → RegFits most code (replaced a t u)
  replaced_fits a t (ty.Uninit b) f g = by_place (nat_eq a b)
    where
      by_place : (e : Bool) → RegFits most code (elim e as (λ w. RegType) [ true ↦ t | false ↦ ty.Uninit b ])
      by_place true = f
      by_place false = g
  replaced_fits a t u f g = g

  pub replaced_this_fits : (t u : RegType) → RegFits most code t → RegFits most code u → RegFits most code (replaced_this t u)
  replaced_this_fits t ty.UninitThis f g = f
  replaced_this_fits t u f g = g

  pub lost_fits : (t : RegType) → RegFits most code t → RegFits most code (lost t)
  lost_fits (ty.Uninit a) f = tt
  lost_fits ty.UninitThis f = tt
  lost_fits t f = f

  -- ---- what is copied, and what results

  pub copied_int_fits : (t : RegType) → RegFits most code (copied_int t)
  copied_int_fits ty.Zero = tt
  copied_int_fits ty.Int = tt
  copied_int_fits t = tt

  pub copied_object_fits : (t : RegType) → RegFits most code t → RegFits most code (copied_object t)
  copied_object_fits (ty.Class c) f = f
  copied_object_fits (ty.Uninit a) f = f
  copied_object_fits t f = tt

  pub const_fits : (n : ℤ) → RegFits most code (const_type n)
  const_fits (pos zero) = tt
  const_fits (pos (suc n)) = tt
  const_fits (negsuc n) = tt

  pub result_int_fits : (p : PendingType) → RegFits most code (result_int p)
  result_int_fits (pend.One ty.Int) = tt
  result_int_fits p = tt

  pub result_ref_fits : (p : PendingType) → PendingFits most code p → RegFits most code (result_ref p)
  result_ref_fits (pend.One (ty.Class c)) f = f
  result_ref_fits p f = tt

  pub result_long_fits : (ts : Types) (a : ℕ) (p : PendingType) → AreFit most code ts → AreFit most code (after_result_long ts a p)
  result_long_fits ts a pend.Long h = write_long_fits ts a h
  result_long_fits ts a p h = write_two_fits ts a ty.Conflict ty.Conflict h tt tt

  pub caught_fits : (c : Option Ty) → IfSome c (TypeFits most) → RegFits most code (caught_type c)
  caught_fits None f = tt
  caught_fits (Some t) f = f

  pub element_fits : (t : RegType) → RegFits most code t → RegFits most code (object_element t)
  element_fits (ty.Class c) f = by_sort (is_array c && is_reference (component c)) refl
    where
      by_sort : (b : Bool) → (is_array c && is_reference (component c)) ≡ b → RegFits most code (elim b as (λ w. RegType) [ true ↦ ty.Class (component c) | false ↦ ty.Conflict ])
      by_sort true e = record { reference = (and_parts (is_array c) (is_reference (component c)) e).1; dims = let l = f.dims in omega arith }
      by_sort false e = tt
  element_fits t f = tt

  pub pending_fits : (r : Option Ty) → ((t : Ty) → r ≡ Some t → t.dims ≤ most) → PendingFits most code (pending_of r)
  pending_fits None l = tt
  pending_fits (Some t) l = by_width (is_long t)
    where
      by_width : (w : Bool) → PendingFits most code (elim w as (λ v. PendingType) [ true ↦ pend.Long | false ↦ pend.One (single_type t) ])
      by_width true = tt
      by_width false = single_fits t (l t refl)
