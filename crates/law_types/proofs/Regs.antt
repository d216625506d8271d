-- Writes of registers go along the order of types.
use Rattle.std.proofs.Common.{◌≡◌, ◌⊎◌, inl, inr, ◌≢◌, ℕ, zero, suc, ◌<◌, ◌≤◌, [], ◌∷◌, length, Bool, true, false, refl, sym, ap, ◌∙◌, arith}
use Rattle.std.specs.Prelude.{map, slice_set}
use Rattle.std.proofs.lemmas.Bool.{cases_lt, cases_eq}
use Rattle.std.proofs.lemmas.List.{length-set, get_or-set_same, get_or-set_other, set_past}
use Rattle.dv_defs.specs.declared.names.Ty.{Ty}
use Rattle.dv_defs.specs.Images.{Image}
use Rattle.dv_typing.specs.declared.typing.RegType.{RegType}
use Rattle.dv_typing.specs.declared.typing.RegType.TheVariants as ty
use Rattle.dv_defs.specs.Types.{is_long}
use Rattle.dv_typing.specs.RegTypes.{Types, type_at, under, single_type}
use Rattle.dv_typing.specs.Transfer.{broken_lo, broken_hi, break_before, break_after, write_type, write_two, write_long, write_for}
use Rattle.law_types.specs.Hierarchy.{IsOrder}
use Rattle.law_types.proofs.Facts.{no}
use Rattle.law_types.proofs.States.{under_same}

-- each register type is under the other's
pub record AreBelow (image : Image) (ss ts : Types) : Type 0 where
  pub each : (k : ℕ) → under image (type_at ss k) (type_at ts k) ≡ true
  pub count : length ss ≡ length ts

-- ---- one register

set_at : (image : Image) (ss ts : Types) (k j : ℕ) (x y : RegType) → AreBelow image ss ts → under image x y ≡ true → (j ≡ k) ⊎ (j ≢ k) → (k < length ss) ⊎ (length ss ≤ k) → under image (type_at (slice_set ss k x) j) (type_at (slice_set ts k y) j) ≡ true
set_at image ss ts k j x y b u (inr d) l = rw (get_or-set_other ss k j x ty.Conflict d, get_or-set_other ts k j y ty.Conflict d) (b.each j)
set_at image ss ts k j x y b u (inl e) (inl l) = rw (e, get_or-set_same ss k x ty.Conflict l, get_or-set_same ts k y ty.Conflict (omega (arith, l, b.count))) u
set_at image ss ts k j x y b u (inl e) (inr g) = rw (set_past ss k x g, set_past ts k y (omega (arith, g, b.count))) (b.each j)

pub set_below : (image : Image) (ss ts : Types) (k : ℕ) (x y : RegType) → AreBelow image ss ts → under image x y ≡ true → AreBelow image (slice_set ss k x) (slice_set ts k y)
set_below image ss ts k x y b u = record {
  each = λ j. set_at image ss ts k j x y b u (cases_eq j k) (cases_lt k (length ss));
  count = length-set ss k x ∙ (b.count ∙ sym (length-set ts k y));
}

-- ---- half of a long that is overwritten

lo_below : (image : Image) (t s : RegType) → under image s t ≡ true → under image (broken_lo s) (broken_lo t) ≡ true
lo_below image ty.Conflict s e = refl
lo_below image ty.LongLo s e = refl
lo_below image t ty.LongLo e = no e
lo_below image t s e = e

hi_below : (image : Image) (t s : RegType) → under image s t ≡ true → under image (broken_hi s) (broken_hi t) ≡ true
hi_below image ty.Conflict s e = refl
hi_below image ty.LongHi s e = refl
hi_below image t ty.LongHi e = no e
hi_below image t s e = e

before_below : (image : Image) (ss ts : Types) (k : ℕ) → AreBelow image ss ts → AreBelow image (break_before ss k) (break_before ts k)
before_below image ss ts zero b = b
before_below image ss ts (suc k) b = set_below image ss ts k (broken_lo (type_at ss k)) (broken_lo (type_at ts k)) b (lo_below image (type_at ts k) (type_at ss k) (b.each k))

after_below : (image : Image) (ss ts : Types) (k : ℕ) → AreBelow image ss ts → AreBelow image (break_after ss k) (break_after ts k)
after_below image ss ts k b = set_below image ss ts (suc k) (broken_hi (type_at ss (suc k))) (broken_hi (type_at ts (suc k))) b (hi_below image (type_at ts (suc k)) (type_at ss (suc k)) (b.each (suc k)))

pub write_below : (image : Image) (ss ts : Types) (k : ℕ) (x y : RegType) → AreBelow image ss ts → under image x y ≡ true → AreBelow image (write_type ss k x) (write_type ts k y)
unfolding write_type
write_below image ss ts k x y b u =
    set_below image (break_after (break_before ss k) k) (break_after (break_before ts k) k) k x y
    (after_below image (break_before ss k) (break_before ts k) k (before_below image ss ts k b)) u

pub write_two_below : (image : Image) (ss ts : Types) (k : ℕ) (lo hi lo' hi' : RegType) → AreBelow image ss ts → under image lo lo' ≡ true → under image hi hi' ≡ true → AreBelow image (write_two ss k lo hi) (write_two ts k lo' hi')
unfolding write_two
write_two_below image ss ts k lo hi lo' hi' b u v =
    let broken = after_below image (break_before ss k) (break_before ts k) (suc k) (before_below image ss ts k b) in
    set_below image (slice_set (break_after (break_before ss k) (suc k)) k lo) (slice_set (break_after (break_before ts k) (suc k)) k lo') (suc k) hi hi'
    (set_below image (break_after (break_before ss k) (suc k)) (break_after (break_before ts k) (suc k)) k lo lo' broken u) v

pub write_long_below : (image : Image) (ss ts : Types) (k : ℕ) → AreBelow image ss ts → AreBelow image (write_long ss k) (write_long ts k)
write_long_below image ss ts k b = write_two_below image ss ts k ty.LongLo ty.LongHi ty.LongLo ty.LongHi b refl refl

pub write_for_below : (image : Image) → IsOrder image → (ss ts : Types) (k : ℕ) (t : Ty) → AreBelow image ss ts → AreBelow image (write_for ss k t) (write_for ts k t)
write_for_below image ord ss ts k t b = by_width (is_long t)
  where
    by_width : (w : Bool) → AreBelow image (elim w [ true ↦ write_long ss k | false ↦ write_type ss k (single_type t) ]) (elim w [ true ↦ write_long ts k | false ↦ write_type ts k (single_type t) ])
    by_width true = write_long_below image ss ts k b
    by_width false = write_below image ss ts k (single_type t) (single_type t) b (under_same image ord (single_type t))

-- ---- all registers

map_at : (f : RegType → RegType) (ts : Types) (k : ℕ) → k < length ts → type_at (map f ts) k ≡ f (type_at ts k)
map_at f [] k l = absurd (omega arith)
map_at f (t ∷ ts) zero l = refl
map_at f (t ∷ ts) (suc k) l = map_at f ts k (omega arith)

map_past : (f : RegType → RegType) (ts : Types) (k : ℕ) → length ts ≤ k → type_at (map f ts) k ≡ ty.Conflict
map_past f [] k l = refl
map_past f (t ∷ ts) zero l = absurd (omega arith)
map_past f (t ∷ ts) (suc k) l = map_past f ts k (omega arith)

map_count : (f : RegType → RegType) (ts : Types) → length (map f ts) ≡ length ts
map_count f [] = refl
map_count f (t ∷ ts) = ap suc (map_count f ts)

mapped_at : (image : Image) (f g : RegType → RegType) → ((s t : RegType) → under image s t ≡ true → under image (f s) (g t) ≡ true) → (ss ts : Types) (k : ℕ) → AreBelow image ss ts → (k < length ts) ⊎ (length ts ≤ k) → under image (type_at (map f ss) k) (type_at (map g ts) k) ≡ true
mapped_at image f g h ss ts k b (inl l) = rw (map_at f ss k (omega (arith, l, b.count)), map_at g ts k l) (h (type_at ss k) (type_at ts k) (b.each k))
mapped_at image f g h ss ts k b (inr l) = rw (map_past g ts k l) refl

pub map_below : (image : Image) (f g : RegType → RegType) → ((s t : RegType) → under image s t ≡ true → under image (f s) (g t) ≡ true) → (ss ts : Types) → AreBelow image ss ts → AreBelow image (map f ss) (map g ts)
map_below image f g h ss ts b = record {
  each = λ k. mapped_at image f g h ss ts k b (cases_lt k (length ts));
  count = map_count f ss ∙ (b.count ∙ sym (map_count g ts));
}
