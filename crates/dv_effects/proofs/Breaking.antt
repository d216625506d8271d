-- What breaking half of a long leaves.
use Rattle.std.proofs.Common.{◌≡◌, ℕ, zero, suc, ◌-◌, ◌+◌, ◌<◌, true, false, set, refl, ap, ◌∙◌, arith}
use Rattle.std.proofs.lemmas.List.{set-get_or}
use Rattle.dv_typing.specs.declared.typing.RegType.{RegType}
use Rattle.dv_typing.specs.declared.typing.RegType.TheVariants as ty
use Rattle.dv_typing.specs.Demands.{is_lo, is_hi}
use Rattle.dv_typing.specs.RegTypes.{Types, type_at}
use Rattle.dv_typing.specs.Transfer.{broken_lo, broken_hi, break_before, write_type, write_two}

lo_kept : (t : RegType) → is_lo t ≡ false → broken_lo t ≡ t
lo_kept ty.LongLo h = cc
lo_kept t h = refl

hi_kept : (t : RegType) → is_hi t ≡ false → broken_hi t ≡ t
hi_kept ty.LongHi h = cc
hi_kept t h = refl

lo_broke : (t : RegType) → is_lo t ≡ true → broken_lo t ≡ ty.Conflict
lo_broke ty.LongLo h = refl
lo_broke t h = cc

hi_broke : (t : RegType) → is_hi t ≡ true → broken_hi t ≡ ty.Conflict
hi_broke ty.LongHi h = refl
hi_broke t h = cc

pub kept_lo : (ts : Types) (k : ℕ) → is_lo (type_at ts k) ≡ false → set ts k (broken_lo (type_at ts k)) ≡ ts
kept_lo ts k h = ap (set ts k) (lo_kept (type_at ts k) h) ∙ set-get_or ts k ty.Conflict

pub kept_hi : (ts : Types) (k : ℕ) → is_hi (type_at ts k) ≡ false → set ts k (broken_hi (type_at ts k)) ≡ ts
kept_hi ts k h = ap (set ts k) (hi_kept (type_at ts k) h) ∙ set-get_or ts k ty.Conflict

pub broke_lo : (ts : Types) (k : ℕ) → is_lo (type_at ts k) ≡ true → set ts k (broken_lo (type_at ts k)) ≡ set ts k ty.Conflict
broke_lo ts k h = ap (set ts k) (lo_broke (type_at ts k) h)

pub broke_hi : (ts : Types) (k : ℕ) → is_hi (type_at ts k) ≡ true → set ts k (broken_hi (type_at ts k)) ≡ set ts k ty.Conflict
broke_hi ts k h = ap (set ts k) (hi_broke (type_at ts k) h)

pub before : (ts : Types) (k : ℕ) → 0 < k → break_before ts k ≡ set ts (k - 1) (broken_lo (type_at ts (k - 1)))
before ts zero h = absurd (omega arith)
before ts (suc k) h = let e : suc k - 1 ≡ k = omega arith in rw e refl

-- writes, by the places that they touch
pub one_written : (ts : Types) (k : ℕ) (t : RegType) →
    set (set (break_before ts k) (k + 1) (broken_hi (type_at (break_before ts k) (k + 1)))) k t ≡ write_type ts k t
unfolding write_type
one_written ts k t = let e : k + 1 ≡ suc k = omega arith in ap (λ j. set (set (break_before ts k) j (broken_hi (type_at (break_before ts k) j))) k t) e

pub two_written : (ts : Types) (k : ℕ) (t u : RegType) →
    set (set (set (break_before ts k) (k + 2) (broken_hi (type_at (break_before ts k) (k + 2)))) k t) (k + 1) u ≡ write_two ts k t u
unfolding write_two
two_written ts k t u =
    let e : k + 1 ≡ suc k = omega arith in
    let f : k + 2 ≡ suc (suc k) = omega arith in
    (λ i. set (set (set (break_before ts k) (f i) (broken_hi (type_at (break_before ts k) (f i)))) k t) (e i) u)
