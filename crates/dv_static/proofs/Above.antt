-- Steps of a walk up from the superclass of a class.
use Rattle.std.proofs.Common.{◌≡◌, ◌-◌, ◌<◌, ◌≤◌, ◌≢◌, ℕ, zero, suc, true, false, length, Option, Some, None, refl, sym, ap, ◌∙◌, arith}
use Rattle.std.specs.Prelude.{nat_eq, drop}
use Rattle.dv_defs.specs.Images.{Image}
use Rattle.dv_defs.specs.Pools.{walk, parent_at}
use Rattle.dv_defs.specs.Order.{has_number}
use Rattle.dv_typing.specs.Statics.{is_proper_super}

walked : (image : Image) (n c d : ℕ) → has_number d (drop 1 (walk image n (Some c))) ≡ has_number d (walk image (n - 1) (parent_at image c))
walked image zero c d = refl
walked image (suc n) c d = let less : suc n - 1 ≡ n = omega arith in rw less refl

-- the walk from the superclass on
pub above_from : (image : Image) (n c d : ℕ) → n ≡ length image.classes → is_proper_super image c d ≡ has_number d (walk image (n - 1) (parent_at image c))
above_from image n c d all = walked image (length image.classes) c d ∙ ap (λ n. has_number d (walk image (n - 1) (parent_at image c))) (sym all)

-- a class that isn't the one that is sought
pub above_on : (image : Image) (left c d : ℕ) → 1 < left → c ≢ d → has_number d (walk image (left - 1) (Some c)) ≡ has_number d (walk image (left - 1 - 1) (parent_at image c))
above_on image zero c d some other = absurd (omega arith)
above_on image (suc zero) c d some other = absurd (omega arith)
above_on image (suc (suc n)) c d some other =
    let one : suc (suc n) - 1 ≡ suc n = omega arith in
    let two : suc n - 1 ≡ n = omega arith in
    let differs : nat_eq c d ≡ false = grind arith in
    rw (one, two, differs, has_number) refl

pub above_found : (image : Image) (left c d : ℕ) → 1 < left → c ≡ d → has_number d (walk image (left - 1) (Some c)) ≡ true
above_found image zero c d some same = absurd (omega arith)
above_found image (suc zero) c d some same = absurd (omega arith)
above_found image (suc (suc n)) c d some same =
    let one : suc (suc n) - 1 ≡ suc n = omega arith in
    let equal : nat_eq c d ≡ true = grind arith in
    rw (one, equal, has_number) refl

pub above_top : (image : Image) (left d : ℕ) → has_number d (walk image left None) ≡ false
above_top image zero d = refl
above_top image (suc n) d = refl

pub above_done : (image : Image) (left d : ℕ) (at : Option ℕ) → left ≤ 1 → has_number d (walk image (left - 1) at) ≡ false
above_done image left d at past = let none : left - 1 ≡ 0 = omega arith in rw none refl
