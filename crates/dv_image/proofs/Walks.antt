-- Steps of a walk up the superclasses.
use Rattle.std.proofs.Common.{◌≡◌, ◌-◌, ◌<◌, ◌≤◌, ◌≢◌, ℕ, zero, suc, true, false, Option, Some, None, refl, arith}
use Rattle.std.specs.Prelude.{nat_eq}
use Rattle.dv_defs.specs.Images.{Image}
use Rattle.dv_defs.specs.Pools.{walk, parent_at}
use Rattle.dv_defs.specs.Order.{has_number}

-- a class that isn't the one that is sought
pub walk_on : (image : Image) (left c d : ℕ) → 0 < left → c ≢ d → has_number d (walk image left (Some c)) ≡ has_number d (walk image (left - 1) (parent_at image c))
walk_on image zero c d some other = absurd (omega arith)
walk_on image (suc n) c d some other =
    let less : suc n - 1 ≡ n = omega arith in
    let differs : nat_eq c d ≡ false = grind arith in
    rw (less, differs, has_number) refl

pub walk_found : (image : Image) (left c d : ℕ) → 0 < left → c ≡ d → has_number d (walk image left (Some c)) ≡ true
walk_found image zero c d some same = absurd (omega arith)
walk_found image (suc n) c d some same =
    let equal : nat_eq c d ≡ true = grind arith in
    rw (equal, has_number) refl

pub walk_top : (image : Image) (left d : ℕ) → has_number d (walk image left None) ≡ false
walk_top image zero d = refl
walk_top image (suc n) d = refl

pub walk_done : (image : Image) (left d : ℕ) (at : Option ℕ) → left ≤ 0 → has_number d (walk image left at) ≡ false
walk_done image zero d at none = refl
walk_done image (suc n) d at none = absurd (omega arith)
