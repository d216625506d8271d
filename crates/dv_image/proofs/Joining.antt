-- Steps of the search for the nearest common superclass.
use Rattle.std.proofs.Common.{◌≡◌, ◌-◌, ◌<◌, ◌≤◌, ℕ, zero, suc, Bool, true, false, List, Option, Some, None, refl, sym, ap, ◌∙◌, ◌+◌, arith}
use Rattle.dv_defs.specs.declared.names.Ty.{Ty}
use Rattle.dv_defs.specs.Images.{Image}
use Rattle.dv_defs.specs.Pools.{walk, parent_at, class_type}
use Rattle.dv_defs.specs.Order.{has_number}
use Rattle.dv_defs.specs.Common.{first_common, object_type, common_at, joins_by_component, array_of, common_flat}
use Rattle.dv_defs.specs.declared.names.Base.{Base}
use Rattle.dv_defs.specs.Types.{ty_eq}
use Rattle.dv_image.specs.Common.{type_of}

-- a class that isn't among those
pub join_on : (image : Image) (left c : ℕ) (ds : List ℕ) → 0 < left → has_number c ds ≡ false → first_common image (walk image left (Some c)) ds ≡ first_common image (walk image (left - 1) (parent_at image c)) ds
join_on image zero c ds some other = absurd (omega arith)
join_on image (suc n) c ds some other =
    let less : suc n - 1 ≡ n = omega arith in
    rw (less, other, first_common) refl

pub join_found : (image : Image) (left c : ℕ) (ds : List ℕ) → 0 < left → has_number c ds ≡ true → first_common image (walk image left (Some c)) ds ≡ class_type image c
join_found image zero c ds some there = absurd (omega arith)
join_found image (suc n) c ds some there = rw (there, first_common) refl

pub join_top : (image : Image) (left : ℕ) (ds : List ℕ) → first_common image (walk image left None) ds ≡ object_type
join_top image zero ds = refl
join_top image (suc n) ds = refl

pub join_done : (image : Image) (left : ℕ) (ds : List ℕ) (at : Option ℕ) → left ≤ 0 → first_common image (walk image left at) ds ≡ object_type
join_done image zero ds at none = refl
join_done image (suc n) ds at none = absurd (omega arith)

one_less : (n : ℕ) → 0 < n → suc (n - 1) ≡ n
one_less n some = omega arith

by_component : (same joins : Bool) (a t flat : Ty) → same ≡ false → joins ≡ true → elim same [ true ↦ a | false ↦ elim joins [ true ↦ t | false ↦ flat ] ] ≡ t
by_component true joins a t flat differs both = absurd (cc)
by_component false true a t flat differs both = refl
by_component false false a t flat differs both = absurd (cc)

-- the array of what the components have in common
pub component_step : (image : Image) (m n : ℕ) (a b : Base) (t : Ty) → 0 < m → ty_eq (type_of m a) (type_of n b) ≡ false → joins_by_component (type_of m a) (type_of n b) ≡ true → t ≡ common_at image (suc (m - 1)) (type_of (m - 1) a) (type_of (n - 1) b) → type_of (t.dims + 1) t.base ≡ common_at image (suc m) (type_of m a) (type_of n b)
component_step image m n a b t some differs joins told =
    let more : t.dims + 1 ≡ suc t.dims = omega arith in
    let inner : t ≡ common_at image m (type_of (m - 1) a) (type_of (n - 1) b) = told ∙ ap (λ k. common_at image k (type_of (m - 1) a) (type_of (n - 1) b)) (one_less m some) in
    ap (λ k. type_of k t.base) more ∙
    (ap array_of inner ∙
    sym (by_component (ty_eq (type_of m a) (type_of n b)) (joins_by_component (type_of m a) (type_of n b)) (type_of m a) (array_of (common_at image m (type_of (m - 1) a) (type_of (n - 1) b))) (common_flat image (type_of m a) (type_of n b)) differs joins))
