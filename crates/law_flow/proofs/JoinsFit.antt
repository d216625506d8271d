-- The join of two states that fit fits.
use Rattle.std.proofs.Common.{◌≡◌, ℕ, zero, suc, ◌-◌, ◌<◌, List, [], ◌∷◌, length, Bool, true, false, ◌&&◌, ◌||◌, Option, Some, refl, sym, ap, ◌∙◌, arith}
use Rattle.std.specs.Prelude.{All, IfSome}
use Rattle.std.proofs.lemmas.Bool.{and_parts, ltb-true}
use Rattle.dv_defs.specs.declared.names.Ty.{Ty}
use Rattle.dv_typing.specs.declared.typing.RegType.{RegType}
use Rattle.dv_typing.specs.declared.typing.RegType.TheVariants as ty
use Rattle.dv_typing.specs.declared.typing.PendingType.{PendingType}
use Rattle.dv_typing.specs.declared.typing.PendingType.TheVariants as pend
use Rattle.dv_defs.specs.Images.{Image}
use Rattle.dv_defs.specs.Types.{is_array, is_reference, component, ty_eq}
use Rattle.dv_defs.specs.Order.{has_number}
use Rattle.dv_defs.specs.Pools.{class_type, supers}
use Rattle.dv_defs.specs.Op.{Code, class_of_base}
use Rattle.dv_typing.specs.RegTypes.{Types, under}
use Rattle.dv_defs.specs.Common.{object_type, first_common, common_classes, array_of, joins_by_component, common_flat, common_at, common_super}
use Rattle.dv_typing.specs.Joins.{join_classes, join_type, joined, same_type, join_result, join_caught}
use Rattle.law_types.proofs.Types.{array_is_reference}
use Rattle.law_flow.specs.Fitting.{dims_met, TypeFits, RegFits, PendingFits}
use Rattle.law_flow.specs.Laws.{JoinsFit}

-- ---- common superclasses

-- a class type
abbrev IsFlat : Ty → Type 0
IsFlat t = (is_reference t ≡ true) × (t.dims ≡ 0)

first_flat : (image : Image) (cs ds : List ℕ) → IsFlat (first_common image cs ds)
first_flat image [] ds = (refl, refl)
first_flat image (c ∷ cs) ds = by_test (has_number c ds) (first_flat image cs ds)
  where
    by_test : (b : Bool) → IsFlat (first_common image cs ds) → IsFlat (elim b [ true ↦ class_type image c | false ↦ first_common image cs ds ])
    by_test true later = (refl, refl)
    by_test false later = later

classes_flat : (image : Image) (o p : Option ℕ) → IsFlat (common_classes image o p)
classes_flat image (Some c) (Some d) = first_flat image (supers image c) (supers image d)
classes_flat image o p = (refl, refl)

flat_flat : (image : Image) (a b : Ty) → IsFlat (common_flat image a b)
flat_flat image a b = by_test (is_array a || is_array b)
  where
    by_test : (o : Bool) → IsFlat (elim o [ true ↦ object_type | false ↦ common_classes image (class_of_base image a.base) (class_of_base image b.base) ])
    by_test true = (refl, refl)
    by_test false = classes_flat image (class_of_base image a.base) (class_of_base image b.base)

flat_fits : (most : ℕ) (t : Ty) → IsFlat t → TypeFits most t
flat_fits most t f = record { reference = f.0; dims = (let z = f.1 in omega (arith, z)) }

component_fits : (most : ℕ) (a : Ty) → TypeFits most a → is_reference (component a) ≡ true → TypeFits (most - 1) (component a)
component_fits most a f r = record { reference = r; dims = (let d = f.dims in omega (arith, d)) }

array_fits : (most : ℕ) (a t : Ty) → TypeFits most a → 0 < a.dims → TypeFits (most - 1) t → TypeFits most (array_of t)
array_fits most a t f l g = record { reference = array_is_reference (array_of t) (omega arith); dims = (let d = f.dims in let e = g.dims in omega (arith, d, e, l)) }

-- common superclasses fit, with so many dimensions left to go through
abbrev CommonFits : Image → ℕ → Type 0
CommonFits image n = (most : ℕ) (a b : Ty) → TypeFits most a → TypeFits most (common_at image n a b)

component_common : (image : Image) (n most : ℕ) (a b : Ty) → CommonFits image n → TypeFits most a → (j : Bool) → joins_by_component a b ≡ j → TypeFits most (elim j [ true ↦ array_of (common_at image n (component a) (component b)) | false ↦ common_flat image a b ])
component_common image n most a b inner f true e =
    let p = and_parts (is_array a && is_array b && is_reference (component a)) (is_reference (component b)) e in
    let q = and_parts (is_array a && is_array b) (is_reference (component a)) p.0 in
    let r = and_parts (is_array a) (is_array b) q.0 in
    array_fits most a (common_at image n (component a) (component b)) f (ltb-true 0 a.dims r.0)
    (inner (most - 1) (component a) (component b) (component_fits most a f q.1))
component_common image n most a b inner f false e = flat_fits most (common_flat image a b) (flat_flat image a b)

equal_common : (image : Image) (n most : ℕ) (a b : Ty) → CommonFits image n → TypeFits most a → (q : Bool) → TypeFits most (elim q [ true ↦ a | false ↦ elim (joins_by_component a b) [ true ↦ array_of (common_at image n (component a) (component b)) | false ↦ common_flat image a b ] ])
equal_common image n most a b inner f true = f
equal_common image n most a b inner f false = component_common image n most a b inner f (joins_by_component a b) refl

common_fits : (image : Image) (n most : ℕ) (a b : Ty) → TypeFits most a → TypeFits most (common_at image n a b)
common_fits image zero most a b f = flat_fits most (common_flat image a b) (flat_flat image a b)
common_fits image (suc n) most a b f = equal_common image n most a b (common_fits image n) f (ty_eq a b)

super_fits : (image : Image) (most : ℕ) (a b : Ty) → TypeFits most a → TypeFits most (common_super image a b)
unfolding common_super
super_fits image most a b f = common_fits image (suc a.dims) most a b f

-- ---- registers

classes_fit : (image : Image) (most : ℕ) (code : Code) (s t : RegType) → RegFits most code s → RegFits most code (join_classes image s t)
classes_fit image most code (ty.Class a) (ty.Class b) f = super_fits image most a b f
classes_fit image most code s t f = tt

type_fits : (image : Image) (most : ℕ) (code : Code) (s t : RegType) → RegFits most code s → RegFits most code t → RegFits most code (join_type image s t)
type_fits image most code s t f g = by_test (under image s t) (under image t s)
  where
    by_test : (a b : Bool) → RegFits most code (elim a [ true ↦ t | false ↦ elim b [ true ↦ s | false ↦ join_classes image s t ] ])
    by_test true b = g
    by_test false true = f
    by_test false false = classes_fit image most code s t f

joined_count : (image : Image) (ss ts : Types) → length ss ≡ length ts → length (joined image ss ts) ≡ length ss
joined_count image [] [] e = refl
joined_count image [] (t ∷ ts) e = absurd (omega (arith, e))
joined_count image (s ∷ ss) [] e = absurd (omega (arith, e))
joined_count image (s ∷ ss) (t ∷ ts) e = ap suc (joined_count image ss ts (omega (arith, e)))

joined_fit : (image : Image) (most : ℕ) (code : Code) (ss ts : Types) → All (RegFits most code) ss → All (RegFits most code) ts → All (RegFits most code) (joined image ss ts)
joined_fit image most code (s ∷ ss) (t ∷ ts) f g zero d l = type_fits image most code s t (f zero d (omega arith)) (g zero d (omega arith))
joined_fit image most code (s ∷ ss) (t ∷ ts) f g (suc k) d l = joined_fit image most code ss ts (λ j e m. f (suc j) e (omega arith)) (λ j e m. g (suc j) e (omega arith)) k d (omega arith)
joined_fit image most code ss ts f g k d l = absurd (omega arith)

-- ---- what is pending, and what was caught

kept_fits : (most : ℕ) (code : Code) (t : RegType) (b : Bool) → RegFits most code t → PendingFits most code (elim b [ true ↦ pend.One t | false ↦ pend.None ])
kept_fits most code t true f = f
kept_fits most code t false f = tt

result_fits : (most : ℕ) (code : Code) (r q : PendingType) → PendingFits most code q → PendingFits most code (join_result r q)
result_fits most code (pend.One s) (pend.One t) f = kept_fits most code t (same_type s t) f
result_fits most code pend.Long pend.Long f = tt
result_fits most code r q f = tt

caught_fits : (image : Image) (most : ℕ) (c d : Option Ty) → IfSome c (TypeFits most) → IfSome (join_caught image c d) (TypeFits most)
caught_fits image most (Some a) (Some b) f = super_fits image most a b f
caught_fits image most c d f = tt

-- ---- states

pub joins_fit : JoinsFit
joins_fit image code s t f g = record {
  count = joined_count image s.regs t.regs (f.count ∙ sym g.count) ∙ f.count;
  regs = joined_fit image (dims_met image code) code s.regs t.regs f.regs g.regs;
  result = result_fits (dims_met image code) code s.result t.result g.result;
  caught = caught_fits image (dims_met image code) s.caught t.caught f.caught;
}
