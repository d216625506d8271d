-- An image's methods stand class by class, and aren't many.
use Rattle.std.proofs.Common.{◌≡◌, ◌<◌, ◌≤◌, ◌+◌, ℕ, zero, suc, List, [], ◌∷◌, ◌++◌, length, get_or, Option, Some, None, refl, sym, ap, subst, ◌∙◌, arith}
use Rattle.std.specs.Prelude.{map, nat_lt, sum_by, true, false}
use Rattle.std.specs.List.{range_with_len}
use Rattle.std.specs.List.Sorted.{IsNonDecreasingBy, IsPartitionPoint}
use Rattle.std.proofs.lemmas.Bool.Decides.{nat_tests}
use Rattle.std.proofs.lemmas.List.{length-append, length-map, get_or-map}
use Rattle.std.proofs.lemmas.List.FromFn.{length-map-range_with_len}
use Rattle.std.proofs.lemmas.List.Sums.{sum_by-cons}
use Rattle.dv_defs.specs.declared.class.ClassDef.{ClassDef}
use Rattle.dv_defs.specs.declared.code.Body.{Body}
use Rattle.dv_defs.specs.declared.image.MethodInfo.{MethodInfo}
use Rattle.dv_defs.specs.Images.{Image}
use Rattle.dv_defs.specs.Linked.{IsImage, body_at, defs, field_ids, method_ids, method_with_pools}
use Rattle.dv_defs.specs.Numbering.{all_methods_declared, class_id, methods_declared, numbered}
use Rattle.law_linking.proofs.Bounds.{few_methods}
use Rattle.law_linking.proofs.ImageMembers.{image_passes}
use Rattle.law_linking.proofs.OrderedImages.{image_methods_own}
use Rattle.dv_clinit.specs.Initialisers.{BeginsAt, declaring_class}

-- ---- classes rise

-- each is of a class from this one on, and none of a lower one than an earlier
record RisesFrom (class : ℕ) (methods : List MethodInfo) : Type 0 where
  least : (k : ℕ) (d : MethodInfo) → k < length methods → class ≤ declaring_class (get_or methods k d)
  rises : IsNonDecreasingBy declaring_class methods

none_rise : (i : ℕ) → RisesFrom i []
none_rise i = record { least = λ k d within. absurd (omega arith); rises = λ k j d first within. absurd (omega arith) }

rise_later : (i : ℕ) (ms : List MethodInfo) → RisesFrom (suc i) ms → RisesFrom i ms
rise_later i ms rest =
    record { least = λ k d within. (let more = rest.least k d within in omega arith); rises = rest.rises }

least_cons : (i : ℕ) (m : MethodInfo) (ms : List MethodInfo) → declaring_class m ≡ i → RisesFrom i ms → (k : ℕ) (d : MethodInfo) → k < length (m ∷ ms) → i ≤ declaring_class (get_or (m ∷ ms) k d)
least_cons i m ms is rest zero d within = omega (arith, is)
least_cons i m ms is rest (suc k) d within = rest.least k d (omega arith)

rises_cons : (i : ℕ) (m : MethodInfo) (ms : List MethodInfo) → declaring_class m ≡ i → RisesFrom i ms → (k j : ℕ) (d : MethodInfo) → k ≤ j → j < length (m ∷ ms) → declaring_class (get_or (m ∷ ms) k d) ≤ declaring_class (get_or (m ∷ ms) j d)
rises_cons i m ms is rest zero j d first within = let least = least_cons i m ms is rest j d within in omega (arith, is)
rises_cons i m ms is rest (suc k) zero d first within = absurd (omega arith)
rises_cons i m ms is rest (suc k) (suc j) d first within = rest.rises k j d (omega arith) (omega arith)

rise_cons : (i : ℕ) (m : MethodInfo) (ms : List MethodInfo) → declaring_class m ≡ i → RisesFrom i ms → RisesFrom i (m ∷ ms)
rise_cons i m ms is rest = record { least = least_cons i m ms is rest; rises = rises_cons i m ms is rest }

abbrev declared_at : ℕ → ℕ → MethodInfo
declared_at i k = record { class = class_id i; place = k; types = []; fields = []; methods = [] }

rise_own : (i k n : ℕ) (ms : List MethodInfo) → RisesFrom i ms → RisesFrom i (map (declared_at i) (range_with_len k n) ++ ms)
rise_own i k zero ms rest = rest
rise_own i k (suc n) ms rest = rise_cons i (declared_at i k) (map (declared_at i) (range_with_len (k + 1) n) ++ ms) refl (rise_own i (k + 1) n ms rest)

rise_declared : (i : ℕ) (cs : List ClassDef) → RisesFrom i (all_methods_declared i cs)
rise_declared i [] = none_rise i
rise_declared i (c ∷ cs) =
    rise_own i 0 (length c.methods) (all_methods_declared (suc i) cs) (rise_later i (all_methods_declared (suc i) cs) (rise_declared (suc i) cs))

same_class : (image : Image) (m : MethodInfo) → declaring_class (method_with_pools image m) ≡ declaring_class m
same_class image m = by (body_at image m)
  where
    by : (b : Option Body) → declaring_class (elim b as (λ _. MethodInfo) [ None ↦ m | Some x ↦ record { class = m.class; place = m.place; types = x.types; fields = field_ids image x; methods = method_ids image x } ]) ≡ declaring_class m
    by None = refl
    by (Some x) = refl

with_pools : (image : Image) (ms : List MethodInfo) → IsNonDecreasingBy declaring_class ms → IsNonDecreasingBy declaring_class (map (method_with_pools image) ms)
with_pools image ms rises k j d first within =
    let inside : j < length ms = omega (arith, length-map ms (method_with_pools image)) in
    let here : declaring_class (get_or (map (method_with_pools image) ms) k d) ≡ declaring_class (get_or ms k d) =
    ap declaring_class (get_or-map (method_with_pools image) ms k d d (omega arith)) ∙ same_class image (get_or ms k d) in
    let there : declaring_class (get_or (map (method_with_pools image) ms) j d) ≡ declaring_class (get_or ms j d) =
    ap declaring_class (get_or-map (method_with_pools image) ms j d d inside) ∙ same_class image (get_or ms j d) in
    omega (arith, here, there, rises k j d first inside)

numbered_methods : (cs : List ClassDef) (boot : ℕ) → (numbered cs boot).methods ≡ all_methods_declared 0 cs
unfolding numbered
numbered_methods cs boot = refl

methods_are : (image : Image) → IsImage image → image.methods ≡ map (method_with_pools image) (all_methods_declared 0 (defs image.classes))
methods_are image is = image_methods_own image is ∙ ap (map (method_with_pools image)) (numbered_methods (defs image.classes) image.boot)

pub methods_rise : (image : Image) → IsImage image → IsNonDecreasingBy declaring_class image.methods
methods_rise image is =
    subst (IsNonDecreasingBy declaring_class) (sym (methods_are image is))
    (with_pools image (all_methods_declared 0 (defs image.classes)) (rise_declared 0 (defs image.classes)).rises)

less_by_test : (a b : ℕ) → nat_lt a b ≡ true → a < b
less_by_test a b passes = grind (arith, nat_tests)

more_by_test : (a b : ℕ) → nat_lt a b ≡ false → b ≤ a
more_by_test a b fails = grind (arith, nat_tests)

-- where the methods of lower classes end, those of a class begin
pub begins_by_tests : (ms : List MethodInfo) (c k : ℕ) → IsPartitionPoint (λ m. nat_lt (declaring_class m) c ≡ true) (λ m. nat_lt (declaring_class m) c ≡ false) ms k → BeginsAt ms c k
begins_by_tests ms c k point =
    record {
      before = λ j d less. less_by_test (declaring_class (get_or ms j d)) c (point.0 j d (omega arith) less);
      from = λ j d more within. more_by_test (declaring_class (get_or ms j d)) c (point.1 j d more within);
    }

-- ---- how many there are

methods_count : (i : ℕ) (cs : List ClassDef) → length (all_methods_declared i cs) ≡ sum_by (λ c. length c.methods) cs
methods_count i [] = refl
methods_count i (c ∷ cs) =
    let rest : length (all_methods_declared (suc i) cs) ≡ sum_by (λ c. length c.methods) cs = methods_count (suc i) cs in
    let own : length (methods_declared i c) ≡ length c.methods = length-map-range_with_len _ 0 (length c.methods) in
    omega (arith, length-append (methods_declared i c) (all_methods_declared (suc i) cs), sum_by-cons (λ (c : ClassDef). length c.methods) c cs, rest, own)

pub methods_few : (image : Image) → IsImage image → length image.methods ≤ 19618
methods_few image is =
    let passes = image_passes image is in
    omega (
      arith,
      ap length (methods_are image is),
      length-map (all_methods_declared 0 (defs image.classes)) (method_with_pools image),
      methods_count 0 (defs image.classes),
      few_methods (defs image.classes) image.boot passes.0 passes.1 passes.2,
    )
