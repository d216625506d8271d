-- Walks up the superclasses that fill a table, and walks that read it.
use Rattle.std.proofs.Common.{◌≡◌, ◌-◌, ◌<◌, ◌≤◌, ◌≢◌, ◌⊎◌, inl, inr, ℕ, zero, suc, Bool, true, false, ◌||◌, List, [], length, Option, Some, None, refl, sym, ap, subst, ◌∙◌, arith, get_or}
use Rattle.std.specs.Prelude.{nat_eq, replicate, IfSome, IsSome, slice_set}
use Rattle.std.proofs.lemmas.Bool.{cases_eq, eq-eqb}
use Rattle.std.proofs.lemmas.List.{length-set, get_or-set_same, get_or-set_other, length-replicate, get_or-replicate}
use Rattle.dv_defs.specs.Images.{Image}
use Rattle.dv_defs.specs.Linked.{IsImage}
use Rattle.dv_defs.specs.Names.{object_name}
use Rattle.dv_defs.specs.Pools.{walk, parent_at, class_named, class_type, supers}
use Rattle.dv_defs.specs.Order.{has_number, extends}
use Rattle.dv_defs.specs.Types.{of_class}
use Rattle.dv_defs.specs.Common.{first_common, object_type}
use Rattle.law_types.specs.Hierarchy.{IsHierarchy}
use Rattle.law_types.proofs.Walks.{is_above, named_inside, named_is}
use Rattle.law_flow.proofs.HierarchyLaw.{linked_classes_are_hierarchies}
use Rattle.dv_types.specs.Classes.{IsRow, IsObject}

-- ---- what a linked image is

pub is_hierarchy : (image : Image) → IsImage image → IsHierarchy image
is_hierarchy image is = (linked_classes_are_hierarchies image is).0

some_is : (o : Option ℕ) (c : ℕ) → o ≡ Some c → IsSome o
some_is (Some d) c e = refl
some_is None c e = absurd (cc)

pub object_some : (image : Image) → IsImage image → (o : Option ℕ) → o ≡ class_named image object_name → IsSome o
object_some image is o e = let there = (linked_classes_are_hierarchies image is).1 in some_is o there.0 (e ∙ there.1)

pub object_is : (image : Image) (c : ℕ) → class_named image object_name ≡ Some c → IsObject image c
object_is image c e = record { inside = named_inside image object_name c e; named = named_is image object_name c e }

-- ---- the walk that sets flags

-- what is set, and what is still to be set, are the classes above
pub record IsMarked (image : Image) (class left : ℕ) (at : Option ℕ) (row : List Bool) : Type 0 where
  pub count : length row ≡ length image.classes
  pub inside : IfSome at (λ p. p < length image.classes)
  pub each : (d : ℕ) → d < length image.classes → extends image class d ≡ (get_or row d false || has_number d (walk image left at))

pub marks_none : (image : Image) (class : ℕ) (row : List Bool) → class < length image.classes → row ≡ replicate (length image.classes) false → IsMarked image class (length image.classes) (Some class) row
marks_none image class row within clear =
    let clear_at : (d : ℕ) → d < length image.classes → get_or row d false ≡ false =
    λ d l. ap (λ (r : List Bool). get_or r d false) clear ∙ get_or-replicate (length image.classes) d false false l in
    record {
      count = ap length clear ∙ length-replicate (length image.classes) false;
      inside = within;
      each = λ d l. rw (clear_at d l) refl;
    }

inside_next : (image : Image) → IsHierarchy image → (c : ℕ) (o : Option ℕ) → parent_at image c ≡ o → IfSome o (λ p. p < length image.classes)
inside_next image h c None e = tt
inside_next image h c (Some p) e = h.inside c p (is_above image c p e)

walked : (image : Image) (left c d : ℕ) → 0 < left → has_number d (walk image left (Some c)) ≡ (nat_eq c d || has_number d (walk image (left - 1) (parent_at image c)))
walked image zero c d some = absurd (omega arith)
walked image (suc n) c d some =
    let less : suc n - 1 ≡ n = omega arith in
    rw less (by (nat_eq c d) (has_number d (walk image n (parent_at image c))))
  where
    by : (a b : Bool) → elim a [ true ↦ true | false ↦ b ] ≡ (a || b)
    by true b = refl
    by false b = refl

swapped : (a b : Bool) → (a || (true || b)) ≡ true
swapped true b = refl
swapped false b = refl

pub marks_more : (image : Image) → IsHierarchy image → (class left c : ℕ) (at up : Option ℕ) (row : List Bool) → 0 < left → at ≡ Some c → up ≡ parent_at image c → IsMarked image class left at row → IsMarked image class (left - 1) up (slice_set row c true)
marks_more image h class left c at up row some is parent m =
    let inside : c < length row = (let q : IfSome (Some c) (λ p. p < length image.classes) = subst (λ (o : Option ℕ). IfSome o (λ p. p < length image.classes)) is m.inside in omega (arith, q, m.count)) in
    record {
      count = length-set row c true ∙ m.count;
      inside = inside_next image h c up (sym parent);
      each = λ d l. m.each d l ∙ (ap (λ (o : Option ℕ). get_or row d false || has_number d (walk image left o)) is ∙ (ap (λ (b : Bool). get_or row d false || b) (walked image left c d some) ∙
          (set_at d inside (cases_eq d c) ∙ ap (λ (o : Option ℕ). get_or (slice_set row c true) d false || has_number d (walk image (left - 1) o)) (sym parent))));
    }
  where
    set_at : (d : ℕ) → c < length row → (d ≡ c) ⊎ (d ≢ c) → (get_or row d false || (nat_eq c d || has_number d (walk image (left - 1) (parent_at image c)))) ≡ (get_or (slice_set row c true) d false || has_number d (walk image (left - 1) (parent_at image c)))
    set_at d inside (inl same) = rw (same, eq-eqb c c refl, get_or-set_same row c true false inside) (swapped (get_or row c false) (has_number c (walk image (left - 1) (parent_at image c))))
    set_at d inside (inr other) =
        let differs : nat_eq c d ≡ false = grind arith in
        rw (differs, get_or-set_other row c d true false other) refl

no_more : (image : Image) (left : ℕ) (at : Option ℕ) (d : ℕ) → (left ≤ 0) ⊎ (at ≡ None) → has_number d (walk image left at) ≡ false
no_more image zero at d e = refl
no_more image (suc n) None d e = refl
no_more image (suc n) (Some c) d (inl e) = absurd (omega (arith, e))
no_more image (suc n) (Some c) d (inr e) = absurd (cc)

or_false : (a : Bool) → (a || false) ≡ a
or_false true = refl
or_false false = refl

marked : (image : Image) (class left : ℕ) (at : Option ℕ) (row : List Bool) → (left ≤ 0) ⊎ (at ≡ None) → IsMarked image class left at row → IsRow image class row
marked image class left at row done m =
    record {
      count = m.count;
      each = λ d l. sym (m.each d l ∙ (ap (λ (b : Bool). get_or row d false || b) (no_more image left at d done) ∙ or_false (get_or row d false)));
    }

pub marks_done : (image : Image) (class left : ℕ) (at : Option ℕ) (row : List Bool) → left ≤ 0 → IsMarked image class left at row → IsRow image class row
marks_done image class left at row done m = marked image class left at row (inl done) m

pub marks_top : (image : Image) (class left : ℕ) (at : Option ℕ) (row : List Bool) → at ≡ None → IsMarked image class left at row → IsRow image class row
marks_top image class left at row top m = marked image class left at row (inr top) m

-- ---- row by row

-- so many rows
pub record AreFirst (image : Image) (count : ℕ) (rows : List (List Bool)) : Type 0 where
  pub many : length rows ≡ count
  pub each : (c : ℕ) → c < count → IsRow image c (get_or rows c [])

-- ---- the walk that reads a row

-- the walk goes on where the classes below have no flag
pub record IsNearing (image : Image) (class other left place : ℕ) : Type 0 where
  pub inside : place < length image.classes
  pub common : first_common image (supers image class) (supers image other) ≡ first_common image (walk image left (Some place)) (supers image other)

pub nearing_starts : (image : Image) (class other : ℕ) → class < length image.classes → IsNearing image class other (length image.classes) class
nearing_starts image class other within = record { inside = within; common = refl }

module _ (image : Image) (class other left place : ℕ) (n : IsNearing image class other left place) (above : List Bool) (row : IsRow image other above) where
  flag_is : (b : Bool) → get_or above place false ≡ b → has_number place (supers image other) ≡ b
  flag_is b e = sym (row.each place n.inside) ∙ e

  pub nearing_found : 0 < left → get_or above place false ≡ true → first_common image (supers image class) (supers image other) ≡ class_type image place
  nearing_found some e = n.common ∙ found left some (flag_is true e)
    where
      found : (k : ℕ) → 0 < k → has_number place (supers image other) ≡ true → first_common image (walk image k (Some place)) (supers image other) ≡ class_type image place
      found zero l e = absurd (omega (arith, l))
      found (suc k) l e = rw (e, first_common) refl

  on : (k : ℕ) → 0 < k → has_number place (supers image other) ≡ false → first_common image (walk image k (Some place)) (supers image other) ≡ first_common image (walk image (k - 1) (parent_at image place)) (supers image other)
  on zero l e = absurd (omega (arith, l))
  on (suc k) l e =
      let less : suc k - 1 ≡ k = omega arith in
      rw (less, e, first_common) refl

  pub nearing_on : IsHierarchy image → (p : ℕ) → 0 < left → get_or above place false ≡ false → parent_at image place ≡ Some p → IsNearing image class other (left - 1) p
  nearing_on h p some e up =
      record {
        inside = h.inside place p (is_above image place p up);
        common = n.common ∙ (on left some (flag_is false e) ∙ ap (λ (o : Option ℕ). first_common image (walk image (left - 1) o) (supers image other)) up);
      }

  none_up : (k : ℕ) (ds : List ℕ) → first_common image (walk image k None) ds ≡ object_type
  none_up zero ds = refl
  none_up (suc k) ds = refl

  none_left : (k : ℕ) (at : Option ℕ) (ds : List ℕ) → k ≤ 0 → first_common image (walk image k at) ds ≡ object_type
  none_left zero at ds e = refl
  none_left (suc k) at ds e = absurd (omega (arith, e))

  pub nearing_top : (o : ℕ) → IsObject image o → 0 < left → get_or above place false ≡ false → parent_at image place ≡ None → first_common image (supers image class) (supers image other) ≡ class_type image o
  nearing_top o object some e up =
      n.common ∙ (on left some (flag_is false e) ∙ (ap (λ (x : Option ℕ). first_common image (walk image (left - 1) x) (supers image other)) up ∙ (none_up (left - 1) (supers image other) ∙ ap of_class (sym object.named))))

  pub nearing_done : (o : ℕ) → IsObject image o → left ≤ 0 → first_common image (supers image class) (supers image other) ≡ class_type image o
  nearing_done o object none = n.common ∙ (none_left left (Some place) (supers image other) none ∙ ap of_class (sym object.named))
