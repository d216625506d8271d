-- The interfaces above a class, from those above the interfaces that it names.
use Rattle.std.specs.Prelude.{◌≡◌, ℕ, zero, suc, ◌<◌, Bool, true, false, ◌&&◌, List, [], ◌∷◌, ◌++◌, length, flat_map, Option, Some, None, nat_eq}
use Rattle.std.proofs.Common.{refl, sym, ap, subst, ◌∙◌, arith}
use Rattle.dv_defs.specs.Images.{Image}
use Rattle.dv_defs.specs.Pools.{parent_at}
use Rattle.dv_defs.specs.Order.{has_number, with_parent, above}
use Rattle.dv_defs.specs.LookUp.{upward, interfaces_at, interfaces_above, once}
use Rattle.law_linking.specs.Ordered.{IsOrdered}
use Rattle.law_linking.proofs.Reach.{number_first, number_later, above_in}
use Rattle.law_linking.proofs.ReachPlaces.{place, place_bounded, place_rises}
use Rattle.dv_hier.specs.Interfaces.{added, Lists, is_listed, are_ready, list_of, listed, AreRight, unlisted}
use Rattle.dv_hier.proofs.AddedLaws.{once_added, added_flat}

-- functions that are the same of the numbers of a list
flat_same : (f g : ℕ → List ℕ) (cs : List ℕ) → ((c : ℕ) → has_number c cs ≡ true → f c ≡ g c) → flat_map f cs ≡ flat_map g cs
flat_same f g [] same = refl
flat_same f g (c ∷ cs) same =
    (λ j. same c (number_first c cs) j ++ flat_same f g cs (λ d has. same d (number_later d c cs has)) j)

in_parent : (d : ℕ) (o : Option ℕ) (cs : List ℕ) → has_number d cs ≡ true → has_number d (with_parent o cs) ≡ true
in_parent d None cs has = has
in_parent d (Some p) cs has = number_later d p cs has

pub interface_above : (image : Image) (c d : ℕ) → has_number d (interfaces_at image c) ≡ true → has_number d (above image c) ≡ true
interface_above image c d has = in_parent d (parent_at image c) (interfaces_at image c) has

module _ (image : Image) (o : IsOrdered image) where
  -- with steps enough it is the same with more
  upward_same : (m n c : ℕ) → place image c < m → place image c < n → upward (interfaces_at image) m c ≡ upward (interfaces_at image) n c
  upward_same zero n c less also = absurd (omega arith)
  upward_same (suc m) zero c less also = absurd (omega arith)
  upward_same (suc m) (suc n) c less also =
      ap (λ cs. c ∷ cs) (flat_same (upward (interfaces_at image) m) (upward (interfaces_at image) n) (interfaces_at image c)
      (λ d has. let rises = place_rises image o.range o.acyclic c d (interface_above image c d has) in upward_same m n d (omega (arith, rises, less)) (omega (arith, rises, also))))

  up_itself : (n c : ℕ) → c < length image.classes → n ≡ length image.classes → upward (interfaces_at image) n c ≡ c ∷ interfaces_above image c
  up_itself zero c within is = absurd (omega arith)
  up_itself (suc n) c within is =
      ap (λ cs. c ∷ cs) (flat_same (upward (interfaces_at image) n) (upward (interfaces_at image) (length image.classes)) (interfaces_at image c)
      (λ d has.
      let rises = place_rises image o.range o.acyclic c d (interface_above image c d has) in
      let bounded = place_bounded image o.acyclic c within in
      upward_same n (length image.classes) d (omega (arith, rises, bounded, is)) (omega (arith, rises, bounded))))

  above_parts : (c : ℕ) → interfaces_above image c ≡ flat_map (λ i. i ∷ interfaces_above image i) (interfaces_at image c)
  above_parts c =
      flat_same (upward (interfaces_at image) (length image.classes)) (λ i. i ∷ interfaces_above image i) (interfaces_at image c)
      (λ d has. up_itself (length image.classes) d (above_in image o.range c d (interface_above image c d has)) refl)

  above_added : (c : ℕ) → once (interfaces_above image c) ≡ added [] (flat_map (λ i. i ∷ once (interfaces_above image i)) (interfaces_at image c))
  above_added c =
      sym (once_added (interfaces_above image c)) ∙ (ap (added []) (above_parts c) ∙ sym (added_flat (interfaces_above image) [] (interfaces_at image c)))

  -- those that are ready have their lists
  ready_gives : (lists : Lists) (cs : List ℕ) → are_ready lists cs ≡ true → (d : ℕ) → has_number d cs ≡ true → is_listed lists d ≡ true
  ready_gives lists [] ready d has = absurd (cc)
  ready_gives lists (c ∷ cs) ready d has = here (is_listed lists c) refl (nat_eq c d) refl (ready_gives lists cs)
    where
      here : (a : Bool) → is_listed lists c ≡ a → (b : Bool) → nat_eq c d ≡ b → (are_ready lists cs ≡ true → (d : ℕ) → has_number d cs ≡ true → is_listed lists d ≡ true) → is_listed lists d ≡ true
      here true listed true same rest = let e : c ≡ d = grind arith in subst (λ x. is_listed lists x ≡ true) e listed
      here true listed false other rest = rest (sym (ap (λ (b : Bool). b && are_ready lists cs) listed) ∙ ready) d (sym (ap (λ (b : Bool). elim b as (λ _. Bool) [ true ↦ true | false ↦ has_number d cs ]) other) ∙ has)
      here false unlisted b e rest = absurd (let h : (false && are_ready lists cs) ≡ true = sym (ap (λ (b : Bool). b && are_ready lists cs) unlisted) ∙ ready in cc)

  -- what is listed for a class from right lists of its interfaces is right
  pub listed_right : (lists : Lists) → AreRight image lists → (c : ℕ) (is : List ℕ) → is ≡ interfaces_at image c → are_ready lists is ≡ true → listed lists is ≡ once (interfaces_above image c)
  listed_right lists right c is own ready =
      ap (added []) (flat_same (λ i. i ∷ list_of lists i) (λ i. i ∷ once (interfaces_above image i)) is
      (λ d has. ap (λ ds. d ∷ ds) (right d (ready_gives lists is ready d has))) ∙ ap (flat_map (λ i. i ∷ once (interfaces_above image i))) own) ∙ sym (above_added c)

-- ---- lists that grow

pub all_kept : (old new : Lists) → ((c : ℕ) → is_listed old c ≡ true → is_listed new c ≡ true) → (cs : List ℕ) → are_ready old cs ≡ true → are_ready new cs ≡ true
all_kept old new kept [] ready = refl
all_kept old new kept (c ∷ cs) ready = here (is_listed old c) refl (all_kept old new kept cs)
  where
    here : (a : Bool) → is_listed old c ≡ a → (are_ready old cs ≡ true → are_ready new cs ≡ true) → are_ready new (c ∷ cs) ≡ true
    here true has rest = (λ j. kept c has j && rest (sym (ap (λ (b : Bool). b && are_ready old cs) has) ∙ ready) j)
    here false lacks rest = absurd (let h : (false && are_ready old cs) ≡ true = sym (ap (λ (b : Bool). b && are_ready old cs) lacks) ∙ ready in cc)
