-- What is initialised before a class: its superclass and interfaces, which stand before it in an order of all classes.
use Rattle.std.proofs.Common.{◌≡◌, ◌<◌, ◌≤◌, ◌⊎◌, inl, inr, ⊎_elim, ℕ, zero, suc, Bool, true, false, cond, List, [], ◌∷◌, ◌++◌, length, get_or, Option, Some, None, refl, sym, ap, subst, ◌∙◌, arith}
use Rattle.std.specs.Prelude.{filter, flat_map, option_to_list, slice_get}
use Rattle.std.proofs.lemmas.Option.{slice_get_past, slice_get_read}
use Rattle.dv_defs.specs.declared.flags.Flag.TheVariants as flag
use Rattle.dv_defs.specs.declared.image.ClassInfo.{ClassInfo}
use Rattle.dv_defs.specs.Flags.{has_flag}
use Rattle.dv_defs.specs.Images.{Image}
use Rattle.dv_defs.specs.Linked.{IsImage}
use Rattle.dv_defs.specs.Pools.{flags_of, is_interface, parent_at, parent_of}
use Rattle.dv_defs.specs.Order.{has_number, interfaces_of, numbers}
use Rattle.dv_defs.specs.LookUp.{interfaces_at, once}
use Rattle.dv_defs.specs.Prior.{declares_default, downward, interfaces_before, prior_at}
use Rattle.law_linking.proofs.OnceNumbers.{has_once}
use Rattle.law_linking.proofs.OrderedImages.{image_ordered}
use Rattle.law_linking.proofs.Reach.{above_in, number_cases, number_first, number_later}
use Rattle.law_linking.proofs.ReachPlaces.{place, place_rises}
use Rattle.law_linking.proofs.TableLaws.{image_prior}
use Rattle.law_linking.proofs.Upward.{flat_gives, has_cases, interface_is_above, parent_is_above}

-- the interfaces of those before a class that are kept
abbrev pub interfaces_prior : Image → ℕ → List ℕ
interfaces_prior image c = filter (declares_default image) (interfaces_before image c)

pub prior_of_interface : (image : Image) (c : ℕ) → is_interface image c ≡ true → prior_at image c ≡ []
prior_of_interface image c interface =
    ap (λ (b : Bool). elim b as (λ _. List ℕ) [ true ↦ [] | false ↦ option_to_list (parent_at image c) ++ interfaces_prior image c ]) interface

pub prior_of_class : (image : Image) (c : ℕ) → is_interface image c ≡ false → prior_at image c ≡ option_to_list (parent_at image c) ++ interfaces_prior image c
prior_of_class image c class =
    ap (λ (b : Bool). elim b as (λ _. List ℕ) [ true ↦ [] | false ↦ option_to_list (parent_at image c) ++ interfaces_prior image c ]) class

-- the list that a class has tells it
pub prior_told : (image : Image) → IsImage image → (cs : List ClassInfo) → cs ≡ image.classes → (c : ℕ) (info : ClassInfo) → c < length cs → info ≡ get_or cs c info → numbers info.prior ≡ prior_at image c
prior_told image is cs are c info within there =
    image_prior image is c info (ap (λ (xs : List ClassInfo). slice_get xs c) (sym are) ∙ slice_get_read cs (length cs) c info refl within there)

-- of what is no class it is empty
pub prior_beyond : (image : Image) (c : ℕ) → length image.classes ≤ c → prior_at image c ≡ []
prior_beyond image c beyond =
    ap
    (λ (o : Option ClassInfo).
    elim (has_flag (flags_of o) flag.Interface) as (λ _. List ℕ) [
      | true ↦ []
      | false ↦ option_to_list (parent_of o) ++ filter (declares_default image) (once (flat_map (downward (interfaces_at image) (length image.classes)) (interfaces_of o)))
    ])
    (slice_get_past image.classes c beyond)

-- what is left of numbers was among them
kept_number : (test : ℕ → Bool) (d : ℕ) (xs : List ℕ) → has_number d (filter test xs) ≡ true → has_number d xs ≡ true
kept_number test d [] has = absurd (cc)
kept_number test d (x ∷ xs) has = by (test x) (λ h. number_later d x xs (kept_number test d xs h)) has
  where
    one : (has_number d (filter test xs) ≡ true → has_number d (x ∷ xs) ≡ true) → (x ≡ d) ⊎ (has_number d (filter test xs) ≡ true) → has_number d (x ∷ xs) ≡ true
    one later (inl same) = subst (λ e. has_number e (x ∷ xs) ≡ true) same (number_first x xs)
    one later (inr h) = later h

    by : (b : Bool) → (has_number d (filter test xs) ≡ true → has_number d (x ∷ xs) ≡ true) → has_number d (cond b (x ∷ filter test xs) (filter test xs)) ≡ true → has_number d (x ∷ xs) ≡ true
    by true later h = one later (number_cases d x (filter test xs) h)
    by false later h = later h

listed : (o : Option ℕ) (d : ℕ) → has_number d (option_to_list o) ≡ true → o ≡ Some d
listed None d there = absurd (cc)
listed (Some p) d there = ⊎_elim (λ same. ap Some same) (λ later. absurd (cc)) (number_cases d p [] there)

module _ (image : Image) (is : IsImage image) where
  -- a class of the image that stands before another
  pub record IsLower (c d : ℕ) : Type 0 where
    pub inside : d < length image.classes
    pub before : place image d < place image c

  record IsInterfaceAbove (c d : ℕ) : Type 0 where
    lower : IsLower c d
    interface : is_interface image d ≡ true

  pub parent_lower : (c p : ℕ) → parent_at image c ≡ Some p → IsLower c p
  parent_lower c p parent =
      let ordered = image_ordered image is in
      let up = parent_is_above image c p parent in
      record { inside = above_in image ordered.range c p up; before = place_rises image ordered.range ordered.acyclic c p up }

  named_above : (c d : ℕ) → has_number d (interfaces_at image c) ≡ true → IsInterfaceAbove c d
  named_above c d has =
      let ordered = image_ordered image is in
      let up = interface_is_above image c d has in
      record {
        lower = record { inside = above_in image ordered.range c d up; before = place_rises image ordered.range ordered.acyclic c d up };
        interface = ordered.interfaces c d has;
      }

  further_above : (c e d : ℕ) → IsInterfaceAbove c e → has_number d (interfaces_at image e) ≡ true → IsInterfaceAbove c d
  further_above c e d first has =
      let next = named_above e d has in
      record {
        lower = record { inside = next.lower.inside; before = omega (arith, next.lower.before, first.lower.before) };
        interface = next.interface;
      }

  downward_above : (c n e d : ℕ) → IsInterfaceAbove c e → has_number d (downward (interfaces_at image) n e) ≡ true → IsInterfaceAbove c d
  downward_above c zero e d first has = absurd (cc)
  downward_above c (suc n) e d first has =
      ⊎_elim
      (λ rest. flat_gives (downward (interfaces_at image) n) d (interfaces_at image e) (λ f named more. downward_above c n f d (further_above c e f first named) more) rest)
      (λ own. ⊎_elim (λ same. subst (IsInterfaceAbove c) same first) (λ none. absurd (cc)) (number_cases d e [] own))
      (has_cases d (flat_map (downward (interfaces_at image) n) (interfaces_at image e)) (e ∷ []) has)

  interface_above : (c d : ℕ) → has_number d (interfaces_prior image c) ≡ true → IsInterfaceAbove c d
  interface_above c d has =
      let before = kept_number (declares_default image) d (interfaces_before image c) has in
      flat_gives (downward (interfaces_at image) (length image.classes)) d (interfaces_at image c)
      (λ e named more. downward_above c (length image.classes) e d (named_above c e named) more)
      (sym (has_once d (flat_map (downward (interfaces_at image) (length image.classes)) (interfaces_at image c))) ∙ before)

  pub interface_lower : (c d : ℕ) → has_number d (interfaces_prior image c) ≡ true → IsLower c d
  interface_lower c d has = (interface_above c d has).lower

  -- before an interface nothing is initialised
  pub none_before_interface : (c d : ℕ) → has_number d (interfaces_prior image c) ≡ true → prior_at image d ≡ []
  none_before_interface c d has = prior_of_interface image d (interface_above c d has).interface

  pub prior_lower : (c d : ℕ) → has_number d (prior_at image c) ≡ true → IsLower c d
  prior_lower c d has = by (is_interface image c) refl
    where
      of_class : has_number d (option_to_list (parent_at image c) ++ interfaces_prior image c) ≡ true → IsLower c d
      of_class there =
          ⊎_elim
          (λ parent. parent_lower c d (listed (parent_at image c) d parent))
          (λ interface. interface_lower c d interface)
          (has_cases d (option_to_list (parent_at image c)) (interfaces_prior image c) there)

      by : (b : Bool) → is_interface image c ≡ b → IsLower c d
      by true interface =
          let none : has_number d [] ≡ true = subst (λ ds. has_number d ds ≡ true) (prior_of_interface image c interface) has in
          absurd (cc)
      by false class = of_class (subst (λ ds. has_number d ds ≡ true) (prior_of_class image c class) has)
