-- What stands above a class as a superinterface is an interface.
use Rattle.std.specs.Prelude.{ℕ, zero, suc, ◌≡◌, true, length, flat_map}
use Rattle.std.proofs.Common.{subst, ⊎_elim}
use Rattle.dv_defs.specs.Images.{Image}
use Rattle.dv_defs.specs.Pools.{is_interface, supers}
use Rattle.dv_defs.specs.Order.{has_number}
use Rattle.dv_defs.specs.LookUp.{upward, interfaces_at, interfaces_above, superinterfaces}
use Rattle.law_types.specs.Hierarchy.{IsHierarchy}
use Rattle.law_linking.proofs.Reach.{number_cases}
use Rattle.law_linking.proofs.Upward.{flat_gives}

module _ (image : Image) (h : IsHierarchy image) where
  -- going up from an interface
  upward_from : (n c d : ℕ) → is_interface image c ≡ true → has_number d (upward (interfaces_at image) n c) ≡ true → is_interface image d ≡ true
  upward_from zero c d marked there = absurd (cc)
  upward_from (suc n) c d marked there =
      ⊎_elim
      (λ same. subst (λ k. is_interface image k ≡ true) same marked)
      (λ later. flat_gives (upward (interfaces_at image) n) d (interfaces_at image c) (λ e listed has. upward_from n e d (h.superinterfaces c e listed) has) later)
      (number_cases d c (flat_map (upward (interfaces_at image) n) (interfaces_at image c)) there)

  above : (c d : ℕ) → has_number d (interfaces_above image c) ≡ true → is_interface image d ≡ true
  above c d there =
      flat_gives (upward (interfaces_at image) (length image.classes)) d (interfaces_at image c)
      (λ e listed has. upward_from (length image.classes) e d (h.superinterfaces c e listed) has) there

  pub superinterfaces_are : (c d : ℕ) → has_number d (superinterfaces image c) ≡ true → is_interface image d ≡ true
  superinterfaces_are c d there = flat_gives (interfaces_above image) d (supers image c) (λ e extends has. above e d has) there
