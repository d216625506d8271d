-- What is initialised before a class is the same of images that are alike.
use Rattle.std.specs.Prelude.{ℕ, ◌≡◌, ◌++◌, Bool, true, false, List, [], length, filter, flat_map, option_to_list}
use Rattle.std.specs.List.{list_any}
use Rattle.std.proofs.Common.{refl, ap, ◌∙◌}
use Rattle.dv_defs.specs.Images.{Image}
use Rattle.dv_defs.specs.Pools.{parent_at, is_interface}
use Rattle.dv_defs.specs.LookUp.{interfaces_at, once}
use Rattle.dv_defs.specs.Prior.{is_default, declares_default, downward, interfaces_before, prior_at}
use Rattle.law_linking.specs.Stripped.{stripped}
use Rattle.law_linking.proofs.Alike.{stripped_interfaces, stripped_is_interface, stripped_length, stripped_methods_of, stripped_parent_at}
use Rattle.law_linking.proofs.AlikeImages.{AreAlike, alike_by}

stripped_declares : (image : Image) (c : ℕ) → declares_default (stripped image) c ≡ declares_default image c
stripped_declares image c = ap (list_any is_default) (stripped_methods_of image c)

stripped_before : (image : Image) (c : ℕ) → interfaces_before (stripped image) c ≡ interfaces_before image c
stripped_before image c =
    ap (λ up. once (flat_map (downward up (length (stripped image).classes)) (up c))) (λ j d. stripped_interfaces image d j) ∙
    ap (λ n. once (flat_map (downward (interfaces_at image) n) (interfaces_at image c))) (stripped_length image)

stripped_prior : (image : Image) (c : ℕ) → prior_at (stripped image) c ≡ prior_at image c
stripped_prior image c =
    ap (λ b. elim b as (λ _. List ℕ) [ true ↦ [] | false ↦ option_to_list (parent_at (stripped image) c) ++ filter (declares_default (stripped image)) (interfaces_before (stripped image) c) ])
    (stripped_is_interface image c) ∙
    (λ j.
    elim (is_interface image c) as (λ _. List ℕ) [
      | true ↦ []
      | false ↦ option_to_list (stripped_parent_at image c j) ++ filter (λ d. stripped_declares image d j) (stripped_before image c j)
    ])

pub alike_prior : (a b : Image) → AreAlike a b → (c : ℕ) → prior_at a c ≡ prior_at b c
alike_prior a b alike c = alike_by (λ image. prior_at image c) (λ image. stripped_prior image c) a b alike
