-- What a call of run()V selects, by the image's methods of that name and prototype.
use Rattle.std.specs.Prelude.{ℕ, ◌≡◌, ◌≤◌, ◌<◌, ◌^◌, ◌||◌, Bool, true, false, List, [], ◌∷◌, length, filter_map, Option, Some, None, codes}
use Rattle.std.specs.List.{cons_option, list_any, range_with_len}
use Rattle.std.proofs.Common.{refl, ap, sym, ◌∙◌, ⊎_elim, arith}
use Rattle.std.proofs.lemmas.Option.{slice_get_past}
use Rattle.dv_defs.specs.declared.image.Select.{Select}
use Rattle.dv_defs.specs.declared.image.Select.TheVariants as select
use Rattle.dv_defs.specs.Images.{Image}
use Rattle.dv_defs.specs.Linked.{IsImage}
use Rattle.dv_defs.specs.LookUp.{is_method_of}
use Rattle.dv_defs.specs.Pools.{Method, method_at, with_info, no_arguments}
use Rattle.dv_defs.specs.Selecting.{selected}
use Rattle.law_linking.proofs.Reach.{less_or_not}
use Rattle.law_linking.proofs.SelectLaws.{method_has, selected_outside, unnamed_abstract}
use Rattle.law_linking.proofs.TableLaws.{image_few_methods}
use Rattle.dv_image.specs.Selecting.{selected_by}
use Rattle.dv_threads.specs.Starting.{is_run_at}

-- numbers of methods have 32 bits
pub few : (image : Image) → IsImage image → length image.methods < 2 ^ 32
few image is = omega (arith, image_few_methods image is)

none_past : (image : Image) (n : ℕ) → length image.methods ≤ n → is_run_at image n ≡ false
unfolding method_at
none_past image n past =
    ap (λ o. elim (with_info image n o) as (λ _. Bool) [ None ↦ false | Some m ↦ is_method_of (codes "run") no_arguments m ]) (slice_get_past image.methods n past)

-- where no method before the end is one, none is
pub none_at : (image : Image) (end : ℕ) → length image.methods ≤ end → ((n : ℕ) → n < end → is_run_at image n ≡ false) → (n : ℕ) → is_run_at image n ≡ false
none_at image end past before n = ⊎_elim (before n) (λ after. none_past image n (omega arith)) (less_or_not n end)

-- by the number of one
pub by_number : (image : Image) (c n : ℕ) → is_run_at image n ≡ true → selected_by image c n ≡ selected image c (codes "run") no_arguments
by_number image c n is = by (method_at image n) is
  where
    by : (o : Option Method) → elim o as (λ _. Bool) [ None ↦ false | Some m ↦ is_method_of (codes "run") no_arguments m ] ≡ true
        → elim o as (λ _. Select) [ None ↦ select.Abstract | Some m ↦ selected image c m.def.name m.def.proto ] ≡ selected image c (codes "run") no_arguments
    by None has = absurd (cc)
    by (Some m) has =
        let keys = method_has (codes "run") no_arguments m has in
        λ j. selected image c (keys.0 j) (keys.1 j)

-- where there is none
pub by_none : (image : Image) (c : ℕ) → ((n : ℕ) → is_run_at image n ≡ false) → select.Abstract ≡ selected image c (codes "run") no_arguments
by_none image c none = sym (unnamed_abstract image c (codes "run") no_arguments (nowhere (range_with_len 0 (length image.methods))))
  where
    one : (o : Option Method) (ms : List Method) → elim o as (λ _. Bool) [ None ↦ false | Some m ↦ is_method_of (codes "run") no_arguments m ] ≡ false
        → list_any (is_method_of (codes "run") no_arguments) ms ≡ false → list_any (is_method_of (codes "run") no_arguments) (cons_option o ms) ≡ false
    one None ms here rest = rest
    one (Some m) ms here rest = ap (λ b. b || list_any (is_method_of (codes "run") no_arguments) ms) here ∙ rest

    nowhere : (ns : List ℕ) → list_any (is_method_of (codes "run") no_arguments) (filter_map (method_at image) ns) ≡ false
    nowhere [] = refl
    nowhere (n ∷ ns) = one (method_at image n) (filter_map (method_at image) ns) (none n) (nowhere ns)

-- and where there is no such class
pub by_no_class : (image : Image) (c : ℕ) → length image.classes ≤ c → select.Abstract ≡ selected image c (codes "run") no_arguments
by_no_class image c past = sym (selected_outside image c (codes "run") no_arguments (slice_get_past image.classes c past))
