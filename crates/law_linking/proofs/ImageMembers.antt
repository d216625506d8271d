-- How many fields a linked image has.
use Rattle.std.specs.Prelude.{ℕ, ◌≡◌, ◌≤◌, List, [], ◌∷◌, length, map, sum_by, Option, None}
use Rattle.std.proofs.Common.{refl, sym, ap, ◌∙◌, ◌+◌, arith}
use Rattle.std.proofs.lemmas.List.{length-map}
use Rattle.std.proofs.lemmas.List.Sums.{sum_by-cons}
use Rattle.dv_defs.specs.declared.class.ClassDef.{ClassDef}
use Rattle.dv_defs.specs.declared.image.ClassInfo.{ClassInfo}
use Rattle.dv_defs.specs.Images.{Image}
use Rattle.dv_defs.specs.LinkFaults.{Found, first_fault_by, boot_fault, limit_fault, is_twice, wrong_above, on_cycle, has_field_twice}
use Rattle.dv_defs.specs.Numbering.{class_numbered, declared, numbered}
use Rattle.dv_defs.specs.Linked.{IsImage, defs, first_phases}
use Rattle.std.specs.Option.{option_or}
use Rattle.law_linking.specs.Stripped.{field_info_stripped}
use Rattle.law_linking.proofs.First.{or_none}
use Rattle.law_linking.proofs.Bounds.{few_fields}
use Rattle.law_linking.proofs.Members.{numbered_fields, field_count}
use Rattle.law_linking.proofs.OrderedImages.{image_phases, image_alike}

module _ (image : Image) (is : IsImage image) where
  -- it passed the first phases
  pub image_passes : (boot_fault (defs image.classes) image.boot ≡ None) × (limit_fault (defs image.classes) image.boot ≡ None) × (first_fault_by (is_twice (declared (defs image.classes) image.boot)) (defs image.classes) ≡ None)
  unfolding first_phases
  image_passes =
      let cs : List ClassDef = defs image.classes in
      let boot : ℕ = image.boot in
      let later : Option Found = option_or (first_fault_by (wrong_above (declared cs boot)) cs) (option_or (first_fault_by (on_cycle (numbered cs boot)) cs) (first_fault_by has_field_twice cs)) in
      let first = or_none (boot_fault cs boot) (option_or (limit_fault cs boot) (option_or (first_fault_by (is_twice (declared cs boot)) cs) later)) (image_phases image is).0 in
      let second = or_none (limit_fault cs boot) (option_or (first_fault_by (is_twice (declared cs boot)) cs) later) first.1 in
      let third = or_none (first_fault_by (is_twice (declared cs boot)) cs) later second.1 in
      (first.0, second.0, third.0)

  fields_numbered_long : length image.fields ≡ length (numbered (defs image.classes) image.boot).fields
  fields_numbered_long =
      sym (length-map image.fields field_info_stripped) ∙
      (ap (λ (i : Image). length i.fields) (image_alike image is) ∙ length-map (numbered (defs image.classes) image.boot).fields field_info_stripped)

  numbered_sum : (of : Image) (cs : List ClassDef) → sum_by (λ (c : ClassInfo). length c.def.fields) (map (class_numbered of) cs) ≡ sum_by (λ (c : ClassDef). length c.fields) cs
  numbered_sum of [] = refl
  numbered_sum of (c ∷ cs) =
      sum_by-cons (λ (d : ClassInfo). length d.def.fields) (class_numbered of c) (map (class_numbered of) cs) ∙
      (ap (λ n. length c.fields + n) (numbered_sum of cs) ∙
      sym (sum_by-cons (λ (d : ClassDef). length d.fields) c cs))

  classes_sum : sum_by (λ (c : ClassInfo). length c.def.fields) (numbered (defs image.classes) image.boot).classes ≡ sum_by (λ (c : ClassDef). length c.fields) (defs image.classes)
  unfolding numbered
  classes_sum = numbered_sum (declared (defs image.classes) image.boot) (defs image.classes)

  pub image_fields_few : length image.fields ≤ 16549
  image_fields_few =
      omega (
        arith,
        fields_numbered_long,
        field_count (numbered (defs image.classes) image.boot) (numbered_fields (defs image.classes) image.boot),
        classes_sum,
        few_fields (defs image.classes) image.boot image_passes.0 image_passes.1 image_passes.2,
      )
