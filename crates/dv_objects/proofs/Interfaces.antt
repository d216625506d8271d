-- Classes are found under their names, and what is under an interface is told by numbers.
use Rattle.std.proofs.Common.{◌≡◌, ◌<◌, ◌≤◌, ℕ, length, [], Bool, true, false, Option, Some, None, refl, sym, ap, subst, ◌∙◌, arith, ⊎_elim}
use Rattle.std.specs.Prelude.{List, bytes_eq, get_or, nat_eq, nat_lt, slice_get}
use Rattle.std.proofs.lemmas.Bool.Decides.{nat_tests}
use Rattle.std.proofs.lemmas.Option.{same_Some, slice_get_past, slice_get_read, slice_get_within}
use Rattle.dv_defs.specs.declared.image.ClassInfo.{ClassInfo}
use Rattle.dv_defs.specs.declared.flags.Flag.TheVariants as flag
use Rattle.dv_defs.specs.Flags.{has_flag}
use Rattle.dv_defs.specs.Images.{Image}
use Rattle.dv_defs.specs.Linked.{IsImage}
use Rattle.dv_defs.specs.Names.{object_name}
use Rattle.dv_defs.specs.Order.{any_of, both_found, implements, instance, reaches}
use Rattle.dv_defs.specs.Pools.{class_named, class_type, declared_name, flags_of, is_interface, name_at, parent_at}
use Rattle.law_types.specs.Hierarchy.{IsHierarchy}
use Rattle.law_types.proofs.Equal.{names_are}
use Rattle.law_types.proofs.Walks.{named_inside, named_is}
use Rattle.law_linking.specs.Ordered.{IsOrdered}
use Rattle.law_linking.proofs.OrderedImages.{image_ordered}
use Rattle.law_linking.proofs.Reach.{less_or_not, reaches_here}
use Rattle.law_linking.proofs.Upward.{above_beyond}
use Rattle.law_flow.proofs.HierarchyLaw.{image_hierarchy}

-- an interface is a class that is there
inside : (image : Image) (d : ℕ) → is_interface image d ≡ true → d < length image.classes
inside image d interface = ⊎_elim (λ within. within) beyond (less_or_not d (length image.classes))
  where
    beyond : length image.classes ≤ d → d < length image.classes
    beyond out =
        let none : is_interface image d ≡ false = ap (λ (o : Option ClassInfo). has_flag (flags_of o) flag.Interface) (slice_get_past image.classes d out) in
        absurd (cc)

module _ (image : Image) (is : IsImage image) where
  hierarchy : IsHierarchy image
  hierarchy = image_hierarchy image is

  ordered : IsOrdered image
  ordered = image_ordered image is

  -- a class that was read at its place
  pub read_there : (cs : List ClassInfo) → cs ≡ image.classes → (c : ℕ) (info : ClassInfo) → true ≡ nat_lt c (length cs) → info ≡ get_or cs c info → slice_get image.classes c ≡ Some info
  read_there cs same c info within read =
      let less : c < length cs = grind (arith, nat_tests) in
      sym (ap (λ (ds : List ClassInfo). slice_get ds c) same) ∙ slice_get_read cs (length cs) c info refl less read

  pub stands_there : (c : ℕ) (info : ClassInfo) → slice_get image.classes c ≡ Some info → class_named image info.def.name ≡ Some c
  stands_there c info at =
      ap (λ (o : Option ClassInfo). class_named image (declared_name o)) (sym at) ∙ hierarchy.once c (slice_get_within image.classes c info at)

  -- no class has an empty name
  unnamed : (o : Option ℕ) → class_named image [] ≡ o → o ≡ None
  unnamed None e = refl
  unnamed (Some c) e = absurd (hierarchy.named c (named_inside image [] c e) (named_is image [] c e))

  -- an interface isn't Object
  no_object : (d : ℕ) → is_interface image d ≡ true → (b : Bool) → bytes_eq (name_at image d) object_name ≡ b → b ≡ false
  no_object d interface false e = refl
  no_object d interface true e =
      let named : class_named image (name_at image d) ≡ Some ordered.object = ap (class_named image) (names_are (name_at image d) object_name e) ∙ ordered.object_named in
      let same : d ≡ ordered.object = same_Some d ordered.object (sym (hierarchy.once d (inside image d interface)) ∙ named) in
      let above : Some ordered.object ≡ None = sym (ordered.of_interfaces d interface) ∙ (ap (parent_at image) same ∙ ordered.object_parent) in
      absurd (cc above)

  under : (c d : ℕ) → is_interface image d ≡ true → both_found (implements image) (class_named image (name_at image c)) (class_named image (name_at image d)) ≡ implements image c d
  under c d interface = ⊎_elim there beyond (less_or_not c (length image.classes))
    where
      named : class_named image (name_at image d) ≡ Some d
      named = hierarchy.once d (inside image d interface)

      there : c < length image.classes → both_found (implements image) (class_named image (name_at image c)) (class_named image (name_at image d)) ≡ implements image c d
      there within = λ j. both_found (implements image) (hierarchy.once c within j) (named j)

      beyond : length image.classes ≤ c → both_found (implements image) (class_named image (name_at image c)) (class_named image (name_at image d)) ≡ implements image c d
      beyond out =
          let nameless : name_at image c ≡ [] = ap declared_name (slice_get_past image.classes c out) in
          let nowhere : class_named image (name_at image c) ≡ None = ap (class_named image) nameless ∙ unnamed (class_named image []) refl in
          let less = inside image d interface in
          let other : nat_eq c d ≡ false = grind (arith, out, less) in
          let above : implements image c d ≡ false =
          (λ j. elim (other j) [ true ↦ true | false ↦ any_of (reaches image (length image.classes) d) (above_beyond image c out j) ]) in
          (λ j. both_found (implements image) (nowhere j) (named j)) ∙ sym above

  -- what is under an interface is told by the numbers of classes
  pub by_numbers : (c d : ℕ) → is_interface image d ≡ true → instance image (class_type image c) (class_type image d) ≡ implements image c d
  unfolding instance
  by_numbers c d interface =
      by (bytes_eq (name_at image c) (name_at image d)) (bytes_eq (name_at image d) object_name) refl (no_object d interface (bytes_eq (name_at image d) object_name) refl)
    where
      same : (c : ℕ) → name_at image c ≡ name_at image d → c ≡ d
      same c e = ⊎_elim there beyond (less_or_not c (length image.classes))
        where
          there : c < length image.classes → c ≡ d
          there within = same_Some c d (sym (hierarchy.once c within) ∙ (ap (class_named image) e ∙ hierarchy.once d (inside image d interface)))

          beyond : length image.classes ≤ c → c ≡ d
          beyond out = absurd (hierarchy.named d (inside image d interface) (sym e ∙ ap declared_name (slice_get_past image.classes c out)))

      by : (s o : Bool) → bytes_eq (name_at image c) (name_at image d) ≡ s → o ≡ false
          → elim s [ true ↦ true | false ↦ elim o [ true ↦ true | false ↦ both_found (implements image) (class_named image (name_at image c)) (class_named image (name_at image d)) ] ] ≡ implements image c d
      by true o e f =
          let equal = same c (names_are (name_at image c) (name_at image d) e) in
          sym (subst (λ (x : ℕ). implements image c x ≡ true) equal (reaches_here image (length image.classes) c))
      by false true e f = absurd (cc)
      by false false e f = under c d interface
