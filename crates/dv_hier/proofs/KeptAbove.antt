-- What stands above the classes of a hierarchy: the same for each image of them, and for classes that differ in slots and tables alone.
use Rattle.std.specs.Prelude.{ℕ, suc, ◌≡◌, ◌<◌, ◌^◌, ◌||◌, false, Bool, List, [], ◌∷◌, length, map, flat_map, None, nat_eq, slice_get, slice_index_or}
use Rattle.std.proofs.Common.{refl, sym, ap, subst, ◌∙◌}
use Rattle.std.proofs.lemmas.List.{length-map}
use Rattle.dv_defs.specs.declared.names.ClassId.{ClassId}
use Rattle.dv_defs.specs.declared.class.ClassDef.{ClassDef}
use Rattle.dv_defs.specs.declared.image.ClassInfo.{ClassInfo}
use Rattle.dv_defs.specs.Images.{Image}
use Rattle.dv_defs.specs.Names.{object_name}
use Rattle.dv_defs.specs.Pools.{class_named, find_from, parent_of, fields_of, is_interface}
use Rattle.dv_defs.specs.Order.{has_number, numbers, interfaces_of, reaches, implements}
use Rattle.dv_defs.specs.LookUp.{upward, interfaces_at, interfaces_above, once}
use Rattle.dv_defs.specs.Numbering.{numbered}
use Rattle.dv_defs.specs.Linked.{slotted, first_phases}
use Rattle.law_linking.specs.Ordered.{IsOrdered}
use Rattle.law_linking.specs.Stripped.{AreInRange, class_stripped}
use Rattle.law_linking.proofs.AlikeImages.{AreAlike, alike_slotted, alike_back, alike_interfaces, alike_length, alike_implements}
use Rattle.law_linking.proofs.FromPhases.{phases_ordered}
use Rattle.law_linking.proofs.OrderedImages.{ordered_alike}
use Rattle.law_linking.proofs.Reach.{reaches_same, depends_same}
use Rattle.dv_hier.specs.Hierarchies.{AreAbove, without_table}
use Rattle.dv_hier.specs.Upwards.{bare}
use Rattle.dv_hier.proofs.AncestorLaws.{AreInterfaces}
use Rattle.dv_hier.proofs.Built.{defs_slotted}

-- ---- in order

-- of the classes of one image in order, each image is
pub ordered_as : (a b : Image) → a.classes ≡ b.classes → IsOrdered a → IsOrdered b
unfolding class_named
ordered_as a b same ordered =
    record {
      range = subst AreInRange same ordered.range;
      acyclic = λ c within. sym (depends_same a b same c) ∙ ordered.acyclic c (subst (λ (is : List ClassInfo). c < length is) (sym same) within);
      object = ordered.object;
      object_named = ap (λ (is : List ClassInfo). find_from is 0 object_name) (sym same) ∙ ordered.object_named;
      object_in = subst (λ (is : List ClassInfo). ordered.object < length is) same ordered.object_in;
      object_parent = ap (λ (is : List ClassInfo). parent_of (slice_get is ordered.object)) (sym same) ∙ ordered.object_parent;
      object_interfaces = ap (λ (is : List ClassInfo). interfaces_of (slice_get is ordered.object)) (sym same) ∙ ordered.object_interfaces;
      object_fields = ap (λ (is : List ClassInfo). fields_of (slice_get is ordered.object)) (sym same) ∙ ordered.object_fields;
      parents = λ c within none.
          ordered.parents c (subst (λ (is : List ClassInfo). c < length is) (sym same) within) (ap (λ (is : List ClassInfo). parent_of (slice_get is c)) same ∙ none);
      interfaces = λ c d has.
          ap (λ (is : List ClassInfo). is_interface (bare is) d) (sym same) ∙
          ordered.interfaces c d (ap (λ (is : List ClassInfo). has_number d (interfaces_of (slice_get is c))) same ∙ has);
      of_interfaces = λ d interface.
          ap (λ (is : List ClassInfo). parent_of (slice_get is d)) (sym same) ∙
          ordered.of_interfaces d (ap (λ (is : List ClassInfo). is_interface (bare is) d) same ∙ interface);
    }

pub built_ordered : (cs : List ClassDef) (boot : ℕ) (is : List ClassInfo) → is ≡ (slotted (numbered cs boot)).classes → first_phases cs boot ≡ None → IsOrdered (bare is)
built_ordered cs boot is made none =
    ordered_as (slotted (numbered cs boot)) (bare is) (sym made)
    (ordered_alike (numbered cs boot) (slotted (numbered cs boot)) (alike_back (slotted (numbered cs boot)) (numbered cs boot) (alike_slotted cs boot)) (phases_ordered cs boot none))

pub few_built : (cs : List ClassDef) (boot : ℕ) (is : List ClassInfo) → is ≡ (slotted (numbered cs boot)).classes → length cs < 2 ^ 32 → length is < 2 ^ 32
few_built cs boot is made few =
    subst (λ n. n < 2 ^ 32) (sym (ap length made ∙ (sym (length-map (slotted (numbered cs boot)).classes (λ (c : ClassInfo). c.def)) ∙ ap length (defs_slotted cs boot)))) few

-- ---- each image of the classes

implements_as : (a b : Image) → a.classes ≡ b.classes → (c d : ℕ) → implements a c d ≡ implements b c d
implements_as a b same c d = reaches_same a b same (suc (length a.classes)) d c ∙ ap (λ (is : List ClassInfo). reaches b (suc (length is)) d c) same

pub are_above : (is : List ClassInfo) (interfaces : List (List ClassId)) (ancestors : List (List Bool)) → AreInterfaces is interfaces
    → ((c d : ℕ) → (nat_eq c d || slice_index_or (slice_index_or ancestors c []) d false) ≡ implements (bare is) c d) → AreAbove interfaces ancestors is
are_above is interfaces ancestors listed marked = record {
  interfaces_are = λ image same c. listed c ∙ ap (λ (is : List ClassInfo). once (interfaces_above (bare is) c)) (sym same);
  ancestors_are = λ image same c d. marked c d ∙ implements_as (bare is) image (sym same) c d;
}

-- as the calls that find them tell it
pub listed_as : (is : List ClassInfo) (lists interfaces : List (List ClassId)) → interfaces ≡ lists → IsOrdered (bare is)
    → ((image : Image) → image.classes ≡ is → IsOrdered image → (c : ℕ) → numbers (slice_index_or lists c []) ≡ once (interfaces_above image c)) → AreInterfaces is interfaces
listed_as is lists interfaces same ordered listed = subst (AreInterfaces is) (sym same) (listed (bare is) refl ordered)

pub above_as : (infos is : List ClassInfo) (lists interfaces : List (List ClassId)) (rows ancestors : List (List Bool)) → is ≡ infos → interfaces ≡ lists → ancestors ≡ rows
    → AreAbove lists rows infos → AreAbove interfaces ancestors is
above_as infos is lists interfaces rows ancestors classes listed marked above =
    subst (AreAbove interfaces ancestors) (sym classes)
    (subst (λ (rs : List (List Bool)). AreAbove interfaces rs infos) (sym marked) (subst (λ (ls : List (List ClassId)). AreAbove ls rows infos) (sym listed) above))

-- ---- classes with other slots and tables

above_alike : (a b : Image) → AreAlike a b → (c : ℕ) → interfaces_above a c ≡ interfaces_above b c
above_alike a b alike c =
    ap (λ (up : ℕ → List ℕ). flat_map (upward up (length a.classes)) (up c)) (λ j d. alike_interfaces a b alike d j) ∙
    ap (λ n. flat_map (upward (interfaces_at b) n) (interfaces_at b c)) (alike_length a b alike)

pub above_kept : (before after : List ClassInfo) (interfaces : List (List ClassId)) (ancestors : List (List Bool)) → map class_stripped before ≡ map class_stripped after → AreAbove interfaces ancestors before → AreAbove interfaces ancestors after
above_kept before after interfaces ancestors same above =
    are_above after interfaces ancestors
    (λ c. above.interfaces_are (bare before) refl c ∙ ap once (above_alike (bare before) (bare after) alike c))
    (λ c d. above.ancestors_are (bare before) refl c d ∙ alike_implements (bare before) (bare after) alike c d)
  where
    alike : AreAlike (bare before) (bare after)
    alike = λ j. record { classes = same j; methods = []; fields = []; boot = 0 }

stripped_without : (is : List ClassInfo) → map class_stripped (map without_table is) ≡ map class_stripped is
stripped_without [] = refl
stripped_without (i ∷ is) = ap (λ (cs : List ClassInfo). class_stripped i ∷ cs) (stripped_without is)

-- with other tables alone
pub above_tabled : (before after : List ClassInfo) (interfaces : List (List ClassId)) (ancestors : List (List Bool)) → map without_table before ≡ map without_table after → AreAbove interfaces ancestors before → AreAbove interfaces ancestors after
above_tabled before after interfaces ancestors same =
    above_kept before after interfaces ancestors (sym (stripped_without before) ∙ (ap (map class_stripped) same ∙ stripped_without after))
