-- A hierarchy with tables is what linking gives of the definitions in it, as far as methods.
use Rattle.std.proofs.Common.{Bool, ◌≡◌, ◌+◌, ◌<◌, ℕ, List, [], ◌∷◌, length, map, Some, None, refl, sym, ap, subst, ◌∙◌, arith}
use Rattle.std.specs.Prelude.{◌^◌, sum_by, All, slice_get, slice_index_or}
use Rattle.std.specs.List.{enumerate_from}
use Rattle.std.proofs.lemmas.List.{length-map}
use Rattle.std.proofs.lemmas.List.Sums.{sum_by-cons}
use Rattle.std.proofs.lemmas.Option.{slice_get-get_or}
use Rattle.dv_defs.specs.declared.class.ClassDef.{ClassDef}
use Rattle.dv_defs.specs.declared.image.ClassInfo.{ClassInfo}
use Rattle.dv_defs.specs.Images.{Image}
use Rattle.dv_defs.specs.First.{first_below}
use Rattle.dv_defs.specs.declared.names.ClassId.{ClassId}
use Rattle.dv_defs.specs.Order.{numbers as numbers_of_classes}
use Rattle.dv_defs.specs.Numbering.{declared, numbered, all_methods_declared, names_of}
use Rattle.dv_defs.specs.declared.faults.LinkError.{LinkError}
use Rattle.dv_defs.specs.LinkFaults.{Fails, found, fault_at, tested, first_fault_by, boot_fault, limit_fault, is_twice, method_twice, wrong_methods}
use Rattle.dv_defs.specs.Prior.{prior_at}
use Rattle.dv_defs.specs.Linked.{defs, slotted, tabled, class_with_table, table_at, first_phases, method_phase, AreNamed, HasValues}
use Rattle.law_linking.specs.Ordered.{IsOrdered}
use Rattle.law_linking.specs.Stripped.{AreInRange, stripped, class_stripped, method_info_stripped, field_info_stripped}
use Rattle.law_linking.proofs.First.{or_none, map_none, first_below_none}
use Rattle.law_linking.proofs.Alike.{stripped_slotted, stripped_tabled}
use Rattle.law_linking.proofs.AlikeFaults.{alike_wrong_methods}
use Rattle.law_linking.proofs.AlikeImages.{AreAlike, alike_slotted}
use Rattle.law_linking.proofs.Bounds.{few_classes, few_methods}
use Rattle.law_linking.proofs.FromPhases.{phases_ordered}
use Rattle.law_linking.proofs.OrderedImages.{ordered_alike}
use Rattle.law_linking.proofs.AlikePriors.{alike_prior}
use Rattle.law_linking.proofs.AlikeTables.{alike_table_at}
use Rattle.dv_hier.specs.Hierarchies.{AreAbove, HierarchyValue, IsHierarchy, without_table, without_tables, hierarchy_of}
use Rattle.dv_hier.specs.Upwards.{bare}
use Rattle.dv_hier.proofs.Built.{defs_slotted}
use Rattle.dv_hier.proofs.KeptAbove.{above_tabled, ordered_as}
use Rattle.dv_vtable.specs.declared.sources.Sources.{Sources}
use Rattle.dv_vtable.specs.Numbered.{AreNumbers}
use Rattle.dv_vtable.specs.Sources.{AreSources}
use Rattle.dv_vtable.specs.Tables.{TabledValue, IsTabled, image_of as tabled_image, tabled_of}

-- ---- the image of a hierarchy

-- the classes and fields of a hierarchy, with the methods as they are declared
abbrev pub image_of : HierarchyValue → Image
image_of h = record { classes = h.classes; methods = all_methods_declared 0 (defs h.classes); fields = h.fields; boot = h.boot }

strip_untabled : (is : List ClassInfo) → map class_stripped (map without_table is) ≡ map class_stripped is
strip_untabled [] = refl
strip_untabled (i ∷ is) = ap (λ js. class_stripped i ∷ js) (strip_untabled is)

defs_untabled : (is : List ClassInfo) → defs (map without_table is) ≡ defs is
defs_untabled [] = refl
defs_untabled (i ∷ is) = ap (λ cs. i.def ∷ cs) (defs_untabled is)

slotted_image : (cs : List ClassDef) (boot : ℕ) → image_of (hierarchy_of cs boot) ≡ slotted (numbered cs boot)
unfolding slotted numbered
slotted_image cs boot =
    ap (λ ms. record { classes = (slotted (numbered cs boot)).classes; methods = ms; fields = (slotted (numbered cs boot)).fields; boot = boot })
    (ap (all_methods_declared 0) (defs_slotted cs boot))

module _ (h : HierarchyValue) (is : IsHierarchy h) where
  -- it is like the numbered image
  pub hierarchy_alike : AreAlike (image_of h) (numbered (defs h.classes) h.boot)
  hierarchy_alike =
      let bare : stripped (image_of h) ≡ stripped (image_of (without_tables h)) =
      λ j. record {
        classes = sym (strip_untabled h.classes) j;
        methods = map method_info_stripped (all_methods_declared 0 (sym (defs_untabled h.classes) j));
        fields = map field_info_stripped h.fields;
        boot = h.boot;
      } in
      bare ∙ (ap (λ x. stripped (image_of x)) is.is ∙ (ap stripped (slotted_image (defs h.classes) h.boot) ∙ stripped_slotted (numbered (defs h.classes) h.boot)))

  pub hierarchy_ordered : IsOrdered (image_of h)
  hierarchy_ordered =
      ordered_alike (numbered (defs h.classes) h.boot) (image_of h) (sym hierarchy_alike) (phases_ordered (defs h.classes) h.boot is.is_built)

  pub hierarchy_range : AreInRange h.classes
  hierarchy_range = hierarchy_ordered.range

  pub classes_ordered : (is : List ClassInfo) → is ≡ h.classes → IsOrdered (bare is)
  classes_ordered is same = ordered_as (image_of h) (bare is) (sym same) hierarchy_ordered

-- ---- how many there are

method_counts : (is : List ClassInfo) → sum_by (λ c. length c.def.methods) is ≡ sum_by (λ c. length c.methods) (defs is)
method_counts [] = refl
method_counts (i ∷ is) =
    sum_by-cons (λ c. length c.def.methods) i is ∙
    (ap (λ n. length i.def.methods + n) (method_counts is) ∙ sym (sum_by-cons (λ c. length c.methods) i.def (defs is)))

few_defs : (cs : List ClassDef) (boot : ℕ) → first_phases cs boot ≡ None → (length cs < 2 ^ 32) × (sum_by (λ c. length c.methods) cs < 2 ^ 31)
unfolding first_phases
few_defs cs boot none =
    let first = or_none (boot_fault cs boot) _ none in
    let second = or_none (limit_fault cs boot) _ first.1 in
    let third = or_none (first_fault_by (is_twice (declared cs boot)) cs) _ second.1 in
    (omega (arith, few_classes cs boot first.0 second.0 third.0), omega (arith, few_methods cs boot first.0 second.0 third.0))

pub few_hierarchy : (h : HierarchyValue) → IsHierarchy h → (length h.classes < 2 ^ 32) × (sum_by (λ c. length c.def.methods) h.classes < 2 ^ 31)
few_hierarchy h is =
    let few = few_defs (defs h.classes) h.boot is.is_built in
    (omega (arith, few.0, length-map h.classes (λ (c : ClassInfo). c.def)), rw (method_counts h.classes) few.1)

-- ---- what is wrong with methods

pub hierarchy_methods : (h : HierarchyValue) → IsHierarchy h → first_fault_by (wrong_methods (image_of h)) (defs h.classes) ≡ method_phase (defs h.classes) h.boot
unfolding method_phase
hierarchy_methods h is =
    λ j. first_fault_by (λ i c. alike_wrong_methods (image_of h) (numbered (defs h.classes) h.boot) (hierarchy_alike h is) i c j) (defs h.classes)

-- where nothing is wrong with methods no class declares one twice
once_in : (image : Image) (cs : List ClassDef) → first_fault_by (wrong_methods image) cs ≡ None → (k : ℕ) (c : ClassDef) → k < length cs → slice_get cs k ≡ Some c → first_below (method_twice c.methods) (length c.methods) ≡ None
once_in image cs none k c within at =
    let here : fault_at (wrong_methods image) cs k ≡ None = first_below_none (fault_at (wrong_methods image) cs) (length cs) k none within in
    let tests : wrong_methods image k c ≡ None = map_none (found c.name) (wrong_methods image k c) (ap (tested (wrong_methods image) k) (sym at) ∙ here) in
    (or_none (first_below (method_twice c.methods) (length c.methods)) _ tests).0

pub methods_once : (image : Image) (cs : List ClassDef) → first_fault_by (wrong_methods image) cs ≡ None → All (λ c. first_below (method_twice c.methods) (length c.methods) ≡ None) cs
methods_once image cs none = λ k d within. once_in image cs none k (slice_index_or cs k d) within (slice_get-get_or cs k d within)

-- ---- tables

with_tables_same : (a b : Image) → ((c : ℕ) → table_at a c ≡ table_at b c) → ((c : ℕ) → prior_at a c ≡ prior_at b c) → (k : ℕ) (is : List ClassInfo)
    → map (class_with_table a) (enumerate_from k is) ≡ map (class_with_table b) (enumerate_from k (map without_table is))
with_tables_same a b same before k [] = refl
with_tables_same a b same before k (i ∷ is) =
    λ j.
    record {
      def = i.def;
      parent = i.parent;
      interfaces = i.interfaces;
      slots = i.slots;
      table = same k j;
      prior = map (λ p. record { 0 = p }) (before k j);
    } ∷ with_tables_same a b same before (k + 1) is j

defs_tabled : (image : Image) (k : ℕ) (is : List ClassInfo) → defs (map (class_with_table image) (enumerate_from k is)) ≡ defs is
defs_tabled image k [] = refl
defs_tabled image k (i ∷ is) = ap (λ cs. i.def ∷ cs) (defs_tabled image (k + 1) is)

names_tabled : (image : Image) (k : ℕ) (is : List ClassInfo) → names_of (map (class_with_table image) (enumerate_from k is)) ≡ names_of is
names_tabled image k [] = refl
names_tabled image k (i ∷ is) = ap (λ ns. i.def.name ∷ ns) (names_tabled image (k + 1) is)

without_tabled : (image : Image) (k : ℕ) (is : List ClassInfo) → map without_table (map (class_with_table image) (enumerate_from k is)) ≡ map without_table is
without_tabled image k [] = refl
without_tabled image k (i ∷ is) = ap (λ js. without_table i ∷ js) (without_tabled image (k + 1) is)

-- a hierarchy with other tables
abbrev pub with_tables : HierarchyValue → HierarchyValue
with_tables h = record { classes = (tabled (image_of h)).classes; fields = h.fields; boot = h.boot }

module _ (h : HierarchyValue) (is : IsHierarchy h) where
  slotted_alike : AreAlike (image_of h) (slotted (numbered (defs h.classes) h.boot))
  slotted_alike = hierarchy_alike h is ∙ sym (alike_slotted (defs h.classes) h.boot)

  pub tabled_defs : defs (with_tables h).classes ≡ defs h.classes
  unfolding tabled
  tabled_defs = defs_tabled (image_of h) 0 h.classes

  pub tabled_names : names_of (with_tables h).classes ≡ names_of h.classes
  unfolding tabled
  tabled_names = names_tabled (image_of h) 0 h.classes

  -- its tables are those that linking gives
  pub tabled_classes : (with_tables h).classes ≡ (tabled (slotted (numbered (defs h.classes) h.boot))).classes
  unfolding tabled
  tabled_classes =
      with_tables_same (image_of h) (slotted (numbered (defs h.classes) h.boot)) (alike_table_at (image_of h) (slotted (numbered (defs h.classes) h.boot)) slotted_alike)
      (alike_prior (image_of h) (slotted (numbered (defs h.classes) h.boot)) slotted_alike) 0 h.classes ∙
      ap (λ js. map (class_with_table (slotted (numbered (defs h.classes) h.boot))) (enumerate_from 0 js)) (ap (λ x. x.classes) is.is)

  tabled_fields : h.fields ≡ (tabled (slotted (numbered (defs h.classes) h.boot))).fields
  unfolding tabled
  tabled_fields = ap (λ x. x.fields) is.is

  tabled_declared : all_methods_declared 0 (defs h.classes) ≡ (tabled (slotted (numbered (defs h.classes) h.boot))).methods
  unfolding tabled slotted numbered
  tabled_declared = refl

  pub tabled_is : (t : TabledValue) → t.h ≡ with_tables h → t.methods ≡ all_methods_declared 0 (defs h.classes) → t ≡ tabled_of (defs h.classes) h.boot
  tabled_is t classes methods =
      (λ j. record { h = classes j; methods = methods j }) ∙
      (λ j. record { h = record { classes = tabled_classes j; fields = tabled_fields j; boot = h.boot }; methods = tabled_declared j })

  -- it is a hierarchy itself
  pub tabled_hierarchy : IsHierarchy (with_tables h)
  unfolding tabled
  tabled_hierarchy =
      record {
        is_built = ap (λ cs. first_phases cs h.boot) tabled_defs ∙ is.is_built;
        is = ap (λ js. record { classes = js; fields = h.fields; boot = h.boot }) (without_tabled (image_of h) 0 h.classes) ∙ (is.is ∙ ap (λ cs. hierarchy_of cs h.boot) (sym tabled_defs));
        named = subst AreNamed (sym tabled_defs) is.named;
        values = subst (All HasValues) (sym tabled_defs) is.values;
      }

  -- and what stands above its classes is the same
  pub tabled_above : (interfaces : List (List ClassId)) (ancestors : List (List Bool)) → AreAbove interfaces ancestors h.classes → AreAbove interfaces ancestors (with_tables h).classes
  unfolding tabled
  tabled_above interfaces ancestors = above_tabled h.classes (with_tables h).classes interfaces ancestors (sym (without_tabled (image_of h) 0 h.classes))

  -- the image with tables is like the one without
  pub tabled_like : AreAlike (image_of h) (tabled_image (record { h = with_tables h; methods = all_methods_declared 0 (defs h.classes) }))
  unfolding tabled
  tabled_like = sym (stripped_tabled (image_of h))

  pub tabled_kept : (t : TabledValue) → t.h ≡ with_tables h → t.methods ≡ all_methods_declared 0 (defs h.classes) → method_phase (defs h.classes) h.boot ≡ None → IsTabled t
  tabled_kept t classes methods none =
      let own : defs t.h.classes ≡ defs h.classes = ap (λ x. defs x.classes) classes ∙ tabled_defs in
      let first : t.h.boot ≡ h.boot = ap (λ x. x.boot) classes in
      record {
        is_checked = (λ j. method_phase (own j) (first j)) ∙ none;
        is = tabled_is t classes methods ∙ (λ j. tabled_of (sym own j) (sym first j));
      }

-- ---- what tables are made from

pub sources_told : (h : HierarchyValue) → IsHierarchy h → (p : Sources) (interfaces : List (List ClassId)) (ancestors : List (List Bool)) → p.infos.now ≡ h.classes
    → p.methods.now ≡ all_methods_declared 0 (defs p.infos.now) → p.interfaces.now ≡ interfaces
    → AreNumbers p.infos.now p.keys.now.firsts.items p.keys.now.numbers.items p.keys.now.keys.items → AreAbove interfaces ancestors h.classes
    → All (λ c. first_below (method_twice c.methods) (length c.methods) ≡ None) (defs h.classes) → AreSources p
sources_told h is p interfaces ancestors classes methods listed numbers above once =
    record {
      few_methods = subst (λ cs. sum_by (λ c. length c.def.methods) cs < 2 ^ 31) (sym classes) (few_hierarchy h is).1;
      range = subst AreInRange (sym classes) (hierarchy_range h is);
      ordered = λ image same. ordered_as (image_of h) image (sym (same ∙ classes)) (hierarchy_ordered h is);
      each_once = subst (λ cs. All (λ c. first_below (method_twice c.methods) (length c.methods) ≡ None) (defs cs)) (sym classes) once;
      methods = methods;
      numbered = numbers;
      interfaces = λ image same c. ap (λ ls. numbers_of_classes (slice_index_or ls c [])) listed ∙ above.interfaces_are image (same ∙ classes) c;
    }

-- ---- what is told of the classes that the calls are handed

pub passed_classes : (h : HierarchyValue) → IsHierarchy h → (is : List ClassInfo) → is ≡ h.classes
    → ((image : Image) → image.classes ≡ is → image.boot ≡ h.boot → first_fault_by (wrong_methods image) (defs is) ≡ None)
    → method_phase (defs h.classes) h.boot ≡ None
passed_classes h kept is same passes =
    sym (ap (λ ds. first_fault_by (wrong_methods (image_of h)) (defs ds)) same ∙ hierarchy_methods h kept) ∙ passes (image_of h) (sym same) refl

pub failed_classes : (h : HierarchyValue) → IsHierarchy h → (is : List ClassInfo) → is ≡ h.classes
    → (e : LinkError) → ((image : Image) → image.classes ≡ is → image.boot ≡ h.boot → Fails e (first_fault_by (wrong_methods image) (defs is)))
    → Fails e (method_phase (defs h.classes) h.boot)
failed_classes h kept is same e fails =
    subst (λ f. Fails e f) (ap (λ ds. first_fault_by (wrong_methods (image_of h)) (defs ds)) same ∙ hierarchy_methods h kept) (fails (image_of h) (sym same) refl)

pub none_wrong : (h : HierarchyValue) → IsHierarchy h → method_phase (defs h.classes) h.boot ≡ None → All (λ c. first_below (method_twice c.methods) (length c.methods) ≡ None) (defs h.classes)
none_wrong h is none = methods_once (image_of h) (defs h.classes) (hierarchy_methods h is ∙ none)
