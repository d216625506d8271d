-- Classes with tables and resolved pools are what linking gives of the definitions in them.
use Rattle.std.proofs.Common.{◌≡◌, ◌+◌, ◌<◌, ℕ, Bool, List, [], ◌∷◌, length, map, option_map, Option, Some, None, Result, Ok, Err, refl, sym, ap, subst, ◌∙◌, arith}
use Rattle.std.specs.Prelude.{◌^◌, sum_by, slice_get, slice_index_or}
use Rattle.std.specs.Option.{option_or}
use Rattle.std.specs.List.{enumerate_from}
use Rattle.std.proofs.lemmas.List.{length-map}
use Rattle.std.proofs.lemmas.List.Sums.{sum_by-cons}
use Rattle.dv_defs.specs.declared.names.ClassId.{ClassId}
use Rattle.dv_defs.specs.declared.class.ClassDef.{ClassDef}
use Rattle.dv_defs.specs.declared.image.ClassInfo.{ClassInfo}
use Rattle.dv_defs.specs.declared.image.MethodInfo.{MethodInfo}
use Rattle.dv_defs.specs.declared.faults.LinkError.{LinkError}
use Rattle.dv_defs.specs.declared.faults.LinkError.TheVariants as error
use Rattle.dv_defs.specs.Images.{Image}
use Rattle.dv_defs.specs.Pools.{Method, method_at}
use Rattle.dv_defs.specs.LookUp.{interfaces_above, once}
use Rattle.dv_defs.specs.Order.{numbers}
use Rattle.dv_defs.specs.Numbering.{declared, numbered, all_fields_declared, names_of}
use Rattle.dv_defs.specs.LinkFaults.{Found, Fails, first_fault_by, boot_fault, limit_fault, is_twice, wrong_pools}
use Rattle.dv_defs.specs.Linked.{defs, slotted, tabled, class_with_table, resolved, method_with_pools, first_phases, method_phase, pool_phase, unless_found, linked, IsImage, IsIndex, key_of}
use Rattle.law_linking.specs.Stripped.{class_stripped, method_info_stripped, method_stripped, field_info_stripped}
use Rattle.law_linking.specs.Ordered.{IsOrdered}
use Rattle.law_linking.proofs.First.{or_none}
use Rattle.law_linking.proofs.Bounds.{few_classes, few_methods, few_fields}
use Rattle.law_linking.proofs.Alike.{stripped_resolved}
use Rattle.law_linking.proofs.AlikeImages.{AreAlike, alike_tabled, alike_method_at}
use Rattle.law_linking.proofs.AlikeTables.{alike_key_number, alike_place_keys}
use Rattle.law_linking.proofs.AlikeFaults.{alike_wrong_pools, alike_with_pools}
use Rattle.law_linking.proofs.Members.{HasMethods, HasFields}
use Rattle.law_linking.proofs.FromPhases.{phases_ordered}
use Rattle.law_linking.proofs.OrderedImages.{ordered_alike}
use Rattle.dv_resolve.specs.Answers.{Answers}
use Rattle.dv_hier.specs.Hierarchies.{HierarchyValue, IsHierarchy, AreAbove, hierarchy_of}
use Rattle.dv_hier.proofs.Built.{defs_slotted}
use Rattle.dv_vtable.specs.Tables.{TabledValue, IsTabled, AreKeyed, image_of as tabled_image, tabled_of}

-- the image of classes before their pools are resolved
abbrev pub before_pools : List ClassDef → ℕ → Image
before_pools cs boot = tabled (slotted (numbered cs boot))

-- the classes with these methods, and with their fields as they are declared
abbrev pub image_of : List ClassInfo → List MethodInfo → ℕ → Image
image_of is ms boot = record { classes = is; methods = ms; fields = all_fields_declared 0 (defs is); boot = boot }

-- the numbers of methods' names and prototypes, in an image that is like another
keys_kept : (a b : Image) → AreAlike a b → (keys : List ℕ) → ((n : ℕ) (m : Method) → method_at a n ≡ Some m → slice_get keys n ≡ Some (key_of a m))
    → (n : ℕ) (m : Method) → method_at b n ≡ Some m → slice_get keys n ≡ Some (key_of b m)
keys_kept a b alike keys are n m is = by (method_at a n) refl (alike_method_at a b alike n ∙ ap (option_map method_stripped) is)
  where
    by : (o : Option Method) → method_at a n ≡ o → option_map method_stripped o ≡ Some (method_stripped m) → slice_get keys n ≡ Some (key_of b m)
    by None at same = absurd (cc)
    by (Some k) at same =
        let like : method_stripped k ≡ method_stripped m = cc in
        are n k at ∙ ap Some (ap (λ (x : Method). key_of a x) like ∙ alike_key_number a b alike m.def.name m.def.proto)

-- the phases in turn
linked_whole : (cs : List ClassDef) (boot : ℕ) → first_phases cs boot ≡ None → method_phase cs boot ≡ None → linked cs boot ≡ unless_found (pool_phase cs boot) (resolved (before_pools cs boot))
unfolding linked
linked_whole cs boot first second =
    λ j. unless_found (option_or (first j) (option_or (second j) (pool_phase cs boot))) (resolved (before_pools cs boot))

module _ (t : TabledValue) (kept : IsTabled t) (is : IsHierarchy t.h) where
  classes_are : t.h.classes ≡ (before_pools (defs t.h.classes) t.h.boot).classes
  classes_are = ap (λ (x : TabledValue). x.h.classes) kept.is

  fields_are : t.h.fields ≡ (before_pools (defs t.h.classes) t.h.boot).fields
  fields_are = ap (λ (x : TabledValue). x.h.fields) kept.is

  methods_are : t.methods ≡ (before_pools (defs t.h.classes) t.h.boot).methods
  methods_are = ap (λ (x : TabledValue). x.methods) kept.is

  pub own_alike : AreAlike (image_of t.h.classes t.methods t.h.boot) (numbered (defs t.h.classes) t.h.boot)
  unfolding numbered slotted tabled
  own_alike =
      (λ j. record {
        classes = map class_stripped (classes_are j);
        methods = map method_info_stripped (methods_are j);
        fields = map field_info_stripped (all_fields_declared 0 (defs t.h.classes));
        boot = t.h.boot;
      }) ∙ (λ j. record {
        classes = (alike_tabled (defs t.h.classes) t.h.boot j).classes;
        methods = (alike_tabled (defs t.h.classes) t.h.boot j).methods;
        fields = map field_info_stripped (all_fields_declared 0 (defs t.h.classes));
        boot = t.h.boot;
      })

  pub own_ordered : IsOrdered (image_of t.h.classes t.methods t.h.boot)
  own_ordered = ordered_alike (numbered (defs t.h.classes) t.h.boot) (image_of t.h.classes t.methods t.h.boot) (sym own_alike) (phases_ordered (defs t.h.classes) t.h.boot is.is_built)

  pub own_methods : HasMethods (image_of t.h.classes t.methods t.h.boot)
  unfolding numbered slotted tabled
  own_methods = methods_are

  pub own_pools : first_fault_by (wrong_pools (image_of t.h.classes t.methods t.h.boot)) (defs t.h.classes) ≡ pool_phase (defs t.h.classes) t.h.boot
  unfolding pool_phase
  own_pools = λ j. first_fault_by (λ i c. alike_wrong_pools (image_of t.h.classes t.methods t.h.boot) (numbered (defs t.h.classes) t.h.boot) own_alike i c j) (defs t.h.classes)

  resolved_methods : map (method_with_pools (image_of t.h.classes t.methods t.h.boot)) t.methods ≡ (resolved (before_pools (defs t.h.classes) t.h.boot)).methods
  unfolding resolved tabled slotted numbered
  resolved_methods =
      λ j. map (λ i. alike_with_pools (image_of t.h.classes t.methods t.h.boot) (before_pools (defs t.h.classes) t.h.boot) (own_alike ∙ sym (alike_tabled (defs t.h.classes) t.h.boot)) i j) (methods_are j)

  -- the image whole
  resolved_is : (done : List MethodInfo) → done ≡ map (method_with_pools (image_of t.h.classes t.methods t.h.boot)) t.methods
      → record { classes = t.h.classes; methods = done; fields = t.h.fields; boot = t.h.boot } ≡ resolved (before_pools (defs t.h.classes) t.h.boot)
  unfolding resolved tabled slotted numbered
  resolved_is done made =
      λ j. record { classes = classes_are j; methods = (made ∙ resolved_methods) j; fields = fields_are j; boot = t.h.boot }

  pub linked_is : (done : List MethodInfo) → done ≡ map (method_with_pools (image_of t.h.classes t.methods t.h.boot)) t.methods → pool_phase (defs t.h.classes) t.h.boot ≡ None
      → linked (defs t.h.classes) t.h.boot ≡ Ok (record { classes = t.h.classes; methods = done; fields = t.h.fields; boot = t.h.boot })
  linked_is done made none =
      linked_whole (defs t.h.classes) t.h.boot is.is_built kept.is_checked ∙
      (ap (λ f. unless_found f (resolved (before_pools (defs t.h.classes) t.h.boot))) none ∙ ap (λ i. Ok i) (sym (resolved_is done made)))

  -- alike, as the pools of bodies alone differ
  made_alike : (done : List MethodInfo) → done ≡ map (method_with_pools (image_of t.h.classes t.methods t.h.boot)) t.methods
      → AreAlike (tabled_image t) (record { classes = t.h.classes; methods = done; fields = t.h.fields; boot = t.h.boot })
  unfolding resolved
  made_alike done made =
      let same : map method_info_stripped t.methods ≡ map method_info_stripped done =
      sym (ap (map method_info_stripped) made ∙ ap (λ (x : Image). x.methods) (stripped_resolved (image_of t.h.classes t.methods t.h.boot))) in
      λ j. record { classes = map class_stripped t.h.classes; methods = same j; fields = map field_info_stripped t.h.fields; boot = t.h.boot }

  -- and it keeps what an image keeps
  pub linked_kept : (done : List MethodInfo) (names : List (List ℕ)) (interfaces : List (List ClassId)) (ancestors : List (List Bool)) (keys : List ℕ) (places : List (List ℕ))
      → done ≡ map (method_with_pools (image_of t.h.classes t.methods t.h.boot)) t.methods → pool_phase (defs t.h.classes) t.h.boot ≡ None
      → names ≡ names_of t.h.classes → AreAbove interfaces ancestors t.h.classes → AreKeyed keys places (tabled_image t)
      → IsImage (record { classes = t.h.classes; methods = done; fields = t.h.fields; boot = t.h.boot })
      × IsIndex names interfaces ancestors keys places (record { classes = t.h.classes; methods = done; fields = t.h.fields; boot = t.h.boot })
  linked_kept done names interfaces ancestors keys places made none named above keyed =
      let image : Image = record { classes = t.h.classes; methods = done; fields = t.h.fields; boot = t.h.boot } in (
        record { is_linked = linked_is done made none; named = is.named; values = is.values },
        record {
          names_are = named;
          interfaces_are = above.interfaces_are image refl;
          ancestors_are = above.ancestors_are image refl;
          keys_are = keys_kept (tabled_image t) image (made_alike done made) keys keyed.keys_are;
          places_are = λ c. keyed.places_are c ∙ alike_place_keys (tabled_image t) image (made_alike done made) c;
        },
      )

-- ---- what is told of the classes that a call is handed, with their names and the interfaces above them

-- it holds of each image of these classes whose members are numbered
abbrev pub Holds : List ClassInfo → List (List ℕ) → List (List ClassId) → (Image → Type 0) → Type 0
Holds is names interfaces told =
    (image : Image) → image.classes ≡ is → HasMethods image → HasFields image → IsOrdered image → names ≡ names_of image.classes
    → ((c : ℕ) → numbers (slice_index_or interfaces c []) ≡ once (interfaces_above image c)) → told image

module _ (t : TabledValue) (kept : IsTabled t) (is : IsHierarchy t.h) (names : List (List ℕ)) (interfaces : List (List ClassId)) (ancestors : List (List Bool)) (named : names ≡ names_of t.h.classes) (above : AreAbove interfaces ancestors t.h.classes) where
  -- of the image of the classes themselves
  pub own_told : (infos : List ClassInfo) (lists : List (List ClassId)) → infos ≡ t.h.classes → lists ≡ interfaces → (told : Image → Type 0) → Holds infos names lists told → told (image_of t.h.classes t.methods t.h.boot)
  own_told infos lists same listed told holds =
      holds (image_of t.h.classes t.methods t.h.boot) (sym same) (own_methods t kept is) refl (own_ordered t kept is) named
      (λ c. ap (λ (ls : List (List ClassId)). numbers (slice_index_or ls c [])) listed ∙ above.interfaces_are (image_of t.h.classes t.methods t.h.boot) refl c)

  pub pools_told : (infos : List ClassInfo) (lists : List (List ClassId)) → infos ≡ t.h.classes → lists ≡ interfaces → (P : Option Found → Type 0)
      → Holds infos names lists (λ image. P (first_fault_by (wrong_pools image) (defs infos))) → P (pool_phase (defs t.h.classes) t.h.boot)
  pools_told infos lists same listed P holds =
      subst P ((λ j. first_fault_by (wrong_pools (image_of t.h.classes t.methods t.h.boot)) (defs (same j))) ∙ own_pools t kept is)
      (own_told infos lists same listed (λ image. P (first_fault_by (wrong_pools image) (defs infos))) holds)

-- ---- faults, phase by phase

whole : (cs : List ClassDef) (boot : ℕ) → linked cs boot ≡ unless_found (option_or (first_phases cs boot) (option_or (method_phase cs boot) (pool_phase cs boot))) (resolved (before_pools cs boot))
unfolding linked
whole cs boot = refl

pub first_fails : (cs : List ClassDef) (boot : ℕ) (e : LinkError) → Fails e (first_phases cs boot) → (r : Result Image LinkError) → r ≡ Err e → Answers (linked cs boot) r
first_fails cs boot error.Memory fails r is = rw is tt
first_fails cs boot (error.At class kind) fails r is =
    rw is (whole cs boot ∙ (λ j. unless_found (option_or (fails j) (option_or (method_phase cs boot) (pool_phase cs boot))) (resolved (before_pools cs boot))))

pub methods_fail : (cs : List ClassDef) (boot : ℕ) (e : LinkError) → first_phases cs boot ≡ None → Fails e (method_phase cs boot) → (r : Result Image LinkError) → r ≡ Err e → Answers (linked cs boot) r
methods_fail cs boot error.Memory first fails r is = rw is tt
methods_fail cs boot (error.At class kind) first fails r is =
    rw is (whole cs boot ∙ (λ j. unless_found (option_or (first j) (option_or (fails j) (pool_phase cs boot))) (resolved (before_pools cs boot))))

pub pools_fail : (cs : List ClassDef) (boot : ℕ) (e : LinkError) → first_phases cs boot ≡ None → method_phase cs boot ≡ None → Fails e (pool_phase cs boot) → (r : Result Image LinkError) → r ≡ Err e → Answers (linked cs boot) r
pools_fail cs boot error.Memory first second fails r is = rw is tt
pools_fail cs boot (error.At class kind) first second fails r is =
    rw is (whole cs boot ∙ (λ j. unless_found (option_or (first j) (option_or (second j) (fails j))) (resolved (before_pools cs boot))))

-- ---- how many there are

method_counts : (is : List ClassInfo) → sum_by (λ c. length c.def.methods) is ≡ sum_by (λ c. length c.methods) (defs is)
method_counts [] = refl
method_counts (i ∷ is) =
    sum_by-cons (λ c. length c.def.methods) i is ∙
    (ap (λ n. length i.def.methods + n) (method_counts is) ∙ sym (sum_by-cons (λ c. length c.methods) i.def (defs is)))

field_counts : (is : List ClassInfo) → sum_by (λ c. length c.def.fields) is ≡ sum_by (λ c. length c.fields) (defs is)
field_counts [] = refl
field_counts (i ∷ is) =
    sum_by-cons (λ c. length c.def.fields) i is ∙
    (ap (λ n. length i.def.fields + n) (field_counts is) ∙ sym (sum_by-cons (λ c. length c.fields) i.def (defs is)))

few_defs : (cs : List ClassDef) (boot : ℕ) → first_phases cs boot ≡ None → (length cs < 2 ^ 32) × ((sum_by (λ c. length c.methods) cs < 2 ^ 31) × (sum_by (λ c. length c.fields) cs < 2 ^ 31))
unfolding first_phases
few_defs cs boot none =
    let first = or_none (boot_fault cs boot) _ none in
    let second = or_none (limit_fault cs boot) _ first.1 in
    let third = or_none (first_fault_by (is_twice (declared cs boot)) cs) _ second.1 in
    (omega (arith, few_classes cs boot first.0 second.0 third.0), (omega (arith, few_methods cs boot first.0 second.0 third.0), omega (arith, few_fields cs boot first.0 second.0 third.0)))

pub few_of : (h : HierarchyValue) → IsHierarchy h → (length h.classes < 2 ^ 32) × ((sum_by (λ c. length c.def.methods) h.classes < 2 ^ 31) × (sum_by (λ c. length c.def.fields) h.classes < 2 ^ 31))
few_of h is =
    let few = few_defs (defs h.classes) h.boot is.is_built in
    (omega (arith, few.0, length-map h.classes (λ (c : ClassInfo). c.def)), (rw (method_counts h.classes) few.1.0, rw (field_counts h.classes) few.1.1))

-- ---- the definitions of classes with tables

defs_with : (image : Image) (k : ℕ) (is : List ClassInfo) → defs (map (class_with_table image) (enumerate_from k is)) ≡ defs is
defs_with image k [] = refl
defs_with image k (i ∷ is) = ap (λ cs. i.def ∷ cs) (defs_with image (k + 1) is)

pub defs_tabled : (cs : List ClassDef) (boot : ℕ) → defs (tabled_of cs boot).h.classes ≡ cs
unfolding tabled
defs_tabled cs boot = defs_with (slotted (numbered cs boot)) 0 (slotted (numbered cs boot)).classes ∙ defs_slotted cs boot

pub defs_of_tabled : (cs : List ClassDef) (boot : ℕ) (h : HierarchyValue) (t : TabledValue) → h ≡ hierarchy_of cs boot → t ≡ tabled_of (defs h.classes) h.boot → (defs t.h.classes ≡ cs) × (t.h.boot ≡ boot)
defs_of_tabled cs boot h t made is =
    let own : defs h.classes ≡ cs = ap (λ (x : HierarchyValue). defs x.classes) made ∙ defs_slotted cs boot in
    (ap (λ (x : TabledValue). defs x.h.classes) is ∙ (defs_tabled (defs h.classes) h.boot ∙ own), ap (λ (x : TabledValue). x.h.boot) is ∙ ap (λ (x : HierarchyValue). x.boot) made)
