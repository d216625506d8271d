use Rattle.std.proofs.Common.{◌≡◌, length, refl, sym, ap, subst, ◌∙◌}
use Rattle.std.specs.Prelude.{◌^◌, ◌<◌, List, map, sum_by, zip}
use Rattle.std.proofs.lemmas.Result.{err_from_is_err_and}
use Rattle.dv_defs.specs.declared.image.ClassInfo.{ClassInfo}
use Rattle.dv_defs.specs.LinkFaults.{Fails}
use Rattle.dv_defs.specs.Linked.{defs, method_phase}
use Rattle.dv_defs.specs.Numbering.{names_of, all_methods_declared}
use Rattle.law_linking.specs.Stripped.{AreInRange}
use Rattle.dv_hier.specs.Hierarchies.{AreAbove, HierarchyValue, IsHierarchy}
use Rattle.dv_vtable.specs.Chains.{info_with}
use Rattle.dv_vtable.specs.Tables.{AreKeyed, TabledValue, image_of as tabled_image, tabled_of}
use Rattle.dv_vtable.proofs.KeyedLaws.{keyed_alike, keys_told, places_told}
use Rattle.dv_vtable.proofs.TableLaws.{made_tables}
use Rattle.dv_vtable.proofs.TabledLaws.{image_of, with_tables, classes_ordered, hierarchy_range, few_hierarchy, failed_classes, passed_classes, none_wrong, sources_told, tabled_above, tabled_hierarchy, tabled_is, tabled_kept, tabled_like, tabled_names}
use Rattle.dv_vtable.proofs.tabled.tables.Goals as goal
use Rattle.dv_vtable.proofs.tabled.tables.Goals.{After-of-4}

pub new-requires : goal.new-requires
new-requires c =
    let h : HierarchyValue = record { classes = c.h.inside.classes; fields = c.h.inside.fields; boot = c.h.inside.boot } in
    record { few_methods = subst (λ cs. sum_by (λ c. length c.def.methods) cs < 2 ^ 31) (sym c.items-infos.ensures) (few_hierarchy h c.h.invariant.0).1 }

pub check_methods-requires-clause-range : goal.check_methods-requires-clause-range
check_methods-requires-clause-range c =
    let h : HierarchyValue = record { classes = c.h.inside.classes; fields = c.h.inside.fields; boot = c.h.inside.boot } in
    subst AreInRange (sym c.items-infos.ensures) (hierarchy_range h c.h.invariant.0)

pub returns-in_err-check_methods-clause-fault : goal.returns-in_err-check_methods-clause-fault
returns-in_err-check_methods-clause-fault c =
    let h : HierarchyValue = record { classes = c.h.inside.classes; fields = c.h.inside.fields; boot = c.h.inside.boot } in
    let p = err_from_is_err_and c.from_residual-in_err-check_methods.result c.from_residual-in_err-check_methods.ensures.1 in
    rw (p.1, p.2) (subst (λ (x : HierarchyValue). Fails c.in_err-check_methods.field-0.0 (method_phase (defs x.classes) x.boot)) c.h.view_is
    (failed_classes h c.h.invariant.0 c.items-infos.result.now c.items-infos.ensures c.in_err-check_methods.field-0.0 c.in_err-check_methods.ensures))

pub number_methods-requires-clause-few : goal.number_methods-requires-clause-few
number_methods-requires-clause-few c =
    let h : HierarchyValue = record { classes = c.h.inside.classes; fields = c.h.inside.fields; boot = c.h.inside.boot } in
    subst (λ cs. length cs < 2 ^ 32) (sym c.items-infos.ensures) (few_hierarchy h c.h.invariant.0).0

pub number_methods-requires-clause-few_methods : goal.number_methods-requires-clause-few_methods
number_methods-requires-clause-few_methods c =
    let h : HierarchyValue = record { classes = c.h.inside.classes; fields = c.h.inside.fields; boot = c.h.inside.boot } in
    subst (λ cs. sum_by (λ c. length c.def.methods) cs < 2 ^ 31) (sym c.items-infos.ensures) (few_hierarchy h c.h.invariant.0).1

pub all_tables-requires-clause-sources : goal.all_tables-requires-clause-sources
all_tables-requires-clause-sources c =
    let h : HierarchyValue = record { classes = c.h.inside.classes; fields = c.h.inside.fields; boot = c.h.inside.boot } in
    let none = passed_classes h c.h.invariant.0 c.items-infos.result.now c.items-infos.ensures c.in_ok-check_methods.ensures in
    sources_told h c.h.invariant.0 _ c.h.inside.interfaces c.h.inside.ancestors c.items-infos.ensures (c.as_slice.ensures.value ∙ c.in_ok-methods.ensures) c.items.ensures
    c.in_ok-keys.ensures c.h.invariant.2 (none_wrong h c.h.invariant.0 none)

pub all_tables-requires-clause-few : goal.all_tables-requires-clause-few
all_tables-requires-clause-few c =
    let h : HierarchyValue = record { classes = c.h.inside.classes; fields = c.h.inside.fields; boot = c.h.inside.boot } in
    subst (λ cs. length cs < 2 ^ 32) (sym c.items-infos.ensures) (few_hierarchy h c.h.invariant.0).0

pub priors_of_all-requires : goal.priors_of_all-requires
priors_of_all-requires c =
    let h : HierarchyValue = record { classes = c.h.inside.classes; fields = c.h.inside.fields; boot = c.h.inside.boot } in
    record { ordered = classes_ordered h c.h.invariant.0 c.items-infos.result.now c.items-infos.ensures }

-- what is told of the hierarchy's own image
methods : (c : goal.After-of-4) → all_methods_declared 0 (defs c.h.inside.classes) ≡ c.as_slice.result.now
methods c = sym (c.as_slice.ensures.value ∙ (c.in_ok-methods.ensures ∙ ap (λ is. all_methods_declared 0 (defs is)) c.items-infos.ensures))

-- the classes that are made
made : (c : goal.After-of-4) → c.of.result ≡ (with_tables (record { classes = c.h.inside.classes; fields = c.h.inside.fields; boot = c.h.inside.boot })).classes
made c =
    let h : HierarchyValue = record { classes = c.h.inside.classes; fields = c.h.inside.fields; boot = c.h.inside.boot } in
    let infos = c.items-infos.result.now in
    c.of.ensures
    ∙ made_tables (image_of h) infos c.in_ok-classes.classes.items c.in_ok-tables.tables.items c.in_ok-priors.priors.items (sym c.items-infos.ensures)
    (c.in_ok-tables.ensures.tables (image_of h) (record { classes = sym c.items-infos.ensures; methods = methods c }))
    (c.in_ok-priors.ensures (image_of h) (sym c.items-infos.ensures))
    (c.in_ok-classes.ensures
    ∙ ap (λ is. map info_with (zip (zip is c.in_ok-tables.tables.items) c.in_ok-priors.priors.items)) (c.into_vec.ensures ∙ sym c.items-infos.ensures))

pub invariant_of-result : goal.invariant_of-result
invariant_of-result c =
    let h : HierarchyValue = record { classes = c.h.inside.classes; fields = c.h.inside.fields; boot = c.h.inside.boot } in (
      subst IsHierarchy (λ j. record { classes = sym (made c) j; fields = h.fields; boot = h.boot }) (tabled_hierarchy h c.h.invariant.0),
      c.h.invariant.1 ∙ (sym (tabled_names h c.h.invariant.0) ∙ ap names_of (sym (made c))),
      subst (AreAbove c.h.inside.interfaces c.h.inside.ancestors) (sym (made c)) (tabled_above h c.h.invariant.0 c.h.inside.interfaces c.h.inside.ancestors c.h.invariant.2),
    )

pub invariant_of-result-2 : goal.invariant_of-result-2
invariant_of-result-2 c =
    let h : HierarchyValue = record { classes = c.h.inside.classes; fields = c.h.inside.fields; boot = c.h.inside.boot } in
    let infos = c.items-infos.result.now in
    let same = sym c.items-infos.ensures in
    let numbered : c.of-2.result ≡ all_methods_declared 0 (defs h.classes) = c.of-2.ensures ∙ (sym c.as_slice.ensures.value ∙ sym (methods c)) in
    let before : AreKeyed c.of-3.result c.of-4.result (image_of h) = record {
      keys_are = keys_told (image_of h) infos same refl c.of-3.result (c.of-3.ensures ∙ c.in_ok-keys.ensures.numbers);
      places_are = places_told (image_of h) (length infos) (ap (λ (is : List ClassInfo). length is) same) refl c.of-4.result
          (c.of-4.ensures ∙ c.in_ok-tables.ensures.places (image_of h) (record { classes = same; methods = methods c }));
    } in
    let with : TabledValue = record { h = with_tables h; methods = all_methods_declared 0 (defs h.classes) } in (
      tabled_kept h c.h.invariant.0 (record { h = record { classes = c.of.result; fields = h.fields; boot = h.boot }; methods = c.of-2.result })
          (λ j. record { classes = made c j; fields = h.fields; boot = h.boot }) numbered
          (passed_classes h c.h.invariant.0 infos c.items-infos.ensures c.in_ok-check_methods.ensures),
      subst (AreKeyed c.of-3.result c.of-4.result)
          (λ j. record { classes = sym (made c) j; methods = sym numbered j; fields = h.fields; boot = h.boot })
          (keyed_alike (image_of h) (tabled_image with) (tabled_like h c.h.invariant.0) c.of-3.result c.of-4.result before),
    )

pub returns-clause-fault : goal.returns-clause-fault
returns-clause-fault c =
    let h : HierarchyValue = record { classes = c.h.inside.classes; fields = c.h.inside.fields; boot = c.h.inside.boot } in
    sym (ap (λ (x : HierarchyValue). method_phase (defs x.classes) x.boot) c.h.view_is) ∙
    passed_classes h c.h.invariant.0 c.items-infos.result.now c.items-infos.ensures c.in_ok-check_methods.ensures

pub returns-clause-tables : goal.returns-clause-tables
returns-clause-tables c =
    let h : HierarchyValue = record { classes = c.h.inside.classes; fields = c.h.inside.fields; boot = c.h.inside.boot } in
    let numbered : c.of-2.result ≡ all_methods_declared 0 (defs h.classes) =
    c.of-2.ensures ∙ (c.in_ok-methods.ensures ∙ ap (λ is. all_methods_declared 0 (defs is)) c.items-infos.ensures) in
    tabled_is h c.h.invariant.0 (record { h = record { classes = c.of.result; fields = h.fields; boot = h.boot }; methods = c.of-2.result })
    (λ j. record { classes = made (goal.at.returns-clause-tables c).After-of-4 j; fields = h.fields; boot = h.boot }) numbered ∙
    ap (λ (x : HierarchyValue). tabled_of (defs x.classes) x.boot) c.h.view_is
