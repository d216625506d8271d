use Rattle.std.proofs.Common.{◌≡◌, ◌<◌, ◌^◌, length, None, refl, sym, ap, subst, ◌∙◌}
use Rattle.std.proofs.lemmas.Result.{err_from_is_err_and}
use Rattle.dv_defs.specs.LinkFaults.{Fails}
use Rattle.dv_defs.specs.Linked.{first_phases, AreNamed}
use Rattle.dv_defs.specs.Numbering.{names_of}
use Rattle.law_linking.specs.Stripped.{def_names}
use Rattle.dv_hier.specs.Hierarchies.{HierarchyValue, hierarchy_of, naming_phases}
use Rattle.dv_hier.specs.Upwards.{bare}
use Rattle.dv_hier.proofs.Built.{naming_fails, is_hierarchy, names_slotted}
use Rattle.dv_hier.proofs.KeptAbove.{few_built, built_ordered, listed_as, are_above, above_as}
use Rattle.dv_hier.proofs.building.build.Goals as goal

pub returns-in_err-names-clause-fault : goal.returns-in_err-names-clause-fault
returns-in_err-names-clause-fault c =
    let p = err_from_is_err_and c.from_residual.result c.from_residual.ensures.1 in
    let at = c.as_slice.ensures.value ∙ (c.into_vec-list.ensures ∙ ap (λ x. x.list) c.classes.view_is) in
    let first = ap (λ x. x.boot) c.classes.view_is in
    rw (p.1, p.2) (naming_fails c.args.classes.list c.args.classes.boot c.in_err-names.field-0.0
    (subst (λ cs. Fails c.in_err-names.field-0.0 (naming_phases cs c.args.classes.boot)) at
    (subst (λ b. Fails c.in_err-names.field-0.0 (naming_phases c.as_slice.result.now b)) first c.in_err-names.ensures.fault)))

pub ancestors_of_all-requires-clause-few : goal.ancestors_of_all-requires-clause-few
ancestors_of_all-requires-clause-few c =
    let list = c.into_vec-list.result.items in
    let few : length list < 2 ^ 32 = subst (λ cs. length cs < 2 ^ 32) c.as_slice.ensures.value c.in_ok-names.ensures.few.0 in
    few_built list c.classes.inside.boot c.as_slice-infos.result.now (c.as_slice-infos.ensures.value ∙ c.in_ok-classes.ensures.classes c.classes.inside.boot) few

pub ancestors_of_all-requires-clause-ordered : goal.ancestors_of_all-requires-clause-ordered
ancestors_of_all-requires-clause-ordered c =
    let list = c.into_vec-list.result.items in
    let boot = c.classes.inside.boot in
    let naming : naming_phases list boot ≡ None = subst (λ cs. naming_phases cs boot ≡ None) c.as_slice.ensures.value c.in_ok-names.ensures.fault in
    built_ordered list boot c.as_slice-infos.result.now (c.as_slice-infos.ensures.value ∙ c.in_ok-classes.ensures.classes boot) (c.in_ok-classes.ensures.fault boot naming)

pub ancestors_of_all-requires-clause-interfaces : goal.ancestors_of_all-requires-clause-interfaces
ancestors_of_all-requires-clause-interfaces c =
    let list = c.into_vec-list.result.items in
    let boot = c.classes.inside.boot in
    let naming : naming_phases list boot ≡ None = subst (λ cs. naming_phases cs boot ≡ None) c.as_slice.ensures.value c.in_ok-names.ensures.fault in
    let ordered = built_ordered list boot c.as_slice-infos.result.now (c.as_slice-infos.ensures.value ∙ c.in_ok-classes.ensures.classes boot) (c.in_ok-classes.ensures.fault boot naming) in
    listed_as c.as_slice-infos.result.now c.in_ok-interfaces.interfaces.items c.as_slice-2.result.now c.as_slice-2.ensures.value ordered c.in_ok-interfaces.ensures.above

pub invariant_of-result : goal.invariant_of-result
invariant_of-result c =
    let list = c.into_vec-list.result.items in
    let boot = c.classes.inside.boot in
    let naming : naming_phases list boot ≡ None = subst (λ cs. naming_phases cs boot ≡ None) c.as_slice.ensures.value c.in_ok-names.ensures.fault in
    let phases : first_phases list boot ≡ None = c.in_ok-classes.ensures.fault boot naming in
    let classes : c.of.result ≡ (hierarchy_of list boot).classes = c.of.ensures ∙ c.in_ok-classes.ensures.classes boot in
    let fields : c.of-2.result ≡ (hierarchy_of list boot).fields = c.of-2.ensures ∙ c.in_ok-classes.ensures.fields boot in
    let ordered = built_ordered list boot c.as_slice-infos.result.now (c.as_slice-infos.ensures.value ∙ c.in_ok-classes.ensures.classes boot) phases in
    let made : HierarchyValue = record { classes = c.of.result; fields = c.of-2.result; boot = boot } in
    let same : made ≡ hierarchy_of list boot = λ j. record { classes = classes j; fields = fields j; boot = boot } in (
      is_hierarchy list boot made same phases (subst AreNamed (sym c.into_vec-list.ensures) c.classes.invariant) c.in_ok-classes.ensures.values,
      c.in_ok-names.ensures.names ∙ (ap def_names c.as_slice.ensures.value ∙ sym (ap names_of classes ∙ names_slotted list boot)),
      above_as c.as_slice-infos.result.now c.of.result c.in_ok-interfaces.interfaces.items c.of-3.result c.in_ok-ancestors.ancestors.items c.of-4.result
          (c.of.ensures ∙ sym c.as_slice-infos.ensures.value) c.of-3.ensures c.of-4.ensures
          (are_above c.as_slice-infos.result.now c.in_ok-interfaces.interfaces.items c.in_ok-ancestors.ancestors.items
          (c.in_ok-interfaces.ensures.above (bare c.as_slice-infos.result.now) refl ordered) c.in_ok-ancestors.ensures),
    )
